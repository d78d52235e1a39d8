-- A file that is served, in the words for its rows.
use Rattle.std.specs.Prelude.{List, ℕ}
use Rattle.gf2.specs.Equation.{Equation}
use Rattle.link_form.specs.declared.lent.ServedFile.{ServedFile}
use Rattle.link_form.specs.Kinds.{number_of_kind}
use Rattle.link_form.specs.Lent.{file_rows}

-- its kind, as a number
abbrev pub kind_in : ServedFile → ℕ
kind_in file = number_of_kind file.form.kind

-- its rows
abbrev pub rows_in_file : ServedFile → List Equation
rows_in_file file = file_rows (kind_in file) file.form.m file.bytes.now
