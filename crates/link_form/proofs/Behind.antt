-- The rows that a file that is served hands out are those of the file.
use mathlib.Core.Path.{◌≡◌}
use lib.ListN.{length, drop}
use Rattle.link_form.specs.declared.lent.ServedFile.{ServedFile}
use Rattle.link_form.specs.declared.rows.Rows.{Rows}
use Rattle.link_form.specs.File.{header_bytes, width, rows_in}
use Rattle.link_form.specs.Rows.{rows_of, AreBehindHeader}
use Rattle.link_form.specs.Serving.{kind_in, rows_in_file}
use Rattle.link_form.proofs.Scanning.{length_rows}

module _ (file : ServedFile) where
  pub rows_behind : (rows : Rows) → AreBehindHeader file.bytes.now file.form.kind rows → rows_in (rows_of file.form.m rows) ≡ rows_in_file file
  rows_behind rows b = rw (b.kind_is, b.width_is, b.rest)

  pub length_served : length (rows_in_file file) ≡ file.form.m
  length_served = length_rows (kind_in file) width file.form.m (drop header_bytes file.bytes.now) (rows_in_file file) file.served.whole
