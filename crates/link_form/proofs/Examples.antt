-- The definitions on the file of 38 bytes that describes {0,1}=1, {0,2}=2 for the lazy rules, and on damaged ones.
use mathlib.Core.Path.{◌≡◌, refl}
use mathlib.Core.List.{List, [], ◌∷◌, ◌++◌}
use mathlib.Core.Option.{none, some}
use Prim.Native.Nat.{ℕ}
use Rattle.gf2.specs.Equation.{eqn}
use Rattle.areas.specs.Stretch.{stretch}
use Rattle.link_form.specs.Bytes.{little, fields, bytes_of, all_bytes}
use Rattle.link_form.specs.File.{Link, count, row_bytes, row, read_rows, header_kept, read_file, row_out, rows_out, write_file}

abbrev file : List ℕ
file =
    76 ∷ 78 ∷ 75 ∷ 1 ∷ 0 ∷ 2 ∷ 3 ∷ 0 ∷ 2 ∷ 0
    ∷ 2 ∷ 0 ∷ 0 ∷ 0 ∷ 1 ∷ 0 ∷ 1 ∷ 0 ∷ 0 ∷ 0 ∷ 0 ∷ 0 ∷ 0 ∷ 0
    ∷ 2 ∷ 0 ∷ 0 ∷ 0 ∷ 2 ∷ 0 ∷ 2 ∷ 0 ∷ 0 ∷ 0 ∷ 0 ∷ 0 ∷ 0 ∷ 0 ∷ []

abbrev link : Link
link = record { kind = 2; n = 3; rows = eqn (0 ∷ 1 ∷ []) 1 ∷ eqn (0 ∷ 2 ∷ []) 2 ∷ [] }

is_read : read_file file ≡ some link
unfolding read_file header_kept read_rows row_bytes count row little fields stretch
is_read = refl

is_written : write_file link ≡ file
unfolding write_file rows_out row_out all_bytes bytes_of
is_written = refl

left_over : read_file (file ++ (0 ∷ [])) ≡ none
unfolding read_file header_kept read_rows row_bytes count row little fields stretch
left_over = refl
