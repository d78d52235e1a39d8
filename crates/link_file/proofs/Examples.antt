-- The text of the file of 38 bytes that describes {0,1}=1, {0,2}=2, for the lazy and for the sparse rules, and of an empty file.
use mathlib.Core.Path.{◌≡◌, refl}
use mathlib.Core.List.{List, [], ◌∷◌}
use Prim.Native.Nat.{ℕ, ◌+◌}
use Rattle.gf2.specs.Equation.{eval_vars, lists, sym_diff}
use Rattle.gf2.specs.NumberLists.{up_from, down_from, keep, first_of}
use Rattle.areas.specs.Stretch.{stretch}
use Rattle.system.specs.Fits.{listed_in}
use Rattle.system.specs.System.{equation_at, equations_from, climbs, starts_kept, rises_below, lowest_bad, sizes_fit, shape_kept, system_rules}
use Rattle.sparse_rules.specs.Eliminate.{summed, meeting, meet_row, outer_row, outer_rows, echelon_form, contradicted, pin, back_sub, finish, gaussian_elimination}
use Rattle.sparse_rules.specs.SparseCall.{sparse_call}
use Rattle.lazy.specs.Lazy.{lazy_elimination, whole_run, after, unit, pop, pop_equation, pop_variable, pop_dense, pass_over, copy, solve_for, skip, activate, lowered, pushed, added_into, dense_row, last_unit, fill, start, heaviest, listing, others}
use Rattle.lazy_calls.specs.LazyCall.{lazy_call}
use Rattle.link_form.specs.Bytes.{little, fields}
use Rattle.link_lines.specs.Decimal.{decimal, digits_before}
use Rattle.link_form.specs.File.{count, row_bytes, row, read_rows, header_kept, read_file}
use Rattle.link_lines.specs.Lines.{ended, header_line, answer_line, value_lines}
use Rattle.link_load.specs.Loading.{starts_from, vars_of, constants_of}
use Rattle.link_rows.specs.RowsCall.{solver_of}
use Rattle.link_lines.specs.Outcomes.{outcome_text}
use Rattle.link_file.specs.Text.{served, answered, text_of, link_text}

abbrev file : ℕ → List ℕ
file kind =
    76 ∷ 78 ∷ 75 ∷ 1 ∷ 0 ∷ kind ∷ 3 ∷ 0 ∷ 2 ∷ 0
    ∷ 2 ∷ 0 ∷ 0 ∷ 0 ∷ 1 ∷ 0 ∷ 1 ∷ 0 ∷ 0 ∷ 0 ∷ 0 ∷ 0 ∷ 0 ∷ 0
    ∷ 2 ∷ 0 ∷ 0 ∷ 0 ∷ 2 ∷ 0 ∷ 2 ∷ 0 ∷ 0 ∷ 0 ∷ 0 ∷ 0 ∷ 0 ∷ 0 ∷ []

-- LNK 1 KIND 3 2, then 0 0, then three digits, a line each
abbrev text : ℕ → ℕ → ℕ → ℕ → List ℕ
text kind a b c =
    76 ∷ 78 ∷ 75 ∷ 32 ∷ 49 ∷ 32 ∷ (48 + kind) ∷ 32 ∷ 51 ∷ 32 ∷ 50 ∷ 10
    ∷ 48 ∷ 32 ∷ 48 ∷ 10
    ∷ (48 + a) ∷ 10
    ∷ (48 + b) ∷ 10
    ∷ (48 + c) ∷ 10 ∷ []

pub p5_lazy : link_text (file 2) ≡ text 2 0 1 2
unfolding link_text text_of outcome_text answered served solver_of read_file header_kept read_rows row_bytes count row little fields stretch listed_in header_line answer_line value_lines ended decimal digits_before starts_from vars_of constants_of lazy_call system_rules sizes_fit shape_kept starts_kept climbs rises_below lowest_bad equations_from equation_at lazy_elimination whole_run after unit pop pop_equation pop_variable pop_dense pass_over copy solve_for skip activate lowered pushed added_into dense_row last_unit fill start heaviest listing others up_from down_from keep first_of lists outer_row meet_row meeting summed contradicted back_sub pin sym_diff eval_vars
p5_lazy = refl

pub p5_sparse : link_text (file 1) ≡ text 1 2 3 0
unfolding link_text text_of outcome_text answered served solver_of read_file header_kept read_rows row_bytes count row little fields stretch listed_in header_line answer_line value_lines ended decimal digits_before starts_from vars_of constants_of sparse_call system_rules sizes_fit shape_kept starts_kept climbs rises_below lowest_bad equations_from equation_at gaussian_elimination echelon_form outer_rows outer_row meet_row meeting summed sym_diff contradicted finish back_sub pin eval_vars
p5_sparse = refl

-- an empty file is none: 9 0
pub nothing : link_text [] ≡ 57 ∷ 32 ∷ 48 ∷ 10 ∷ []
unfolding link_text read_file header_kept answer_line ended decimal digits_before
nothing = refl
