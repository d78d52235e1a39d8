-- Random systems, by computing: what the Rust answers to each; for the first of them, the units that the build takes.
use mathlib.Core.Path.{◌≡◌, refl}
use mathlib.Core.List.{List, [], ◌∷◌, map}
use Prim.Native.Nat.{ℕ}
use Rattle.gf2.specs.Equation.{Equation, eqn, eval_vars, lists, sym_diff}
use Rattle.gf2.specs.NumberLists.{up_from, down_from, keep, first_of}
use Rattle.gf2.specs.Result.{Result, unsolvable, ok}
use Rattle.sparse_rules.specs.Eliminate.{summed, meeting, meet_row, outer_row, contradicted, pin, back_sub}
use Rattle.lazy.specs.Lazy.{listing, others, heaviest, start, lowered, pushed, added_into, skip, activate, pass_over, copy, solve_for, pop_dense, pop_equation, pop_variable, pop, dense_row, fill, last_unit, more, unit, after, used, enough, whole_run, lazy_elimination}

record System : Type 0 where
  n : ℕ
  equations : List Equation

abbrev over : ℕ → List Equation → System
over n es = record { n = n; equations = es }

systems : List System
systems =
    over 6 (eqn (3 ∷ []) 3 ∷ eqn (3 ∷ []) 3 ∷ eqn (0 ∷ 1 ∷ []) 5 ∷ []) ∷
    over 5 (eqn (2 ∷ []) 0 ∷ eqn (1 ∷ []) 6 ∷ []) ∷
    over 4 (eqn (0 ∷ 2 ∷ []) 7 ∷ []) ∷
    over 4 (eqn (2 ∷ 3 ∷ []) 3 ∷ []) ∷
    over 4 (eqn (3 ∷ []) 6 ∷ []) ∷
    over 3 (eqn (1 ∷ 2 ∷ []) 2 ∷ eqn (2 ∷ []) 3 ∷ eqn (1 ∷ []) 1 ∷ eqn (0 ∷ 1 ∷ 2 ∷ []) 1 ∷ eqn (1 ∷ 2 ∷ []) 2 ∷ []) ∷
    over 2 (eqn (0 ∷ []) 6 ∷ eqn (1 ∷ []) 4 ∷ eqn (1 ∷ []) 4 ∷ eqn (1 ∷ []) 4 ∷ eqn (1 ∷ []) 4 ∷ eqn (1 ∷ []) 5 ∷ []) ∷
    over 5 (eqn (2 ∷ 3 ∷ []) 4 ∷ eqn (0 ∷ 1 ∷ 2 ∷ 3 ∷ 4 ∷ []) 6 ∷ eqn (2 ∷ 4 ∷ []) 5 ∷ []) ∷
    over 7 (eqn (2 ∷ 5 ∷ []) 3 ∷ eqn (1 ∷ 3 ∷ 6 ∷ []) 5 ∷ []) ∷
    over 6 (eqn (4 ∷ 5 ∷ []) 5 ∷ eqn (0 ∷ 2 ∷ 4 ∷ []) 3 ∷ []) ∷
    over 6 (eqn (2 ∷ []) 7 ∷ eqn (2 ∷ 3 ∷ []) 2 ∷ eqn (1 ∷ 2 ∷ []) 1 ∷ eqn (0 ∷ 4 ∷ []) 5 ∷ []) ∷
    over 2 (eqn (0 ∷ 1 ∷ []) 5 ∷ eqn (0 ∷ 1 ∷ []) 5 ∷ eqn (0 ∷ []) 4 ∷ eqn (0 ∷ 1 ∷ []) 5 ∷ eqn (0 ∷ 1 ∷ []) 5 ∷ []) ∷
    over 3 (eqn (0 ∷ 1 ∷ 2 ∷ []) 5 ∷ eqn (1 ∷ 2 ∷ []) 1 ∷ eqn (0 ∷ 1 ∷ 2 ∷ []) 5 ∷ eqn (1 ∷ 2 ∷ []) 1 ∷ []) ∷
    over 5 (eqn (3 ∷ 4 ∷ []) 6 ∷ eqn (1 ∷ []) 3 ∷ eqn (0 ∷ 1 ∷ 2 ∷ []) 4 ∷ eqn (0 ∷ 4 ∷ []) 2 ∷ eqn (0 ∷ []) 0 ∷ eqn (0 ∷ 1 ∷ 2 ∷ 3 ∷ 4 ∷ []) 2 ∷ eqn (0 ∷ 3 ∷ []) 4 ∷ []) ∷
    over 7 (eqn (0 ∷ []) 7 ∷ eqn (5 ∷ []) 5 ∷ eqn (3 ∷ 5 ∷ []) 5 ∷ eqn (0 ∷ 1 ∷ 5 ∷ []) 7 ∷ eqn (1 ∷ 3 ∷ []) 6 ∷ eqn (5 ∷ []) 7 ∷ eqn (0 ∷ 4 ∷ []) 0 ∷ []) ∷
    over 6 (eqn (1 ∷ []) 6 ∷ eqn (1 ∷ 4 ∷ 5 ∷ []) 6 ∷ []) ∷
    over 6 (eqn (5 ∷ []) 7 ∷ eqn (0 ∷ 1 ∷ 2 ∷ 3 ∷ 4 ∷ 5 ∷ []) 3 ∷ []) ∷
    over 5 (eqn (0 ∷ 4 ∷ []) 7 ∷ eqn (1 ∷ 3 ∷ 4 ∷ []) 7 ∷ eqn (0 ∷ 3 ∷ 4 ∷ []) 3 ∷ eqn (2 ∷ 3 ∷ 4 ∷ []) 6 ∷ []) ∷
    over 6 (eqn (3 ∷ []) 1 ∷ eqn (3 ∷ []) 1 ∷ []) ∷
    over 6 (eqn (3 ∷ 5 ∷ []) 3 ∷ eqn (2 ∷ []) 7 ∷ eqn (2 ∷ []) 7 ∷ eqn (3 ∷ 5 ∷ []) 3 ∷ []) ∷
    over 3 (eqn (0 ∷ []) 5 ∷ []) ∷
    over 6 (eqn (1 ∷ 5 ∷ []) 1 ∷ eqn (2 ∷ 5 ∷ []) 2 ∷ []) ∷
    over 2 (eqn (0 ∷ 1 ∷ []) 4 ∷ eqn (1 ∷ []) 2 ∷ eqn (0 ∷ 1 ∷ []) 4 ∷ eqn (0 ∷ 1 ∷ []) 3 ∷ []) ∷
    over 3 (eqn ([]) 0 ∷ eqn (0 ∷ 1 ∷ 2 ∷ []) 6 ∷ eqn (0 ∷ 1 ∷ 2 ∷ []) 6 ∷ eqn (2 ∷ []) 3 ∷ eqn (1 ∷ 2 ∷ []) 0 ∷ eqn (2 ∷ []) 3 ∷ []) ∷
    over 5 (eqn (0 ∷ 2 ∷ []) 3 ∷ eqn (2 ∷ []) 0 ∷ eqn (3 ∷ []) 7 ∷ eqn (3 ∷ []) 7 ∷ eqn (0 ∷ 2 ∷ []) 3 ∷ []) ∷
    over 3 (eqn ([]) 0 ∷ eqn (1 ∷ 2 ∷ []) 0 ∷ eqn (1 ∷ []) 5 ∷ []) ∷
    over 4 (eqn (1 ∷ 2 ∷ 3 ∷ []) 7 ∷ []) ∷
    over 2 (eqn (0 ∷ 1 ∷ []) 2 ∷ eqn (0 ∷ 1 ∷ []) 2 ∷ eqn (0 ∷ []) 0 ∷ []) ∷
    over 6 (eqn (4 ∷ 5 ∷ []) 0 ∷ eqn (1 ∷ 2 ∷ []) 3 ∷ []) ∷
    over 7 (eqn (1 ∷ []) 7 ∷ eqn (6 ∷ []) 3 ∷ eqn (6 ∷ []) 3 ∷ eqn (6 ∷ []) 3 ∷ eqn (3 ∷ 4 ∷ []) 7 ∷ eqn (0 ∷ 4 ∷ 5 ∷ 6 ∷ []) 3 ∷ eqn (0 ∷ 4 ∷ 5 ∷ []) 0 ∷ []) ∷
    over 4 (eqn (0 ∷ 1 ∷ []) 1 ∷ []) ∷
    over 2 (eqn (1 ∷ []) 5 ∷ eqn (0 ∷ 1 ∷ []) 6 ∷ eqn (1 ∷ []) 5 ∷ eqn (0 ∷ 1 ∷ []) 1 ∷ eqn (0 ∷ 1 ∷ []) 1 ∷ eqn (0 ∷ []) 4 ∷ []) ∷
    over 7 (eqn (1 ∷ 3 ∷ []) 0 ∷ eqn (1 ∷ 3 ∷ []) 0 ∷ eqn ([]) 0 ∷ eqn (2 ∷ []) 3 ∷ eqn (4 ∷ 5 ∷ []) 4 ∷ eqn (1 ∷ []) 6 ∷ eqn (2 ∷ []) 3 ∷ []) ∷
    over 2 (eqn (1 ∷ []) 5 ∷ eqn (1 ∷ []) 5 ∷ eqn (1 ∷ []) 7 ∷ eqn (0 ∷ 1 ∷ []) 2 ∷ eqn (0 ∷ 1 ∷ []) 2 ∷ []) ∷
    over 5 (eqn (2 ∷ []) 6 ∷ eqn (0 ∷ 1 ∷ []) 6 ∷ eqn (2 ∷ []) 7 ∷ []) ∷
    over 5 (eqn ([]) 0 ∷ eqn ([]) 0 ∷ []) ∷
    over 5 (eqn ([]) 7 ∷ eqn (3 ∷ []) 3 ∷ eqn (0 ∷ 1 ∷ 2 ∷ 3 ∷ 4 ∷ []) 6 ∷ eqn (0 ∷ 1 ∷ 3 ∷ 4 ∷ []) 5 ∷ []) ∷
    over 3 (eqn (0 ∷ 1 ∷ []) 4 ∷ eqn ([]) 0 ∷ eqn ([]) 0 ∷ eqn (0 ∷ 1 ∷ 2 ∷ []) 7 ∷ []) ∷
    over 3 (eqn (0 ∷ []) 3 ∷ eqn (0 ∷ 1 ∷ []) 2 ∷ eqn (1 ∷ []) 1 ∷ eqn (1 ∷ 2 ∷ []) 4 ∷ []) ∷
    over 5 (eqn (3 ∷ []) 0 ∷ eqn ([]) 0 ∷ eqn (0 ∷ 2 ∷ []) 7 ∷ eqn (0 ∷ 1 ∷ 2 ∷ []) 5 ∷ eqn (2 ∷ 3 ∷ 4 ∷ []) 4 ∷ eqn (0 ∷ 1 ∷ 2 ∷ 4 ∷ []) 5 ∷ eqn (0 ∷ 2 ∷ 3 ∷ []) 7 ∷ []) ∷
    []

answers : List (Result (List ℕ))
answers =
    ok (5 ∷ 0 ∷ 0 ∷ 3 ∷ 0 ∷ 0 ∷ []) ∷
    ok (0 ∷ 6 ∷ 0 ∷ 0 ∷ 0 ∷ []) ∷
    ok (7 ∷ 0 ∷ 0 ∷ 0 ∷ []) ∷
    ok (0 ∷ 0 ∷ 3 ∷ 0 ∷ []) ∷
    ok (0 ∷ 0 ∷ 0 ∷ 6 ∷ []) ∷
    ok (3 ∷ 1 ∷ 3 ∷ []) ∷
    unsolvable ∷
    ok (7 ∷ 0 ∷ 0 ∷ 4 ∷ 5 ∷ []) ∷
    ok (0 ∷ 5 ∷ 3 ∷ 0 ∷ 0 ∷ 0 ∷ 0 ∷ []) ∷
    ok (3 ∷ 0 ∷ 0 ∷ 0 ∷ 0 ∷ 5 ∷ []) ∷
    ok (5 ∷ 6 ∷ 7 ∷ 5 ∷ 0 ∷ 0 ∷ []) ∷
    ok (4 ∷ 1 ∷ []) ∷
    ok (4 ∷ 1 ∷ 0 ∷ []) ∷
    ok (0 ∷ 3 ∷ 7 ∷ 4 ∷ 2 ∷ []) ∷
    unsolvable ∷
    ok (0 ∷ 6 ∷ 0 ∷ 0 ∷ 0 ∷ 0 ∷ []) ∷
    ok (4 ∷ 0 ∷ 0 ∷ 0 ∷ 0 ∷ 7 ∷ []) ∷
    ok (7 ∷ 3 ∷ 2 ∷ 4 ∷ 0 ∷ []) ∷
    ok (0 ∷ 0 ∷ 0 ∷ 1 ∷ 0 ∷ 0 ∷ []) ∷
    ok (0 ∷ 0 ∷ 7 ∷ 3 ∷ 0 ∷ 0 ∷ []) ∷
    ok (5 ∷ 0 ∷ 0 ∷ []) ∷
    ok (0 ∷ 1 ∷ 2 ∷ 0 ∷ 0 ∷ 0 ∷ []) ∷
    unsolvable ∷
    ok (6 ∷ 3 ∷ 3 ∷ []) ∷
    ok (3 ∷ 0 ∷ 0 ∷ 7 ∷ 0 ∷ []) ∷
    ok (0 ∷ 5 ∷ 5 ∷ []) ∷
    ok (0 ∷ 7 ∷ 0 ∷ 0 ∷ []) ∷
    ok (0 ∷ 2 ∷ []) ∷
    ok (0 ∷ 3 ∷ 0 ∷ 0 ∷ 0 ∷ 0 ∷ []) ∷
    ok (0 ∷ 7 ∷ 0 ∷ 7 ∷ 0 ∷ 0 ∷ 3 ∷ []) ∷
    ok (1 ∷ 0 ∷ 0 ∷ 0 ∷ []) ∷
    unsolvable ∷
    ok (0 ∷ 6 ∷ 3 ∷ 6 ∷ 4 ∷ 0 ∷ 0 ∷ []) ∷
    unsolvable ∷
    unsolvable ∷
    ok (0 ∷ 0 ∷ 0 ∷ 0 ∷ 0 ∷ []) ∷
    unsolvable ∷
    ok (4 ∷ 0 ∷ 3 ∷ []) ∷
    ok (3 ∷ 1 ∷ 5 ∷ []) ∷
    ok (3 ∷ 2 ∷ 4 ∷ 0 ∷ 0 ∷ []) ∷
    []

units : List ℕ
units = 6 ∷ 3 ∷ 3 ∷ 3 ∷ 2 ∷ 6 ∷ 6 ∷ 8 ∷ 6 ∷ 6 ∷ 7 ∷ 6 ∷ 6 ∷ 8 ∷ 6 ∷ 5 ∷ 8 ∷ 6 ∷ 3 ∷ 6 ∷ 2 ∷ 4 ∷ 3 ∷ 7 ∷ 6 ∷ 4 ∷ 4 ∷ 4 ∷ 6 ∷ 11 ∷ 3 ∷ 4 ∷ 12 ∷ 5 ∷ 2 ∷ 3 ∷ 1 ∷ 6 ∷ 5 ∷ 9 ∷ []

random : map (λ (q : System). lazy_elimination q.n q.equations) systems ≡ answers
unfolding systems answers lazy_elimination whole_run after used unit pop pop_equation pop_variable pop_dense pass_over copy solve_for skip activate lowered pushed added_into dense_row last_unit fill start heaviest listing others up_from down_from keep first_of lists outer_row meet_row meeting summed contradicted back_sub pin sym_diff eval_vars
random = refl

random_units : map (λ (q : System). used (enough q.n q.equations) q.n q.equations (more (start q.n q.equations))) systems ≡ units
unfolding systems units whole_run after used unit pop pop_equation pop_variable pop_dense pass_over copy solve_for skip activate lowered pushed added_into dense_row last_unit fill start heaviest listing others up_from down_from keep first_of lists outer_row meet_row meeting summed contradicted back_sub pin sym_diff eval_vars
random_units = refl

-- ---- three equations or more in the dense part

dense_systems : List System
dense_systems =
    over 5 (eqn (0 ∷ 2 ∷ 3 ∷ 4 ∷ []) 6 ∷ eqn (0 ∷ 2 ∷ 4 ∷ []) 3 ∷ eqn (1 ∷ 2 ∷ 3 ∷ []) 6 ∷ eqn (0 ∷ 1 ∷ 4 ∷ []) 0 ∷ eqn (1 ∷ 2 ∷ 4 ∷ []) 1 ∷ eqn (0 ∷ 2 ∷ 3 ∷ []) 4 ∷ []) ∷
    over 5 (eqn (0 ∷ 2 ∷ 4 ∷ []) 0 ∷ eqn (0 ∷ 1 ∷ []) 7 ∷ eqn (0 ∷ 1 ∷ 3 ∷ 4 ∷ []) 1 ∷ eqn (2 ∷ 3 ∷ 4 ∷ []) 1 ∷ eqn (1 ∷ 3 ∷ 4 ∷ []) 2 ∷ eqn (1 ∷ 3 ∷ 4 ∷ []) 1 ∷ eqn (0 ∷ 1 ∷ []) 7 ∷ []) ∷
    over 4 (eqn (0 ∷ 1 ∷ []) 2 ∷ eqn (0 ∷ 1 ∷ 3 ∷ []) 1 ∷ eqn (0 ∷ 1 ∷ 2 ∷ []) 5 ∷ eqn (0 ∷ 1 ∷ 3 ∷ []) 2 ∷ eqn (0 ∷ 1 ∷ 2 ∷ 3 ∷ []) 5 ∷ eqn (0 ∷ 2 ∷ []) 4 ∷ eqn (1 ∷ 2 ∷ []) 6 ∷ []) ∷
    over 4 (eqn (0 ∷ 2 ∷ 3 ∷ []) 1 ∷ eqn (0 ∷ 1 ∷ 2 ∷ []) 6 ∷ eqn (0 ∷ 2 ∷ 3 ∷ []) 1 ∷ eqn (0 ∷ 1 ∷ 2 ∷ []) 6 ∷ eqn (0 ∷ 1 ∷ 2 ∷ 3 ∷ []) 6 ∷ eqn (1 ∷ 2 ∷ 3 ∷ []) 5 ∷ []) ∷
    over 6 (eqn (0 ∷ 1 ∷ 3 ∷ []) 4 ∷ eqn (1 ∷ 4 ∷ 5 ∷ []) 6 ∷ eqn (2 ∷ 3 ∷ 4 ∷ []) 1 ∷ eqn (0 ∷ 1 ∷ 3 ∷ 4 ∷ []) 1 ∷ eqn (1 ∷ 2 ∷ 5 ∷ []) 7 ∷ eqn (0 ∷ 2 ∷ 3 ∷ 4 ∷ []) 2 ∷ eqn (0 ∷ 2 ∷ 4 ∷ []) 2 ∷ []) ∷
    over 4 (eqn (0 ∷ 2 ∷ 3 ∷ []) 5 ∷ eqn (0 ∷ 1 ∷ 2 ∷ []) 3 ∷ eqn (1 ∷ 2 ∷ 3 ∷ []) 4 ∷ eqn (0 ∷ 1 ∷ 2 ∷ 3 ∷ []) 3 ∷ eqn (0 ∷ 1 ∷ 2 ∷ 3 ∷ []) 3 ∷ eqn (0 ∷ 1 ∷ 3 ∷ []) 0 ∷ eqn (0 ∷ 1 ∷ 2 ∷ 3 ∷ []) 3 ∷ []) ∷
    over 4 (eqn (1 ∷ 2 ∷ 3 ∷ []) 0 ∷ eqn (1 ∷ 2 ∷ 3 ∷ []) 0 ∷ eqn (0 ∷ 1 ∷ 2 ∷ []) 3 ∷ eqn (0 ∷ 1 ∷ 3 ∷ []) 2 ∷ eqn (0 ∷ 1 ∷ 2 ∷ 3 ∷ []) 4 ∷ eqn (0 ∷ 1 ∷ 2 ∷ 3 ∷ []) 4 ∷ []) ∷
    over 5 (eqn (1 ∷ 4 ∷ []) 4 ∷ eqn (0 ∷ 1 ∷ 3 ∷ []) 2 ∷ eqn (0 ∷ 2 ∷ 3 ∷ 4 ∷ []) 4 ∷ eqn (0 ∷ 1 ∷ 3 ∷ []) 2 ∷ eqn (1 ∷ 2 ∷ 3 ∷ []) 6 ∷ eqn (1 ∷ 3 ∷ 4 ∷ []) 4 ∷ []) ∷
    over 5 (eqn (1 ∷ 3 ∷ []) 1 ∷ eqn (1 ∷ 2 ∷ 4 ∷ []) 2 ∷ eqn (0 ∷ 1 ∷ 2 ∷ 4 ∷ []) 6 ∷ eqn (0 ∷ 1 ∷ 2 ∷ 3 ∷ []) 4 ∷ eqn (0 ∷ 1 ∷ 2 ∷ []) 6 ∷ eqn (0 ∷ 2 ∷ 3 ∷ 4 ∷ []) 7 ∷ eqn (0 ∷ 3 ∷ []) 6 ∷ []) ∷
    over 5 (eqn (0 ∷ 1 ∷ 2 ∷ []) 5 ∷ eqn (1 ∷ 3 ∷ 4 ∷ []) 4 ∷ eqn (0 ∷ 1 ∷ 2 ∷ 4 ∷ []) 7 ∷ eqn (1 ∷ 2 ∷ 4 ∷ []) 2 ∷ eqn (0 ∷ 2 ∷ 3 ∷ 4 ∷ []) 1 ∷ eqn (0 ∷ 1 ∷ 2 ∷ 3 ∷ []) 0 ∷ []) ∷
    over 5 (eqn (0 ∷ 3 ∷ []) 7 ∷ eqn (0 ∷ 1 ∷ 2 ∷ []) 1 ∷ eqn (2 ∷ 3 ∷ 4 ∷ []) 4 ∷ eqn (0 ∷ 2 ∷ 4 ∷ []) 3 ∷ eqn (0 ∷ 1 ∷ 3 ∷ []) 4 ∷ eqn (1 ∷ 2 ∷ 4 ∷ []) 7 ∷ []) ∷
    over 4 (eqn (1 ∷ 2 ∷ 3 ∷ []) 7 ∷ eqn (0 ∷ 1 ∷ 2 ∷ 3 ∷ []) 5 ∷ eqn (0 ∷ 1 ∷ 2 ∷ 3 ∷ []) 5 ∷ eqn (0 ∷ 1 ∷ 2 ∷ 3 ∷ []) 5 ∷ eqn (1 ∷ 2 ∷ 3 ∷ []) 7 ∷ eqn (0 ∷ 3 ∷ []) 7 ∷ eqn (1 ∷ 2 ∷ 3 ∷ []) 7 ∷ []) ∷
    over 5 (eqn (1 ∷ 2 ∷ []) 4 ∷ eqn (0 ∷ 1 ∷ 3 ∷ 4 ∷ []) 2 ∷ eqn (0 ∷ 2 ∷ 3 ∷ 4 ∷ []) 6 ∷ eqn (2 ∷ 3 ∷ 4 ∷ []) 7 ∷ eqn (0 ∷ 2 ∷ 3 ∷ []) 6 ∷ eqn (0 ∷ 3 ∷ 4 ∷ []) 6 ∷ []) ∷
    over 4 (eqn (0 ∷ 1 ∷ 2 ∷ []) 0 ∷ eqn (1 ∷ 2 ∷ 3 ∷ []) 7 ∷ eqn (0 ∷ 1 ∷ 2 ∷ []) 0 ∷ eqn (0 ∷ 1 ∷ 2 ∷ []) 0 ∷ eqn (0 ∷ 1 ∷ 2 ∷ []) 0 ∷ eqn (0 ∷ 1 ∷ 3 ∷ []) 1 ∷ eqn (1 ∷ 2 ∷ 3 ∷ []) 7 ∷ []) ∷
    over 4 (eqn (1 ∷ 2 ∷ []) 2 ∷ eqn (0 ∷ 1 ∷ 2 ∷ 3 ∷ []) 7 ∷ eqn (1 ∷ 2 ∷ []) 2 ∷ eqn (0 ∷ 1 ∷ 2 ∷ 3 ∷ []) 7 ∷ eqn (0 ∷ 1 ∷ 2 ∷ 3 ∷ []) 7 ∷ eqn (0 ∷ 2 ∷ 3 ∷ []) 4 ∷ eqn (1 ∷ 2 ∷ 3 ∷ []) 6 ∷ []) ∷
    over 4 (eqn (0 ∷ 1 ∷ 3 ∷ []) 0 ∷ eqn (0 ∷ 1 ∷ 2 ∷ []) 3 ∷ eqn (0 ∷ 3 ∷ []) 6 ∷ eqn (0 ∷ 1 ∷ 2 ∷ []) 3 ∷ eqn (1 ∷ 2 ∷ 3 ∷ []) 5 ∷ eqn (0 ∷ 1 ∷ 2 ∷ 3 ∷ []) 2 ∷ eqn (0 ∷ 1 ∷ 2 ∷ 3 ∷ []) 2 ∷ []) ∷
    over 4 (eqn (0 ∷ 1 ∷ 2 ∷ []) 1 ∷ eqn (0 ∷ 1 ∷ 2 ∷ 3 ∷ []) 3 ∷ eqn (0 ∷ 1 ∷ 2 ∷ 3 ∷ []) 3 ∷ eqn (0 ∷ 1 ∷ 2 ∷ []) 1 ∷ eqn (0 ∷ 2 ∷ 3 ∷ []) 2 ∷ eqn (0 ∷ 1 ∷ 3 ∷ []) 1 ∷ eqn (0 ∷ 3 ∷ []) 0 ∷ []) ∷
    over 6 (eqn (0 ∷ 4 ∷ 5 ∷ []) 0 ∷ eqn (1 ∷ 2 ∷ 3 ∷ 5 ∷ []) 3 ∷ eqn (1 ∷ 2 ∷ 4 ∷ 5 ∷ []) 3 ∷ eqn (0 ∷ 2 ∷ 3 ∷ []) 5 ∷ eqn (1 ∷ 5 ∷ []) 4 ∷ eqn (0 ∷ 1 ∷ 2 ∷ []) 3 ∷ eqn (0 ∷ 4 ∷ []) 3 ∷ []) ∷
    over 5 (eqn (1 ∷ 3 ∷ 4 ∷ []) 1 ∷ eqn (0 ∷ 1 ∷ 4 ∷ []) 6 ∷ eqn (1 ∷ 2 ∷ 3 ∷ 4 ∷ []) 3 ∷ eqn (1 ∷ 2 ∷ []) 0 ∷ eqn (0 ∷ 3 ∷ 4 ∷ []) 6 ∷ eqn (0 ∷ 1 ∷ 3 ∷ []) 5 ∷ eqn (0 ∷ 3 ∷ 4 ∷ []) 6 ∷ []) ∷
    over 5 (eqn (0 ∷ 2 ∷ 3 ∷ 4 ∷ []) 0 ∷ eqn (0 ∷ 1 ∷ 2 ∷ []) 6 ∷ eqn (2 ∷ 4 ∷ []) 5 ∷ eqn (0 ∷ 1 ∷ 3 ∷ []) 4 ∷ eqn (0 ∷ 2 ∷ 4 ∷ []) 5 ∷ eqn (0 ∷ 1 ∷ 4 ∷ []) 3 ∷ []) ∷
    over 4 (eqn (0 ∷ 1 ∷ 3 ∷ []) 7 ∷ eqn (1 ∷ 3 ∷ []) 4 ∷ eqn (0 ∷ 2 ∷ 3 ∷ []) 2 ∷ eqn (0 ∷ 1 ∷ 2 ∷ 3 ∷ []) 5 ∷ eqn (0 ∷ 2 ∷ []) 1 ∷ eqn (0 ∷ 1 ∷ 2 ∷ 3 ∷ []) 5 ∷ eqn (0 ∷ 2 ∷ 3 ∷ []) 2 ∷ []) ∷
    over 5 (eqn (0 ∷ 1 ∷ 3 ∷ 4 ∷ []) 5 ∷ eqn (1 ∷ 4 ∷ []) 6 ∷ eqn (0 ∷ 1 ∷ 2 ∷ 4 ∷ []) 1 ∷ eqn (0 ∷ 3 ∷ 4 ∷ []) 1 ∷ eqn (0 ∷ 2 ∷ 3 ∷ []) 1 ∷ eqn (0 ∷ 1 ∷ 4 ∷ []) 6 ∷ eqn (0 ∷ 1 ∷ 2 ∷ 3 ∷ []) 5 ∷ []) ∷
    over 6 (eqn (1 ∷ 4 ∷ 5 ∷ []) 0 ∷ eqn (0 ∷ 3 ∷ 4 ∷ []) 6 ∷ eqn (0 ∷ 2 ∷ 4 ∷ []) 5 ∷ eqn (3 ∷ 4 ∷ 5 ∷ []) 1 ∷ eqn (1 ∷ 2 ∷ 3 ∷ []) 7 ∷ eqn (0 ∷ 1 ∷ []) 7 ∷ eqn (0 ∷ 1 ∷ 4 ∷ []) 7 ∷ []) ∷
    over 5 (eqn (0 ∷ 2 ∷ 3 ∷ []) 0 ∷ eqn (0 ∷ 1 ∷ 2 ∷ 4 ∷ []) 6 ∷ eqn (0 ∷ 1 ∷ 4 ∷ []) 2 ∷ eqn (1 ∷ 3 ∷ 4 ∷ []) 6 ∷ eqn (1 ∷ 3 ∷ 4 ∷ []) 6 ∷ eqn (1 ∷ 2 ∷ 4 ∷ []) 6 ∷ eqn (0 ∷ 4 ∷ []) 4 ∷ []) ∷
    []

dense_answers : List (Result (List ℕ))
dense_answers =
    ok (1 ∷ 3 ∷ 0 ∷ 5 ∷ 2 ∷ []) ∷
    unsolvable ∷
    unsolvable ∷
    ok (3 ∷ 7 ∷ 2 ∷ 0 ∷ []) ∷
    ok (3 ∷ 7 ∷ 4 ∷ 0 ∷ 5 ∷ 4 ∷ []) ∷
    unsolvable ∷
    ok (4 ∷ 1 ∷ 6 ∷ 7 ∷ []) ∷
    ok (6 ∷ 4 ∷ 2 ∷ 0 ∷ 0 ∷ []) ∷
    ok (4 ∷ 3 ∷ 1 ∷ 2 ∷ 0 ∷ []) ∷
    ok (5 ∷ 3 ∷ 3 ∷ 5 ∷ 2 ∷ []) ∷
    ok (7 ∷ 3 ∷ 5 ∷ 0 ∷ 1 ∷ []) ∷
    ok (2 ∷ 2 ∷ 0 ∷ 5 ∷ []) ∷
    ok (1 ∷ 4 ∷ 0 ∷ 7 ∷ 0 ∷ []) ∷
    ok (6 ∷ 6 ∷ 0 ∷ 1 ∷ []) ∷
    ok (1 ∷ 3 ∷ 1 ∷ 4 ∷ []) ∷
    ok (7 ∷ 6 ∷ 2 ∷ 1 ∷ []) ∷
    ok (2 ∷ 1 ∷ 2 ∷ 2 ∷ []) ∷
    ok (2 ∷ 7 ∷ 6 ∷ 1 ∷ 1 ∷ 3 ∷ []) ∷
    ok (5 ∷ 2 ∷ 2 ∷ 2 ∷ 1 ∷ []) ∷
    ok (0 ∷ 1 ∷ 7 ∷ 5 ∷ 2 ∷ []) ∷
    ok (3 ∷ 7 ∷ 2 ∷ 3 ∷ []) ∷
    unsolvable ∷
    ok (3 ∷ 4 ∷ 6 ∷ 5 ∷ 0 ∷ 4 ∷ []) ∷
    ok (0 ∷ 6 ∷ 4 ∷ 4 ∷ 4 ∷ []) ∷
    []

random_dense : map (λ (q : System). lazy_elimination q.n q.equations) dense_systems ≡ dense_answers
unfolding dense_systems dense_answers lazy_elimination whole_run after used unit pop pop_equation pop_variable pop_dense pass_over copy solve_for skip activate lowered pushed added_into dense_row last_unit fill start heaviest listing others up_from down_from keep first_of lists outer_row meet_row meeting summed contradicted back_sub pin sym_diff eval_vars
random_dense = refl
