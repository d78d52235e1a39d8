-- Random systems: what the Rust answers to each, by computing.
use mathlib.Core.Path.{◌≡◌, refl}
use mathlib.Core.List.{List, [], ◌∷◌, map}
use Prim.Native.Nat.{ℕ}
use Rattle.gf2.specs.Equation.{Equation, eqn, eval_vars, sym_diff}
use Rattle.gf2.specs.Result.{Result, unsolvable, ok}
use Rattle.sparse_rules.specs.Eliminate.{summed, meeting, meet_row, outer_row, outer_rows, echelon_form, contradicted, pin, back_sub, finish, gaussian_elimination}

record System : Type 0 where
  n : ℕ
  equations : List Equation

abbrev over : ℕ → List Equation → System
over n es = record { n = n; equations = es }

systems : List System
systems =
    over 4 (eqn (0 ∷ 1 ∷ 2 ∷ 3 ∷ []) 1 ∷ eqn (0 ∷ []) 7 ∷ eqn ([]) 0 ∷ eqn (0 ∷ 2 ∷ 3 ∷ []) 6 ∷ eqn (0 ∷ 1 ∷ 2 ∷ 3 ∷ []) 1 ∷ []) ∷
    over 5 (eqn (0 ∷ 1 ∷ 2 ∷ 3 ∷ 4 ∷ []) 5 ∷ []) ∷
    over 4 (eqn (0 ∷ 1 ∷ 2 ∷ 3 ∷ []) 3 ∷ eqn (0 ∷ 3 ∷ []) 2 ∷ eqn ([]) 0 ∷ eqn ([]) 0 ∷ eqn (0 ∷ 2 ∷ 3 ∷ []) 7 ∷ []) ∷
    over 3 (eqn ([]) 0 ∷ eqn ([]) 0 ∷ eqn ([]) 7 ∷ []) ∷
    over 4 (eqn (0 ∷ 1 ∷ 3 ∷ []) 6 ∷ eqn (0 ∷ []) 3 ∷ []) ∷
    over 5 (eqn ([]) 0 ∷ eqn (3 ∷ []) 6 ∷ eqn (0 ∷ 1 ∷ 2 ∷ 4 ∷ []) 3 ∷ []) ∷
    over 5 (eqn (0 ∷ 1 ∷ 3 ∷ 4 ∷ []) 0 ∷ eqn (1 ∷ 4 ∷ []) 7 ∷ []) ∷
    over 2 (eqn (0 ∷ []) 3 ∷ eqn ([]) 4 ∷ eqn ([]) 0 ∷ eqn (1 ∷ []) 6 ∷ eqn (0 ∷ 1 ∷ []) 5 ∷ []) ∷
    over 1 (eqn (0 ∷ []) 3 ∷ eqn ([]) 0 ∷ []) ∷
    over 1 (eqn (0 ∷ []) 2 ∷ eqn (0 ∷ []) 6 ∷ eqn ([]) 2 ∷ []) ∷
    over 4 (eqn (0 ∷ 2 ∷ []) 1 ∷ eqn (0 ∷ 1 ∷ 2 ∷ []) 2 ∷ eqn ([]) 5 ∷ []) ∷
    over 1 (eqn (0 ∷ []) 5 ∷ eqn ([]) 0 ∷ []) ∷
    over 4 (eqn (0 ∷ 1 ∷ 2 ∷ 3 ∷ []) 1 ∷ []) ∷
    over 3 (eqn (0 ∷ 1 ∷ 2 ∷ []) 4 ∷ eqn ([]) 0 ∷ eqn (2 ∷ []) 7 ∷ eqn (0 ∷ 1 ∷ []) 3 ∷ []) ∷
    over 5 (eqn (2 ∷ 3 ∷ []) 0 ∷ eqn (1 ∷ 3 ∷ 4 ∷ []) 1 ∷ []) ∷
    over 3 (eqn (0 ∷ 2 ∷ []) 5 ∷ eqn (0 ∷ 2 ∷ []) 5 ∷ []) ∷
    over 3 (eqn (1 ∷ 2 ∷ []) 1 ∷ eqn ([]) 0 ∷ []) ∷
    over 5 (eqn (0 ∷ 1 ∷ 3 ∷ []) 1 ∷ []) ∷
    over 3 (eqn (0 ∷ 1 ∷ 2 ∷ []) 3 ∷ eqn (1 ∷ []) 0 ∷ []) ∷
    over 1 (eqn ([]) 0 ∷ eqn (0 ∷ []) 0 ∷ eqn ([]) 6 ∷ eqn ([]) 0 ∷ []) ∷
    over 2 (eqn (1 ∷ []) 5 ∷ []) ∷
    over 2 (eqn ([]) 0 ∷ []) ∷
    over 1 (eqn (0 ∷ []) 5 ∷ eqn ([]) 5 ∷ eqn (0 ∷ []) 5 ∷ []) ∷
    over 1 (eqn (0 ∷ []) 1 ∷ eqn (0 ∷ []) 1 ∷ []) ∷
    over 5 (eqn (0 ∷ 2 ∷ 3 ∷ 4 ∷ []) 2 ∷ eqn (1 ∷ 2 ∷ 3 ∷ 4 ∷ []) 2 ∷ eqn (0 ∷ 1 ∷ 2 ∷ 4 ∷ []) 6 ∷ eqn (3 ∷ []) 3 ∷ eqn (0 ∷ 2 ∷ 3 ∷ 4 ∷ []) 2 ∷ []) ∷
    over 4 (eqn ([]) 0 ∷ eqn (1 ∷ 2 ∷ 3 ∷ []) 4 ∷ eqn (1 ∷ 2 ∷ 3 ∷ []) 4 ∷ eqn (0 ∷ 2 ∷ 3 ∷ []) 2 ∷ eqn ([]) 0 ∷ []) ∷
    over 3 (eqn ([]) 0 ∷ eqn ([]) 0 ∷ eqn (0 ∷ 2 ∷ []) 2 ∷ []) ∷
    over 3 (eqn (0 ∷ []) 5 ∷ eqn (0 ∷ []) 5 ∷ []) ∷
    over 1 (eqn ([]) 0 ∷ eqn (0 ∷ []) 6 ∷ eqn ([]) 5 ∷ []) ∷
    over 3 (eqn (0 ∷ 1 ∷ 2 ∷ []) 7 ∷ []) ∷
    over 5 (eqn (1 ∷ []) 2 ∷ eqn (0 ∷ 4 ∷ []) 6 ∷ eqn (0 ∷ 1 ∷ 2 ∷ 3 ∷ 4 ∷ []) 5 ∷ eqn (0 ∷ 1 ∷ 2 ∷ 3 ∷ []) 0 ∷ eqn (1 ∷ []) 2 ∷ []) ∷
    over 3 (eqn ([]) 0 ∷ eqn ([]) 0 ∷ eqn ([]) 0 ∷ []) ∷
    over 4 (eqn ([]) 0 ∷ eqn (3 ∷ []) 4 ∷ eqn (1 ∷ 2 ∷ []) 1 ∷ eqn (0 ∷ 1 ∷ 2 ∷ []) 5 ∷ eqn (0 ∷ 3 ∷ []) 5 ∷ []) ∷
    over 4 (eqn (0 ∷ 1 ∷ 2 ∷ 3 ∷ []) 6 ∷ eqn (0 ∷ 1 ∷ 2 ∷ 3 ∷ []) 4 ∷ []) ∷
    over 3 (eqn ([]) 0 ∷ eqn ([]) 0 ∷ eqn (1 ∷ []) 1 ∷ []) ∷
    over 2 (eqn (1 ∷ []) 6 ∷ eqn (1 ∷ []) 6 ∷ eqn (1 ∷ []) 6 ∷ eqn (0 ∷ 1 ∷ []) 3 ∷ []) ∷
    over 5 (eqn (0 ∷ 1 ∷ 2 ∷ 3 ∷ 4 ∷ []) 7 ∷ []) ∷
    []

answers : List (Result (List ℕ))
answers =
    ok (7 ∷ 7 ∷ 1 ∷ 0 ∷ []) ∷
    ok (5 ∷ 0 ∷ 0 ∷ 0 ∷ 0 ∷ []) ∷
    ok (2 ∷ 4 ∷ 5 ∷ 0 ∷ []) ∷
    unsolvable ∷
    ok (3 ∷ 5 ∷ 0 ∷ 0 ∷ []) ∷
    ok (3 ∷ 0 ∷ 0 ∷ 6 ∷ 0 ∷ []) ∷
    ok (7 ∷ 7 ∷ 0 ∷ 0 ∷ 0 ∷ []) ∷
    unsolvable ∷
    ok (3 ∷ []) ∷
    unsolvable ∷
    unsolvable ∷
    ok (5 ∷ []) ∷
    ok (1 ∷ 0 ∷ 0 ∷ 0 ∷ []) ∷
    ok (3 ∷ 0 ∷ 7 ∷ []) ∷
    ok (0 ∷ 1 ∷ 0 ∷ 0 ∷ 0 ∷ []) ∷
    ok (5 ∷ 0 ∷ 0 ∷ []) ∷
    ok (0 ∷ 1 ∷ 0 ∷ []) ∷
    ok (1 ∷ 0 ∷ 0 ∷ 0 ∷ 0 ∷ []) ∷
    ok (3 ∷ 0 ∷ 0 ∷ []) ∷
    unsolvable ∷
    ok (0 ∷ 5 ∷ []) ∷
    ok (0 ∷ 0 ∷ []) ∷
    unsolvable ∷
    ok (1 ∷ []) ∷
    ok (7 ∷ 7 ∷ 6 ∷ 3 ∷ 0 ∷ []) ∷
    ok (2 ∷ 4 ∷ 0 ∷ 0 ∷ []) ∷
    ok (2 ∷ 0 ∷ 0 ∷ []) ∷
    ok (5 ∷ 0 ∷ 0 ∷ []) ∷
    unsolvable ∷
    ok (7 ∷ 0 ∷ 0 ∷ []) ∷
    ok (3 ∷ 2 ∷ 1 ∷ 0 ∷ 5 ∷ []) ∷
    ok (0 ∷ 0 ∷ 0 ∷ []) ∷
    unsolvable ∷
    unsolvable ∷
    ok (0 ∷ 1 ∷ 0 ∷ []) ∷
    ok (5 ∷ 6 ∷ []) ∷
    ok (7 ∷ 0 ∷ 0 ∷ 0 ∷ 0 ∷ []) ∷
    []

random : map (λ (q : System). gaussian_elimination q.n q.equations) systems ≡ answers
unfolding systems answers gaussian_elimination echelon_form outer_rows outer_row meet_row meeting summed sym_diff finish contradicted back_sub pin eval_vars
random = refl
