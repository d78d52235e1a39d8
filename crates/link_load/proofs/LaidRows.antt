-- Rows laid out as starts, variables and constants are read back as the rows.
use mathlib.Core.Path.{◌≡◌, refl, ap, ap₂, ◌∙◌}
use mathlib.Core.List.{List, [], ◌∷◌, ◌++◌, append_assoc, append-nil}
use Prim.Native.Nat.{ℕ, zero, suc, ◌+◌, ◌-◌, ◌≤◌}
use native.Mathlib.Nat.{add-zero, zero-add}
use native.Mathlib.Omega.{arith}
use lib.ListN.{length, take, get_or, length-append}
use Rattle.gf2.specs.Equation.{Equation}
use Rattle.areas.proofs.Stretch.{stretch_at}
use Rattle.system.specs.Fits.{listed_in}
use Rattle.system.specs.System.{equation_at, equations_from, equations}
use Rattle.link_load.specs.Loading.{starts_from, starts_of, vars_of, constants_of}

-- ---- how long they are

pub length_starts : (from : ℕ) (rows : List Equation) → length (starts_from from rows) ≡ length rows + 1
unfolding starts_from
length_starts from [] = refl
length_starts from (r ∷ rows) = let e = length_starts (from + length r.vars) rows in omega arith

pub length_vars : (rows : List Equation) → length (vars_of rows) ≡ listed_in rows
unfolding vars_of listed_in
length_vars [] = refl
length_vars (r ∷ rows) = let e = length_vars rows in rw (length-append r.vars (vars_of rows), e)

pub length_constants : (rows : List Equation) → length (constants_of rows) ≡ length rows
unfolding constants_of
length_constants [] = refl
length_constants (r ∷ rows) = ap suc (length_constants rows)

-- ---- one after the other

pub listed_append : (a b : List Equation) → listed_in (a ++ b) ≡ listed_in a + listed_in b
unfolding listed_in
listed_append [] b = omega arith
listed_append (r ∷ a) b = let e = listed_append a b in omega arith

pub vars_append : (a b : List Equation) → vars_of (a ++ b) ≡ vars_of a ++ vars_of b
unfolding vars_of
vars_append [] b = refl
vars_append (r ∷ a) b = rw (vars_append a b, append_assoc r.vars (vars_of a) (vars_of b))

pub constants_append : (a b : List Equation) → constants_of (a ++ b) ≡ constants_of a ++ constants_of b
unfolding constants_of
constants_append [] b = refl
constants_append (r ∷ a) b = ap (λ (l : List ℕ). r.c ∷ l) (constants_append a b)

-- one row more
pub starts_snoc : (from : ℕ) (rows : List Equation) (r : Equation) → starts_from from (rows ++ (r ∷ [])) ≡ starts_from from rows ++ ((from + listed_in rows + length r.vars) ∷ [])
unfolding starts_from listed_in
starts_snoc from [] r = rw (add-zero from)
starts_snoc from (q ∷ rows) r =
    let e : from + length q.vars + listed_in rows ≡ from + (length q.vars + listed_in rows) = omega arith in
    ap (λ (l : List ℕ). from ∷ l) (starts_snoc (from + length q.vars) rows r ∙ rw e)

pub vars_snoc : (rows : List Equation) (r : Equation) → vars_of (rows ++ (r ∷ [])) ≡ vars_of rows ++ r.vars
unfolding vars_of
vars_snoc rows r = vars_append rows (r ∷ []) ∙ rw (append-nil r.vars)

pub constants_snoc : (rows : List Equation) (r : Equation) → constants_of (rows ++ (r ∷ [])) ≡ constants_of rows ++ (r.c ∷ [])
unfolding constants_of
constants_snoc rows r = constants_append rows (r ∷ [])

pub listed_snoc : (rows : List Equation) (r : Equation) → listed_in (rows ++ (r ∷ [])) ≡ listed_in rows + length r.vars
unfolding listed_in
listed_snoc rows r = let e = listed_append rows (r ∷ []) in omega arith

pub listed_take : (i : ℕ) (rows : List Equation) → listed_in (take i rows) ≤ listed_in rows
unfolding listed_in
listed_take zero rows = omega arith
listed_take (suc i) [] = omega arith
listed_take (suc i) (r ∷ rows) = let h = listed_take i rows in omega arith

-- ---- read back

start_at_lem : (from : ℕ) (a b : List Equation) → get_or (starts_from from (a ++ b)) (length a) 0 ≡ from + listed_in a
unfolding starts_from listed_in
start_at_lem from [] [] = omega arith
start_at_lem from [] (r ∷ b) = omega arith
start_at_lem from (r ∷ a) b = let e = start_at_lem (from + length r.vars) a b in omega arith

constant_at : (a : List Equation) (r : Equation) (b : List Equation) → get_or (constants_of (a ++ (r ∷ b))) (length a) 0 ≡ r.c
unfolding constants_of
constant_at [] r b = refl
constant_at (q ∷ a) r b = constant_at a r b

next_start : (a : List Equation) (r : Equation) (b : List Equation) → get_or (starts_of (a ++ (r ∷ b))) (length a + 1) 0 ≡ listed_in a + length r.vars
next_start a r b =
    let l : length (a ++ (r ∷ [])) ≡ length a + 1 = length-append a (r ∷ []) in
    let e = start_at_lem 0 (a ++ (r ∷ [])) b in
    let q = listed_snoc a r in
    let s : (a ++ (r ∷ [])) ++ b ≡ a ++ (r ∷ b) = append_assoc a (r ∷ []) b in
    rw (← l, ← s, e) (omega arith)

module _ (a : List Equation) (r : Equation) (b : List Equation) where
  laid_at : equation_at (starts_of (a ++ (r ∷ b))) (vars_of (a ++ (r ∷ b))) (constants_of (a ++ (r ∷ b))) (length a) ≡ r
  unfolding equation_at vars_of
  laid_at =
      let s : get_or (starts_of (a ++ (r ∷ b))) (length a) 0 ≡ listed_in a = start_at_lem 0 a (r ∷ b) ∙ zero-add (listed_in a) in
      let d : listed_in a + length r.vars - listed_in a ≡ length r.vars = omega arith in
      rw (next_start a r b, s, d, constant_at a r b, vars_append a (r ∷ b), stretch_at (listed_in a) (length r.vars) (vars_of a) r.vars (vars_of b) (length_vars a) refl)

laid_from : (a b : List Equation) → equations_from (length b) (length a) (starts_of (a ++ b)) (vars_of (a ++ b)) (constants_of (a ++ b)) ≡ b
unfolding equations_from
laid_from a [] = refl
laid_from a (r ∷ b) =
    let l : length (a ++ (r ∷ [])) ≡ length a + 1 = length-append a (r ∷ []) in
    let s : (a ++ (r ∷ [])) ++ b ≡ a ++ (r ∷ b) = append_assoc a (r ∷ []) b in
    ap₂ (λ (x : Equation) (xs : List Equation). x ∷ xs) (laid_at a r b)
    (rw (← l, ← s) (laid_from (a ++ (r ∷ [])) b))

-- the lent system that is made of rows is read as these rows
pub laid_rows : (rows : List Equation) → equations (length rows) (starts_of rows) (vars_of rows) (constants_of rows) ≡ rows
laid_rows rows = laid_from [] rows
