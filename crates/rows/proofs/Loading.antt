-- Zeros are rows without variables, and a row that has none takes an equation.
use mathlib.Core.Path.{◌≡◌, refl, sym, ap, ◌∙◌, subst}
use mathlib.Core.List.{List, [], ◌∷◌, ◌++◌, map}
use Prim.Native.Nat.{ℕ, zero, suc, ◌+◌, ◌-◌, ◌*◌, ◌≤◌, ◌<◌}
use native.Mathlib.Omega.{arith}
use native.Mathlib.Nat.{sub-zero}
use lib.ListN.{length, set, drop, replicate, length-replicate, replicate-append-replicate}
use Rattle.areas.specs.Stretch.{put, cleared}
use Rattle.areas.proofs.Rows.{laid_empty, padded_full}
use Rattle.areas.proofs.Offsets.{row_before}
use Rattle.gf2.specs.Equation.{Each, Equation, eqn, Rising}
use Rattle.answers.specs.Sizes.{row_numbers, row_words}
use Rattle.rows.specs.Picture.{vars_of, length_of, constant_of, Drawn, row_at}
use Rattle.rows.proofs.Put.{parts}
use Rattle.rows.proofs.Holding.{draw, rising_narrow, store}

-- ---- zeros

map-replicate : {A B : Type 0} (f : A → B) (k : ℕ) (a : A) → map f (replicate k a) ≡ replicate k (f a)
map-replicate f zero a = refl
map-replicate f (suc k) a = ap (λ l. f a ∷ l) (map-replicate f k a)

each_replicate : {A : Type 0} (P : A → Type 0) (k : ℕ) (a : A) → P a → Each P (replicate k a)
each_replicate P zero a p = tt
each_replicate P (suc k) a p = (p, each_replicate P k a p)

blank_parts : (n m : ℕ) (rest : List ℕ) → replicate (m * n + n + m) 0 ++ rest ≡ parts n (map vars_of (replicate m (eqn [] 0))) (map length_of (replicate m (eqn [] 0))) ++ rest
blank_parts n m rest =
    rw (map-replicate vars_of m (eqn [] 0), map-replicate length_of m (eqn [] 0), laid_empty n m)
    (ap (λ (l : List ℕ). l ++ rest)
    (sym (ap (λ (l : List ℕ). replicate (m * n) 0 ++ l) (replicate-append-replicate {A = ℕ} n m 0) ∙ replicate-append-replicate {A = ℕ} (m * n) (n + m) 0
    ∙ (let e : m * n + (n + m) ≡ m * n + n + m = omega arith in ap (λ (k : ℕ). replicate k 0) e))))

pub blank_drawn : (n m : ℕ) (numbers words : List ℕ)
    → Drawn n m (replicate m (eqn [] 0)) (drop (row_numbers n m) numbers) (drop (row_words m) words) (cleared (row_numbers n m) numbers) (cleared (row_words m) words)
unfolding cleared
blank_drawn n m numbers words =
    draw n m (replicate m (eqn [] 0)) (drop (row_numbers n m) numbers) (drop (row_words m) words) (cleared (row_numbers n m) numbers) (cleared (row_words m) words)
    (blank_parts n m (drop (row_numbers n m) numbers))
    (ap (λ (l : List ℕ). l ++ drop m words) (sym (map-replicate constant_of m (eqn [] 0))))
    (each_replicate (λ e. Rising 0 n e.vars) m (eqn [] 0) tt) (length-replicate m (eqn [] 0))

pub zeroed_cleared : (room : ℕ) (numbers numbers' : List ℕ) → numbers' ≡ put 0 (replicate (room - 0) 0) numbers → numbers' ≡ cleared room numbers
unfolding put cleared
zeroed_cleared room numbers numbers' e = e ∙ rw (sub-zero room, length-replicate) (let z : 0 + room ≡ room = omega arith in rw z)

-- ---- an equation

module _ {n m : ℕ} {rows : List Equation} {rest rest' numbers words : List ℕ} (d : Drawn n m rows rest rest' numbers words) (i : ℕ) (h : i < m) (vars : List ℕ) (rising : Rising 0 n vars) where
  pub store_short : length vars ≤ n
  store_short = rising_narrow n vars rising

  pub store_fits : i * n + length vars ≤ length numbers
  store_fits = omega (arith, store_short, row_before i m n h, d.numbers_room)

  pub store_done : (c : ℕ) (numbers' : List ℕ) → length (row_at rows i).vars ≡ 0 → numbers' ≡ put (i * n) vars numbers
      → Drawn n m (set rows i (eqn vars c)) rest rest' (set numbers' (m * n + n + i) (length vars)) (set words i c)
  store_done c numbers' z e =
      subst (λ (a : List ℕ). Drawn n m (set rows i (eqn vars c)) rest rest' (set a (m * n + n + i) (length vars)) (set words i c))
      (ap (λ (v : List ℕ). put (i * n) v numbers) (padded_full (length vars) vars refl) ∙ sym e)
      (store d i h (eqn vars c) (length vars) rising (omega arith) (omega arith) store_short)
