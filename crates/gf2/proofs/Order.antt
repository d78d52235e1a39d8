-- Increasing lists by neighbours and by index, and rising lists as increasing ones.
use mathlib.Core.List.{List, [], ◌∷◌, ◌++◌}
use Prim.Native.Nat.{ℕ, zero, suc, ◌+◌, ◌<◌, ◌≤◌, zero-le, suc-le-suc}
use native.Mathlib.Nat.{not-suc-le-zero, le_of_suc-le-suc}
use native.Mathlib.Omega.{arith}
use lib.ListN.{get_or, length, drop}
use Rattle.gf2.specs.Equation.{Equation, Each, Above, Increasing, Rising, Sorted, Below}
use Rattle.gf2.proofs.Each.{each_map}
use Rattle.gf2.proofs.VarLists.{above_trans}

first_above : (v : ℕ) (vs : List ℕ) → (zero < length vs → v < get_or vs zero 0) → Increasing vs → Above v vs
first_above v [] f h = tt
first_above v (u ∷ us) f h = let l : v < u = f (suc-le-suc zero-le) in (l, above_trans us l h.0)

pub increasing_from : (vs : List ℕ) → ((i : ℕ) → suc i < length vs → get_or vs i 0 < get_or vs (suc i) 0) → Increasing vs
increasing_from [] f = tt
increasing_from (v ∷ vs) f =
    let h : Increasing vs = increasing_from vs (λ i l. f (suc i) (suc-le-suc l)) in
    (first_above v vs (λ l. f zero (suc-le-suc l)) h, h)

pub above_at : (v : ℕ) (vs : List ℕ) (i : ℕ) → i < length vs → Above v vs → v < get_or vs i 0
above_at v [] i l h = absurd (not-suc-le-zero l)
above_at v (u ∷ us) zero l h = h.0
above_at v (u ∷ us) (suc i) l h = above_at v us i (le_of_suc-le-suc l) h.1

-- the i-th variable is below the j-th
pub increasing_at : (vs : List ℕ) (i j : ℕ) → i < j → j < length vs → Increasing vs → get_or vs i 0 < get_or vs j 0
increasing_at [] i j h l k = absurd (not-suc-le-zero l)
increasing_at (v ∷ vs) i zero h l k = absurd (not-suc-le-zero h)
increasing_at (v ∷ vs) zero (suc j) h l k = above_at v vs j (le_of_suc-le-suc l) k.0
increasing_at (v ∷ vs) (suc i) (suc j) h l k = increasing_at vs i j (le_of_suc-le-suc h) (le_of_suc-le-suc l) k.1

pub increasing_drop : (vs : List ℕ) (i : ℕ) → Increasing vs → Increasing (drop i vs)
increasing_drop vs zero h = h
increasing_drop [] (suc i) h = tt
increasing_drop (v ∷ vs) (suc i) h = increasing_drop vs i h.1

-- the i-th variable is below all that follow it
pub above_drop : (vs : List ℕ) (i : ℕ) → i < length vs → Increasing vs → Above (get_or vs i 0) (drop (suc i) vs)
above_drop [] i l h = absurd (not-suc-le-zero l)
above_drop (v ∷ vs) zero l h = h.0
above_drop (v ∷ vs) (suc i) l h = above_drop vs i (le_of_suc-le-suc l) h.1

-- one more at the end
pub increasing_snoc : (vs : List ℕ) (v : ℕ) → Increasing vs → Each (λ u. u < v) vs → Increasing (vs ++ (v ∷ []))
increasing_snoc [] v h k = (tt, tt)
increasing_snoc (u ∷ us) v h k = (go us h.0, increasing_snoc us v h.1 k.1)
  where
    go : (l : List ℕ) → Above u l → Above u (l ++ (v ∷ []))
    go [] q = (k.0, tt)
    go (w ∷ ws) q = (q.0, go ws q.1)

pub above_drop_first : (v : ℕ) (b : List ℕ) (j : ℕ) → Increasing b → (j < length b → v < get_or b j 0) → Above v (drop j b)
above_drop_first v [] zero h f = tt
above_drop_first v [] (suc j) h f = tt
above_drop_first v (u ∷ us) zero h f = let l : v < u = f (suc-le-suc zero-le) in (l, above_trans us l h.0)
above_drop_first v (u ∷ us) (suc j) h f = above_drop_first v us j h.1 (λ l. f (suc-le-suc l))

-- a row has at most as many variables as there are
pub increasing_length : (k n : ℕ) (vs : List ℕ) → k ≤ n → Increasing vs → Each (λ u. (k ≤ u) × (u < n)) vs → length vs + k ≤ n
increasing_length k n [] l h w = omega arith
increasing_length k n (v ∷ vs) l h w = let ih = increasing_length (suc v) n vs w.0.1 h.1 (both vs h.0 w.1) in omega arith
  where
    both : (us : List ℕ) → Above v us → Each (λ u. (k ≤ u) × (u < n)) us → Each (λ u. (suc v ≤ u) × (u < n)) us
    both [] p q = tt
    both (u ∷ us) p q = ((p.0, q.0.1), both us p.1 q.1)

-- ---- rising is increasing, from b on and below n

pub rising_above : (v n : ℕ) (vs : List ℕ) → Rising (suc v) n vs → Above v vs
rising_above v n [] r = tt
rising_above v n (u ∷ us) r = (r.0, above_trans us r.0 (rising_above u n us r.2))

pub rising_increasing : (b n : ℕ) (vs : List ℕ) → Rising b n vs → Increasing vs
rising_increasing b n [] r = tt
rising_increasing b n (v ∷ vs) r = (rising_above v n vs r.2, rising_increasing (suc v) n vs r.2)

pub rising_below : (b n : ℕ) (vs : List ℕ) → Rising b n vs → Each (λ u. u < n) vs
rising_below b n [] r = tt
rising_below b n (v ∷ vs) r = (r.1, rising_below (suc v) n vs r.2)

pub increasing_rising : (b n : ℕ) (vs : List ℕ) → Each (λ u. b ≤ u) vs → Increasing vs → Each (λ u. u < n) vs → Rising b n vs
increasing_rising b n [] f h k = tt
increasing_rising b n (v ∷ vs) f h k = (f.0, k.0, increasing_rising (suc v) n vs h.0 h.1 k.1)

from_zero : (vs : List ℕ) → Each (λ u. 0 ≤ u) vs
from_zero [] = tt
from_zero (v ∷ vs) = (zero-le, from_zero vs)

pub below_rising : (n : ℕ) (vs : List ℕ) → Increasing vs → Each (λ u. u < n) vs → Rising 0 n vs
below_rising n vs = increasing_rising 0 n vs (from_zero vs)

-- ---- the same of each row

pub rising_sorted : (n : ℕ) (rows : List Equation) → Each (λ r. Rising 0 n r.vars) rows → Sorted rows
rising_sorted n rows h = each_map rows (λ r. rising_increasing 0 n r.vars) h

pub rising_belows : (n : ℕ) (rows : List Equation) → Each (λ r. Rising 0 n r.vars) rows → Below n rows
rising_belows n rows h = each_map rows (λ r. rising_below 0 n r.vars) h

pub rising_both : (n : ℕ) (rows : List Equation) → Sorted rows → Below n rows → Each (λ r. Rising 0 n r.vars) rows
rising_both n [] s b = tt
rising_both n (r ∷ rows) s b = (below_rising n r.vars s.0 b.0, rising_both n rows s.1 b.1)
