-- The equations of each variable, one list after the other, and where each begins.
use mathlib.Core.Path.{◌≡◌, refl}
use mathlib.Core.List.{List, []}
use Prim.Native.Nat.{ℕ, zero, suc, ◌+◌, ◌-◌, ◌≤◌, ◌<◌}
use native.Mathlib.Nat.{add-zero, sub_self, le_of_suc-le-suc, not-suc-le-zero}
use native.Mathlib.Omega.{arith}
use lib.ListN.{length, get_or, length-append}
use Rattle.gf2.specs.Equation.{Equation}
use Rattle.areas.specs.Stretch.{stretch}
use Rattle.areas.proofs.Stretch.{stretch_at, stretch-append_right}
use Rattle.lazy.specs.Lazy.{listing}
use Rattle.lazy_setup.specs.Area.{lists_from, starts_from}

-- where the list of the v-th variable from k on begins
abbrev pub start_at : List Equation → ℕ → ℕ → ℕ → ℕ → ℕ
start_at sys a k n v = get_or (starts_from sys a k n) v 0

pub start_next : (sys : List Equation) (a k n v : ℕ) → v < n → start_at sys a k n (suc v) ≡ start_at sys a k n v + length (listing sys (k + v))
unfolding starts_from
start_next sys a k zero v h = absurd (not-suc-le-zero h)
start_next sys a k (suc zero) zero h = rw (add-zero k)
start_next sys a k (suc (suc n)) zero h = rw (add-zero k)
start_next sys a k (suc n) (suc v) h = let e : k + suc v ≡ suc k + v = omega arith in rw e (start_next sys (a + length (listing sys k)) (suc k) n v (le_of_suc-le-suc h))

pub start_from : (sys : List Equation) (a k n v : ℕ) → v ≤ n → a ≤ start_at sys a k n v
unfolding starts_from
start_from sys a k zero zero h = omega arith
start_from sys a k (suc n) zero h = omega arith
start_from sys a k zero (suc v) h = absurd (omega arith)
start_from sys a k (suc n) (suc v) h = let i = start_from sys (a + length (listing sys k)) (suc k) n v (le_of_suc-le-suc h) in omega arith

pub start_within : (sys : List Equation) (a k n v : ℕ) → v ≤ n → start_at sys a k n v ≤ a + length (lists_from sys k n)
unfolding starts_from lists_from
start_within sys a k zero zero h = omega arith
start_within sys a k (suc n) zero h = omega arith
start_within sys a k zero (suc v) h = absurd (omega arith)
start_within sys a k (suc n) (suc v) h =
    let i = start_within sys (a + length (listing sys k)) (suc k) n v (le_of_suc-le-suc h) in
    rw (length-append (listing sys k) (lists_from sys (suc k) n)) (omega arith)

pub list_at : (sys : List Equation) (a k n v : ℕ) → v < n → stretch (start_at sys a k n v - a) (length (listing sys (k + v))) (lists_from sys k n) ≡ listing sys (k + v)
unfolding starts_from lists_from
list_at sys a k zero v h = absurd (not-suc-le-zero h)
list_at sys a k (suc n) zero h =
    rw (add-zero k, sub_self a) (stretch_at 0 (length (listing sys k)) [] (listing sys k) (lists_from sys (suc k) n) refl refl)
list_at sys a k (suc n) (suc v) h =
    let l : ℕ = length (listing sys k) in
    let b : ℕ = start_at sys (a + l) (suc k) n v in
    let i = start_from sys (a + l) (suc k) n v (omega arith) in
    let e : b - a ≡ l + (b - (a + l)) = omega arith in
    let f : k + suc v ≡ suc k + v = omega arith in
    rw (f, e, stretch-append_right (b - (a + l)) (length (listing sys (suc k + v))) (listing sys k) (lists_from sys (suc k) n))
    (list_at sys (a + l) (suc k) n v (le_of_suc-le-suc h))
