-- Where rows of n numbers begin and end: products of offsets, for `omega`'s list.
use mathlib.Core.Path.{◌≡◌}
use Prim.Native.Nat.{ℕ, ◌+◌, ◌*◌, ◌<◌, ◌≤◌}
use native.Mathlib.Nat.{mul-le-mul_right, suc-mul, add-mul, one-mul}
use native.Mathlib.Omega.{arith}

-- the row after row i begins where row i ends
pub row_next : (i n : ℕ) → (i + 1) * n ≡ i * n + n
row_next i n = rw (add-mul i 1 n, one-mul n)

-- a row ends before a later one begins, and inside m rows
pub row_before : (i j n : ℕ) → i < j → i * n + n ≤ j * n
row_before i j n h = omega (arith, mul-le-mul_right n h, suc-mul i n)

-- the same where j counts the rows that lie before something
pub row_begins : (i j n : ℕ) → i ≤ j → i * n ≤ j * n
row_begins i j n h = mul-le-mul_right n h

-- a place inside a row
pub row_place : (i m n k : ℕ) → i < m → k < n → i * n + k < m * n
row_place i m n k h g = omega (arith, row_before i m n h)
