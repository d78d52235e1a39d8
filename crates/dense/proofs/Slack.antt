-- What lies past the first m rows and constants is not read.
use mathlib.Core.Path.{◌≡◌, refl, ap₂}
use mathlib.Core.List.{List, ◌∷◌, ◌++◌}
use Prim.Native.Nat.{ℕ, zero, suc, ◌+◌, ◌*◌, ◌≤◌}
use native.Mathlib.Nat.{zero-add}
use native.Mathlib.Omega.{arith}
use borrow.Author.Tests.{le-leb}
use lib.ListN.{length, length-append, get_or-append}
use Rattle.areas.proofs.Stretch.{stretch-append_left}
use Rattle.areas.proofs.Offsets.{row_before}
use Rattle.dense_rows.specs.Bits.{Row}
use Rattle.dense_rows.specs.Rows.{row_at, rows_from}
use Rattle.dense_rows.specs.Rules.{dense_rules}
use Rattle.dense.specs.Call.{dense_call}

slack_rows : (k w i m : ℕ) (rows more constants others : List ℕ) → i + k ≡ m → m * w ≤ length rows → m ≤ length constants
    → rows_from k w i (rows ++ more) (constants ++ others) ≡ rows_from k w i rows constants
unfolding rows_from row_at
slack_rows zero w i m rows more constants others e hr hc = refl
slack_rows (suc k) w i m rows more constants others e hr hc =
    let b = row_before i m w (omega arith) in
    let first : row_at w i (rows ++ more) (constants ++ others) ≡ row_at w i rows constants =
    ap₂ (λ (l : List ℕ) (d : ℕ). record { words = l; c = d }) (stretch-append_left (i * w) w rows more (omega arith)) (get_or-append constants others 0 i (omega arith)) in
    ap₂ (λ (r : Row) (l : List Row). r ∷ l) first (slack_rows k w (suc i) m rows more constants others (omega arith) hr hc)

-- words and constants past the first m rows change nothing: neither the answer nor a lent cell
pub slack_unread : (n m w : ℕ) (rows more constants others solution numbers words : List ℕ) → m * w ≤ length rows → m ≤ length constants
    → dense_call n m w (rows ++ more) (constants ++ others) solution numbers words ≡ dense_call n m w rows constants solution numbers words
unfolding dense_call dense_rules
slack_unread n m w rows more constants others solution numbers words hr hc =
    let lr = length-append rows more in
    let lc = length-append constants others in
    let e = slack_rows m w 0 m rows more constants others (zero-add m) hr hc in
    rw (e, le-leb (m * w) (length rows) hr, le-leb m (length constants) hc, le-leb (m * w) (length (rows ++ more)) (omega arith), le-leb m (length (constants ++ others)) (omega arith))
