-- A number and its bytes determine each other, alone and one after the other.
use mathlib.Core.Path.{◌≡◌, refl, sym, ap, ◌∙◌}
use mathlib.Core.List.{List, [], ◌∷◌, ◌++◌, append_assoc}
use Prim.Native.Nat.{ℕ, zero, suc, ◌+◌, ◌*◌, ◌/◌, ◌%◌, ◌≤◌, ◌<◌}
use native.Mathlib.Nat.{mod-add-div}
use native.Mathlib.Omega.{arith}
use lib.ListN.{length, take, drop, length-append, length-drop}
use lib.Seq.{length-take-le, take_at, drop_at, take-add}
use Rattle.gf2.specs.Equation.{Each}
use Rattle.gf2.proofs.Each.{each_take, each_drop}
use Rattle.link_form.specs.Bytes.{little, bytes_of, power, fields, all_bytes}
use Rattle.link_form.specs.Fitting.{AllBytes}

pub length_bytes_of : (w x : ℕ) → length (bytes_of w x) ≡ w
unfolding bytes_of
length_bytes_of zero x = refl
length_bytes_of (suc w) x = ap suc (length_bytes_of w (x / 256))

pub little_bytes_of : (w x : ℕ) → x < power w → little (bytes_of w x) ≡ x
unfolding little bytes_of power
little_bytes_of zero x h = omega arith
little_bytes_of (suc w) x h = rw (little_bytes_of w (x / 256) (omega arith)) (mod-add-div x 256)

pub bytes_of_little : (bytes : List ℕ) → AllBytes bytes → bytes_of (length bytes) (little bytes) ≡ bytes
unfolding little bytes_of
bytes_of_little [] a = refl
bytes_of_little (b ∷ bytes) a =
    let h = a.0 in
    let m : (b + 256 * little bytes) % 256 ≡ b = omega arith in
    let d : (b + 256 * little bytes) / 256 ≡ little bytes = omega arith in
    rw (m, d, bytes_of_little bytes a.1)

pub little_small : (bytes : List ℕ) → AllBytes bytes → little bytes < power (length bytes)
unfolding little power
little_small [] a = omega arith
little_small (b ∷ bytes) a = let h = a.0 in let r = little_small bytes a.1 in omega arith

-- w bytes of those that are there
pub bytes_of_taken : (w : ℕ) (bytes : List ℕ) → AllBytes bytes → w ≤ length bytes → bytes_of w (little (take w bytes)) ≡ take w bytes
bytes_of_taken w bytes a h =
    let e = length-take-le w bytes h in
    ap (λ (n : ℕ). bytes_of n (little (take w bytes))) (sym e) ∙ bytes_of_little (take w bytes) (each_take (λ b. b < 256) bytes w a)

pub taken_small : (w : ℕ) (bytes : List ℕ) → AllBytes bytes → w ≤ length bytes → little (take w bytes) < power w
taken_small w bytes a h =
    let e = length-take-le w bytes h in
    let s : little (take w bytes) < power (length (take w bytes)) = little_small (take w bytes) (each_take (λ b. b < 256) bytes w a) in
    rw e at s

-- ---- numbers one after the other

pub length_all_bytes : (w : ℕ) (xs : List ℕ) → length (all_bytes w xs) ≡ length xs * w
unfolding all_bytes
length_all_bytes w [] = omega arith
length_all_bytes w (x ∷ xs) = let e = length_all_bytes w xs in let b = length_bytes_of w x in simp (length-append, b, e) (omega arith)

pub fields_all_bytes : (w : ℕ) (xs rest : List ℕ) → Each (λ v. v < power w) xs → fields w (length xs) (all_bytes w xs ++ rest) ≡ xs
unfolding fields all_bytes
fields_all_bytes w [] rest a = refl
fields_all_bytes w (x ∷ xs) rest a =
    rw (
      append_assoc (bytes_of w x) (all_bytes w xs) rest,
      take_at (bytes_of w x) (all_bytes w xs ++ rest) w (length_bytes_of w x),
      drop_at (bytes_of w x) (all_bytes w xs ++ rest) w (length_bytes_of w x),
      little_bytes_of w x a.0,
      fields_all_bytes w xs rest a.1,
    )

pub all_bytes_fields : (w k : ℕ) (bytes : List ℕ) → AllBytes bytes → k * w ≤ length bytes → all_bytes w (fields w k bytes) ≡ take (k * w) bytes
unfolding fields all_bytes
all_bytes_fields w zero bytes a h = let z : 0 * w ≡ 0 = omega arith in rw z
all_bytes_fields w (suc k) bytes a h =
    let e : suc k * w ≡ w + k * w = omega arith in
    let l = length-drop w bytes in
    rw (e, take-add w (k * w) bytes, bytes_of_taken w bytes a (omega arith), all_bytes_fields w k (drop w bytes) (each_drop (λ b. b < 256) bytes w a) (omega arith))

pub fields_small : (w k : ℕ) (bytes : List ℕ) → AllBytes bytes → k * w ≤ length bytes → Each (λ v. v < power w) (fields w k bytes)
unfolding fields
fields_small w zero bytes a h = _
fields_small w (suc k) bytes a h =
    let e : suc k * w ≡ w + k * w = omega arith in
    let l = length-drop w bytes in
    (taken_small w bytes a (omega arith), fields_small w k (drop w bytes) (each_drop (λ b. b < 256) bytes w a) (omega arith))
