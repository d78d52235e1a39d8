-- The rows, the lengths and the constants are zeroed: the room is zero, since the scratch row was.
use mathlib.Core.Path.{◌≡◌, sym, ap, ◌∙◌}
use mathlib.Core.List.{List, ◌++◌, append_assoc, map}
use Prim.Native.Nat.{ℕ, ◌+◌, ◌*◌}
use native.Mathlib.Nat.{zero-add, sub-zero, add-sub_cancel_left}
use native.Mathlib.Omega.{arith}
use lib.ListN.{length, replicate, length-append, length-replicate, replicate-append-replicate}
use Rattle.areas.specs.Stretch.{put, zeroed, cleared}
use Rattle.areas.specs.Rows.{laid}
use Rattle.areas.proofs.Rows.{length_laid}
use Rattle.areas.proofs.Stretch.{put_at, put_all, put-append_left}
use Rattle.gf2.specs.Equation.{Equation}
use Rattle.answers.specs.Sizes.{row_numbers}
use Rattle.rows.specs.Picture.{vars_of, length_of, Drawn}
use Rattle.rows.proofs.Holding.{as_parts, narrow, many, all, past_numbers}

module _ {n m : ℕ} {rows : List Equation} {rest rest' numbers words : List ℕ} (d : Drawn n m rows rest rest' numbers words) where
  pub emptied : (numbers₁ numbers₂ : List ℕ) → numbers₁ ≡ zeroed 0 (0 + m * n) numbers → numbers₂ ≡ zeroed (m * n + n) (m * n + n + m) numbers₁ → numbers₂ ≡ cleared (row_numbers n m) numbers
  unfolding cleared
  emptied numbers₁ numbers₂ e f =
      let held : List ℕ = laid n (map vars_of rows) in
      let lens : List ℕ = map length_of rows in
      let long : length (laid n (map vars_of rows)) ≡ m * n = length_laid n (map vars_of rows) (narrow d) ∙ ap (λ (k : ℕ). k * n) (many d) in
      let z : length (replicate {A = ℕ} (m * n) 0) ≡ m * n = length-replicate (m * n) 0 in
      let z' : length (replicate {A = ℕ} n 0) ≡ n = length-replicate n 0 in
      let first : numbers₁ ≡ replicate (m * n) 0 ++ (replicate n 0 ++ (lens ++ rest)) =
      e
      ∙ rw (zero-add (m * n), sub-zero (m * n))
      (ap (put 0 (replicate (m * n) 0)) (as_parts d ∙ append_assoc held (replicate n 0 ++ lens) rest ∙ ap (λ (l : List ℕ). held ++ l) (append_assoc (replicate n 0) lens rest))
      ∙ put-append_left 0 (replicate (m * n) 0) held (replicate n 0 ++ (lens ++ rest)) (omega arith)
      ∙ ap (λ (l : List ℕ). l ++ (replicate n 0 ++ (lens ++ rest))) (put_all (replicate (m * n) 0) held (z ∙ sym long))) in
      let head : length (replicate {A = ℕ} (m * n) 0 ++ replicate n 0) ≡ m * n + n = length-append (replicate (m * n) 0) (replicate n 0) ∙ omega arith in
      f
      ∙ rw (add-sub_cancel_left (m * n + n) m)
      (ap (put (m * n + n) (replicate m 0)) (first ∙ sym (append_assoc (replicate (m * n) 0) (replicate n 0) (lens ++ rest)))
      ∙ put_at (m * n + n) (replicate m 0) (replicate (m * n) 0 ++ replicate n 0) lens rest head (length-replicate m 0 ∙ sym (all d))
      ∙ sym (append_assoc (replicate (m * n) 0 ++ replicate n 0) (replicate m 0) rest)
      ∙ ap (λ (l : List ℕ). l ++ rest) (ap (λ (l : List ℕ). l ++ replicate m 0) (replicate-append-replicate (m * n) n 0) ∙ replicate-append-replicate (m * n + n) m 0)
      ∙ ap (λ (l : List ℕ). replicate (m * n + n + m) 0 ++ l) (sym (past_numbers d)))
