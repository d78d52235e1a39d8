-- What is left of the rows is finished, and what the elimination of rows comes to.
use mathlib.Core.Path.{◌≡◌, refl, sym, ap, ◌∙◌, subst}
use mathlib.Core.Bool.{Bool, true, false}
use mathlib.Core.List.{List, ◌++◌}
use Prim.Native.Nat.{ℕ, ◌-◌, ◌≤◌}
use native.Mathlib.Omega.{arith}
use native.Mathlib.Nat.{sub-zero}
use lib.ListN.{length, take, drop, replicate, length-append, length-drop, length-replicate}
use lib.Seq.{take_at}
use Rattle.areas.specs.Stretch.{put}
use Rattle.areas.proofs.Stretch.{put_all}
use Rattle.gf2.specs.Equation.{Equation}
use Rattle.gf2.specs.Result.{Result, unsolvable, ok}
use Rattle.rows.specs.Picture.{Kept, Held, rows_of}
use Rattle.rows.proofs.Holding.{rest_kept, rows_are, held}
use Rattle.sparse_rules.specs.Eliminate.{contradicted, back_sub, finish, echelon_form, gaussian_elimination}
use Rattle.sparse_rows.specs.Reduce.{ReducedBy, refused, reduced, FinishedBy, left, filled}
use Rattle.std.specs.Prelude.{Ok, Err, is_err}
use Rattle.sparse_rows.specs.Reduction.{Reduction, Unsolvable, Reduced, Outcome, reduction_of}

-- ---- the result of the code, by the library's test

pub error_refused : (r : Outcome) → is_err r ≡ true → reduction_of r ≡ Unsolvable
error_refused (Ok x) e = absurd (cc)
error_refused (Err x) e = refl

pub no_error_reduced : (r : Outcome) → is_err r ≡ false → reduction_of r ≡ Reduced
no_error_reduced (Ok x) e = refl
no_error_reduced (Err x) e = absurd (cc)

-- ---- the end of the rows

finish_bad : (n : ℕ) (rows : List Equation) → contradicted rows ≡ true → finish n rows ≡ unsolvable
unfolding finish
finish_bad n rows e = rw (e, finish)

finish_good : (n : ℕ) (rows : List Equation) → contradicted rows ≡ false → finish n rows ≡ ok (back_sub rows (replicate n 0))
unfolding finish
finish_good n rows e = rw (e, finish)

pub finish_stop : (n : ℕ) (rows : List Equation) (x : List ℕ) {r : Bool} → r ≡ contradicted rows → r ≡ true → FinishedBy (finish n rows) x x Unsolvable
finish_stop n rows x e t = left (finish_bad n rows (sym e ∙ t)) refl

pub zeros_all : (n : ℕ) (x x' : List ℕ) → length x ≡ n → x' ≡ put 0 (replicate (n - 0) 0) x → x' ≡ replicate n 0
zeros_all n x x' l e = e ∙ rw (sub-zero n) (put_all (replicate n 0) x (length-replicate n 0 ∙ sym l))

pub finish_done : (n : ℕ) (rows : List Equation) (x x₁ x' : List ℕ) {r : Bool} → r ≡ contradicted rows → r ≡ false → x₁ ≡ replicate n 0 → x' ≡ back_sub rows x₁ → FinishedBy (finish n rows) x x' Reduced
finish_done n rows x x₁ x' e f z b = filled (finish_good n rows (sym e ∙ f) ∙ ap {B = Result (List ℕ)} ok (sym (b ∙ ap (back_sub rows) z)))

-- ---- the whole

whole_stop : (n : ℕ) (es : List Equation) → echelon_form es ≡ unsolvable → gaussian_elimination n es ≡ unsolvable
unfolding gaussian_elimination
whole_stop n es e = rw (e, gaussian_elimination)

whole_finish : (n : ℕ) (es rows : List Equation) → echelon_form es ≡ ok rows → gaussian_elimination n es ≡ finish n rows
unfolding gaussian_elimination
whole_finish n es rows e = rw (e, gaussian_elimination)

module _ {n m d : ℕ} {rows : List Equation} {rest rest' numbers words : List ℕ} (g : d ≤ m) (many : length rows ≡ m) where
  pub solve_stop : {r : Reduction} (x : List ℕ) → ReducedBy n m d rows rest rest' (echelon_form (take d rows)) numbers words r → r ≡ Unsolvable
      → FinishedBy (gaussian_elimination n (take d rows)) x x Unsolvable × Kept n m rest rest' numbers words
  solve_stop x (refused e k) p = (left (whole_stop n (take d rows) e) refl, k)
  solve_stop x (reduced rows' e k) p = absurd (let z : ◌≡◌ {A = ℕ} 0 1 = cc in omega arith)

  pub solve_held : {r : Reduction} → ReducedBy n m d rows rest rest' (echelon_form (take d rows)) numbers words r → r ≡ Reduced → Held n m numbers words
  solve_held (refused e k) p = absurd (let z : ◌≡◌ {A = ℕ} 0 1 = cc in omega arith)
  solve_held (reduced rows' e k) p = held k

  pub solve_done : {r r' : Reduction} (x x' : List ℕ) → ReducedBy n m d rows rest rest' (echelon_form (take d rows)) numbers words r → r ≡ Reduced
      → FinishedBy (finish n (take d (rows_of n m numbers words))) x x' r' → FinishedBy (gaussian_elimination n (take d rows)) x x' r' × Kept n m rest rest' numbers words
  solve_done x x' (refused e k) p f = absurd (let z : ◌≡◌ {A = ℕ} 0 1 = cc in omega arith)
  solve_done {r} {r'} x x' (reduced rows' e k) p f =
      let all : length (rows' ++ drop d rows) ≡ m = k.count in
      let long : length rows' ≡ d = omega (arith, length-append rows' (drop d rows), length-drop d rows) in (
        subst (λ (o : Result (List ℕ)). FinishedBy o x x' r')
            (ap (λ (l : List Equation). finish n (take d l)) (rows_are k) ∙ ap (finish n) (take_at rows' (drop d rows) d long) ∙ sym (whole_finish n (take d rows) rows' e)) f,
        rest_kept k,
      )
