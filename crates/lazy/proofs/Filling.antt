-- The solved equations are filled in: each is met, and nothing else is written.
use mathlib.Core.Path.{◌≡◌, refl, sym, ap, ◌∙◌}
use mathlib.Core.Logic.{◌≢◌, ◌⊎◌, inl, inr}
use mathlib.Core.List.{List, [], ◌∷◌, map}
use mathlib.Core.Bool.{true, false, ◌&&◌, ◌||◌, true≢false, false≢true}
use Prim.Native.Nat.{ℕ, ◌<◌, ◌^◌}
use lib.ListN.{length, get_or, set, length-set}
use lib.Seq.{get_or-set_other}
use lib.Bits.{bit_xor, xor_lt}
use lib.Dec.{eqb}
use Rattle.gf2.specs.ByNumber.{row_of}
use Rattle.gf2.specs.Equation.{Equation, Increasing, eval_vars, lists, Meets}
use Rattle.gf2.specs.NumberLists.{Distinct}
use Rattle.lazy.specs.Invariant.{solves}
use Rattle.lazy.specs.Lazy.{Solved, fill}
use Rattle.gf2.proofs.Members.{or_false, or_true, and_true, or_r, listed_differ, head_listed, increasing_distinct}
use Rattle.gf2.proofs.OneValue.{eval_vars_same, set_meets, Small, set_small, eval_vars_small}
use Rattle.gf2.proofs.Tests.{eqb_same, eqb_true, not_true→false}

module _ (rows : List Equation) where
  pub length_fill : (ds : List Solved) (x : List ℕ) → length (fill rows ds x) ≡ length x
  unfolding fill
  length_fill [] x = refl
  length_fill (d ∷ ds) x =
      length_fill ds (set x d.pivot (bit_xor (row_of rows d.equation).c (eval_vars (row_of rows d.equation).vars x)))
      ∙ length-set x d.pivot (bit_xor (row_of rows d.equation).c (eval_vars (row_of rows d.equation).vars x))

  pub fill_other : (ds : List Solved) (x : List ℕ) (v : ℕ) → lists v (map (λ d. d.pivot) ds) ≡ false → get_or (fill rows ds x) v 0 ≡ get_or x v 0
  unfolding fill lists
  fill_other [] x v h = refl
  fill_other (d ∷ ds) x v h =
      let k = or_false (eqb v d.pivot) (lists v (map (λ d. d.pivot) ds)) h in
      fill_other ds (set x d.pivot (bit_xor (row_of rows d.equation).c (eval_vars (row_of rows d.equation).vars x))) v k.1
      ∙ get_or-set_other x d.pivot v (bit_xor (row_of rows d.equation).c (eval_vars (row_of rows d.equation).vars x)) 0
      (λ p. true≢false (sym (ap (λ y. eqb y d.pivot) p ∙ eqb_same d.pivot) ∙ k.0))

  -- each row lists its own pivot and none of the others
  pub fill_meets : (ds : List Solved) (x : List ℕ) → Distinct (map (λ d. d.pivot) ds)
      → ((v : ℕ) → lists v (map (λ d. d.pivot) ds) ≡ true → (get_or x v 0 ≡ 0) × (v < length x))
      → ((e : ℕ) → Increasing (row_of rows e).vars)
      → ((e v : ℕ) → solves ds e v ≡ true → lists v (row_of rows e).vars ≡ true)
      → ((e v w : ℕ) → solves ds e v ≡ true → lists w (map (λ d. d.pivot) ds) ≡ true → w ≢ v → lists w (row_of rows e).vars ≡ false)
      → (e v : ℕ) → solves ds e v ≡ true → Meets (fill rows ds x) (row_of rows e)
  unfolding fill solves lists
  fill_meets [] x d z inc own alone e v h = absurd (false≢true h)
  fill_meets (c ∷ ds) x d z inc own alone e v h =
      go (fill_meets ds x1 d.1 z1 inc (λ f w k. own f w (later f w k)) (λ f w u k l. alone f w u (later f w k) (or_r (eqb u c.pivot) l)) e v)
      (or_true (eqb e c.equation && eqb v c.pivot) (solves ds e v) h)
    where
      r : Equation
      r = row_of rows c.equation

      x1 : List ℕ
      x1 = set x c.pivot (bit_xor r.c (eval_vars r.vars x))

      later : (f w : ℕ) → solves ds f w ≡ true → ((eqb f c.equation && eqb w c.pivot) || solves ds f w) ≡ true
      later f w k = or_r (eqb f c.equation && eqb w c.pivot) k

      z1 : (w : ℕ) → lists w (map (λ d. d.pivot) ds) ≡ true → (get_or x1 w 0 ≡ 0) × (w < length x1)
      z1 w k =
          let q = z w (or_r (eqb w c.pivot) k) in (
            get_or-set_other x c.pivot w (bit_xor r.c (eval_vars r.vars x)) 0 (listed_differ w c.pivot (map (λ d. d.pivot) ds) k d.0) ∙ q.0,
            rw (length-set x c.pivot (bit_xor r.c (eval_vars r.vars x))) q.1,
          )

      first : solves (c ∷ ds) c.equation c.pivot ≡ true
      first = rw (eqb_same c.equation, eqb_same c.pivot)

      -- the row lists no pivot that is filled later
      kept : (u : ℕ) → lists u r.vars ≡ true → lists u (map (λ d. d.pivot) ds) ≡ false
      kept u k =
          not_true→false (lists u (map (λ d. d.pivot) ds)) (λ l.
          true≢false (sym k ∙ alone c.equation c.pivot u first (or_r (eqb u c.pivot) l) (listed_differ u c.pivot (map (λ d. d.pivot) ds) l d.0)))

      now : Meets (fill rows ds x1) r
      now =
          let q = z c.pivot (head_listed c.pivot (map (λ d. d.pivot) ds)) in
          eval_vars_same r.vars (fill rows ds x1) x1 (λ u k. fill_other ds x1 u (kept u k))
          ∙ set_meets r x c.pivot (increasing_distinct r.vars (inc c.equation)) (own c.equation c.pivot first) q.0 q.1

      go : (solves ds e v ≡ true → Meets (fill rows ds x1) (row_of rows e)) → ((eqb e c.equation && eqb v c.pivot) ≡ true) ⊎ (solves ds e v ≡ true)
          → Meets (fill rows ds x1) (row_of rows e)
      go ih (inl k) = rw (eqb_true e c.equation (and_true (eqb e c.equation) (eqb v c.pivot) k).0) now
      go ih (inr k) = ih k

-- constants and values of k digits give values of k digits
pub fill_small : (k : ℕ) (rows : List Equation) → ((e : ℕ) → (row_of rows e).c < 2 ^ k) → (ds : List Solved) (x : List ℕ) → Small k x → Small k (fill rows ds x)
unfolding fill
fill_small k rows h [] x s = s
fill_small k rows h (d ∷ ds) x s =
    fill_small k rows h ds (set x d.pivot (bit_xor (row_of rows d.equation).c (eval_vars (row_of rows d.equation).vars x)))
    (set_small k x d.pivot (bit_xor (row_of rows d.equation).c (eval_vars (row_of rows d.equation).vars x))
    (xor_lt k (row_of rows d.equation).c (eval_vars (row_of rows d.equation).vars x) (h d.equation) (eval_vars_small k (row_of rows d.equation).vars x s)) s)
