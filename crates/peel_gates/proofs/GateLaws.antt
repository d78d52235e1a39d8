-- The lowest bad edge is the place that the library's search finds.
use Rattle.std.proofs.Common.{◌≡◌, refl, List, ◌∷◌, Bool, true, false, ℕ, suc, ◌+◌, ◌<◌, ◌≤◌, length, cond, not, nat_lt, arith}
use Rattle.std.proofs.Common.{sym, Option, Some, None, MatchOption}
use Rattle.std.specs.Option.{unwrap_or}
use Rattle.std.specs.List.{position, position_or_len}
use Rattle.std.proofs.lemmas.List.Recursion.{is_position_or_len}
use Rattle.std.proofs.lemmas.List.Sums.{prefix_len-le-length}
use borrow.Author.Tests.{ltb-true, ltb-false}
use Rattle.peeling.specs.declared.numbers.Edge.{Edge}
use Rattle.peel_rules.specs.Edges.{is_valid, bad_edge}

bad_counts : (n : ℕ) (e : Edge) (es : List Edge) → bad_edge n (e ∷ es) ≡ cond (not (is_valid n e)) 0 (1 + bad_edge n es)
unfolding bad_edge
bad_counts n e es = go (is_valid n e)
  where
    go : (b : Bool) → cond b (suc (bad_edge n es)) 0 ≡ cond (not b) 0 (1 + bad_edge n es)
    go true = omega arith
    go false = refl

pub bad_is_position : (n : ℕ) (es : List Edge) {r : Option ℕ} → r ≡ position (λ e. not (is_valid n e)) es
    → MatchOption r (bad_edge n es ≡ length es) (λ i. (bad_edge n es ≡ i) × (i < length es))
unfolding bad_edge
bad_is_position n es h = rw h (go (nat_lt k (length es)) refl)
  where
    k : ℕ
    k = position_or_len (λ e. not (is_valid n e)) es

    is : bad_edge n es ≡ k
    is = is_position_or_len (bad_edge n) (λ e. not (is_valid n e)) refl (bad_counts n) es

    go : (b : Bool) → nat_lt k (length es) ≡ b → MatchOption (cond b (Some k) None) (bad_edge n es ≡ length es) (λ i. (bad_edge n es ≡ i) × (i < length es))
    go true q = (is, ltb-true k (length es) q)
    go false q = let le : k ≤ length es = prefix_len-le-length _ es in omega (arith, is, ltb-false k (length es) q)

-- an option that holds the count where it is below the end is the count, with the end for none
pub counted_or : (k m : ℕ) (r : Option ℕ) → MatchOption r (k ≡ m) (λ i. (k ≡ i) × (i < m)) → unwrap_or r m ≡ k
counted_or k m None e = sym e
counted_or k m (Some i) e = sym e.0
