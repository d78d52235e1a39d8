-- Narrow values give narrow cells.
use mathlib.Core.Path.{◌≡◌, refl}
use mathlib.Core.List.{List, [], ◌∷◌}
use mathlib.Core.Bool.{Bool, true, false}
use Prim.Native.Nat.{ℕ, ◌^◌, ◌<◌}
use lib.ListN.{length, get_or, set, replicate}
use lib.Seq.{get_or-set_same, get_or-set_other, set_out}
use lib.Bits.{xor_lt}
use lib.Dec.{eqb, ltb}
use borrow.Author.Tests.{ltb-true, ltb-false, eqb-true, eqb-false}
use lib.Pow.{pow_pos}
use Rattle.peel_rules.specs.Peel.{Peeled, peel, fill_one, fill, solved, answer}
use Rattle.peel_rules.proofs.PeelSolved.{edges_of, peel_all, solved_is}
use Rattle.gf2.specs.Equation.{Each}
use Rattle.gf2.proofs.OneValue.{zeros_at}
use Rattle.peel_rules.specs.Edges.{pivot, first, second}
use Rattle.peeling.specs.declared.numbers.Edge.{Edge}

module _ (k : ℕ) where
  abbrev Narrow : List ℕ → Type 0
  Narrow x = (w : ℕ) → get_or x w 0 < 2 ^ k

  set_narrow : (x : List ℕ) (v a : ℕ) → Narrow x → a < 2 ^ k → Narrow (set x v a)
  set_narrow x v a h b w = go (eqb w v) refl (ltb v (length x)) refl
    where
      go : (p : Bool) → eqb w v ≡ p → (c : Bool) → ltb v (length x) ≡ c → get_or (set x v a) w 0 < 2 ^ k
      go true p true q = rw (eqb-true w v p, get_or-set_same x v a 0 (ltb-true v (length x) q)) b
      go true p false q = rw (set_out x v a (ltb-false v (length x) q)) (h w)
      go false p c q = rw (get_or-set_other x v w a 0 (eqb-false w v p)) (h w)

  fill_narrow : (ps : List Peeled) (x : List ℕ) → Each (λ e. e.value < 2 ^ k) (edges_of ps) → Narrow x → Narrow (fill ps x)
  unfolding fill fill_one
  fill_narrow [] x v h = h
  fill_narrow (p ∷ ps) x v h = fill_narrow ps (fill_one p x) v.1
      (set_narrow x (pivot p.side p.edge) _ h (xor_lt k p.edge.value _ v.0 (xor_lt k _ _ (h (first p.side p.edge)) (h (second p.side p.edge)))))

  -- W
  pub answer_narrow : (n : ℕ) (es : List Edge) (x : List ℕ) → Each (λ e. e.value < 2 ^ k) es → answer n es ≡ solved x → (w : ℕ) → get_or x w 0 < 2 ^ k
  answer_narrow n es x v h w =
      rw (solved_is n es h).1 (fill_narrow (peel n es).peeled (replicate n 0) (peel_all (λ e. e.value < 2 ^ k) n es v).gone (λ i. rw (zeros_at n i) (pow_pos k)) w)
