-- At each return the tests on the way there pick the case of `sum_call`.
use mathlib.Core.Path.{refl, sym, ◌∙◌}
use mathlib.Core.Logic.{inl, inr}
use Prim.Native.Nat.{◌+◌}
use native.Mathlib.Omega.{arith}
use lib.ListN.{length}
use borrow.Author.Tests.{le-leb, lt-leb}
use Rattle.gf2.specs.Equation.{sym_diff}
use Rattle.gf2.proofs.SymDiff.{length-sym_diff-le}
use Rattle.gf2.proofs.Common.{common_half}
use Rattle.equation.specs.Sums.{sum_call}
use Rattle.equation.proofs.Rise.{rises_increasing}
use Rattle.equation.proofs.Meaning.{sum_large_refused}
use Rattle.equation.proofs.Settle.{settle_front}
use Rattle.equation.proofs.Telling.{sum_tells}
use Rattle.equation.proofs.sum.Goals as goal
use Rattle.equation.proofs.sum.Goals.{then-left-gt-MAX_SUMMED-via-then-left-gt-MAX_SUMMED, then-left-gt-MAX_SUMMED-via-else-left-gt-MAX_SUMMED+then-right-gt-MAX_SUMMED}

pub returns-then-left-gt-MAX_SUMMED : goal.returns-then-left-gt-MAX_SUMMED
returns-then-left-gt-MAX_SUMMED c =
    elim c.then-left-gt-MAX_SUMMED.branch [
      | then-left-gt-MAX_SUMMED-via-then-left-gt-MAX_SUMMED w ↦ rw (sum_large_refused _ _ _ _ _ (inl w.if-left-gt-MAX_SUMMED.true)) sum_tells
      | then-left-gt-MAX_SUMMED-via-else-left-gt-MAX_SUMMED+then-right-gt-MAX_SUMMED w ↦ rw (sum_large_refused _ _ _ _ _ (inr w.if-right-gt-MAX_SUMMED.true)) sum_tells
    ]

pub returns-then-not-increasing : goal.returns-then-not-increasing
unfolding sum_call
returns-then-not-increasing c = simp (le-leb _ _ c.if-left-gt-MAX_SUMMED.false, le-leb _ _ c.if-right-gt-MAX_SUMMED.false, sym c.increasing.ensures ∙ c.if-not-increasing.true) sum_tells

pub returns-then-not-increasing-2 : goal.returns-then-not-increasing-2
unfolding sum_call
returns-then-not-increasing-2 c =
    simp (le-leb _ _ c.if-left-gt-MAX_SUMMED.false, le-leb _ _ c.if-right-gt-MAX_SUMMED.false, sym c.increasing.ensures ∙ c.if-not-increasing.false, sym c.increasing-2.ensures ∙ c.if-not-increasing-2.true) sum_tells

pub returns-then-out-left : goal.returns-then-out-left
unfolding sum_call
returns-then-out-left c =
    simp (le-leb _ _ c.if-left-gt-MAX_SUMMED.false, le-leb _ _ c.if-right-gt-MAX_SUMMED.false, sym c.increasing.ensures ∙ c.if-not-increasing.false, sym c.increasing-2.ensures ∙ c.if-not-increasing-2.false, lt-leb _ _ c.if-out-left.true) sum_tells

pub add_ptr-len-requires : goal.add_ptr-len-requires
add_ptr-len-requires c = let h = length-sym_diff-le c.args.left.now c.args.right.now in omega arith

pub fill-requires : goal.fill-requires
fill-requires c = let h = length-sym_diff-le c.args.left.now c.args.right.now in (omega arith, omega arith)

pub overflow_sub-result : goal.overflow_sub-result
overflow_sub-result c = let h = length-sym_diff-le c.args.left.now c.args.right.now in omega arith

pub returns : goal.returns
unfolding sum_call
returns c =
    let l = c.args.left.now in
    let r = c.args.right.now in
    let g = c.add_ptr-len.ensures in
    let a = sym c.increasing.ensures ∙ c.if-not-increasing.false in
    let b = sym c.increasing-2.ensures ∙ c.if-not-increasing-2.false in
    let shared = common_half l r _ (rises_increasing l a) (rises_increasing r b) refl in
    let h = length-sym_diff-le l r in
    simp (settle_front (sym_diff l r) _ (length l + length r) (omega arith) g.value g.out_after c.fill.ensures, g.value, shared, le-leb _ _ c.if-left-gt-MAX_SUMMED.false, le-leb _ _ c.if-right-gt-MAX_SUMMED.false, a, b, le-leb _ _ c.if-out-left.false) sum_tells
