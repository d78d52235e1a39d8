use Rattle.std.proofs.Common.{true, false, sym, ◌∙◌}
use borrow.Author.Tests.{eq-eqb, ne_eqb}
use Rattle.peel_turns.proofs.StepLaws.{preloading_begin, preloading_turn, preloaded_tops}
use Rattle.peel_turns.proofs.visiting.preload.Goals as goal
use Rattle.peel_turns.proofs.visiting.preload.Goals.{then-degree_at-eq1, else-degree_at-eq1}

pub loop-v-init : goal.loop-v-init
loop-v-init c = preloading_begin c.requires

pub loop-v-preserved : goal.loop-v-preserved
loop-v-preserved c =
    elim c.if-degree_at-eq1.branch [
      | then-degree_at-eq1 w ↦ preloading_turn {one = true} c.loop-v.invariant c.loop-v-test.true c.degree_at.ensures (sym (eq-eqb _ 1 w.if-degree_at-eq1.true)) (w.numbers-is ∙ w.push-top.ensures.area) (w.top-is ∙ w.push-top.ensures.value)
      | else-degree_at-eq1 w ↦ preloading_turn {one = false} c.loop-v.invariant c.loop-v-test.true c.degree_at.ensures (sym (ne_eqb _ 1 w.if-degree_at-eq1.false)) w.numbers-is w.top-is
    ]

pub next_edge-first-requires : goal.next_edge-first-requires
next_edge-first-requires c = preloaded_tops c.loop-v.invariant
