-- A row more is cleared, where it has the column or has it not.
use mathlib.Core.Bool.{not}
use lib.Dec.{eqb}
use Rattle.std.proofs.Common.{sym, ap, ◌∙◌, ◌⊎◌, ◌+◌, ◌*◌, ◌<◌, ◌≤◌, length, ⊎_elim, inl, inr, arith}
use Rattle.gf2.proofs.Tests.{eqb_ne}
use Rattle.dense_rows.proofs.BitTest.{bit_tested}
use Rattle.dense_steps.proofs.Clearing.{became_same, cleared_none, clear_skip, clear_turn}
use Rattle.dense_steps.proofs.clear_rows_in.Goals as goal
use Rattle.dense_steps.proofs.clear_rows_in.Goals.{then-words-i-ne0, else-words-i-ne0}

pub loop-i-init : goal.loop-i-init
loop-i-init c = let a = c.args in became_same (sym (cleared_none a.col a.word a.pivot a.from _))

pub loop-i-preserved : goal.loop-i-preserved
loop-i-preserved c =
    let a = c.args in
    let i = c.loop-i.i in
    let long = c.loop-i.invariant.long in
    let room : a.m * a.w + a.m ≤ length c.loop-i.words = omega (arith, c.requires.6) in
    let apart : (a.pivot < a.from) ⊎ (i < a.pivot) = ⊎_elim (λ l. inl l) (λ l. inr (omega arith)) c.requires.5 in
    let test = bit_tested a.m a.w a.col i c.loop-i.words room c.requires.0 (omega arith) in
    elim c.if-words-i-ne0.branch [
      | then-words-i-ne0 w ↦ rw w.words-is
          (clear_turn a.m a.w a.col a.word a.pivot a.from i c.loop-i.invariant (omega arith) (omega arith) apart (sym test ∙ ap not (eqb_ne _ 0 w.if-words-i-ne0.true)) w.xor_row_in.ensures)
      | else-words-i-ne0 w ↦ rw w.words-is
          (clear_skip a.m a.w a.col a.word a.pivot a.from i c.loop-i.invariant (omega arith) (omega arith) apart (sym test ∙ ap (λ x. not (eqb x 0)) w.if-words-i-ne0.false))
    ]
