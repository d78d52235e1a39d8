use Rattle.std.proofs.Common.{sym, ◌∙◌}
use Rattle.link_edges.specs.Edges.{lent_call}
use Rattle.link_edges.proofs.Threes.{peeling_answer}
use Rattle.link_edges.proofs.solve.peel_lent.Goals as goal

pub returns : goal.returns
unfolding lent_call
returns c =
    let left = c.peel_by_sig_vals_low_mem.ensures in
    record { value = sym (peeling_answer c.peel_by_sig_vals_low_mem.result) ∙ left.answer; solution_after = left.solution_is }
