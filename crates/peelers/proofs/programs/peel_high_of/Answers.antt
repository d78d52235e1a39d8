use Rattle.std.proofs.Common.{◌≡◌, ◌∙◌, List, length, take, ap, subst}
use Rattle.peeling.specs.declared.numbers.Edge.{Edge}
use Rattle.peel_gates.specs.Ends.{peeling_of}
use Rattle.peel_rules.specs.Calls.{peel_high_call}
use Rattle.peel_runs.specs.Runs.{Leaves}
use Rattle.peelers.proofs.ProgramLaws.{first_256}
use Rattle.peelers.proofs.programs.peel_high_of.Goals as goal

pub returns : goal.returns
returns c =
    let r = c.peel_by_sig_vals_high_mem in
    let count : length c.args.table ≡ 256 = c.well_formed.0.1.0.1 in
    subst (λ (t : List Edge). Leaves (peel_high_call c.args.n t c.args.solution.now c.args.numbers.now c.args.bytes.now) (peeling_of r.result) r.new.solution r.new.numbers r.new.bytes)
    (ap (λ k. take k c.args.table) c.at_most_256-k.ensures ∙ first_256 c.args.m c.args.table count) r.ensures
