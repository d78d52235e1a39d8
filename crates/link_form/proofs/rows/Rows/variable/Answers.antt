use Rattle.std.proofs.Common.{rules}
use Rattle.link_form.proofs.Reading.{narrow_fits}
use Rattle.link_form.proofs.rows.Rows.variable.Goals as goal

pub overflow_cast-result : goal.overflow_cast-result
overflow_cast-result c =
    let h = narrow_fits c.args.self.now.width c.number.result c.args.self.now.narrow c.number.ensures.upper_bound in
    search rules
