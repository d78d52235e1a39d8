use Rattle.areas.specs.Stretch.{stretch}
use Rattle.link_form.proofs.rows.Rows.number.Goals as goal

pub returns-clause-value : goal.returns-clause-value
unfolding stretch
returns-clause-value c = c.read_number-number.ensures.value
