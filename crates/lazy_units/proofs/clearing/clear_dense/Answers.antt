use Rattle.lazy_units.proofs.Tails.{clear_asks, clear_gives, clear_counts}
use Rattle.lazy_units.proofs.clearing.clear_dense.Goals as goal

pub outer_row-requires : goal.outer_row-requires
outer_row-requires c = clear_asks c.requires

pub returns : goal.returns
returns c = record { cleared = clear_gives c.requires _ _ _ c.outer_row.ensures.reduces; cancelled_value = clear_counts c.requires c.outer_row.ensures.cancelled_value }
