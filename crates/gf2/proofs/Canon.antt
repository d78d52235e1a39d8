-- The canonical solution: all of its laws under one name.
pub use Rattle.gf2.proofs.Leads.{down_ind, eval_vars_agree, lead_agree, span_lead_agree, canonical_at, canonical_from_rows}
pub use Rattle.gf2.proofs.Isolation.{each_our_part, isolated_general, isolated, isolated_members}
pub use Rattle.gf2.proofs.Smallest.{canonical_unique_general, canonical_unique, canonical_smallest, before_asym, canonical_least}
pub use Rattle.gf2.proofs.Width.{const_of_lt, eval_vars-lt, canonical_lt}
