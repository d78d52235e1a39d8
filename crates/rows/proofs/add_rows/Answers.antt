use native.Mathlib.Omega.{arith}
use Rattle.rows.proofs.Adding.{add_fits, sum_short, sum_within, sum_falls, add_done}
use Rattle.rows.proofs.add_rows.Goals as goal

pub overflow_add-both : goal.overflow_add-both
overflow_add-both c =
    let f = add_fits c.requires.0 c.args.i c.args.j c.requires.1 c.requires.2 in
    record { fits = omega (arith, f.left_short, f.right_short, c.requires.3) }

pub add_into-k-requires : goal.add_into-k-requires
add_into-k-requires c = add_fits c.requires.0 _ _ c.requires.1 c.requires.2

pub overflow_cast-numbers : goal.overflow_cast-numbers
overflow_cast-numbers c = let h = sum_short c.requires.0 _ _ c.requires.1 c.requires.2 _ c.add_into-k.ensures.value in record { fits = omega (arith, c.requires.3) }

pub overflow_sub-result : goal.overflow_sub-result
overflow_sub-result c = let h = sum_within c.requires.0 _ _ c.requires.1 c.requires.2 _ c.add_into-k.ensures.value in omega arith

pub returns-clause-became : goal.returns-clause-became
returns-clause-became c = let e = c.add_into-k.ensures in add_done c.requires.0 _ _ c.requires.1 c.requires.2 _ e.value _ e.area_after

pub returns-clause-value : goal.returns-clause-value
returns-clause-value c = sum_falls c.requires.0 _ _ c.requires.1 c.requires.2 _ c.add_into-k.ensures.value _
