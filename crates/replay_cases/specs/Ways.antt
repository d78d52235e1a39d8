-- What is known of a judge that says yes.
use Rattle.std.specs.Prelude.{◌≡◌, Bool, true, List, ℕ, replicate}
use Rattle.std.specs.Fn.{Shared, FnReturns}
use Rattle.std.specs.Borrow.{MutBor}
use Rattle.lent_cells.specs.Cells.{mark}
use Rattle.replay_cases.specs.declared.lend.Room.{Room}
use Rattle.replay_cases.specs.declared.lend.Way.{Way}
use Rattle.replay_cases.specs.declared.said.Said.{Said}
use Rattle.replay_cases.specs.Lent.{lent_for, wanted_for}

-- the areas, behind the references that a call is given or leaves
abbrev pub Areas : Type 0 → Type 0
Areas C = MutBor (List ℕ) × (MutBor (List ℕ) × (MutBor (List C) × Unit {0}))

-- one call, with marked areas of the lengths that are lent this way and with what must then be answered, says yes
pub record SaysYes {F C : Type 0} (g : Shared F (Said × Areas C) (Bool × Areas C)) (judge : F) (marked : C) (room : Room) (said : Said) (way : Way)
    : Type 0 where
  pub solution : MutBor (List ℕ)
  pub numbers : MutBor (List ℕ)
  pub others : MutBor (List C)
  pub left : Areas C
  pub solution_lent : solution.now ≡ replicate (lent_for way room).solution mark
  pub numbers_lent : numbers.now ≡ replicate (lent_for way room).numbers mark
  pub others_lent : others.now ≡ replicate (lent_for way room).others marked
  pub says : FnReturns g judge (wanted_for way room said, (solution, (numbers, (others, tt)))) (true, left)
