-- There is memory for what is lent.
use Rattle.std.proofs.Common.{◌≡◌, ℕ, refl, Bool, true, false, ◌&&◌, leb, ◌≤◌, arith}
use borrow.Author.Tests.{leb-true}
use Rattle.answers.specs.Calls.{pick}
use Rattle.replay_cases.specs.declared.lend.Room.{Room}
use Rattle.replay_cases.specs.declared.lend.Way.{Way}
use Rattle.replay_cases.specs.declared.lend.Way.TheVariants.{Exact, More, ShortNumbers, ShortOthers, LongSolution}
use Rattle.replay_cases.specs.Lent.{Lendable, no_room, way_of, lengths_for, lent_for}

lengths_lendable : (way : Way) (room : Room) → room.solution ≤ 1021 → room.numbers ≤ 65533 → room.others ≤ 1021 → Lendable (lengths_for way room)
lengths_lendable Exact room s n o = record { solution = omega arith; numbers = omega arith; others = omega arith }
lengths_lendable More room s n o = record { solution = omega arith; numbers = omega arith; others = omega arith }
lengths_lendable ShortNumbers room s n o = record { solution = omega arith; numbers = omega arith; others = omega arith }
lengths_lendable ShortOthers room s n o = record { solution = omega arith; numbers = omega arith; others = omega arith }
lengths_lendable LongSolution room s n o = record { solution = omega arith; numbers = omega arith; others = omega arith }

pub lent_lendable : (way : Way) (room : Room) → Lendable (lent_for way room)
lent_lendable way room = go (leb room.solution 1021) refl (leb room.numbers 65533) refl (leb room.others 1021) refl
  where
    none_lendable : Lendable no_room
    none_lendable = record { solution = omega arith; numbers = omega arith; others = omega arith }

    go : (s : Bool) → leb room.solution 1021 ≡ s → (n : Bool) → leb room.numbers 65533 ≡ n → (o : Bool) → leb room.others 1021 ≡ o
        → Lendable (pick (s && (n && o)) (lengths_for way room) no_room)
    go true s true n true o = lengths_lendable way room (leb-true room.solution 1021 s) (leb-true room.numbers 65533 n) (leb-true room.others 1021 o)
    go true s true n false o = none_lendable
    go true s false n o h = none_lendable
    go false s n h o g = none_lendable

-- .. of any number's way
pub lent_lendable_by : (way : ℕ) (room : Room) → Lendable (lent_for (way_of way) room)
lent_lendable_by way = lent_lendable (way_of way)
