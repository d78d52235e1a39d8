use Rattle.std.proofs.Common.{arith, IsTrue, ◌≡◌, ℕ, ◌≤◌, List, length, take, replicate, Bool, ◌∙◌, ap}
use Rattle.std.specs.Fn.{Shared}
use Rattle.std.specs.Borrow.{MutBor}
use Rattle.std.proofs.lemmas.List.{take-replicate}
use Rattle.replay_cases.specs.declared.lend.Room.{Room}
use Rattle.replay_cases.specs.declared.lend.Way.{Way}
use Rattle.replay_cases.specs.declared.said.Said.{Said}
use Rattle.lent_cells.specs.Cells.{mark}
use Rattle.replay_cases.specs.Lent.{lent_for, wanted_for}
use Rattle.replay_cases.specs.Ways.{SaysYes, Areas}
use Rattle.replay_cases.proofs.ways.one_way.Goals as goal

-- what a call that said yes was given, and what it left
said_yes : {F C : Type 0} (g : Shared F (Said × Areas C) (Bool × Areas C)) (judge : F) (want : Said) (s n : MutBor (List ℕ)) (o : MutBor (List C)) (r : Bool) (left : Areas C)
    → g.post judge (want, (s, (n, (o, tt)))) (r, left) → IsTrue r → (marked : C) (room : Room) (said : Said) (way : Way) → want ≡ wanted_for way room said
    → s.now ≡ replicate (lent_for way room).solution mark → n.now ≡ replicate (lent_for way room).numbers mark → o.now ≡ replicate (lent_for way room).others marked
    → SaysYes g judge marked room said way
said_yes g judge want s n o r left p y marked room said way w a b c =
    record {
      solution = s;
      numbers = n;
      others = o;
      left = left;
      solution_lent = a;
      numbers_lent = b;
      others_lent = c;
      says = record { met = rw (← w, ← y) p };
    }

-- the front of marked cells
front : {A : Type 0} (k j m : ℕ) (x : A) (cells : List A) → cells ≡ replicate m x → k ≡ j → k ≤ m → take k cells ≡ replicate j x
front k j m x cells e i h = rw e (take-replicate k m x h ∙ ap (λ (z : ℕ). replicate z x) i)

pub returns : goal.returns
returns g c h =
    let l = c.lent_as-lent.result in
    let e = c.lent_as-lent.ensures in
    let f = lent_for c.args.way c.args.room in
    said_yes g.F.Fn c.args.judge.now c.wanted.result _ _ _ c.judge.result _ c.judge.ensures h g.C.Cell.MARK c.args.room c.args.said c.args.way c.wanted.ensures
    (front l.solution f.solution 1024 mark c.marked-solution.result c.marked-solution.ensures (ap (λ (r : Room). r.solution) e.value) e.lendable.solution)
    (front l.numbers f.numbers 65536 mark c.marked-numbers.result c.marked-numbers.ensures (ap (λ (r : Room). r.numbers) e.value) e.lendable.numbers)
    (
    front l.others f.others (length c.args.others.now) g.C.Cell.MARK c.mark.new.cells c.mark.ensures (ap (λ (r : Room). r.others) e.value)
    (let k = e.lendable.others in let r = c.requires.room in omega arith)
    )
