-- The first m of 256 edges.
use mathlib.Core.Path.{◌≡◌, refl, sym, ◌∙◌}
use mathlib.Core.List.{List}
use mathlib.Core.Bool.{Bool, true, false}
use Prim.Native.Nat.{ℕ, ◌≤◌}
use native.Mathlib.Omega.{arith}
use lib.ListN.{length, take}
use lib.Seq.{take_all}
use lib.Dec.{ltb}
use borrow.Author.Tests.{ltb-true, ltb-false}
use Rattle.answers.specs.Calls.{pick}
use Rattle.peelers.specs.Programs.{at_most256}
use Rattle.peeling.specs.declared.numbers.Edge.{Edge}

pub within_256 : (m : ℕ) → at_most256 m ≤ 256
within_256 m = go (ltb 256 m) refl
  where
    go : (t : Bool) → ltb 256 m ≡ t → pick t 256 m ≤ 256
    go true q = omega arith
    go false q = ltb-false 256 m q

pub first_256 : (m : ℕ) (l : List Edge) → length l ≡ 256 → take (at_most256 m) l ≡ take m l
first_256 m l h = go (ltb 256 m) refl
  where
    go : (t : Bool) → ltb 256 m ≡ t → take (pick t 256 m) l ≡ take m l
    go true q = take_all 256 l (omega arith) ∙ sym (take_all m l (omega (arith, ltb-true 256 m q)))
    go false q = refl
