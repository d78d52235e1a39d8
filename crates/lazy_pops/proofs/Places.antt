-- Where the segments of a state stand, for `omega`.
use mathlib.Core.Path.{◌≡◌, refl, ap}
use mathlib.Core.List.{List}
use Prim.Native.Nat.{ℕ, ◌+◌, ◌*◌}
use native.Mathlib.Omega.{arith}
use lib.ListN.{length}
use Rattle.gf2.specs.Equation.{Equation}
use Rattle.areas.specs.Segments.{joined}
use Rattle.lazy.specs.Lazy.{State}
use Rattle.lazy_setup.specs.declared.Layout.{Layout}
use Rattle.lazy_setup.specs.Area.{segments, numbers_of}
use Rattle.lazy_setup.specs.Layout.{layout_of}
use Rattle.lazy_setup.proofs.Offsets.{shaped, length_shaped}
use Rattle.lazy_pops.specs.Laid.{Laid, listed}
use Rattle.lazy_pops.proofs.Segmented.{Segmented}

pub record Places (n m t : ℕ) (layout : Layout) (size : ℕ) : Type 0 where
  pub lengths : layout.lengths ≡ m * n
  pub lists : layout.lists ≡ layout.lengths + m
  pub starts : layout.starts ≡ layout.lists + t
  pub weight : layout.weight ≡ layout.starts + (n + 1)
  pub variables : layout.variables ≡ layout.weight + n
  pub idle : layout.idle ≡ layout.variables + n
  pub position : layout.position ≡ layout.idle + n
  pub priority : layout.priority ≡ layout.position + n
  pub equations : layout.equations ≡ layout.priority + m
  pub solved : layout.solved ≡ layout.equations + m
  pub pivots : layout.pivots ≡ layout.solved + m
  pub count : layout.count ≡ layout.pivots + m
  pub dense : layout.dense ≡ layout.count + (m + 1)
  pub all : size ≡ layout.dense + (m * n + (n + m))

placed : (n m t : ℕ) (layout : Layout) (size : ℕ) → layout ≡ layout_of n m t → size ≡ (layout_of n m t).dense + (m * n + (n + m)) → Places n m t layout size
unfolding layout_of
placed n m t layout size p q = rw p (record {
  lengths = refl;
  lists = refl;
  starts = refl;
  weight = refl;
  variables = refl;
  idle = refl;
  position = refl;
  priority = refl;
  equations = refl;
  solved = refl;
  pivots = refl;
  count = refl;
  dense = refl;
  all = q;
})

module _ {n m : ℕ} {layout : Layout} {sys : List Equation} {s : State} {numbers : List ℕ} (d : Laid n m layout sys s numbers) where
  pub segmented : Segmented n m (listed n sys) (segments n sys s) numbers
  unfolding numbers_of
  segmented = record { shape = rw d.many (shaped n sys s d.sized); shown = d.shown }

  pub places : Places n m (listed n sys) layout (length numbers)
  unfolding layout_of
  places =
      let e : length numbers ≡ length (joined (segments n sys s)) = ap (λ (l : List ℕ). length l) segmented.shown in
      let f = length_shaped n m (listed n sys) (segments n sys s) segmented.shape in
      placed n m (listed n sys) layout (length numbers) d.placed (omega arith)
