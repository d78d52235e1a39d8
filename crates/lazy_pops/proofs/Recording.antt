-- What is recorded of a solved equation.
use mathlib.Core.Path.{ap}
use mathlib.Core.List.{List}
use Prim.Native.Nat.{ℕ, ◌+◌, ◌-◌, ◌*◌, ◌≤◌, ◌<◌}
use native.Mathlib.Omega.{arith}
use lib.ListN.{length, get_or, set}
use Rattle.gf2.specs.Equation.{Equation}
use Rattle.lazy.specs.Lazy.{State}
use Rattle.lazy_setup.specs.declared.Layout.{Layout}
use Rattle.lazy_pops.specs.Laid.{Laid}
use Rattle.lazy_pops.specs.Writes.{weightless, recorded, SolvedAt}
use Rattle.lazy_pops.specs.Adding.{AddsAt, OthersAt}
use Rattle.lazy_pops.proofs.Listed.{Bounds, bounds}
use Rattle.lazy_pops.proofs.Places.{places}
use Rattle.lazy_pops.proofs.Reading.{from_at, to_at}
use Rattle.lazy_pops.proofs.Writing.{write_solved, write_weight}

pub record SolvedCells (layout : Layout) (k v : ℕ) (numbers : List ℕ) : Type 0 where
  pub solved : layout.solved + k < length numbers
  pub pivots : layout.pivots + k < length numbers
  pub weight : layout.weight + v < length numbers

pub solved_cells : {n m : ℕ} {layout : Layout} {sys : List Equation} {s : State} {k v : ℕ} {numbers : List ℕ} → SolvedAt n m layout sys s k v numbers → SolvedCells layout k v numbers
solved_cells a =
    let p = places a.laid in let i = a.k_in in let j = a.v_in in
    record { solved = omega arith; pivots = omega arith; weight = omega arith }

pub solved_done : {n m : ℕ} {layout : Layout} {sys : List Equation} {s : State} {k v : ℕ} {numbers : List ℕ} (e : ℕ) → SolvedAt n m layout sys s k v numbers
    → Laid n m layout sys (weightless v (recorded e v s)) (set (set (set numbers (layout.solved + k) e) (layout.pivots + k) v) (layout.weight + v) 0)
unfolding recorded
solved_done {m = m} {s = s} {k = k} {v = v} e a =
    rw a.k_is (write_weight (write_solved a.laid e v (let i = a.k_in in omega (arith, a.k_is))) v a.v_in)

-- ---- the others that listed a variable

pub record OthersCells (layout : Layout) (n m v : ℕ) (numbers : List ℕ) : Type 0 where
  pub list : Bounds numbers layout v
  pub scratch : layout.dense + m * n ≤ length numbers
  pub lists : layout.lists ≤ layout.starts

module _ {n m : ℕ} {layout : Layout} {sys : List Equation} {s : State} {v e : ℕ} {numbers words : List ℕ} (a : OthersAt n m layout sys s v e numbers words) where
  pub others_cells : OthersCells layout n m v numbers
  others_cells = let p = places a.laid in record { list = bounds v a.laid a.v_in; scratch = omega arith; lists = omega arith }

  pub others_fit : AddsAt n m layout sys s v (layout.lists + get_or numbers (layout.starts + v) 0)
      (get_or numbers (layout.starts + v + 1) 0 - get_or numbers (layout.starts + v) 0) e numbers words
  others_fit = record {
    rows = record { laid = a.laid; words_are = a.words_are; rising = a.rising; small = a.small };
    v_in = a.v_in;
    e_in = a.e_in;
    list_is = ap (λ (x : ℕ). layout.lists + x) (from_at a.laid v (omega (arith, a.v_in)));
    count_is = rw (to_at a.laid v a.v_in, from_at a.laid v (omega (arith, a.v_in))) (omega arith);
  }
