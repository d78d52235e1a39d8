-- What the Rust takes for granted at each unit (its `unwrap`, `expect` and `assert`, and that no count falls below 0).
use Rattle.std.specs.Prelude.{◌≡◌, ◌≢◌, List, [], ◌∷◌, ◌++◌, true, ℕ, ◌≤◌, ◌<◌, get_or, replicate}
use Rattle.gf2.specs.Equation.{Equation, lists}
use Rattle.gf2.specs.NumberLists.{first_of}
use Rattle.gf2.specs.ByNumber.{row_of, lists_at}
use Rattle.sparse_rules.specs.Eliminate.{back_sub}
use Rattle.lazy.specs.Lazy.{State, Solved, listing, others, is_idle, fill}

-- the variable that equation e is solved for
abbrev pub pivot_of : State → ℕ → ℕ
pivot_of s e = first_of (is_idle s) (row_of s.rows e).vars

pub record Safe (n : ℕ) (sys : List Equation) (s : State) : Type 0 where
  -- with the equation list empty, a variable of weight above 0 is still to be taken
  pub variable_left : 0 < s.remaining → s.equations ≡ [] → (v : ℕ) × (lists v s.variables ≡ true) × (get_or s.weight v 0 ≢ 0)
  -- an equation that is popped has priority 0 or 1
  pub low : (e : ℕ) (es : List ℕ) → 0 < s.remaining → s.equations ≡ e ∷ es → get_or s.priority e 0 ≤ 1
  -- one of priority 1 has an idle variable, and no other
  pub one_idle : (e : ℕ) (es : List ℕ) → 0 < s.remaining → s.equations ≡ e ∷ es → get_or s.priority e 0 ≡ 1
      → (is_idle s (pivot_of s e) ≡ true) × (lists_at s.rows (pivot_of s e) e ≡ true)
  pub only_one : (e : ℕ) (es : List ℕ) → 0 < s.remaining → s.equations ≡ e ∷ es → get_or s.priority e 0 ≡ 1
      → (w : ℕ) → is_idle s w ≡ true → lists_at s.rows w e ≡ true → w ≡ pivot_of s e
  -- a priority that is lowered is at least 1: by a variable that becomes active, and by one that is solved
  pub by_active : (v : ℕ) (vs : List ℕ) → 0 < s.remaining → s.variables ≡ v ∷ vs → get_or s.weight v 0 ≢ 0
      → (f : ℕ) → lists f (listing sys v) ≡ true → 1 ≤ get_or s.priority f 0
  pub by_solved : (e : ℕ) (es : List ℕ) → 0 < s.remaining → s.equations ≡ e ∷ es → get_or s.priority e 0 ≡ 1
      → (f : ℕ) → lists f (others sys (pivot_of s e) e) ≡ true → 1 ≤ get_or s.priority f 0
  -- the value of a solved variable is 0 before it is filled in
  pub unfilled : s.remaining ≡ 0 → (ds : List Solved) (d : Solved) (rest : List Solved) → s.solved ≡ ds ++ (d ∷ rest)
      → get_or (fill s.rows ds (back_sub s.dense (replicate n 0))) d.pivot 0 ≡ 0
