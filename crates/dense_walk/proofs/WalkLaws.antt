-- The walk over the columns: its rules, the stairs that it leaves, the rows that are left, and what it keeps.
use mathlib.Core.Path.{◌≡◌}
use mathlib.Core.List.{List, [], ◌∷◌}
use Prim.Native.Nat.{ℕ, zero, suc, ◌+◌, ◌*◌, ◌≤◌}
use native.Mathlib.Nat.{le_refl}
use native.Mathlib.Omega.{arith}
use Rattle.gf2.specs.Equation.{Equation, Each, sum}
use Rattle.gf2.proofs.Each.{each_map}
use Rattle.dense_rows.specs.Bits.{Row, Clear, equation_of}
use Rattle.dense_walk.specs.Eliminate.{Step, passed, taken, column, Walk, on_top, walk}
use Rattle.dense_walk.specs.Stairs.{Stairs}
use Rattle.dense_walk.proofs.ColumnStep.{Stepped, stepped, Good, step_leaves, step_ahead, step_behind}

abbrev pub stopped : List Row → Walk
stopped rest = record { pivots = []; rows = []; left = rest }

-- ---- the rules: laws go by clauses on them

pub data Walked : ℕ → ℕ → List Row → Walk → Type 0 where
  no_column : {c : ℕ} {rest : List Row} → Walked zero c rest (stopped rest)
  no_row : {k c : ℕ} → Walked (suc k) c [] (stopped [])
  skipped : {k c : ℕ} {a : Row} {rows : List Row} {wk : Walk} → Stepped c (a ∷ rows) passed → Walked k (suc c) (a ∷ rows) wk → Walked (suc k) c (a ∷ rows) wk
  pivoted : {k c : ℕ} {a p : Row} {rows below : List Row} {wk : Walk} → Stepped c (a ∷ rows) (taken p below) → Walked k (suc c) below wk
      → Walked (suc k) c (a ∷ rows) (on_top c p wk)

pub walked : (k c : ℕ) (rest : List Row) → Walked k c rest (walk k c rest)
unfolding walk
walked zero c rest = no_column
walked (suc k) c [] = no_row
walked (suc k) c (a ∷ rows) = go (column c (a ∷ rows)) (stepped c (a ∷ rows)) (λ rest. walked k (suc c) rest)
  where
    go : (s : Step) → Stepped c (a ∷ rows) s → ((rest : List Row) → Walked k (suc c) rest (walk k (suc c) rest))
        → Walked (suc k) c (a ∷ rows) (elim s [ passed ↦ walk k (suc c) (a ∷ rows) | taken pivot below ↦ on_top c pivot (walk k (suc c) below) ])
    go passed s ih = skipped s (ih (a ∷ rows))
    go (taken p below) s ih = pivoted s (ih below)

-- ---- what is left

stairs_from : (n b b' : ℕ) (ps : List ℕ) (rows : List Row) → b ≤ b' → Stairs n b' ps rows → Stairs n b ps rows
stairs_from n b b' [] [] h s = tt
stairs_from n b b' [] (r ∷ rs) h s = s
stairs_from n b b' (p ∷ ps) [] h s = s
stairs_from n b b' (p ∷ ps) (r ∷ rs) h s = (omega arith, s.1, s.2, s.3, s.4)

module _ (n w : ℕ) (hn : n ≤ 64 * w) where
  -- the pivots rise, and each is the first column of its row
  pub walked_stairs : {k c : ℕ} {rest : List Row} {wk : Walk} → Walked k c rest wk → c + k ≡ n → Each (Good w c) rest → Stairs n c wk.pivots wk.rows
  walked_stairs no_column e g = tt
  walked_stairs no_row e g = tt
  walked_stairs (skipped {k} {c} {wk = wk} s d) e g =
      stairs_from n c (suc c) wk.pivots wk.rows (omega arith) (walked_stairs d (omega arith) (step_leaves w c (omega arith) s g))
  walked_stairs (pivoted {k} {c} s d) e g =
      let l = step_leaves w c (omega arith) s g in
      (le_refl c, omega arith, l.0.1, l.1, walked_stairs d (omega arith) l.2)

  -- the rows that are left have no column at all
  pub walked_left : {k c : ℕ} {rest : List Row} {wk : Walk} → Walked k c rest wk → c + k ≡ n → Each (Good w c) rest → Each (λ row. Clear n row.words) wk.left
  walked_left (no_column {c} {rest}) e g = each_map rest (λ row h v l. h.1 v (omega arith)) g
  walked_left no_row e g = tt
  walked_left (skipped {k} {c} s d) e g = walked_left d (omega arith) (step_leaves w c (omega arith) s g)
  walked_left (pivoted {k} {c} s d) e g = walked_left d (omega arith) (step_leaves w c (omega arith) s g).2

  -- ---- what sums of equations keep, of equations in b columns

  module _ (b : ℕ) (P : Equation → Type 0) where
    abbrev pub Has : Row → Type 0
    Has row = P (equation_of b row)

    -- from the rows to the pivot rows and those that are left
    pub walked_ahead : ((x y : Equation) → P x → P y → P (sum x y)) → {k c : ℕ} {rest : List Row} {wk : Walk} → Walked k c rest wk → c + k ≡ n
        → Each (Good w c) rest → Each Has rest → Each Has wk.rows × Each Has wk.left
    walked_ahead keeps no_column e g h = (tt, h)
    walked_ahead keeps no_row e g h = (tt, tt)
    walked_ahead keeps (skipped {k} {c} s d) e g h = walked_ahead keeps d (omega arith) (step_leaves w c (omega arith) s g) h
    walked_ahead keeps (pivoted {k} {c} s d) e g h =
        let t = step_ahead w c (omega arith) b P keeps s g h in
        let r = walked_ahead keeps d (omega arith) (step_leaves w c (omega arith) s g).2 t.1 in
        ((t.0, r.0), r.1)

    -- and back
    pub walked_behind : ((x y : Row) → P (sum (equation_of b x) (equation_of b y)) → Has y → Has x) → {k c : ℕ} {rest : List Row} {wk : Walk} → Walked k c rest wk
        → c + k ≡ n → Each (Good w c) rest → Each Has wk.rows → Each Has wk.left → Each Has rest
    walked_behind back no_column e g h l = l
    walked_behind back no_row e g h l = tt
    walked_behind back (skipped {k} {c} s d) e g h l = walked_behind back d (omega arith) (step_leaves w c (omega arith) s g) h l
    walked_behind back (pivoted {k} {c} s d) e g h l =
        step_behind w c (omega arith) b P back s g h.0 (walked_behind back d (omega arith) (step_leaves w c (omega arith) s g).2 h.1 l)
