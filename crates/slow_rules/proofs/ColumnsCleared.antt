-- One column of the slow engine and all of them: what stands between two columns, and what sums of equations keep.
use mathlib.Core.Path.{◌≡◌, refl, sym, ap, ap₂, ◌∙◌, subst}
use mathlib.Core.List.{List, [], ◌∷◌, ◌++◌, map}
use mathlib.Core.Bool.{true, false, true≢false}
use Prim.Native.Nat.{ℕ, zero, suc, ◌+◌, ◌*◌, ◌/◌, ◌<◌, ◌≤◌}
use native.Mathlib.Omega.{arith}
use lib.ListN.{length}
use Rattle.gf2.specs.Equation.{Equation, Each, xor_bool, sum}
use Rattle.gf2.proofs.Each.{each_map, each_append}
use Rattle.gf2.proofs.EachMap.{each_of_map, each_from_map, each_both, each_front, each_back}
use Rattle.gf2.proofs.Tests.{xor_bool_false}
use Rattle.dense_rows.specs.Bits.{Row, Clear, has_bit, equation_of}
use Rattle.dense_rows.specs.Steps.{clear_row}
use Rattle.dense_rows.proofs.StepLaws.{Wide, wide_xor_from, equation_xor_from, has_bit-xor_from, clear_row_cases}
use Rattle.dense_walk.specs.Eliminate.{Step, passed, taken, column}
use Rattle.dense_walk.proofs.ColumnStep.{Stepped, stepped, Good, step_leaves, step_ahead, step_behind}
use Rattle.slow_rules.specs.Slow.{PivotRow, Progress, clear_pivot_row, clear_column, clear_columns}

-- ---- the rules: laws go by clauses on them

abbrev cleared_above : ℕ → Row → List PivotRow → List PivotRow
cleared_above c p ds = map (clear_pivot_row c p) ds ++ (record { at = c; row = p } ∷ [])

data OneColumn (c : ℕ) (s : Progress) : Progress → Type 0 where
  over : Stepped c s.left passed → OneColumn c s s
  takes : {p : Row} {below : List Row} → Stepped c s.left (taken p below) → OneColumn c s (record { done = cleared_above c p s.done; left = below })

one_column : (c : ℕ) (s : Progress) → OneColumn c s (clear_column c s)
unfolding clear_column
one_column c s = go (column c s.left) (stepped c s.left)
  where
    go : (o : Step) → Stepped c s.left o → OneColumn c s (elim o [ passed ↦ s | taken pivot below ↦ record { done = cleared_above c pivot s.done; left = below } ])
    go passed h = over h
    go (taken p below) h = takes h

-- ---- what holds between two columns

-- the columns of the pivots rise
abbrev pub PivotsRise : List PivotRow → Type 0
PivotsRise [] = Unit {0}
PivotsRise (d ∷ ds) = Each (λ e. d.at < e.at) ds × PivotsRise ds

-- a pivot's column is the first of its row, which has w words
abbrev pub FirstIn : ℕ → PivotRow → Type 0
FirstIn w d = Wide w d.row × Clear d.at d.row.words × (has_bit d.at d.row ≡ true)

-- of all pivots' columns, a pivot's row has its own only
abbrev pub Alone : List PivotRow → PivotRow → Type 0
Alone ds d = Each (λ e. has_bit e.at d.row ≡ true → e.at ≡ d.at) ds

pub record ClearedTo (w c : ℕ) (s : Progress) : Type 0 where
  pub low : Each (λ d. d.at < c) s.done
  pub rises : PivotsRise s.done
  pub firsts : Each (FirstIn w) s.done
  pub alone : Each (Alone s.done) s.done
  pub good : Each (Good w c) s.left

-- what holds of the equations of all rows
abbrev pub OfAll : ℕ → (Equation → Type 0) → Progress → Type 0
OfAll n P s = Each (λ d. P (equation_of n d.row)) s.done × Each (λ r. P (equation_of n r)) s.left

rises_on : (c : ℕ) (p : Row) (ds : List PivotRow) → PivotsRise ds → Each (λ d. d.at < c) ds → PivotsRise (cleared_above c p ds)
unfolding clear_pivot_row
rises_on c p [] h l = (tt, tt)
rises_on c p (d ∷ ds) h l = (
  each_append (λ e. d.at < e.at) (map (clear_pivot_row c p) ds) (record { at = c; row = p } ∷ []) (each_of_map (clear_pivot_row c p) (λ e. d.at < e.at) (λ e. d.at < e.at) ds (λ e k. k) h.0) (l.0, tt),
  rises_on c p ds h.1 l.1,
)

module _ (w c : ℕ) (hc : c < 64 * w) where
  module _ (p : Row) (g : Good w c p) (b : has_bit c p ≡ true) where
    clear_word : Clear (64 * (c / 64)) p.words
    clear_word v h = g.1 v (omega arith)

    long : (r : Row) → Wide w r → c / 64 ≤ length r.words
    long r h = omega arith

    -- the bits below the column stay, and the column goes
    bit_below : (v : ℕ) (r : Row) → Wide w r → v < c → has_bit v (clear_row c p r) ≡ has_bit v r
    bit_below v r h l =
        clear_row_cases (λ s. has_bit v s ≡ has_bit v r) c p r
        (λ e. has_bit-xor_from v (c / 64) p r (long r h) clear_word ∙ ap (xor_bool (has_bit v r)) (g.1 v l) ∙ xor_bool_false (has_bit v r))
        (λ e. refl)

    bit_gone : (r : Row) → Wide w r → has_bit c (clear_row c p r) ≡ false
    bit_gone r h =
        clear_row_cases (λ s. has_bit c s ≡ false) c p r
        (λ e. has_bit-xor_from c (c / 64) p r (long r h) clear_word ∙ ap₂ xor_bool e b)
        (λ e. e)

    wide_cleared : (r : Row) → Wide w r → Wide w (clear_row c p r)
    wide_cleared r h = clear_row_cases (Wide w) c p r (λ e. wide_xor_from w (c / 64) p r (omega arith) g.0 h) (λ e. h)

    first_above : (d : PivotRow) → (d.at < c) × FirstIn w d → FirstIn w (clear_pivot_row c p d)
    unfolding clear_pivot_row
    first_above d h = (
      wide_cleared d.row h.1.0,
      λ v l. bit_below v d.row h.1.0 (omega arith) ∙ h.1.1 v l,
      bit_below d.at d.row h.1.0 h.0 ∙ h.1.2,
    )

    alone_above : (ds : List PivotRow) → Each (λ d. d.at < c) ds → (d : PivotRow) → FirstIn w d × Alone ds d → Alone (cleared_above c p ds) (clear_pivot_row c p d)
    unfolding clear_pivot_row
    alone_above ds low d h =
        each_append (λ e. has_bit e.at (clear_row c p d.row) ≡ true → e.at ≡ d.at) (map (clear_pivot_row c p) ds) (record { at = c; row = p } ∷ [])
        (each_of_map (clear_pivot_row c p) (λ e. (e.at < c) × (has_bit e.at d.row ≡ true → e.at ≡ d.at)) (λ e. has_bit e.at (clear_row c p d.row) ≡ true → e.at ≡ d.at) ds
        (λ e k q. k.1 (sym (bit_below e.at d.row h.0.0 k.0) ∙ q)) (each_both (λ e. e.at < c) (λ e. has_bit e.at d.row ≡ true → e.at ≡ d.at) ds low h.1))
        ((λ q. absurd (true≢false (sym q ∙ bit_gone d.row h.0.0))), tt)

    alone_new : (ds : List PivotRow) → Each (λ d. d.at < c) ds → Alone (cleared_above c p ds) (record { at = c; row = p })
    unfolding clear_pivot_row
    alone_new ds low =
        each_append (λ e. has_bit e.at p ≡ true → e.at ≡ c) (map (clear_pivot_row c p) ds) (record { at = c; row = p } ∷ [])
        (each_of_map (clear_pivot_row c p) (λ e. e.at < c) (λ e. has_bit e.at p ≡ true → e.at ≡ c) ds (λ e k q. absurd (true≢false (sym q ∙ g.1 e.at k))) low)
        ((λ q. refl), tt)

    taken_cleared : (s : Progress) (below : List Row) → ClearedTo w c s → Each (Good w (suc c)) below → ClearedTo w (suc c) (record { done = cleared_above c p s.done; left = below })
    unfolding clear_pivot_row
    taken_cleared s below i h = record {
      low = each_append (λ d. d.at < suc c) (map (clear_pivot_row c p) s.done) new (each_of_map (clear_pivot_row c p) (λ d. d.at < c) (λ d. d.at < suc c) s.done (λ d k. omega arith) i.low) (omega arith, tt);
      rises = rises_on c p s.done i.rises i.low;
      firsts = each_append (FirstIn w) (map (clear_pivot_row c p) s.done) new (each_of_map (clear_pivot_row c p) (λ d. (d.at < c) × FirstIn w d) (FirstIn w) s.done first_above (each_both (λ d. d.at < c) (FirstIn w) s.done i.low i.firsts)) ((g.0, g.1, b), tt);
      alone = each_append (Alone (cleared_above c p s.done)) (map (clear_pivot_row c p) s.done) new
          (each_of_map (clear_pivot_row c p) (λ d. FirstIn w d × Alone s.done d) (Alone (cleared_above c p s.done)) s.done (alone_above s.done i.low) (each_both (FirstIn w) (Alone s.done) s.done i.firsts i.alone))
          (alone_new s.done i.low, tt);
      good = h;
    }
      where
        new : List PivotRow
        new = record { at = c; row = p } ∷ []

  column_cleared : {s t : Progress} → OneColumn c s t → ClearedTo w c s → ClearedTo w (suc c) t
  column_cleared {s} (over h) i = record {
    low = each_map s.done (λ d k. omega arith) i.low;
    rises = i.rises;
    firsts = i.firsts;
    alone = i.alone;
    good = step_leaves w c hc h i.good;
  }
  column_cleared {s} (takes {p} {below} h) i = let l = step_leaves w c hc h i.good in taken_cleared p l.0 l.1 s below i l.2

  -- ---- what sums of equations keep

  module _ (n : ℕ) (P : Equation → Type 0) where
    abbrev Has : Row → Type 0
    Has row = P (equation_of n row)

    module _ (keeps : (x y : Equation) → P x → P y → P (sum x y)) where
      has_above : (p : Row) (g : Good w c p) (r : Row) → Wide w r → Has p → Has r → Has (clear_row c p r)
      has_above p g r h hp hr =
          clear_row_cases Has c p r
          (λ e. subst P (sym (equation_xor_from n (c / 64) p r (omega arith) (λ v l. g.1 v (omega arith)))) (keeps (equation_of n r) (equation_of n p) hr hp))
          (λ e. hr)

      column_ahead : {s t : Progress} → OneColumn c s t → ClearedTo w c s → OfAll n P s → OfAll n P t
      unfolding clear_pivot_row
      column_ahead (over h) i q = q
      column_ahead {s} (takes {p} {below} h) i q =
          let l = step_leaves w c hc h i.good in
          let a = step_ahead w c hc n P keeps h i.good q.1 in (
            each_append (λ d. Has d.row) (map (clear_pivot_row c p) s.done) (record { at = c; row = p } ∷ [])
                (each_of_map (clear_pivot_row c p) (λ d. FirstIn w d × Has d.row) (λ d. Has d.row) s.done (λ d k. has_above p l.0 d.row k.0.0 a.0 k.1) (each_both (FirstIn w) (λ d. Has d.row) s.done i.firsts q.0))
                (a.0, tt),
            a.1,
          )

    module _ (back : (x y : Row) → P (sum (equation_of n x) (equation_of n y)) → Has y → Has x) where
      has_below : (p : Row) (g : Good w c p) (r : Row) → Wide w r → Has p → Has (clear_row c p r) → Has r
      has_below p g r h hp =
          clear_row_cases (λ s. Has s → Has r) c p r
          (λ e q. back r p (subst P (equation_xor_from n (c / 64) p r (omega arith) (λ v l. g.1 v (omega arith))) q) hp)
          (λ e q. q)

      column_behind : {s t : Progress} → OneColumn c s t → ClearedTo w c s → OfAll n P t → OfAll n P s
      unfolding clear_pivot_row
      column_behind (over h) i q = q
      column_behind {s} (takes {p} {below} h) i q =
          let l = step_leaves w c hc h i.good in
          let hp = (each_back (λ d. Has d.row) (map (clear_pivot_row c p) s.done) (record { at = c; row = p } ∷ []) q.0).0 in (
            each_from_map (clear_pivot_row c p) (FirstIn w) (λ d. Has d.row) (λ d. Has d.row) s.done (λ d k z. has_below p l.0 d.row k.0 hp z) i.firsts
                (each_front (λ d. Has d.row) (map (clear_pivot_row c p) s.done) (record { at = c; row = p } ∷ []) q.0),
            step_behind w c hc n P back h i.good hp q.1,
          )

-- ---- all columns

module _ (n w : ℕ) (hn : n ≤ 64 * w) where
  pub columns_cleared : (k c : ℕ) (s : Progress) → c + k ≡ n → ClearedTo w c s → ClearedTo w n (clear_columns k c s)
  unfolding clear_columns
  columns_cleared zero c s e i = let is : c ≡ n = omega arith in subst (λ (d : ℕ). ClearedTo w d s) is i
  columns_cleared (suc k) c s e i = columns_cleared k (suc c) (clear_column c s) (omega arith) (column_cleared w c (omega arith) (one_column c s) i)

  module _ (b : ℕ) (P : Equation → Type 0) where
    pub columns_ahead : ((x y : Equation) → P x → P y → P (sum x y)) → (k c : ℕ) (s : Progress) → c + k ≡ n → ClearedTo w c s → OfAll b P s → OfAll b P (clear_columns k c s)
    unfolding clear_columns
    columns_ahead keeps zero c s e i h = h
    columns_ahead keeps (suc k) c s e i h =
        columns_ahead keeps k (suc c) (clear_column c s) (omega arith) (column_cleared w c (omega arith) (one_column c s) i) (column_ahead w c (omega arith) b P keeps (one_column c s) i h)

    pub columns_behind : ((x y : Row) → P (sum (equation_of b x) (equation_of b y)) → P (equation_of b y) → P (equation_of b x))
        → (k c : ℕ) (s : Progress) → c + k ≡ n → ClearedTo w c s → OfAll b P (clear_columns k c s) → OfAll b P s
    unfolding clear_columns
    columns_behind back zero c s e i h = h
    columns_behind back (suc k) c s e i h =
        column_behind w c (omega arith) b P back (one_column c s) i
        (columns_behind back k (suc c) (clear_column c s) (omega arith) (column_cleared w c (omega arith) (one_column c s) i) h)
