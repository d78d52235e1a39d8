-- One column of the walk: the pivot row and the rows below it, what they keep of the rows, and what the rows keep of them.
use mathlib.Core.Path.{◌≡◌, sym, ap₂, ◌∙◌, subst}
use mathlib.Core.List.{List, [], ◌∷◌, map}
use mathlib.Core.Bool.{true, false}
use Prim.Native.Nat.{ℕ, zero, suc, ◌*◌, ◌/◌, ◌<◌, ◌≤◌}
use native.Mathlib.Omega.{arith}
use lib.ListN.{length, get_or, set}
use lib.Seq.{get_or-set_same, lt-length-set}
use Rattle.gf2.specs.Equation.{Equation, Each, xor_bool, sum}
use Rattle.gf2.proofs.Each.{each_at, each_map, each_set}
use Rattle.gf2.proofs.EachMap.{each_of_map, each_from_map, each_unset, each_both}
use Rattle.dense_rows.specs.Bits.{Row, Clear, has_bit, equation_of}
use Rattle.dense_rows.specs.Steps.{pivot_from, from_word, no_row, swap_rows, xor_from, clear_row}
use Rattle.std.specs.Prelude.{Option, Some, None}
use Rattle.dense_rows.proofs.ColumnLaws.{clear_next}
use Rattle.dense_rows.proofs.SearchLaws.{Found, at, nowhere, found}
use Rattle.dense_rows.proofs.StepLaws.{Wide, wide_from_word, wide_xor_from, equation_from_word, equation_xor_from, has_bit-from_word, has_bit-xor_from, clear_row_cases}
use Rattle.dense_walk.specs.Eliminate.{Step, passed, taken, topped, column}

-- ---- the rules: laws go by clauses on them

-- the rows below a pivot row
abbrev pub cleared_by : ℕ → Row → List Row → List Row
cleared_by c pivot below = map (clear_row c pivot) below

pub data Stepped (c : ℕ) : List Row → Step → Type 0 where
  pass : {rest : List Row} → Each (λ row. has_bit c row ≡ false) rest → Stepped c rest passed
  -- the first row has the column
  first : {a : Row} {below : List Row} → has_bit c a ≡ true → Stepped c (a ∷ below) (taken (from_word (c / 64) a a) (cleared_by c (from_word (c / 64) a a) below))
  -- row j below the first has it
  later : {a : Row} {below : List Row} (j : ℕ) → j < length below → has_bit c (get_or below j no_row) ≡ true
      → Stepped c (a ∷ below)
      (taken (from_word (c / 64) a (get_or below j no_row)) (cleared_by c (from_word (c / 64) a (get_or below j no_row)) (set below j (from_word (c / 64) (get_or below j no_row) a))))

pub stepped : (c : ℕ) (rest : List Row) → Stepped c rest (column c rest)
unfolding column topped swap_rows
stepped c rest = go rest (pivot_from c 0 rest) (found c 0 rest)
  where
    top : (rest : List Row) (j r : ℕ) → r ≡ j → j < length rest → has_bit c (get_or rest j no_row) ≡ true → Stepped c rest (topped c (swap_rows (c / 64) 0 r rest))
    top [] j r e h p = absurd (omega arith)
    top (a ∷ below) zero r e h p = subst (λ (i : ℕ). Stepped c (a ∷ below) (topped c (swap_rows (c / 64) 0 i (a ∷ below)))) (sym e) (first p)
    top (a ∷ below) (suc j) r e h p =
        let l : j < length below = omega arith in
        subst (λ (i : ℕ). Stepped c (a ∷ below) (topped c (swap_rows (c / 64) 0 i (a ∷ below)))) (sym e) (later j l p)

    go : (rest : List Row) (o : Option ℕ) → Found c 0 rest o → Stepped c rest (elim o [ Some r ↦ topped c (swap_rows (c / 64) 0 r rest) | None ↦ passed ])
    go rest o (at j h p {r = r} e) = top rest j r (omega arith) h p
    go rest o (nowhere f) = pass f

-- ---- rows of w words without a column below c

abbrev pub Good : ℕ → ℕ → Row → Type 0
Good w c row = Wide w row × Clear c row.words

module _ (w c : ℕ) (hc : c < 64 * w) where
  good_clear : (row : Row) → Good w c row → Clear (64 * (c / 64)) row.words
  good_clear row g v h = g.1 v (omega arith)

  good_long : (row : Row) → Good w c row → c / 64 ≤ length row.words
  good_long row g = omega arith

  good_from_word : (a b : Row) → Good w c a → Good w c b → Good w c (from_word (c / 64) a b)
  good_from_word a b p q = (
    wide_from_word w (c / 64) a b (omega arith) p.0 q.0,
    λ v h. has_bit-from_word v (c / 64) a b (good_long a p) (good_clear a p) (good_clear b q) ∙ q.1 v h,
  )

  bit_from_word : (a b : Row) → Good w c a → Good w c b → has_bit c b ≡ true → has_bit c (from_word (c / 64) a b) ≡ true
  bit_from_word a b p q e = has_bit-from_word c (c / 64) a b (good_long a p) (good_clear a p) (good_clear b q) ∙ e

  -- a cleared row has no column up to c
  good_cleared : (p r : Row) → Good w c p → has_bit c p ≡ true → Good w c r → Good w (suc c) (clear_row c p r)
  good_cleared p r g e h =
      clear_row_cases (Good w (suc c)) c p r
      (λ b. (wide_xor_from w (c / 64) p r (omega arith) g.0 h.0, clear_next c (xor_from (c / 64) p r).words (λ v l. bit v ∙ ap₂ xor_bool (h.1 v l) (g.1 v l)) (bit c ∙ ap₂ xor_bool b e)))
      (λ b. (h.0, clear_next c r.words h.1 b))
    where
      bit : (v : ℕ) → has_bit v (xor_from (c / 64) p r) ≡ xor_bool (has_bit v r) (has_bit v p)
      bit v = has_bit-xor_from v (c / 64) p r (good_long r h) (good_clear p g)

  -- what a column leaves
  abbrev pub Leaves : List Row → Step → Type 0
  Leaves rest passed = Each (Good w (suc c)) rest
  Leaves rest (taken p below) = Good w c p × (has_bit c p ≡ true) × Each (Good w (suc c)) below

  pub step_leaves : {rest : List Row} {s : Step} → Stepped c rest s → Each (Good w c) rest → Leaves rest s
  step_leaves (pass {rest} f) g =
      each_map rest (λ row h. (h.0.0, clear_next c row.words h.0.1 h.1)) (each_both (Good w c) (λ row. has_bit c row ≡ false) rest g f)
  step_leaves (first {a} {below} e) g =
      let p = good_from_word a a g.0 g.0 in
      let b = bit_from_word a a g.0 g.0 e in
      (p, b, each_of_map (clear_row c (from_word (c / 64) a a)) (Good w c) (Good w (suc c)) below (λ r h. good_cleared (from_word (c / 64) a a) r p b h) g.1)
  step_leaves (later {a} {below} j h e) g =
      let d = get_or below j no_row in
      let gd = each_at (Good w c) below no_row j h g.1 in
      let p = good_from_word a d g.0 gd in
      let b = bit_from_word a d g.0 gd e in (
        p,
        b,
        each_of_map (clear_row c (from_word (c / 64) a d)) (Good w c) (Good w (suc c)) (set below j (from_word (c / 64) d a)) (λ r k. good_cleared (from_word (c / 64) a d) r p b k)
            (each_set (Good w c) below j (from_word (c / 64) d a) (good_from_word d a gd g.0) g.1),
      )

  -- ---- what sums of equations keep

  module _ (n : ℕ) (P : Equation → Type 0) where
    abbrev pub Row_has : Row → Type 0
    Row_has row = P (equation_of n row)

    has_from : (a b : Row) → Good w c a → Good w c b → Row_has b → Row_has (from_word (c / 64) a b)
    has_from a b p q h = subst P (sym (equation_from_word n (c / 64) a b (good_long a p) (good_clear a p) (good_clear b q))) h

    has_of : (a b : Row) → Good w c a → Good w c b → Row_has (from_word (c / 64) a b) → Row_has b
    has_of a b p q h = subst P (equation_from_word n (c / 64) a b (good_long a p) (good_clear a p) (good_clear b q)) h

    abbrev pub Ahead : Step → Type 0
    Ahead passed = Unit {0}
    Ahead (taken p below) = Row_has p × Each Row_has below

    module _ (keeps : (a b : Equation) → P a → P b → P (sum a b)) where
      has_cleared : (p r : Row) → Good w c p → Row_has p → Good w c r × Row_has r → Row_has (clear_row c p r)
      has_cleared p r g h k =
          clear_row_cases Row_has c p r
          (λ b. subst P (sym (equation_xor_from n (c / 64) p r (good_long r k.0) (good_clear p g))) (keeps (equation_of n r) (equation_of n p) k.1 h))
          (λ b. k.1)

      pub step_ahead : {rest : List Row} {s : Step} → Stepped c rest s → Each (Good w c) rest → Each Row_has rest → Ahead s
      step_ahead (pass f) g h = tt
      step_ahead (first {a} {below} e) g h =
          let p = has_from a a g.0 g.0 h.0 in (
            p,
            each_of_map (clear_row c (from_word (c / 64) a a)) (λ r. Good w c r × Row_has r) Row_has below
                (λ r k. has_cleared (from_word (c / 64) a a) r (good_from_word a a g.0 g.0) p k) (each_both (Good w c) Row_has below g.1 h.1),
          )
      step_ahead (later {a} {below} j l e) g h =
          let d = get_or below j no_row in
          let gd = each_at (Good w c) below no_row j l g.1 in
          let p = has_from a d g.0 gd (each_at Row_has below no_row j l h.1) in (
            p,
            each_of_map (clear_row c (from_word (c / 64) a d)) (λ r. Good w c r × Row_has r) Row_has (set below j (from_word (c / 64) d a))
                (λ r k. has_cleared (from_word (c / 64) a d) r (good_from_word a d g.0 gd) p k)
                (each_both (Good w c) Row_has (set below j (from_word (c / 64) d a))
                (each_set (Good w c) below j (from_word (c / 64) d a) (good_from_word d a gd g.0) g.1)
                (each_set Row_has below j (from_word (c / 64) d a) (has_from d a gd g.0 h.0) h.1)),
          )

    abbrev pub Behind : List Row → Step → Type 0
    Behind rest passed = Unit {0}
    Behind rest (taken p below) = Row_has p → Each Row_has below → Each Row_has rest

    module _ (back : (a b : Row) → P (sum (equation_of n a) (equation_of n b)) → Row_has b → Row_has a) where
      has_uncleared : (p r : Row) → Good w c p → Row_has p → Good w c r → Row_has (clear_row c p r) → Row_has r
      has_uncleared p r g h k =
          clear_row_cases (λ s. Row_has s → Row_has r) c p r
          (λ b q. back r p (subst P (equation_xor_from n (c / 64) p r (good_long r k) (good_clear p g)) q) h)
          (λ b q. q)

      pub step_behind : {rest : List Row} {s : Step} → Stepped c rest s → Each (Good w c) rest → Behind rest s
      step_behind (pass f) g = tt
      step_behind (first {a} {below} e) g = λ p h. (
        has_of a a g.0 g.0 p,
        each_from_map (clear_row c (from_word (c / 64) a a)) (Good w c) Row_has Row_has below
            (λ r k q. has_uncleared (from_word (c / 64) a a) r (good_from_word a a g.0 g.0) p k q) g.1 h,
      )
      step_behind (later {a} {below} j l e) g = λ p h.
          let d = get_or below j no_row in
          let x = from_word (c / 64) d a in
          let gd = each_at (Good w c) below no_row j l g.1 in
          let gs = each_set (Good w c) below j x (good_from_word d a gd g.0) g.1 in
          let hs = each_from_map (clear_row c (from_word (c / 64) a d)) (Good w c) Row_has Row_has (set below j x)
          (λ r k q. has_uncleared (from_word (c / 64) a d) r (good_from_word a d g.0 gd) p k q) gs h in
          let hx : Row_has x = subst Row_has (get_or-set_same below j x no_row l) (each_at Row_has (set below j x) no_row j (lt-length-set below j x l) hs) in
          (has_of d a gd g.0 hx, each_unset Row_has below j x no_row (has_of a d g.0 gd p) hs)
