-- The loop of back substitution, and the columns of a pivot's row from the pivot's word on.
use mathlib.Core.Path.{◌≡◌, refl, sym, ap, ap₂, ◌∙◌}
use mathlib.Core.List.{List, [], ◌∷◌, ◌++◌, append-nil}
use Prim.Native.Nat.{ℕ, zero, suc, ◌+◌, ◌-◌, ◌*◌, ◌/◌, ◌<◌, ◌≤◌}
use native.Mathlib.Nat.{zero-add, le_refl}
use native.Mathlib.Numerals.{add-one}
use native.Mathlib.Omega.{arith}
use lib.ListN.{length, get_or, set, take, drop, length-set, drop_of_length-le}
use lib.Seq.{drop-cons, get_or-take, length-take-le}
use lib.Bits.{bit_xor}
use Rattle.gf2.specs.Equation.{Each, Rising, eval_vars}
use Rattle.gf2.proofs.Each.{each_at}
use Rattle.gf2.proofs.EachMap.{each_back}
use Rattle.answers.specs.Sizes.{max_row_words}
use Rattle.dense_rows.specs.Bits.{Row, Clear, columns_from, columns}
use Rattle.dense_rows.specs.Steps.{no_row}
use Rattle.dense_rows.proofs.ColumnLaws.{columns_from_add, columns_from_none, columns_below, rising_columns}
use Rattle.dense_rows.specs.Areas.{rows_seen}
use Rattle.dense_rows.specs.declared.view.View.{View}
use Rattle.dense_rows.proofs.StepLaws.{Wide}
use Rattle.dense_rows.proofs.HeldLaws.{rows_wide}
use Rattle.dense_rows.proofs.Holding.{seen_count}
use Rattle.dense_rows.proofs.SetBits.{onward}
use Rattle.dense_walk.specs.Eliminate.{pin, back_sub}
use Rattle.dense_walk.specs.Stairs.{Stairs, Ready}

-- ---- the columns of a row from a word on

-- a rising list from n on, whose members are below n
none_between : (n k : ℕ) (l : List ℕ) → Rising n k l → Each (λ u. u < n) l → l ≡ []
none_between n k [] r h = refl
none_between n k (v ∷ l) r h = absurd (omega arith)

-- the pivot's word holds no column before the pivot, so the columns from that word on are all that the row has
pub onward_columns : (n w p : ℕ) (words : List ℕ) → n ≤ 64 * w → p < n → Clear p words → Each (λ u. u < n) (columns (64 * w) words) → onward w (p / 64) words ≡ columns n words
onward_columns n w p words hw hp f g =
    let q : ℕ = 64 * (p / 64) in
    let e : 64 * w ≡ n + (64 * w - n) = omega arith in
    let d : 64 * w ≡ q + 64 * (w - p / 64) = omega arith in
    let all : columns (64 * w) words ≡ columns n words ++ columns_from (64 * w - n) (0 + n) words = ap (λ (k : ℕ). columns_from k 0 words) e ∙ columns_from_add n (64 * w - n) 0 words in
    let high : columns_from (64 * w - n) (0 + n) words ≡ [] =
    rw (zero-add n) (none_between n (64 * w) (columns_from (64 * w - n) n words) (rising_columns (64 * w - n) n (64 * w) words (omega arith))
    (rw (zero-add n) at (each_back (λ u. u < n) (columns n words) (columns_from (64 * w - n) (0 + n) words) (rw all at g)))) in
    let from : columns (64 * w) words ≡ columns_from (64 * (w - p / 64)) q words =
    ap (λ (k : ℕ). columns_from k 0 words) d ∙ columns_from_add q (64 * (w - p / 64)) 0 words
    ∙ ap₂ (λ (a : List ℕ) (c : ℕ). a ++ columns_from (64 * (w - p / 64)) c words) (columns_from_none q 0 words (λ v _ l. f v (omega arith))) (zero-add q) in
    sym from ∙ all ∙ ap (λ (l : List ℕ). columns n words ++ l) high ∙ append-nil (columns n words)

-- ---- stairs by index

stairs_at : (n b : ℕ) (ps : List ℕ) (rows : List Row) (i : ℕ) → i < length ps → Stairs n b ps rows → (get_or ps i 0 < n) × Clear (get_or ps i 0) (get_or rows i no_row).words
stairs_at n b [] rows i h s = absurd (omega arith)
stairs_at n b (p ∷ ps) [] i h s = absurd s
stairs_at n b (p ∷ ps) (r ∷ rs) zero h s = (s.1, s.2)
stairs_at n b (p ∷ ps) (r ∷ rs) (suc i) h s = stairs_at n (suc p) ps rs i (omega arith) s.4

back_step : (n : ℕ) (ps : List ℕ) (rows : List Row) (x : List ℕ) (i : ℕ) → i < length ps → i < length rows
    → back_sub n (drop i ps) (drop i rows) x ≡ pin n (get_or ps i 0) (get_or rows i no_row) (back_sub n (drop (suc i) ps) (drop (suc i) rows) x)
unfolding back_sub
back_step n ps rows x i h l = ap₂ (λ (a : List ℕ) (b : List Row). back_sub n a b x) (drop-cons ps i 0 h) (drop-cons rows i no_row l)

-- ---- the loop

pub record Backing (a : View) (ps x₀ : List ℕ) (i : ℕ) (x : List ℕ) : Type 0 where
  pub long : length x ≡ length x₀
  pub so_far : x ≡ back_sub (length x₀) (drop i ps) (drop i (take (length ps) (rows_seen a))) x₀

pub backing_begin : (a : View) (ps x : List ℕ) → Backing a ps x (length ps) x
unfolding back_sub
backing_begin a ps x =
    let e : drop (length ps) ps ≡ [] = drop_of_length-le ps {i = length ps} (le_refl (length ps)) in
    record { long = refl; so_far = sym (ap (λ (l : List ℕ). back_sub (length x) l (drop (length ps) (take (length ps) (rows_seen a))) x) e) }

module _ {a : View} {ps x₀ : List ℕ} {i : ℕ} {x : List ℕ} (s : Backing a ps x₀ i x) (ranked : length ps ≤ a.m) (ready : Ready (length x₀) a.w ps (take (length ps) (rows_seen a))) (j : ℕ)
    (h : j + 1 ≡ i) (below : i ≤ length ps) where
  row : Row
  row = get_or (rows_seen a) j no_row

  -- the pivot is a cell, and its row has no column before it
  abbrev Here : Type 0
  Here = (get_or ps j 0 < length x₀) × Clear (get_or ps j 0) row.words

  here : Here
  unfolding row
  here =
      let k : j < length ps = omega arith in
      let t = stairs_at (length x₀) 0 ps (take (length ps) (rows_seen a)) j k ready.stairs in
      rw (get_or-take (length ps) (rows_seen a) j no_row k) at t

  fits : Each (λ u. u < length x₀) (columns (64 * a.w) row.words)
  unfolding row
  fits =
      let k : j < length ps = omega arith in
      let n = seen_count a in
      let l = length-take-le (length ps) (rows_seen a) (omega arith) in
      rw (get_or-take (length ps) (rows_seen a) j no_row k) at (each_at (λ q. Each (λ u. u < length x₀) (columns (64 * a.w) q.words)) (take (length ps) (rows_seen a)) no_row j (omega arith) ready.fits)

  wide : length row.words ≡ a.w
  unfolding row
  wide =
      let n = seen_count a in
      let r = a.room in
      each_at (Wide a.w) (rows_seen a) no_row j (omega arith) (rows_wide a.m a.w a.words.now (drop (a.m * a.w) a.words.now) (omega arith))

  -- the words of the row, as they are read
  module _ (words : List ℕ) (e : words ≡ (get_or (rows_seen a) j no_row).words) where
    abbrev Onward : List ℕ
    Onward = onward (length words) (get_or ps j 0 / 64) words

    listed : Onward ≡ columns (length x₀) row.words
    unfolding row
    listed =
        let t = here in
        rw e (ap (λ (w : ℕ). onward w (get_or ps j 0 / 64) row.words) wide ∙ onward_columns (length x₀) a.w (get_or ps j 0) row.words ready.wide_enough t.0 t.1 fits)

    pub backing_row : a.w ≤ max_row_words → (get_or ps j 0 / 64 ≤ length words) × (length words ≤ max_row_words) × Each (λ u. u < length x) Onward
    unfolding row
    backing_row f =
        let t = here in
        let w = wide in
        let l = ready.wide_enough in
        let n = ap length e in
        (omega arith, omega arith, rw (s.long, listed) (columns_below (length x₀) row.words))

    pub backing_turn : {c v : ℕ} → c ≡ (get_or (rows_seen a) j no_row).c → v ≡ eval_vars Onward x → Backing a ps x₀ j (set x (get_or ps j 0) (bit_xor c v))
    unfolding row pin
    backing_turn {c} {v} f g =
        let k : j < length ps = omega arith in
        let n = seen_count a in
        let l = length-take-le (length ps) (rows_seen a) (omega arith) in
        let y : List ℕ = back_sub (length x₀) (drop (suc j) ps) (drop (suc j) (take (length ps) (rows_seen a))) x₀ in
        let step : suc j ≡ i = sym (add-one j) ∙ h in
        let old : x ≡ y = s.so_far ∙ ap (λ (k : ℕ). back_sub (length x₀) (drop k ps) (drop k (take (length ps) (rows_seen a))) x₀) (sym step) in
        record {
          long = simp length-set s.long;
          so_far =
              ap₂ (λ (a b : ℕ). set x (get_or ps j 0) (bit_xor a b)) f (g ∙ ap (λ (l : List ℕ). eval_vars l x) listed)
              ∙ ap (λ (z : List ℕ). set z (get_or ps j 0) (bit_xor row.c (eval_vars (columns (length x₀) row.words) z))) old
              ∙ sym (back_step (length x₀) ps (take (length ps) (rows_seen a)) x₀ j k (omega arith)
              ∙ ap (λ (q : Row). pin (length x₀) (get_or ps j 0) q y) (get_or-take (length ps) (rows_seen a) j no_row k));
        }

  pub backing_pivot : get_or ps j 0 < length x
  backing_pivot = let t = here in let l = s.long in omega arith
