-- The turns of the loops that check what is left of the rows and solve them from the last to the first.
use mathlib.Core.Path.{◌≡◌, refl, sym, ap, ap₂, ◌∙◌, subst}
use mathlib.Core.Logic.{◌≢◌}
use mathlib.Core.Bool.{Bool, true, false, not, true≢false, false≢true}
use mathlib.Core.List.{List, [], ◌∷◌}
use Prim.Native.Nat.{ℕ, zero, suc, ◌+◌, ◌-◌, ◌*◌, ◌≤◌, ◌<◌}
use native.Mathlib.Omega.{arith}
use native.Mathlib.Numerals.{add-one}
use native.Mathlib.Nat.{add-sub_cancel_left}
use lib.Dec.{eqb}
use lib.ListN.{length, get_or, set, take, drop, drop_of_length-le}
use lib.Seq.{drop-cons, get_or-take, length-take-le}
use lib.Bits.{bit_xor}
use Rattle.areas.specs.Stretch.{stretch}
use Rattle.areas.proofs.Offsets.{row_before}
use Rattle.gf2.specs.Equation.{Equation, eqn, Each, eval_vars}
use Rattle.gf2.proofs.Tests.{eqb_ne}
use Rattle.gf2.proofs.Each.{each_at, each_map}
use Rattle.gf2.proofs.Order.{rising_below}
use Rattle.rows.specs.Picture.{Drawn, row_at}
use Rattle.rows.proofs.Holding.{row_rising, row_narrow, row_length, row_vars, row_first, row_constant}
use Rattle.sparse_rules.specs.Eliminate.{contradicted, pin, back_sub}
use Rattle.sparse_rules.proofs.Cases.{contradicted_blank, contradicted_wrong, contradicted_full, pin_empty, pin_full}

none_left : contradicted [] ≡ false
unfolding contradicted
none_left = refl

-- ---- one row

module _ {n m : ℕ} {rows : List Equation} {rest rest' numbers words : List ℕ} (d : Drawn n m rows rest rest' numbers words) (i : ℕ) (h : i < m) where
  pub solvable_full : get_or numbers (m * n + n + i) 0 ≢ 0 → false ≡ contradicted (row_at rows i ∷ [])
  solvable_full f = sym (contradicted_full (row_at rows i) [] (λ e. f (row_length d i h ∙ e)) ∙ none_left)

  pub unsolvable_empty : get_or numbers (m * n + n + i) 0 ≡ 0 → not (eqb (get_or words i 0) 0) ≡ contradicted (row_at rows i ∷ [])
  unsolvable_empty z = rw (row_constant d i h) (go (row_at rows i).c refl)
    where
      go : (c : ℕ) → (row_at rows i).c ≡ c → not (eqb (row_at rows i).c 0) ≡ contradicted (row_at rows i ∷ [])
      go zero e = rw e (sym (contradicted_blank (row_at rows i) [] (sym (row_length d i h) ∙ z) e ∙ none_left))
      go (suc c) e =
          let ne : (row_at rows i).c ≢ 0 = omega arith in
          ap not (eqb_ne (row_at rows i).c 0 ne) ∙ sym (contradicted_wrong (row_at rows i) [] (sym (row_length d i h) ∙ z) ne)

  -- the variables of the row, as they lie in the numbers
  pub row_part : stretch (i * n) (get_or numbers (m * n + n + i) 0) numbers ≡ (row_at rows i).vars
  row_part = ap (λ (k : ℕ). stretch (i * n) k numbers) (row_length d i h) ∙ row_vars d i h

  pub row_fits : i * n + get_or numbers (m * n + n + i) 0 ≤ m * n
  row_fits = omega (arith, row_length d i h, row_narrow d i h, row_before i m n h)

-- ---- the check

pub record Checking (rows : List Equation) (d i : ℕ) : Type 0 where
  pub within : i ≤ d
  pub enough : d ≤ length rows
  pub future : contradicted (drop i (take d rows)) ≡ contradicted (take d rows)

pub checking_begin : (rows : List Equation) (d : ℕ) → d ≤ length rows → Checking rows d 0
checking_begin rows d h = record { within = omega arith; enough = h; future = refl }

-- a row apart from those after it
one_row : (e : Equation) (rest : List Equation) → contradicted (e ∷ []) ≡ false → contradicted (e ∷ rest) ≡ contradicted rest
unfolding contradicted
one_row e rest = go e.vars e.c
  where
    go : (vs : List ℕ) (c : ℕ) → contradicted (eqn vs c ∷ []) ≡ false → contradicted (eqn vs c ∷ rest) ≡ contradicted rest
    go [] zero q = refl
    go [] (suc c) q = absurd (true≢false q)
    go (v ∷ vs) c q = refl

one_wrong : (e : Equation) (rest : List Equation) → contradicted (e ∷ []) ≡ true → contradicted (e ∷ rest) ≡ true
unfolding contradicted
one_wrong e rest = go e.vars e.c
  where
    go : (vs : List ℕ) (c : ℕ) → contradicted (eqn vs c ∷ []) ≡ true → contradicted (eqn vs c ∷ rest) ≡ true
    go [] zero q = absurd (false≢true q)
    go [] (suc c) q = refl
    go (v ∷ vs) c q = absurd (false≢true q)

split_row : (rows : List Equation) (d i : ℕ) → i < d → d ≤ length rows → drop i (take d rows) ≡ row_at rows i ∷ drop (i + 1) (take d rows)
split_row rows d i h g =
    drop-cons (take d rows) i (eqn [] 0) (omega (arith, length-take-le d rows g))
    ∙ ap₂ (λ (e : Equation) (k : ℕ). e ∷ drop k (take d rows)) (get_or-take d rows i (eqn [] 0) h) (sym (add-one i))

module _ {rows : List Equation} {d i : ℕ} (s : Checking rows d i) (h : i < d) {r : Bool} (e : r ≡ contradicted (row_at rows i ∷ [])) where
  pub checking_stop : r ≡ true → true ≡ contradicted (take d rows)
  checking_stop t = sym (sym s.future ∙ ap contradicted (split_row rows d i h s.enough) ∙ one_wrong (row_at rows i) (drop (i + 1) (take d rows)) (sym e ∙ t))

  pub checking_turn : r ≡ false → Checking rows d (i + 1)
  checking_turn f =
      record {
        within = omega arith;
        enough = s.enough;
        future = sym (ap contradicted (split_row rows d i h s.enough) ∙ one_row (row_at rows i) (drop (i + 1) (take d rows)) (sym e ∙ f)) ∙ s.future;
      }

pub checking_end : {rows : List Equation} {d i : ℕ} → Checking rows d i → d ≤ i → false ≡ contradicted (take d rows)
checking_end {rows} {d} {i} s h =
    sym (sym s.future ∙ ap contradicted (let short : length (take d rows) ≤ i = omega (arith, length-take-le d rows s.enough) in drop_of_length-le (take d rows) short) ∙ none_left)

-- ---- back substitution

pub record Backing (rows : List Equation) (d : ℕ) (x₀ x : List ℕ) (i : ℕ) : Type 0 where
  pub within : i ≤ d
  pub enough : d ≤ length rows
  pub size : length x ≡ length x₀
  pub so_far : x ≡ back_sub (drop i (take d rows)) x₀

back_none : (x : List ℕ) → back_sub [] x ≡ x
unfolding back_sub
back_none x = refl

back_cons : (e : Equation) (rest : List Equation) (x : List ℕ) → back_sub (e ∷ rest) x ≡ pin e (back_sub rest x)
unfolding back_sub
back_cons e rest x = refl

pub backing_begin : (rows : List Equation) (d : ℕ) (x : List ℕ) → d ≤ length rows → Backing rows d x x d
backing_begin rows d x h =
    record {
      within = omega arith;
      enough = h;
      size = refl;
      so_far = sym (ap (λ (l : List Equation). back_sub l x) (let short : length (take d rows) ≤ d = omega (arith, length-take-le d rows h) in drop_of_length-le (take d rows) short) ∙ back_none x);
    }

pub backing_turn : {rows : List Equation} {d : ℕ} {x₀ x : List ℕ} {i : ℕ} (x' : List ℕ) → Backing rows d x₀ x i → 0 < i → x' ≡ pin (row_at rows (i - 1)) x → length x' ≡ length x → Backing rows d x₀ x' (i - 1)
backing_turn {rows} {d} {x₀} {x} {i} x' s h e l =
    let one : i - 1 + 1 ≡ i = omega arith in
    record {
      within = omega (arith, s.within);
      enough = s.enough;
      size = l ∙ s.size;
      so_far = e ∙ ap (pin (row_at rows (i - 1))) s.so_far ∙ sym (ap (λ (l : List Equation). back_sub l x₀) (split_row rows d (i - 1) (omega (arith, s.within)) s.enough)
          ∙ back_cons (row_at rows (i - 1)) (drop (i - 1 + 1) (take d rows)) x₀ ∙ ap (λ (k : ℕ). pin (row_at rows (i - 1)) (back_sub (drop k (take d rows)) x₀)) one);
    }

pub backing_end : {rows : List Equation} {d : ℕ} {x₀ x : List ℕ} {i : ℕ} → Backing rows d x₀ x i → i ≤ 0 → x ≡ back_sub (take d rows) x₀
backing_end {rows} {d} {x₀} {x} {i} s h = let z : i ≡ 0 = omega arith in s.so_far ∙ ap (λ (k : ℕ). back_sub (drop k (take d rows)) x₀) z

-- ---- one row is pinned

-- a part of a slice is a stretch
part_is : (p l : ℕ) (area : List ℕ) → take (p + l - p) (drop p area) ≡ stretch p l area
unfolding stretch
part_is p l area = ap (λ (k : ℕ). take k (drop p area)) (add-sub_cancel_left p l)

module _ {n m : ℕ} {rows : List Equation} {rest rest' numbers words : List ℕ} (d : Drawn n m rows rest rest' numbers words) (i : ℕ) (h : i < m) (x : List ℕ) (size : length x ≡ n) where
  pub pin_skip : get_or numbers (m * n + n + i) 0 ≡ 0 → x ≡ pin (row_at rows i) x
  pin_skip z = sym (pin_empty (row_at rows i) x (sym (row_length d i h) ∙ z))

  part : take (i * n + get_or numbers (m * n + n + i) 0 - i * n) (drop (i * n) numbers) ≡ (row_at rows i).vars
  part = part_is (i * n) (get_or numbers (m * n + n + i) 0) numbers ∙ row_part d i h

  pub pin_listed : Each (λ v. v < length x) (take (i * n + get_or numbers (m * n + n + i) 0 - i * n) (drop (i * n) numbers))
  pin_listed = subst (Each (λ v. v < length x)) (sym part) (each_map (row_at rows i).vars (λ v l. omega arith) (rising_below 0 n (row_at rows i).vars (row_rising d i h)))

  module _ (f : get_or numbers (m * n + n + i) 0 ≢ 0) where
    full : length (row_at rows i).vars ≢ 0
    full e = f (row_length d i h ∙ e)

    first_is : get_or numbers (i * n) 0 ≡ get_or (row_at rows i).vars 0 0
    first_is = row_first d i h (omega (arith, full, row_narrow d i h))

    pub pin_place : get_or numbers (i * n) 0 < length x
    pin_place =
        let b : get_or (row_at rows i).vars 0 0 < n = each_at (λ u. u < n) (row_at rows i).vars 0 0 (omega (arith, full)) (rising_below 0 n (row_at rows i).vars (row_rising d i h)) in
        omega (arith, first_is)

    pub pin_done : (sum : ℕ) → sum ≡ eval_vars (take (i * n + get_or numbers (m * n + n + i) 0 - i * n) (drop (i * n) numbers)) x → set x (get_or numbers (i * n) 0) (bit_xor (get_or words i 0) sum) ≡ pin (row_at rows i) x
    pin_done sum e = rw (e, part, first_is, row_constant d i h) (sym (pin_full (row_at rows i) x full))
