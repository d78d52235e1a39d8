-- Where the segments of a state begin: the layout's numbers.
use mathlib.Core.Path.{◌≡◌, refl, sym, ap, ap₂, ◌∙◌}
use mathlib.Core.List.{List, [], ◌∷◌, map, reverse}
use Prim.Native.Nat.{ℕ, zero, suc, ◌+◌, ◌*◌, ◌≤◌}
use native.Mathlib.Nat.{mul-le-mul_right}
use native.Mathlib.Omega.{arith}
use lib.ListN.{length, get_or, length-append, length-replicate, length-map, length-reverse}
use Rattle.gf2.specs.Equation.{Equation}
use Rattle.answers.specs.Sizes.{lazy_numbers}
use Rattle.areas.specs.Segments.{joined, offset}
use Rattle.areas.proofs.Rows.{length-padded, length_laid}
use Rattle.areas.proofs.Segments.{length_joined}
use Rattle.lazy.specs.Lazy.{State, listing}
use Rattle.lazy_setup.specs.declared.Layout.{Layout}
use Rattle.lazy_setup.specs.Area.{mark, segments, lists_from, starts_from, lengths, rows_of, dense_part}
use Rattle.lazy_setup.specs.Layout.{sizes, Shaped, layout_of, Sized}

-- the sum of the first k of a list
before : ℕ → List ℕ → ℕ
before zero ns = 0
before (suc k) [] = 0
before (suc k) (n ∷ ns) = n + before k ns

offset_before : (k : ℕ) (segs : List (List ℕ)) → offset k segs ≡ before k (map (λ s. length s) segs)
unfolding offset before
offset_before zero segs = refl
offset_before (suc k) [] = refl
offset_before (suc k) (s ∷ segs) = ap (λ (x : ℕ). length s + x) (offset_before k segs)

length_segment : (k : ℕ) (segs : List (List ℕ)) → length (get_or segs k []) ≡ get_or (map (λ s. length s) segs) k 0
length_segment zero [] = refl
length_segment (suc k) [] = refl
length_segment zero (s ∷ segs) = refl
length_segment (suc k) (s ∷ segs) = length_segment k segs

-- ---- the sizes of a layout

pub at_n : (n m t : ℕ) (at : Layout) → at ≡ layout_of n m t → at.n ≡ n
unfolding layout_of
at_n n m t at same = ap (λ (a : Layout). a.n) same

pub at_m : (n m t : ℕ) (at : Layout) → at ≡ layout_of n m t → at.m ≡ m
unfolding layout_of
at_m n m t at same = ap (λ (a : Layout). a.m) same

-- ---- the segments of any list of them that has the layout's lengths

module _ (n m t : ℕ) (segs : List (List ℕ)) (h : Shaped n m t segs) where
  at : (k : ℕ) → offset k segs ≡ before k (sizes n m t)
  at k = offset_before k segs ∙ ap (before k) h

  -- how long segment k is
  pub long : (k : ℕ) → length (get_or segs k []) ≡ get_or (sizes n m t) k 0
  long k = length_segment k segs ∙ ap (λ (l : List ℕ). get_or l k 0) h

  pub fourteen : length segs ≡ 14
  fourteen = sym (length-map segs (λ s. length s)) ∙ ap (λ (l : List ℕ). length l) h

  pub at_lengths : offset 1 segs ≡ (layout_of n m t).lengths
  unfolding before layout_of
  at_lengths = at 1 ∙ (let z : m * n + 0 ≡ m * n = omega arith in z)

  pub at_lists : offset 2 segs ≡ (layout_of n m t).lists
  unfolding before layout_of
  at_lists = let e = at 2 in let z : offset 2 segs ≡ m * n + m = omega arith in z

  pub at_starts : offset 3 segs ≡ (layout_of n m t).starts
  unfolding before layout_of
  at_starts = let e = at 3 in let z : offset 3 segs ≡ m * n + m + t = omega arith in z

  pub at_weight : offset 4 segs ≡ (layout_of n m t).weight
  unfolding before layout_of
  at_weight = let e = at 4 in let z : offset 4 segs ≡ m * n + m + t + (n + 1) = omega arith in z

  pub at_variables : offset 5 segs ≡ (layout_of n m t).variables
  unfolding before layout_of
  at_variables = let e = at 5 in let z : offset 5 segs ≡ m * n + m + t + (n + 1) + n = omega arith in z

  pub at_idle : offset 6 segs ≡ (layout_of n m t).idle
  unfolding before layout_of
  at_idle = let e = at 6 in let z : offset 6 segs ≡ m * n + m + t + (n + 1) + n + n = omega arith in z

  pub at_position : offset 7 segs ≡ (layout_of n m t).position
  unfolding before layout_of
  at_position = let e = at 7 in let z : offset 7 segs ≡ m * n + m + t + (n + 1) + n + n + n = omega arith in z

  pub at_priority : offset 8 segs ≡ (layout_of n m t).priority
  unfolding before layout_of
  at_priority = let e = at 8 in let z : offset 8 segs ≡ m * n + m + t + (n + 1) + n + n + n + n = omega arith in z

  pub at_equations : offset 9 segs ≡ (layout_of n m t).equations
  unfolding before layout_of
  at_equations = let e = at 9 in let z : offset 9 segs ≡ m * n + m + t + (n + 1) + n + n + n + n + m = omega arith in z

  pub at_solved : offset 10 segs ≡ (layout_of n m t).solved
  unfolding before layout_of
  at_solved = let e = at 10 in let z : offset 10 segs ≡ m * n + m + t + (n + 1) + n + n + n + n + m + m = omega arith in z

  pub at_pivots : offset 11 segs ≡ (layout_of n m t).pivots
  unfolding before layout_of
  at_pivots = let e = at 11 in let z : offset 11 segs ≡ m * n + m + t + (n + 1) + n + n + n + n + m + m + m = omega arith in z

  pub at_count : offset 12 segs ≡ (layout_of n m t).count
  unfolding before layout_of
  at_count = let e = at 12 in let z : offset 12 segs ≡ m * n + m + t + (n + 1) + n + n + n + n + m + m + m + m = omega arith in z

  pub at_dense : offset 13 segs ≡ (layout_of n m t).dense
  unfolding before layout_of
  at_dense = let e = at 13 in let z : offset 13 segs ≡ m * n + m + t + (n + 1) + n + n + n + n + m + m + m + m + (m + 1) = omega arith in z

  -- together they are the room
  pub length_shaped : length (joined segs) ≡ lazy_numbers n m t
  unfolding before
  length_shaped = let e = at 14 in length_joined segs ∙ ap (λ (k : ℕ). offset k segs) fourteen ∙ omega arith

-- ---- the segments of a state

length-starts_from : (sys : List Equation) (a k n : ℕ) → length (starts_from sys a k n) ≡ n + 1
unfolding starts_from
length-starts_from sys a k zero = refl
length-starts_from sys a k (suc n) = let e = length-starts_from sys (a + length (listing sys k)) (suc k) n in omega arith

pub shaped : (n : ℕ) (sys : List Equation) (s : State) → Sized n sys s → Shaped n (length sys) (length (lists_from sys 0 n)) (segments n sys s)
unfolding segments
shaped n sys s z =
    cons rows (cons (length-map s.rows (λ r. length r.vars) ∙ z.rows) (cons refl (cons (length-starts_from sys 0 0 n) (cons z.weight
    (cons (length-padded n (reverse s.variables) (rw length-reverse z.variables)) (cons (length-map s.idle mark ∙ z.idle) (cons (length-replicate {A = ℕ} n 0)
    (cons z.priority (cons (length-padded m (reverse s.equations) (rw length-reverse z.equations))
    (cons (length-padded m (map (λ d. d.equation) s.solved) (rw length-map z.solved))
    (cons (length-padded m (map (λ d. d.pivot) s.solved) (rw length-map z.solved))
    (cons (length-replicate {A = ℕ} (m + 1) 0) (cons dense refl)))))))))))))
  where
    m : ℕ
    m = length sys

    cons : {a b : ℕ} {x y : List ℕ} → a ≡ b → x ≡ y → ◌≡◌ {A = List ℕ} (a ∷ x) (b ∷ y)
    cons p q = ap₂ (λ (x : ℕ) (l : List ℕ). x ∷ l) p q

    rows : length (rows_of n s.rows) ≡ m * n
    rows = length_laid n (map (λ r. r.vars) s.rows) z.narrow ∙ ap (λ (k : ℕ). k * n) (length-map s.rows (λ r. r.vars) ∙ z.rows)

    dense : length (dense_part n m s.dense) ≡ m * n + (n + m)
    dense =
        let r = length_laid n (map (λ r. r.vars) s.dense) z.dense_narrow in
        let k = length-map s.dense (λ r. r.vars) in
        let g = mul-le-mul_right n z.dense in
        let f : length (rows_of n s.dense) ≤ m * n = rw (r, k) g in
        rw (
          length-append,
          length-append,
          length-padded (m * n) (rows_of n s.dense) f,
          length-replicate {A = ℕ} n 0,
          length-padded m (lengths s.dense) (rw length-map z.dense),
        )
