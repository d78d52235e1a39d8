-- The sum of two rows, made in the scratch row and copied to the first of them: what fits, and what stands in the area then.
use mathlib.Core.Path.{◌≡◌, sym, ap, ap₂, ◌∙◌}
use mathlib.Core.List.{List, ◌++◌}
use Prim.Native.Nat.{ℕ, ◌+◌, ◌-◌, ◌≤◌, max}
use native.Mathlib.Omega.{arith}
use lib.ListN.{length, take, drop, replicate, length-replicate, length-drop, take-append-drop}
use lib.Seq.{length-take-le}
use Rattle.gf2.specs.Equation.{sym_diff}
use Rattle.gf2.proofs.SymDiff.{rising_sym_diff, rising_length}
use Rattle.areas.specs.Stretch.{stretch, put, zeroed}
use Rattle.areas.specs.Rows.{padded}
use Rattle.areas.proofs.Stretch.{take-stretch, stretch-take, stretch-replicate, length-stretch, stretch-put, put-put_over, put-stretch, put-append_left}
use Rattle.areas.proofs.Rows.{length-padded, put-padded}
use Rattle.equation.proofs.Settle.{zeroed_behind}
use Rattle.row_sums.specs.AddFits.{AddFits}
use Rattle.row_sums.specs.RowSum.{row_sum}

-- a row as it is lent: the part of the rows from p up to p + li
abbrev lent : ℕ → ℕ → List ℕ → List ℕ
lent p li rows = take (p + li - p) (drop p rows)

module _ {area : List ℕ} {n p li q lj s : ℕ} (f : AddFits area n p li q lj s) {rows : List ℕ} (hr : rows ≡ take s area) where
  lent_is : (b k : ℕ) → b + k ≤ s → lent b k rows ≡ stretch b k area
  unfolding stretch
  lent_is b k h = let e : b + k - b ≡ k = omega arith in rw (hr, e) (stretch-take b k s area h)

  pub sum_is : sym_diff (lent p li rows) (lent q lj rows) ≡ row_sum area p li q lj
  sum_is = ap₂ sym_diff (lent_is p li (omega (arith, f))) (lent_is q lj (omega (arith, f)))

  pub sum_short : length (sym_diff (lent p li rows) (lent q lj rows)) ≤ n
  sum_short =
      rw sum_is (omega (arith, rising_length 0 n (row_sum area p li q lj) (omega arith) (rising_sym_diff 0 n (stretch p li area) (stretch q lj area) f.left_rises f.right_rises)))

  -- zeros where a list was written over zeros
  zeros_again : (S scratch : List ℕ) → scratch ≡ drop s area → length S ≤ n → zeroed 0 (length S) (put 0 S scratch) ≡ scratch
  unfolding stretch
  zeros_again S scratch hs h =
      let k : ℕ = length S in
      let e : length S - 0 ≡ length S = omega arith in
      let rest : length scratch ≡ length area - s = ap length hs ∙ length-drop s area in
      let z : length (replicate {A = ℕ} (length S) 0) ≡ length S = length-replicate k 0 in
      let blank : stretch 0 k scratch ≡ replicate k 0 =
      ap (take k) hs ∙ sym (take-stretch k s n area h) ∙ ap (take k) f.scratch ∙ stretch-replicate 0 k n 0 (omega arith) in
      ap (λ (j : ℕ). put 0 (replicate j 0) (put 0 S scratch)) e
      ∙ put-put_over 0 0 (replicate k 0) S scratch (omega arith) (omega arith) (omega arith)
      ∙ ap (λ (x : List ℕ). put 0 x scratch) (sym blank)
      ∙ put-stretch 0 k scratch (omega (arith, f))

  -- the sum is copied to the row at p, with zeros behind it and where it was made
  pub settled : {scratch made first front back : List ℕ} {len top : ℕ} → scratch ≡ drop s area → len ≡ length (sym_diff (lent p li rows) (lent q lj rows))
      → made ≡ put 0 (sym_diff (lent p li rows) (lent q lj rows)) scratch → first ≡ put p (take len made) rows → top ≡ max li len
      → front ≡ zeroed (p + len) (p + top) first → back ≡ zeroed 0 len made → front ++ back ≡ put p (padded n (row_sum area p li q lj)) area
  unfolding stretch
  settled {scratch} {made} {front = front} {back} {len} {top} hs size hm h₁ ht hf hb =
      let S : List ℕ = sym_diff (lent p li rows) (lent q lj rows) in
      let short : length S ≤ n = sum_short in
      let cut : length rows ≡ s = ap length hr ∙ length-take-le s area (omega (arith, f)) in
      let rest : length scratch ≡ length area - s = ap length hs ∙ length-drop s area in
      let whole : rows ++ scratch ≡ area = ap₂ (λ (x y : List ℕ). x ++ y) hr hs ∙ take-append-drop s area in
      let copied : take len made ≡ S = ap₂ (λ (k : ℕ) (x : List ℕ). take k x) size hm ∙ stretch-put 0 S scratch (omega arith) in
      let behind : front ≡ put p (padded top S) rows =
      hf ∙ ap₂ (λ (k : ℕ) (x : List ℕ). zeroed (p + k) (p + top) x) size (h₁ ∙ ap (λ (x : List ℕ). put p x rows) copied) ∙ zeroed_behind p top S rows (omega (arith, f)) in
      let here : put p (padded top S) rows ++ scratch ≡ put p (padded top S) area =
      sym (put-append_left p (padded top S) rows scratch (omega (arith, f, length-padded top S (omega arith)))) ∙ ap (put p (padded top S)) whole in
      ap₂ (λ (x y : List ℕ). x ++ y) behind (hb ∙ ap₂ (λ (k : ℕ) (x : List ℕ). zeroed 0 k x) size hm ∙ zeros_again S scratch hs short)
      ∙ here
      ∙ put-padded n top p (stretch p li area) S area f.left_padded (omega (arith, length-stretch p li area (omega (arith, f)))) (omega arith) (omega (arith, f)) (omega (arith, f))
      ∙ ap (λ (x : List ℕ). put p (padded n x) area) sum_is
