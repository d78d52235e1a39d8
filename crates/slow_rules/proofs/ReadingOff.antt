-- The constants read off: they meet every pivot row, and are 0 where no row begins.
use mathlib.Core.Path.{◌≡◌, refl, sym, ap₂, ◌∙◌, subst}
use mathlib.Core.Logic.{◌≢◌, ◌⊎◌, inl, inr, ⊎_elim}
use mathlib.Core.List.{List, [], ◌∷◌, map}
use mathlib.Core.Bool.{true}
use Prim.Native.Nat.{ℕ, zero, suc, ◌-◌, ◌<◌}
use native.Mathlib.Omega.{arith}
use lib.ListN.{length, get_or, set, length-set}
use lib.Seq.{get_or-set_same, get_or-set_other}
use lib.Bits.{bit_xor, xor_zero_r}
use Rattle.gf2.specs.Equation.{Equation, Each, eval_vars, lists, MeetsAll}
use Rattle.gf2.specs.Canonical.{Lead}
use Rattle.gf2.proofs.Each.{each_map}
use Rattle.gf2.proofs.EachMap.{each_of_map, each_both}
use Rattle.gf2.proofs.Members.{tail_listed, each_listed, listed_each}
use Rattle.gf2.proofs.Order.{rising_above}
use Rattle.gf2.proofs.Tests.{Tri, less, same, more, tri}
use Rattle.dense_rows.specs.Bits.{has_bit, columns_from, columns, equation_of}
use Rattle.dense_rows.proofs.ColumnLaws.{columns_lead, columns_below, rising_columns, lists_columns}
use Rattle.slow_rules.specs.Slow.{PivotRow, read_off}
use Rattle.slow_rules.proofs.ColumnsCleared.{PivotsRise, FirstIn, Alone}

-- the pivot rows as equations
abbrev pub pivot_equations : ℕ → List PivotRow → List Equation
pivot_equations n ds = map (λ d. equation_of n d.row) ds

pub read_length : (ds : List PivotRow) (x : List ℕ) → length (read_off ds x) ≡ length x
unfolding read_off
read_length [] x = refl
read_length (d ∷ ds) x = read_length ds (set x d.at d.row.c) ∙ length-set x d.at d.row.c

-- what is no pivot's column is as it was
read_other : (v : ℕ) (ds : List PivotRow) (x : List ℕ) → Each (λ d. v ≢ d.at) ds → get_or (read_off ds x) v 0 ≡ get_or x v 0
unfolding read_off
read_other v [] x h = refl
read_other v (d ∷ ds) x h = read_other v ds (set x d.at d.row.c) h.1 ∙ get_or-set_other x d.at v d.row.c 0 h.0

-- each pivot's column holds its row's constant
read_own : (ds : List PivotRow) (x : List ℕ) → PivotsRise ds → Each (λ d. d.at < length x) ds → Each (λ d. get_or (read_off ds x) d.at 0 ≡ d.row.c) ds
unfolding read_off
read_own [] x h l = tt
read_own (d ∷ ds) x h l =
    let y : List ℕ = set x d.at d.row.c in (
      read_other d.at ds y (each_map ds (λ e k z. omega arith) h.0) ∙ get_or-set_same x d.at d.row.c 0 l.0,
      read_own ds y h.1 (each_map ds (λ e k. simp length-set k) l.1),
    )

value_none : (vs x : List ℕ) → Each (λ u. get_or x u 0 ≡ 0) vs → eval_vars vs x ≡ 0
unfolding eval_vars
value_none [] x h = refl
value_none (v ∷ vs) x h = ap₂ bit_xor h.0 (value_none vs x h.1) ∙ xor_zero_r 0

module _ (n w : ℕ) (x₀ : List ℕ) (zeros : (v : ℕ) → get_or x₀ v 0 ≡ 0) (size : length x₀ ≡ n) where
  -- a row's columns past its pivot are no pivots
  rest_none : (ds : List PivotRow) (d : PivotRow) → d.at < n → FirstIn w d → Alone ds d
      → Each (λ u. get_or (read_off ds x₀) u 0 ≡ 0) (columns_from (n - suc d.at) (suc d.at) d.row.words)
  rest_none ds d l h a = listed_each (λ u. get_or (read_off ds x₀) u 0 ≡ 0) rest (λ u k. read_other u ds x₀ (each_map ds (apart u k) a) ∙ zeros u)
    where
      rest : List ℕ
      rest = columns_from (n - suc d.at) (suc d.at) d.row.words

      first : columns n d.row.words ≡ d.at ∷ columns_from (n - suc d.at) (suc d.at) d.row.words
      first = columns_lead n d.at d.row.words l h.1 h.2

      apart : (u : ℕ) → lists u rest ≡ true → (e : PivotRow) → (has_bit e.at d.row ≡ true → e.at ≡ d.at) → u ≢ e.at
      apart u k e f q =
          let above = each_listed (λ v. d.at < v) rest (rising_above d.at n rest (rising_columns (n - suc d.at) (suc d.at) n d.row.words (omega arith))) u k in
          let listed : lists u (columns n d.row.words) ≡ true = rw first (tail_listed u d.at rest k) in
          let inside = each_listed (λ v. v < n) (columns n d.row.words) (columns_below n d.row.words) u listed in
          let bit : has_bit u d.row ≡ true = sym (lists_columns n u d.row.words inside) ∙ listed in
          let z = f (subst (λ (v : ℕ). has_bit v d.row ≡ true) q bit) in
          omega arith

  pub read_meets : (ds : List PivotRow) → PivotsRise ds → Each (λ d. d.at < n) ds → Each (FirstIn w) ds → Each (Alone ds) ds → MeetsAll (read_off ds x₀) (pivot_equations n ds)
  unfolding eval_vars
  read_meets ds r l h a =
      each_of_map (λ d. equation_of n d.row) (λ d. ((d.at < n) × FirstIn w d) × (Alone ds d × (get_or (read_off ds x₀) d.at 0 ≡ d.row.c))) (λ e. eval_vars e.vars (read_off ds x₀) ≡ e.c) ds met
      (each_both (λ d. (d.at < n) × FirstIn w d) (λ d. Alone ds d × (get_or (read_off ds x₀) d.at 0 ≡ d.row.c)) ds (each_both (λ d. d.at < n) (FirstIn w) ds l h)
      (each_both (Alone ds) (λ d. get_or (read_off ds x₀) d.at 0 ≡ d.row.c) ds a (read_own ds x₀ r (each_map ds (λ d k. rw size k) l))))
    where
      met : (d : PivotRow) → ((d.at < n) × FirstIn w d) × (Alone ds d × (get_or (read_off ds x₀) d.at 0 ≡ d.row.c)) → eval_vars (columns n d.row.words) (read_off ds x₀) ≡ d.row.c
      met d k =
          rw (columns_lead n d.at d.row.words k.0.0 k.0.1.1 k.0.1.2)
          (ap₂ bit_xor k.1.1 (value_none (columns_from (n - suc d.at) (suc d.at) d.row.words) (read_off ds x₀) (rest_none ds d k.0.0 k.0.1 k.1.0)) ∙ xor_zero_r d.row.c)

  -- a value is as it was, or belongs to the first column of a row
  lead_cases : (ds : List PivotRow) (x : List ℕ) (b : Equation) → Each (λ d. d.at < n) ds → Each (FirstIn w) ds → (v : ℕ)
      → (get_or (read_off ds x) v 0 ≡ get_or x v 0) ⊎ ((i : ℕ) × (i < length (pivot_equations n ds)) × Lead v (get_or (pivot_equations n ds) i b).vars)
  unfolding read_off
  lead_cases [] x b l h v = inl refl
  lead_cases (d ∷ ds) x b l h v = go (tri v d.at) (lead_cases ds (set x d.at d.row.c) b l.1 h.1 v)
    where
      Later : Type 0
      Later = (i : ℕ) × (i < length (pivot_equations n ds)) × Lead v (get_or (pivot_equations n ds) i b).vars

      Goal : Type 0
      Goal =
          (get_or (read_off ds (set x d.at d.row.c)) v 0 ≡ get_or x v 0)
          ⊎ ((i : ℕ) × (i < suc (length (pivot_equations n ds))) × Lead v (get_or (equation_of n d.row ∷ pivot_equations n ds) i b).vars)

      other : v ≢ d.at → (get_or (read_off ds (set x d.at d.row.c)) v 0 ≡ get_or (set x d.at d.row.c) v 0) ⊎ Later → Goal
      other ne (inl z) = inl (z ∙ get_or-set_other x d.at v d.row.c 0 ne)
      other ne (inr t) = inr (suc t.0, omega (arith, t.1), t.2)

      go : Tri v d.at → (get_or (read_off ds (set x d.at d.row.c)) v 0 ≡ get_or (set x d.at d.row.c) v 0) ⊎ Later → Goal
      go (less k) ih = other (omega arith) ih
      go (more k) ih = other (omega arith) ih
      go (same e) ih = inr (zero, omega arith, rw (columns_lead n d.at d.row.words l.0 h.0.1 h.0.2) e)

  -- a value is 0, or belongs to the first column of a row
  pub read_lead : (ds : List PivotRow) (b : Equation) → Each (λ d. d.at < n) ds → Each (FirstIn w) ds → (v : ℕ)
      → (get_or (read_off ds x₀) v 0 ≡ 0) ⊎ ((i : ℕ) × (i < length (pivot_equations n ds)) × Lead v (get_or (pivot_equations n ds) i b).vars)
  read_lead ds b l h v = ⊎_elim (λ e. inl (e ∙ zeros v)) inr (lead_cases ds x₀ b l h v)
