-- What is still to cancel, of the rows that the areas hold: a meeting's part, and the turns of the loops over rows.
use mathlib.Core.Path.{◌≡◌, refl, sym, ap, ap₂, ◌∙◌}
use mathlib.Core.Logic.{◌≢◌}
use mathlib.Core.List.{List, ◌++◌}
use Prim.Native.Nat.{ℕ, zero, suc, pred, ◌+◌, ◌-◌, ◌*◌, ◌≤◌, ◌<◌}
use native.Mathlib.Omega.{arith}
use native.Mathlib.Nat.{mul-le-mul}
use native.Mathlib.Numerals.{add-one}
use lib.ListN.{length, get_or, take, drop, length-append, length-drop}
use lib.Seq.{length-take-le, take_at}
use Rattle.answers.specs.Sizes.{max_variables, max_equations}
use Rattle.gf2.specs.Equation.{Equation, Rising}
use Rattle.gf2.specs.Result.{unsolvable, ok}
use Rattle.gf2.proofs.Each.{each_take}
use Rattle.gf2.specs.Common.{common}
use Rattle.rows.specs.Picture.{Drawn, Held, rows_of, row_at}
use Rattle.rows.proofs.Holding.{rows_are}
use Rattle.sparse_rules.specs.Eliminate.{meeting, outer_row}
use Rattle.sparse_rules.specs.Cancelled.{meeting_cancels, outer_row_cancels, outer_rows_cancel, sparse_cancels}
use Rattle.sparse_rules.proofs.Cancelled.{outer_row-le, sparse_fits}
use Rattle.sparse_rows.specs.Counts.{loop_cancels, ahead}
use Rattle.sparse_rows.specs.Reduce.{clashed, vanished, paired, again, refused, reduced, MeetsRows, Reduces}
use Rattle.sparse_rows.specs.declared.echelon.Met.{Met}
use Rattle.sparse_rows.specs.declared.echelon.Met.TheVariants.{Clash, Identity, Both, Summed}
use Rattle.sparse_rows.specs.Reduction.{Reduction}
use Rattle.sparse_rows.specs.Reduction.{Unsolvable, Reduced}
use Rattle.sparse_rows.proofs.Counts.{cancels_blank, cancels_apart, cancels_sum, count_clash, count_identity, count_both, count_again, outer_count, outer_count_none}
use Rattle.sparse_rows.proofs.Forward.{empty, full, first}

-- ---- one meeting, by what the code reads

module _ {n m : ℕ} {rows : List Equation} {rest rest' numbers words : List ℕ} (d : Drawn n m rows rest rest' numbers words) (i j : ℕ) (h : i < j) (l : j < m) where
  i_in : i < m
  i_in = omega arith

  pub blank_cost : (fallen : ℕ) → get_or numbers (m * n + n + j) 0 ≡ 0 → fallen ≡ fallen + 2 * meeting_cancels (row_at rows i) (row_at rows j)
  blank_cost fallen z = let e = cancels_blank (row_at rows i) (row_at rows j) (empty d j l z) in omega arith

  module _ (fi : get_or numbers (m * n + n + i) 0 ≢ 0) where
    pub sum_cost : (fallen : ℕ) {r : ℕ} → get_or numbers (m * n + n + j) 0 ≢ 0 → get_or numbers (i * n) 0 ≡ get_or numbers (j * n) 0
        → r ≡ fallen + 2 * common (row_at rows i).vars (row_at rows j).vars → r ≡ fallen + 2 * meeting_cancels (row_at rows i) (row_at rows j)
    sum_cost fallen fj same e = e ∙ ap (λ (c : ℕ). fallen + 2 * c) (sym (cancels_sum (row_at rows i) (row_at rows j) (full d j l fj) (full d i i_in fi) (sym (first d i i_in fi) ∙ same ∙ first d j l fj)))

    -- rows that begin apart are not added
    pub apart_cost : get_or numbers (i * n) 0 ≢ get_or numbers (j * n) 0 → meeting_cancels (row_at rows i) (row_at rows j) ≡ 0
    apart_cost ne = by_j (get_or numbers (m * n + n + j) 0) refl
      where
        by_j : (x : ℕ) → get_or numbers (m * n + n + j) 0 ≡ x → meeting_cancels (row_at rows i) (row_at rows j) ≡ 0
        by_j zero e = cancels_blank (row_at rows i) (row_at rows j) (empty d j l e)
        by_j (suc x) e =
            let fj : get_or numbers (m * n + n + j) 0 ≢ 0 = λ z. omega arith in
            cancels_apart (row_at rows i) (row_at rows j) (full d j l fj) (full d i i_in fi) (λ q. ne (first d i i_in fi ∙ q ∙ sym (first d j l fj)))

-- ---- one turn of row i's round

module _ {n m d i j : ℕ} {numbers words : List ℕ} (k : Held n m numbers words) (h : i < j) (l : j < d) (g : d ≤ m) where
  unfold_one : ahead n m d i numbers words j ≡ loop_cancels (suc (d - (j + 1))) i j (rows_of n m numbers words)
  unfold_one = let e : d - j ≡ suc (d - (j + 1)) = omega arith in ap (λ (x : ℕ). loop_cancels x i j (rows_of n m numbers words)) e

  module _ {numbers' words' : List ℕ} {r : Met} (q : MeetsRows meeting n m i j numbers words numbers' words' r) where
    pub ahead_clash : r ≡ Clash → ahead n m d i numbers words j ≡ meeting_cancels (row_at (rows_of n m numbers words) i) (row_at (rows_of n m numbers words) j)
    ahead_clash p = go q p
      where
        go : {r : Met} → MeetsRows meeting n m i j numbers words numbers' words' r → r ≡ Clash
            → ahead n m d i numbers words j ≡ meeting_cancels (row_at (rows_of n m numbers words) i) (row_at (rows_of n m numbers words) j)
        go (clashed e x) p = unfold_one ∙ count_clash (d - (j + 1)) i j (rows_of n m numbers words) e
        go (vanished i' e x) p = absurd (let z : ◌≡◌ {A = ℕ} 0 1 = cc in omega arith)
        go (paired i' j' e f x) p = absurd (let z : ◌≡◌ {A = ℕ} 0 1 = cc in omega arith)
        go (again i' e f g a x) p = absurd (let z : ◌≡◌ {A = ℕ} 0 1 = cc in omega arith)

    pub ahead_identity : r ≡ Identity → ahead n m d i numbers words j ≡ meeting_cancels (row_at (rows_of n m numbers words) i) (row_at (rows_of n m numbers words) j)
    ahead_identity p = go q p
      where
        go : {r : Met} → MeetsRows meeting n m i j numbers words numbers' words' r → r ≡ Identity
            → ahead n m d i numbers words j ≡ meeting_cancels (row_at (rows_of n m numbers words) i) (row_at (rows_of n m numbers words) j)
        go (clashed e x) p = absurd (let z : ◌≡◌ {A = ℕ} 0 1 = cc in omega arith)
        go (vanished i' e x) p = unfold_one ∙ count_identity (d - (j + 1)) i j (rows_of n m numbers words) i' e
        go (paired i' j' e f x) p = absurd (let z : ◌≡◌ {A = ℕ} 0 1 = cc in omega arith)
        go (again i' e f g a x) p = absurd (let z : ◌≡◌ {A = ℕ} 0 1 = cc in omega arith)

    pub ahead_turn : r ≡ Both
        → ahead n m d i numbers words j ≡ meeting_cancels (row_at (rows_of n m numbers words) i) (row_at (rows_of n m numbers words) j) + ahead n m d i numbers' words' (j + 1)
    ahead_turn p = go q p
      where
        go : {r : Met} → MeetsRows meeting n m i j numbers words numbers' words' r → r ≡ Both
            → ahead n m d i numbers words j ≡ meeting_cancels (row_at (rows_of n m numbers words) i) (row_at (rows_of n m numbers words) j) + ahead n m d i numbers' words' (j + 1)
        go (clashed e x) p = absurd (let z : ◌≡◌ {A = ℕ} 0 1 = cc in omega arith)
        go (vanished i' e x) p = absurd (let z : ◌≡◌ {A = ℕ} 0 1 = cc in omega arith)
        go (paired i' j' e f x) p =
            unfold_one ∙ count_both (d - (j + 1)) i j (rows_of n m numbers words) i' j' e
            ∙ ap₂ (λ (y : ℕ) (rs : List Equation). meeting_cancels (row_at (rows_of n m numbers words) i) (row_at (rows_of n m numbers words) j) + loop_cancels (d - (j + 1)) i y rs)
            (sym (add-one j)) (sym (rows_are x))
        go (again i' e f g a x) p = absurd (let z : ◌≡◌ {A = ℕ} 0 1 = cc in omega arith)

    -- the sum stands where row i stood, and meets row j again
    pub ahead_again : r ≡ Summed
        → ahead n m d i numbers words j ≡ meeting_cancels (row_at (rows_of n m numbers words) i) (row_at (rows_of n m numbers words) j) + ahead n m d i numbers' words' j
    ahead_again p = go q p
      where
        go : {r : Met} → MeetsRows meeting n m i j numbers words numbers' words' r → r ≡ Summed
            → ahead n m d i numbers words j ≡ meeting_cancels (row_at (rows_of n m numbers words) i) (row_at (rows_of n m numbers words) j) + ahead n m d i numbers' words' j
        go (clashed e x) p = absurd (let z : ◌≡◌ {A = ℕ} 0 1 = cc in omega arith)
        go (vanished i' e x) p = absurd (let z : ◌≡◌ {A = ℕ} 0 1 = cc in omega arith)
        go (paired i' j' e f x) p = absurd (let z : ◌≡◌ {A = ℕ} 0 1 = cc in omega arith)
        go (again i' e f f' a x) p =
            let ne : get_or i'.vars 0 0 ≢ get_or (row_at (rows_of n m numbers words) j).vars 0 0 = omega arith in
            let more : suc (d - (j + 1)) ≡ d - j = omega arith in
            unfold_one
            ∙ sym (count_again (d - (j + 1)) i j (rows_of n m numbers words) i' h (omega (arith, k.count)) e (cancels_apart i' (row_at (rows_of n m numbers words) j) f' f ne))
            ∙ ap₂ (λ (y : ℕ) (rs : List Equation). meeting_cancels (row_at (rows_of n m numbers words) i) (row_at (rows_of n m numbers words) j) + loop_cancels y i j rs) more (sym (rows_are x))

-- ---- the round, from its beginning to its end

pub ahead_over : (n m d i : ℕ) (numbers words : List ℕ) (j : ℕ) → d ≤ j → ahead n m d i numbers words j ≡ 0
unfolding loop_cancels
ahead_over n m d i numbers words j h = let z : d - j ≡ 0 = omega arith in ap (λ (x : ℕ). loop_cancels x i j (rows_of n m numbers words)) z

module _ {n m d i : ℕ} {numbers words : List ℕ} (k : Held n m numbers words) (h : i < d) (g : d ≤ m) where
  pub round_none : get_or numbers (m * n + n + i) 0 ≡ 0 → 0 ≡ outer_row_cancels i (take d (rows_of n m numbers words))
  round_none z = sym (outer_count_none d i (rows_of n m numbers words) h (omega (arith, k.count)) (empty k i (omega arith) z))

  module _ (f : get_or numbers (m * n + n + i) 0 ≢ 0) where
    pub round_whole : ahead n m d i numbers words (i + 1) ≡ outer_row_cancels i (take d (rows_of n m numbers words))
    round_whole = outer_count d i (rows_of n m numbers words) h (omega (arith, k.count)) (full k i (omega arith) f)

    -- no more than the rows can hold
    pub round_room : ahead n m d i numbers words (i + 1) ≤ m * n
    round_room =
        let a : outer_row_cancels i (take d (rows_of n m numbers words)) ≤ length (take d (rows_of n m numbers words)) * n =
        outer_row-le n i (take d (rows_of n m numbers words)) (each_take (λ (e : Equation). Rising 0 n e.vars) (rows_of n m numbers words) d k.rising) in
        let b : length (take d (rows_of n m numbers words)) * n ≤ m * n = mul-le-mul (omega (arith, length-take-le d (rows_of n m numbers words) (omega (arith, k.count)))) (omega arith) in
        omega (arith, round_whole)

-- ---- every row but the last

abbrev pub ahead_rows : ℕ → ℕ → ℕ → List ℕ → List ℕ → ℕ → ℕ
ahead_rows n m d numbers words i = outer_rows_cancel (d - 1 - i) i (take d (rows_of n m numbers words))

form_is : (rows : List Equation) → sparse_cancels rows ≡ outer_rows_cancel (pred (length rows)) 0 rows
unfolding sparse_cancels
form_is rows = refl

rows_least : (k i : ℕ) (rows : List Equation) → outer_row_cancels i rows ≤ outer_rows_cancel (suc k) i rows
unfolding outer_rows_cancel
rows_least k i rows = omega arith

rows_stop : (k i : ℕ) (rows : List Equation) → outer_row i rows ≡ unsolvable → outer_rows_cancel (suc k) i rows ≡ outer_row_cancels i rows
unfolding outer_rows_cancel
rows_stop k i rows e = rw (e, outer_rows_cancel) (omega arith)

rows_next : (k i : ℕ) (rows rows' : List Equation) → outer_row i rows ≡ ok rows' → outer_rows_cancel (suc k) i rows ≡ outer_row_cancels i rows + outer_rows_cancel k (suc i) rows'
unfolding outer_rows_cancel
rows_next k i rows rows' e = rw (e, outer_rows_cancel) refl

pub form_over : (n m d : ℕ) (numbers words : List ℕ) (i : ℕ) → d ≤ i + 1 → ahead_rows n m d numbers words i ≡ 0
unfolding outer_rows_cancel
form_over n m d numbers words i h = let z : d - 1 - i ≡ 0 = omega arith in ap (λ (x : ℕ). outer_rows_cancel x i (take d (rows_of n m numbers words))) z

module _ {n m d : ℕ} {numbers words : List ℕ} (k : Held n m numbers words) (g : d ≤ m) where
  long : length (take d (rows_of n m numbers words)) ≡ d
  long = length-take-le d (rows_of n m numbers words) (omega (arith, k.count))

  pub form_whole : ahead_rows n m d numbers words 0 ≡ sparse_cancels (take d (rows_of n m numbers words))
  form_whole = ap (λ (x : ℕ). outer_rows_cancel x 0 (take d (rows_of n m numbers words))) (less_one d ∙ ap pred (sym long)) ∙ sym (form_is (take d (rows_of n m numbers words)))
    where
      less_one : (d : ℕ) → d - 1 - 0 ≡ pred d
      less_one zero = refl
      less_one (suc d) = omega arith

  pub form_room : n ≤ max_variables → m ≤ max_equations → sparse_cancels (take d (rows_of n m numbers words)) ≤ max_equations * (max_equations * max_variables)
  form_room few hm =
      sparse_fits n (take d (rows_of n m numbers words)) (each_take (λ (e : Equation). Rising 0 n e.vars) (rows_of n m numbers words) d k.rising) few
      (omega (arith, long))

  module _ (i : ℕ) (h : i + 1 < d) where
    unfold_row : ahead_rows n m d numbers words i ≡ outer_rows_cancel (suc (d - 1 - (i + 1))) i (take d (rows_of n m numbers words))
    unfold_row = let e : d - 1 - i ≡ suc (d - 1 - (i + 1)) = omega arith in ap (λ (x : ℕ). outer_rows_cancel x i (take d (rows_of n m numbers words))) e

    pub form_least : outer_row_cancels i (take d (rows_of n m numbers words)) ≤ ahead_rows n m d numbers words i
    form_least = rw unfold_row (rows_least (d - 1 - (i + 1)) i (take d (rows_of n m numbers words)))

    module _ {numbers' words' : List ℕ} {r : Reduction} (q : Reduces (outer_row i) n m d numbers words numbers' words' r) where
      pub form_stop : r ≡ Unsolvable → ahead_rows n m d numbers words i ≡ outer_row_cancels i (take d (rows_of n m numbers words))
      form_stop p = go q p
        where
          go : {r : Reduction} → Reduces (outer_row i) n m d numbers words numbers' words' r → r ≡ Unsolvable
              → ahead_rows n m d numbers words i ≡ outer_row_cancels i (take d (rows_of n m numbers words))
          go (refused e x) p = unfold_row ∙ rows_stop (d - 1 - (i + 1)) i (take d (rows_of n m numbers words)) e
          go (reduced rows' e x) p = absurd (let z : ◌≡◌ {A = ℕ} 0 1 = cc in omega arith)

      pub form_turn : r ≡ Reduced → ahead_rows n m d numbers words i ≡ outer_row_cancels i (take d (rows_of n m numbers words)) + ahead_rows n m d numbers' words' (i + 1)
      form_turn p = go q p
        where
          go : {r : Reduction} → Reduces (outer_row i) n m d numbers words numbers' words' r → r ≡ Reduced
              → ahead_rows n m d numbers words i ≡ outer_row_cancels i (take d (rows_of n m numbers words)) + ahead_rows n m d numbers' words' (i + 1)
          go (refused e x) p = absurd (let z : ◌≡◌ {A = ℕ} 0 1 = cc in omega arith)
          go (reduced rows' e x) p =
              let all : length (rows' ++ drop d (rows_of n m numbers words)) ≡ m = x.count in
              let size : length rows' ≡ d = omega (arith, length-append rows' (drop d (rows_of n m numbers words)), length-drop d (rows_of n m numbers words), k.count) in
              let left : take d (rows_of n m numbers' words') ≡ rows' = ap (take d) (rows_are x) ∙ take_at rows' (drop d (rows_of n m numbers words)) d size in
              unfold_row ∙ rows_next (d - 1 - (i + 1)) i (take d (rows_of n m numbers words)) rows' e
              ∙ ap₂ (λ (y : ℕ) (rs : List Equation). outer_row_cancels i (take d (rows_of n m numbers words)) + outer_rows_cancel (d - 1 - (i + 1)) y rs) (sym (add-one i)) (sym left)
