-- The turns of the two loops over rows: row i meets the later rows, and every row but the last is an outer row.
use mathlib.Core.Path.{◌≡◌, refl, sym, ap, ap₂, ◌∙◌, subst, subst₂}
use mathlib.Core.Logic.{◌≢◌}
use mathlib.Core.List.{List, [], ◌++◌}
use Prim.Native.Nat.{ℕ, zero, suc, pred, ◌+◌, ◌-◌, ◌*◌, ◌≤◌, ◌<◌}
use native.Mathlib.Omega.{arith}
use native.Mathlib.Numerals.{add-one}
use lib.ListN.{length, get_or, set, take, drop, length-append, length-drop, take-append-drop}
use lib.Seq.{get_or-set_same, get_or-set_other, length-take-le, take_at, drop_at}
use Rattle.gf2.specs.Equation.{Equation, eqn}
use Rattle.gf2.specs.Result.{Result, unsolvable, ok}
use Rattle.rows.specs.Picture.{Drawn, Kept, Held, rows_of, row_at}
use Rattle.rows.proofs.Holding.{row_constant, row_length, rest_kept, rows_are, held, carried}
use Rattle.sparse_rules.specs.Eliminate.{meeting, outer_row, outer_rows, echelon_form}
use Rattle.sparse_rows.specs.Reduce.{MetBy, clashed, vanished, paired, again, ReducedBy, refused, reduced, MeetsRows, Reduces, Alike, Passes}
use Rattle.sparse_rows.specs.declared.echelon.Met.{Met}
use Rattle.sparse_rows.specs.declared.echelon.Met.TheVariants.{Clash, Identity, Both, Summed}
use Rattle.sparse_rows.specs.Reduction.{Reduction}
use Rattle.sparse_rows.specs.Reduction.{Unsolvable, Reduced}
use Rattle.sparse_rows.specs.Loop.{meet_loop, StandsAt}
use Rattle.sparse_rows.proofs.Loops.{loop_clash, loop_identity, loop_both, loop_again, loop_over, followed, outer_blank, outer_wrong, outer_loop}
use Rattle.sparse_rows.proofs.Forward.{empty, full, first}

module _ {n m d : ℕ} {rows₀ : List Equation} {rest rest' numbers words : List ℕ} where
  -- what a loop that went through to the end has come to
  settled : (o : Result (List Equation)) (rows : List Equation) → followed (drop d rows₀) o ≡ ok rows → Drawn n m rows rest rest' numbers words
      → ReducedBy n m d rows₀ rest rest' o numbers words Reduced
  settled unsolvable rows e k = absurd (let z : ◌≡◌ {A = ℕ} 0 1 = cc in omega arith)
  settled (ok rows') rows e k = let q : rows ≡ rows' ++ drop d rows₀ = cc in reduced rows' refl (subst (λ (r : List Equation). Drawn n m r rest rest' numbers words) q k)

  failed : (o : Result (List Equation)) → followed (drop d rows₀) o ≡ unsolvable → Kept n m rest rest' numbers words → ReducedBy n m d rows₀ rest rest' o numbers words Unsolvable
  failed unsolvable e k = refused refl k
  failed (ok rows) e k = absurd (let z : ◌≡◌ {A = ℕ} 0 1 = cc in omega arith)

-- ---- row i meets the later rows

-- a meeting that leaves both rows is a turn of the loop, whatever the loop gives
module _ {n m d i : ℕ} {o : Result (List Equation)} {rest rest' numbers words : List ℕ} {j : ℕ} (s : StandsAt n m d i o rest rest' numbers words j) (h : j < d) where
  pub one_more : meet_loop (suc (d - (j + 1))) i j s.rows ≡ o
  one_more = let e : suc (d - (j + 1)) ≡ d - j = omega arith in ap (λ (k : ℕ). meet_loop k i j s.rows) e ∙ s.future

  module _ {numbers' words' : List ℕ} {r : Met} (k : MeetsRows meeting n m i j numbers words numbers' words' r) where
    pub met : MetBy n m i j s.rows rest rest' (meeting (row_at s.rows i) (row_at s.rows j)) numbers' words' r
    met = carried s.drawn (λ rows x y. MetBy n m i j rows x y (meeting (row_at rows i) (row_at rows j)) numbers' words' r) k

    pub stands_turn : r ≡ Both → StandsAt n m d i o rest rest' numbers' words' (j + 1)
    stands_turn = go met
      where
        now_i : (i' j' : Equation) → row_at (set (set s.rows i i') j j') i ≡ i'
        now_i i' j' =
            let ne : i ≢ j = omega (arith, s.i_below) in
            get_or-set_other (set s.rows i i') j i j' (eqn [] 0) ne ∙ get_or-set_same s.rows i i' (eqn [] 0) (omega (arith, s.i_below, s.d_in, s.drawn.count))

        go : {r : Met} → MetBy n m i j s.rows rest rest' (meeting (row_at s.rows i) (row_at s.rows j)) numbers' words' r → r ≡ Both → StandsAt n m d i o rest rest' numbers' words' (j + 1)
        go (clashed e q) p = absurd (let z : ◌≡◌ {A = ℕ} 0 1 = cc in omega arith)
        go (vanished i' e q) p = absurd (let z : ◌≡◌ {A = ℕ} 0 1 = cc in omega arith)
        go (paired i' j' e f q) p =
            record {
              rows = set (set s.rows i i') j j';
              drawn = q;
              i_below = omega (arith, s.i_below);
              j_in = omega arith;
              d_in = s.d_in;
              filled = λ z. f (ap (λ (e : Equation). length e.vars) (sym (now_i i' j')) ∙ z);
              future = ap (λ (x : ℕ). meet_loop (d - (j + 1)) i x (set (set s.rows i i') j j')) (add-one j) ∙ sym (loop_both (d - (j + 1)) i j s.rows i' j' e) ∙ one_more;
            }
        go (again i' e f g a q) p = absurd (let z : ◌≡◌ {A = ℕ} 0 1 = cc in omega arith)

    -- a sum stands where row i stood
    pub stands_again : r ≡ Summed → StandsAt n m d i o rest rest' numbers' words' j
    stands_again = go met
      where
        go : {r : Met} → MetBy n m i j s.rows rest rest' (meeting (row_at s.rows i) (row_at s.rows j)) numbers' words' r → r ≡ Summed → StandsAt n m d i o rest rest' numbers' words' j
        go (clashed e q) p = absurd (let z : ◌≡◌ {A = ℕ} 0 1 = cc in omega arith)
        go (vanished i' e q) p = absurd (let z : ◌≡◌ {A = ℕ} 0 1 = cc in omega arith)
        go (paired i' j' e f q) p = absurd (let z : ◌≡◌ {A = ℕ} 0 1 = cc in omega arith)
        go (again i' e f g a q) p =
            let l : i < length s.rows = omega (arith, s.i_below, s.d_in, s.drawn.count) in
            let now_i : row_at (set s.rows i i') i ≡ i' = get_or-set_same s.rows i i' (eqn [] 0) l in
            let more : d - j ≡ suc (d - (j + 1)) = omega arith in
            record {
              rows = set s.rows i i';
              drawn = q;
              i_below = s.i_below;
              j_in = s.j_in;
              d_in = s.d_in;
              filled = λ z. f (ap (λ (e : Equation). length e.vars) (sym now_i) ∙ z);
              future = ap (λ (k : ℕ). meet_loop k i j (set s.rows i i')) more ∙ loop_again (d - (j + 1)) i j s.rows i' s.i_below l e ∙ one_more;
            }

    -- .. and begins above row j, which has variables
    pub again_apart : r ≡ Summed → Alike n m i j numbers' → ⊥
    again_apart = go met
      where
        go : {r : Met} → MetBy n m i j s.rows rest rest' (meeting (row_at s.rows i) (row_at s.rows j)) numbers' words' r → r ≡ Summed → Alike n m i j numbers' → ⊥
        go (clashed e q) p x = absurd (let z : ◌≡◌ {A = ℕ} 0 1 = cc in omega arith)
        go (vanished i' e q) p x = absurd (let z : ◌≡◌ {A = ℕ} 0 1 = cc in omega arith)
        go (paired i' j' e f q) p x = absurd (let z : ◌≡◌ {A = ℕ} 0 1 = cc in omega arith)
        go (again i' e f g a q) p x =
            let hi : i < m = omega (arith, s.i_below, s.d_in) in
            let hj : j < m = omega (arith, s.d_in) in
            let ne : j ≢ i = omega (arith, s.i_below) in
            let now_i : row_at (set s.rows i i') i ≡ i' = get_or-set_same s.rows i i' (eqn [] 0) (omega (arith, s.drawn.count)) in
            let now_j : row_at (set s.rows i i') j ≡ row_at s.rows j = get_or-set_other s.rows i j i' (eqn [] 0) ne in
            let fj : get_or numbers' (m * n + n + j) 0 ≢ 0 = λ z. g (ap (λ (e : Equation). length e.vars) (sym now_j) ∙ sym (row_length q j hj) ∙ z) in
            let u : get_or numbers' (i * n) 0 ≡ get_or i'.vars 0 0 = first q i hi x.filled ∙ ap (λ (e : Equation). get_or e.vars 0 0) now_i in
            let v : get_or numbers' (j * n) 0 ≡ get_or (row_at s.rows j).vars 0 0 = first q j hj fj ∙ ap (λ (e : Equation). get_or e.vars 0 0) now_j in
            omega (arith, x.same fj)

module _ {n m d i : ℕ} {o : Result (List Equation)} {rest rest' numbers words : List ℕ} {j : ℕ} (s : StandsAt n m d i o rest rest' numbers words j) where
  -- row i has variables, as the code sees it
  pub stands_filled : get_or numbers (m * n + n + i) 0 ≢ 0
  stands_filled z = s.filled (sym (row_length s.drawn i (omega (arith, s.i_below, s.j_in, s.d_in))) ∙ z)

  -- no row is passed yet
  pub passes_none : (j < d → Alike n m i j numbers) → Passes n m d i j numbers words numbers words j
  passes_none a =
      record {
        from = omega arith;
        still = λ _. refl;
        alike = a;
        stands = record { rows = rows_of n m numbers words; drawn = held s.drawn; i_below = s.i_below; j_in = s.j_in; d_in = s.d_in; filled = λ z. s.filled (ap (λ (r : List Equation). length (row_at r i).vars) (sym (rows_are s.drawn)) ∙ z); future = refl };
      }

  -- some rows are passed
  pub stands_passed : {numbers' words' : List ℕ} {r : ℕ} → Passes n m d i j numbers words numbers' words' r → StandsAt n m d i o rest rest' numbers' words' r
  stands_passed {numbers'} {words'} {r} p =
      let q : StandsAt n m d i (meet_loop (d - j) i j s.rows) rest rest' numbers' words' r =
      carried s.drawn (λ rows x y. StandsAt n m d i (meet_loop (d - j) i j rows) x y numbers' words' r) p.stands in
      record { rows = q.rows; drawn = q.drawn; i_below = q.i_below; j_in = q.j_in; d_in = q.d_in; filled = q.filled; future = q.future ∙ s.future }

-- a turn of the loop after some that have passed rows
pub passes_turn : {n m d i j j' r : ℕ} {numbers words numbers₁ words₁ numbers₂ words₂ numbers₃ words₃ : List ℕ} {x : Met} → Passes n m d i j numbers words numbers₁ words₁ j' → j' < d
    → MeetsRows meeting n m i j' numbers₁ words₁ numbers₂ words₂ x → x ≡ Both → Passes n m d i (j' + 1) numbers₂ words₂ numbers₃ words₃ r → Passes n m d i j numbers words numbers₃ words₃ r
passes_turn p h k e q =
    record { from = omega (arith, p.from, q.from); still = λ x. absurd (omega (arith, p.from, q.from)); alike = q.alike; stands = stands_passed (stands_turn p.stands h k e) q }

-- .. and one after a sum, which meets row j' again and passes it
module _ {n m d i j j' r : ℕ} {numbers words numbers₁ words₁ numbers₂ words₂ numbers₃ words₃ : List ℕ} {x : Met} (p : Passes n m d i j numbers words numbers₁ words₁ j') (h : j' < d)
    (k : MeetsRows meeting n m i j' numbers₁ words₁ numbers₂ words₂ x) (e : x ≡ Summed) (q : Passes n m d i j' numbers₂ words₂ numbers₃ words₃ r) where
  pub again_onward : j' < r
  again_onward =
      let ne : r ≢ j' = λ z. again_apart p.stands h k e (subst₂ (λ (j : ℕ) (l : List ℕ). Alike n m i j l) z (q.still z) (q.alike (omega arith))) in
      omega (arith, q.from)

  pub passes_again : Passes n m d i j numbers words numbers₃ words₃ r
  passes_again =
      record { from = omega (arith, p.from, q.from); still = λ z. absurd (omega (arith, p.from, again_onward)); alike = q.alike; stands = stands_passed (stands_again p.stands h k e) q }

-- what is left of the loop over j gives what the whole gives
pub record Rounding (n m d i : ℕ) (rows₀ : List Equation) (rest rest' numbers words : List ℕ) (j : ℕ) : Type 0 where
  pub stands : StandsAt n m d i (followed (drop d rows₀) (outer_row i (take d rows₀))) rest rest' numbers words j

module _ {n m d i : ℕ} {rows : List Equation} {rest rest' numbers words : List ℕ} (k : Drawn n m rows rest rest' numbers words) (h : i < d) (g : d ≤ m) where
  i_in : i < m
  i_in = omega arith

  pub round_wrong : get_or numbers (m * n + n + i) 0 ≡ 0 → get_or words i 0 ≢ 0 → ReducedBy n m d rows rest rest' (outer_row i (take d rows)) numbers words Unsolvable
  round_wrong z ne = refused (outer_wrong d i rows h (omega (arith, k.count)) (empty k i i_in z) (λ e. ne (row_constant k i i_in ∙ e))) (rest_kept k)

  pub round_blank : get_or numbers (m * n + n + i) 0 ≡ 0 → get_or words i 0 ≡ 0 → ReducedBy n m d rows rest rest' (outer_row i (take d rows)) numbers words Reduced
  round_blank z e =
      reduced (take d rows) (outer_blank d i rows h (omega (arith, k.count)) (empty k i i_in z) (sym (row_constant k i i_in) ∙ e))
      (subst (λ (r : List Equation). Drawn n m r rest rest' numbers words) (sym (take-append-drop d rows)) k)

  pub round_begin : get_or numbers (m * n + n + i) 0 ≢ 0 → Rounding n m d i rows rest rest' numbers words (i + 1)
  round_begin f =
      record { stands = record { rows = rows; drawn = k; i_below = omega arith; j_in = omega arith; d_in = g; filled = full k i i_in f; future = outer_loop d i rows h (omega (arith, k.count)) (full k i i_in f) } }

module _ {n m d i : ℕ} {rows₀ : List Equation} {rest rest' numbers words : List ℕ} {j : ℕ} (s : Rounding n m d i rows₀ rest rest' numbers words j) where
  pub round_passed : {numbers' words' : List ℕ} {r : ℕ} → Passes n m d i j numbers words numbers' words' r → Rounding n m d i rows₀ rest rest' numbers' words' r
  round_passed p = record { stands = stands_passed s.stands p }

  pub round_end : d ≤ j → ReducedBy n m d rows₀ rest rest' (outer_row i (take d rows₀)) numbers words Reduced
  round_end h =
      let z : d - j ≡ 0 = omega arith in
      settled (outer_row i (take d rows₀)) s.stands.rows (sym s.stands.future ∙ loop_over (d - j) i j s.stands.rows z) s.stands.drawn

  module _ (h : j < d) {numbers' words' : List ℕ} {r : Met} (k : MeetsRows meeting n m i j numbers words numbers' words' r) where
    pub round_clash : r ≡ Clash → ReducedBy n m d rows₀ rest rest' (outer_row i (take d rows₀)) numbers' words' Unsolvable
    round_clash = go (met s.stands h k)
      where
        go : {r : Met} → MetBy n m i j s.stands.rows rest rest' (meeting (row_at s.stands.rows i) (row_at s.stands.rows j)) numbers' words' r → r ≡ Clash
            → ReducedBy n m d rows₀ rest rest' (outer_row i (take d rows₀)) numbers' words' Unsolvable
        go (clashed e q) p = failed (outer_row i (take d rows₀)) (sym (one_more s.stands h) ∙ loop_clash (d - (j + 1)) i j s.stands.rows e) q
        go (vanished i' e q) p = absurd (let z : ◌≡◌ {A = ℕ} 0 1 = cc in omega arith)
        go (paired i' j' e f q) p = absurd (let z : ◌≡◌ {A = ℕ} 0 1 = cc in omega arith)
        go (again i' e f g a q) p = absurd (let z : ◌≡◌ {A = ℕ} 0 1 = cc in omega arith)

    pub round_identity : r ≡ Identity → ReducedBy n m d rows₀ rest rest' (outer_row i (take d rows₀)) numbers' words' Reduced
    round_identity = go (met s.stands h k)
      where
        go : {r : Met} → MetBy n m i j s.stands.rows rest rest' (meeting (row_at s.stands.rows i) (row_at s.stands.rows j)) numbers' words' r → r ≡ Identity
            → ReducedBy n m d rows₀ rest rest' (outer_row i (take d rows₀)) numbers' words' Reduced
        go (clashed e q) p = absurd (let z : ◌≡◌ {A = ℕ} 0 1 = cc in omega arith)
        go (vanished i' e q) p = settled (outer_row i (take d rows₀)) (set s.stands.rows i i') (sym (one_more s.stands h) ∙ loop_identity (d - (j + 1)) i j s.stands.rows i' e) q
        go (paired i' j' e f q) p = absurd (let z : ◌≡◌ {A = ℕ} 0 1 = cc in omega arith)
        go (again i' e f g a q) p = absurd (let z : ◌≡◌ {A = ℕ} 0 1 = cc in omega arith)

-- ---- every row but the last

rows_over : (k i : ℕ) (rows : List Equation) → k ≡ 0 → outer_rows k i rows ≡ ok rows
unfolding outer_rows
rows_over k i rows e = ap (λ (k : ℕ). outer_rows k i rows) e

rows_failed : (k i : ℕ) (rows : List Equation) → outer_row i rows ≡ unsolvable → outer_rows (suc k) i rows ≡ unsolvable
unfolding outer_rows
rows_failed k i rows e = rw (e, outer_rows)

rows_next : (k i : ℕ) (rows rows' : List Equation) → outer_row i rows ≡ ok rows' → outer_rows (suc k) i rows ≡ outer_rows k (suc i) rows'
unfolding outer_rows
rows_next k i rows rows' e = rw (e, outer_rows)

form_is : (rows : List Equation) → echelon_form rows ≡ outer_rows (pred (length rows)) 0 rows
unfolding echelon_form
form_is rows = refl

pub record Reducing (n m d : ℕ) (rows₀ : List Equation) (rest rest' numbers words : List ℕ) (i : ℕ) : Type 0 where
  pub rows : List Equation
  pub drawn : Drawn n m rows rest rest' numbers words
  pub tail : drop d rows ≡ drop d rows₀
  pub d_in : d ≤ m
  pub future : outer_rows (d - 1 - i) i (take d rows) ≡ echelon_form (take d rows₀)

pub reducing_begin : {n m d : ℕ} {rows : List Equation} {rest rest' numbers words : List ℕ} → Drawn n m rows rest rest' numbers words → d ≤ m → Reducing n m d rows rest rest' numbers words 0
reducing_begin {n} {m} {d} {rows} k g =
    let e : d - 1 - 0 ≡ pred (length (take d rows)) = count in
    record { rows = rows; drawn = k; tail = refl; d_in = g; future = ap (λ (k : ℕ). outer_rows k 0 (take d rows)) e ∙ sym (form_is (take d rows)) }
  where
    less_one : (d : ℕ) → d - 1 - 0 ≡ pred d
    less_one zero = refl
    less_one (suc d) = omega arith

    count : d - 1 - 0 ≡ pred (length (take d rows))
    count = less_one d ∙ ap pred (sym (length-take-le d rows (omega (arith, k.count))))

module _ {n m d : ℕ} {rows₀ : List Equation} {rest rest' numbers words : List ℕ} {i : ℕ} (s : Reducing n m d rows₀ rest rest' numbers words i) where
  pub reducing_held : Held n m numbers words
  reducing_held = held s.drawn

  pub reducing_end : d ≤ i + 1 → ReducedBy n m d rows₀ rest rest' (echelon_form (take d rows₀)) numbers words Reduced
  reducing_end h =
      let z : d - 1 - i ≡ 0 = omega arith in
      reduced (take d s.rows) (sym s.future ∙ rows_over (d - 1 - i) i (take d s.rows) z)
      (subst (λ (r : List Equation). Drawn n m r rest rest' numbers words) (sym (take-append-drop d s.rows) ∙ ap (λ (l : List Equation). take d s.rows ++ l) s.tail) s.drawn)

  module _ (h : i + 1 < d) {numbers' words' : List ℕ} {r : Reduction} (k : Reduces (outer_row i) n m d numbers words numbers' words' r) where
    done : ReducedBy n m d s.rows rest rest' (outer_row i (take d s.rows)) numbers' words' r
    done = carried s.drawn (λ rows x y. ReducedBy n m d rows x y (outer_row i (take d rows)) numbers' words' r) k

    once_more : outer_rows (suc (d - 1 - (i + 1))) i (take d s.rows) ≡ echelon_form (take d rows₀)
    once_more = let e : suc (d - 1 - (i + 1)) ≡ d - 1 - i = omega arith in ap (λ (k : ℕ). outer_rows k i (take d s.rows)) e ∙ s.future

    pub reducing_stop : r ≡ Unsolvable → ReducedBy n m d rows₀ rest rest' (echelon_form (take d rows₀)) numbers' words' Unsolvable
    reducing_stop = go done
      where
        go : {r : Reduction} → ReducedBy n m d s.rows rest rest' (outer_row i (take d s.rows)) numbers' words' r → r ≡ Unsolvable
            → ReducedBy n m d rows₀ rest rest' (echelon_form (take d rows₀)) numbers' words' Unsolvable
        go (refused e q) p = refused (sym once_more ∙ rows_failed (d - 1 - (i + 1)) i (take d s.rows) e) q
        go (reduced rows' e q) p = absurd (let z : ◌≡◌ {A = ℕ} 0 1 = cc in omega arith)

    pub reducing_turn : r ≡ Reduced → Reducing n m d rows₀ rest rest' numbers' words' (i + 1)
    reducing_turn = go done
      where
        go : {r : Reduction} → ReducedBy n m d s.rows rest rest' (outer_row i (take d s.rows)) numbers' words' r → r ≡ Reduced → Reducing n m d rows₀ rest rest' numbers' words' (i + 1)
        go (refused e q) p = absurd (let z : ◌≡◌ {A = ℕ} 0 1 = cc in omega arith)
        go (reduced rows' e q) p =
            let all : length (rows' ++ drop d s.rows) ≡ m = q.count in
            let long : length rows' ≡ d = omega (arith, length-append rows' (drop d s.rows), length-drop d s.rows, s.drawn.count, s.d_in) in
            record {
              rows = rows' ++ drop d s.rows;
              drawn = q;
              tail = drop_at rows' (drop d s.rows) d long ∙ s.tail;
              d_in = s.d_in;
              future = ap₂ (λ (x : ℕ) (l : List Equation). outer_rows (d - 1 - (i + 1)) x l) (add-one i) (take_at rows' (drop d s.rows) d long)
                  ∙ sym (rows_next (d - 1 - (i + 1)) i (take d s.rows) rows' e) ∙ once_more;
            }
