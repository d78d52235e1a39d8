-- The loop over an array of rows, which code does by indices, is `outer_row`.
use mathlib.Core.Path.{◌≡◌, refl, sym, ap, ap₂, ◌∙◌}
use mathlib.Core.Logic.{◌≢◌}
use mathlib.Core.List.{List, [], ◌∷◌, ◌++◌, append_assoc}
use Prim.Native.Nat.{ℕ, zero, suc, ◌+◌, ◌-◌, ◌≤◌, ◌<◌}
use native.Mathlib.Omega.{arith}
use lib.ListN.{length, set, take, drop, length-append, length-drop, take-append-drop, get_or-append}
use lib.Seq.{get_or-set_same, get_or-set_other, set-set, get_or-append_seam, set-append_seam, set-append_left, append_snoc, split_at, length-take-le, get_or-take}
use Rattle.gf2.specs.Equation.{Equation, eqn}
use Rattle.gf2.specs.Result.{Result, unsolvable, ok}
use Rattle.rows.specs.Picture.{row_at}
use Rattle.sparse_rules.specs.Eliminate.{Meeting, clash, identity, both, meeting, Pass, behind, meet_row, outer_row}
use Rattle.sparse_rows.specs.Loop.{meet_loop}

-- ---- a meeting inside the loop

module _ (k i j : ℕ) (rows : List Equation) where
  pub loop_clash : meeting (row_at rows i) (row_at rows j) ≡ clash → meet_loop (suc k) i j rows ≡ unsolvable
  unfolding meet_loop
  loop_clash e = rw (e, meet_loop)

  pub loop_identity : (i' : Equation) → meeting (row_at rows i) (row_at rows j) ≡ identity i' → meet_loop (suc k) i j rows ≡ ok (set rows i i')
  unfolding meet_loop
  loop_identity i' e = rw (e, meet_loop)

  pub loop_both : (i' j' : Equation) → meeting (row_at rows i) (row_at rows j) ≡ both i' j' → meet_loop (suc k) i j rows ≡ meet_loop k i (suc j) (set (set rows i i') j j')
  unfolding meet_loop
  loop_both i' j' e = rw (e, meet_loop)

-- a row i that gives the same against row j is in its place
pub loop_again : (k i j : ℕ) (rows : List Equation) (i' : Equation) → i < j → i < length rows → meeting (row_at rows i) (row_at rows j) ≡ meeting i' (row_at rows j)
    → meet_loop (suc k) i j (set rows i i') ≡ meet_loop (suc k) i j rows
loop_again k i j rows i' h l e = go (meeting (row_at rows i) (row_at rows j)) refl
  where
    same : meeting (row_at (set rows i i') i) (row_at (set rows i i') j) ≡ meeting (row_at rows i) (row_at rows j)
    same =
        let ne : j ≢ i = omega arith in
        ap₂ meeting (get_or-set_same rows i i' (eqn [] 0) l) (get_or-set_other rows i j i' (eqn [] 0) ne) ∙ sym e

    go : (o : Meeting) → meeting (row_at rows i) (row_at rows j) ≡ o → meet_loop (suc k) i j (set rows i i') ≡ meet_loop (suc k) i j rows
    go clash q = loop_clash k i j (set rows i i') (same ∙ q) ∙ sym (loop_clash k i j rows q)
    go (identity x) q = loop_identity k i j (set rows i i') x (same ∙ q) ∙ ap {B = Result (List Equation)} ok (set-set rows i i' x) ∙ sym (loop_identity k i j rows x q)
    go (both x y) q =
        loop_both k i j (set rows i i') x y (same ∙ q) ∙ ap (λ (r : List Equation). meet_loop k i (suc j) (set r j y)) (set-set rows i i' x) ∙ sym (loop_both k i j rows x y q)

pub loop_over : (k i j : ℕ) (rows : List Equation) → k ≡ 0 → meet_loop k i j rows ≡ ok rows
unfolding meet_loop
loop_over k i j rows e = ap (λ (k : ℕ). meet_loop k i j rows) e

-- rows that stand after those of a result
abbrev pub followed : List Equation → Result (List Equation) → Result (List Equation)
followed more unsolvable = unsolvable
followed more (ok rows) = ok (rows ++ more)

-- ---- the loop is `meet_row`

-- the rows `front`, then the row and the rows `mid` that it has met, then those after them
place : List Equation → List Equation → Result Pass → Result (List Equation)
place front mid unsolvable = unsolvable
place front mid (ok p) = ok (front ++ p.row ∷ mid ++ p.later)

place_behind : (front mid : List Equation) (j : Equation) (o : Result Pass) → place front mid (behind j o) ≡ place front (mid ++ j ∷ []) o
unfolding place
place_behind front mid j unsolvable = refl
place_behind front mid j (ok p) = ap {B = Result (List Equation)} ok (simp append_assoc)

module _ (front mid : List Equation) (i : Equation) (rest : List Equation) where
  pub at_i : row_at (front ++ i ∷ mid ++ rest) (length front) ≡ i
  at_i = get_or-append (front ++ i ∷ mid) rest (eqn [] 0) (length front) (rw length-append (omega arith)) ∙ get_or-append_seam front i mid (eqn [] 0)

  set_i : (i' : Equation) → set (front ++ i ∷ mid ++ rest) (length front) i' ≡ front ++ i' ∷ mid ++ rest
  set_i i' = set-append_left (front ++ i ∷ mid) rest (length front) i' (rw length-append (omega arith)) ∙ ap (λ (l : List Equation). l ++ rest) (set-append_seam front i mid i')

-- the row at the seam
module _ (front : List Equation) (j : Equation) (rest : List Equation) where
  pub at_j : row_at (front ++ j ∷ rest) (length front) ≡ j
  at_j = get_or-append_seam front j rest (eqn [] 0)

  set_j : (j' : Equation) → set (front ++ j ∷ rest) (length front) j' ≡ front ++ j' ∷ rest
  set_j j' = set-append_seam front j rest j'

pub next_j : (front mid : List Equation) (i i' j' : Equation) → suc (length (front ++ i ∷ mid)) ≡ length (front ++ i' ∷ (mid ++ j' ∷ []))
next_j front mid i i' j' = simp length-append (omega arith)

pub next_rows : (front mid : List Equation) (i i' j j' : Equation) (rest : List Equation)
    → set (set (front ++ i ∷ mid ++ j ∷ rest) (length front) i') (length (front ++ i ∷ mid)) j' ≡ front ++ i' ∷ (mid ++ j' ∷ []) ++ rest
next_rows front mid i i' j j' rest =
    let same : length (front ++ i ∷ mid) ≡ length (front ++ i' ∷ mid) = simp length-append in
    rw (set_i front mid i (j ∷ rest) i', same, set_j (front ++ i' ∷ mid) j rest j') (simp append_assoc)

-- what stands after the rows that are met stays
meet_loop_lem : (front mid : List Equation) (i : Equation) (rest more : List Equation)
    → meet_loop (length rest) (length front) (length (front ++ i ∷ mid)) (front ++ i ∷ mid ++ (rest ++ more)) ≡ followed more (place front mid (meet_row i rest))
unfolding meet_loop meet_row place
meet_loop_lem front mid i [] more = ap {B = Result (List Equation)} ok (simp append_assoc)
meet_loop_lem front mid i (j ∷ rest) more = go (meeting i j) refl (λ i' j'. meet_loop_lem front (mid ++ j' ∷ []) i' rest more)
  where
    rows : List Equation
    rows = front ++ i ∷ mid ++ j ∷ (rest ++ more)

    same : meeting (row_at rows (length front)) (row_at rows (length (front ++ i ∷ mid))) ≡ meeting i j
    same = ap₂ meeting (at_i front mid i (j ∷ (rest ++ more))) (at_j (front ++ i ∷ mid) j (rest ++ more))

    go : (m : Meeting) → meeting i j ≡ m
        → ((i' j' : Equation) → meet_loop (length rest) (length front) (length (front ++ i' ∷ (mid ++ j' ∷ []))) (front ++ i' ∷ (mid ++ j' ∷ []) ++ (rest ++ more)) ≡ followed more (place front (mid ++ j' ∷ []) (meet_row i' rest)))
        → meet_loop (suc (length rest)) (length front) (length (front ++ i ∷ mid)) rows ≡ followed more (place front mid (meet_row i (j ∷ rest)))
    go clash e again = rw (same, e, meet_loop, meet_row)
    go (identity i') e again = rw (same, e, meet_loop, meet_row) (ap {B = Result (List Equation)} ok (set_i front mid i (j ∷ (rest ++ more)) i' ∙ simp append_assoc))
    go (both i' j') e again =
        rw (same, e, meet_loop, meet_row)
        (ap₂ (λ (m : ℕ) (l : List Equation). meet_loop (length rest) (length front) m l) (next_j front mid i i' j') (next_rows front mid i i' j j' (rest ++ more))
        ∙ again i' j' ∙ ap (followed more) (sym (place_behind front mid j' (meet_row i' rest))))

-- ---- the outer row

-- rows that stand before those of a result
abbrev ahead : List Equation → Result (List Equation) → Result (List Equation)
ahead front unsolvable = unsolvable
ahead front (ok rows) = ok (front ++ rows)

ahead_cons : (e : Equation) (front : List Equation) (o : Result (List Equation)) → elim (ahead front o) as (λ x. Result (List Equation)) [ unsolvable ↦ unsolvable | ok rows ↦ ok (e ∷ rows) ] ≡ ahead (e ∷ front) o
ahead_cons e front unsolvable = refl
ahead_cons e front (ok rows) = refl

-- the rows before row i stay
outer_front : (front : List Equation) (i : Equation) (rest : List Equation) → outer_row (length front) (front ++ i ∷ rest) ≡ ahead front (outer_row 0 (i ∷ rest))
unfolding outer_row
outer_front [] i rest = nothing (outer_row 0 (i ∷ rest))
  where
    nothing : (o : Result (List Equation)) → o ≡ ahead [] o
    nothing unsolvable = refl
    nothing (ok rows) = refl
outer_front (e ∷ front) i rest = rw (outer_front front i rest, outer_row) (ahead_cons e front (outer_row 0 (i ∷ rest)))

outer_blank_at : (front : List Equation) (vs : List ℕ) (c : ℕ) (rest : List Equation) → length vs ≡ 0 → c ≡ 0
    → outer_row (length front) (front ++ eqn vs c ∷ rest) ≡ ok (front ++ eqn vs c ∷ rest)
unfolding outer_row
outer_blank_at front [] zero rest e z = outer_front front (eqn [] 0) rest
outer_blank_at front [] (suc c) rest e z = absurd (omega arith)
outer_blank_at front (v ∷ vs) c rest e z = absurd (omega arith)

outer_wrong_at : (front : List Equation) (vs : List ℕ) (c : ℕ) (rest : List Equation) → length vs ≡ 0 → c ≢ 0 → outer_row (length front) (front ++ eqn vs c ∷ rest) ≡ unsolvable
unfolding outer_row
outer_wrong_at front [] zero rest e z = absurd (z refl)
outer_wrong_at front [] (suc c) rest e z = outer_front front (eqn [] (suc c)) rest
outer_wrong_at front (v ∷ vs) c rest e z = absurd (omega arith)

outer_full_at : (front : List Equation) (vs : List ℕ) (c : ℕ) (rest : List Equation) → length vs ≢ 0
    → outer_row (length front) (front ++ eqn vs c ∷ rest) ≡ place front [] (meet_row (eqn vs c) rest)
unfolding outer_row place
outer_full_at front [] c rest f = absurd (f refl)
outer_full_at front (v ∷ vs) c rest f = outer_front front (eqn (v ∷ vs) c) rest ∙ go (meet_row (eqn (v ∷ vs) c) rest) refl
  where
    go : (o : Result Pass) → meet_row (eqn (v ∷ vs) c) rest ≡ o → ahead front (outer_row 0 (eqn (v ∷ vs) c ∷ rest)) ≡ place front [] (meet_row (eqn (v ∷ vs) c) rest)
    go unsolvable e = rw (e, outer_row)
    go (ok p) e = rw (e, outer_row) (ap {B = Result (List Equation)} ok (sym (append_snoc front p.row p.later)))

-- d rows of an array, of which row i is one
module _ (d i : ℕ) (full : List Equation) (h : i < d) (g : d ≤ length full) where
  d_long : length (take d full) ≡ d
  d_long = length-take-le d full g

  pub front : List Equation
  front = take i (take d full)

  pub rest : List Equation
  rest = drop (suc i) (take d full)

  unfoldable pub row : Equation
  row = row_at full i

  pub front_long : length front ≡ i
  unfolding front
  front_long = length-take-le i (take d full) (omega (arith, d_long))

  pub rest_long : length rest ≡ d - (i + 1)
  unfolding rest
  rest_long = rw (length-drop, d_long) (omega arith)

  pub split : take d full ≡ front ++ row ∷ rest
  unfolding front rest row
  split = split_at (take d full) i (eqn [] 0) (omega (arith, d_long)) ∙ ap (λ (e : Equation). take i (take d full) ++ e ∷ drop (suc i) (take d full)) (get_or-take d full i (eqn [] 0) h)

  pub outer_blank : length (row_at full i).vars ≡ 0 → (row_at full i).c ≡ 0 → outer_row i (take d full) ≡ ok (take d full)
  unfolding row
  outer_blank e z = ap₂ outer_row (sym front_long) split ∙ outer_blank_at front row.vars row.c rest e z ∙ ap {B = Result (List Equation)} ok (sym split)

  pub outer_wrong : length (row_at full i).vars ≡ 0 → (row_at full i).c ≢ 0 → outer_row i (take d full) ≡ unsolvable
  unfolding row
  outer_wrong e z = ap₂ outer_row (sym front_long) split ∙ outer_wrong_at front row.vars row.c rest e z

  pub whole : full ≡ front ++ row ∷ [] ++ (rest ++ drop d full)
  whole = sym (take-append-drop d full) ∙ ap (λ (l : List Equation). l ++ drop d full) split ∙ simp append_assoc

  pub outer_loop : length (row_at full i).vars ≢ 0 → meet_loop (d - (i + 1)) i (i + 1) full ≡ followed (drop d full) (outer_row i (take d full))
  unfolding row
  outer_loop f =
      let j : length (front ++ row ∷ []) ≡ i + 1 = rw length-append (omega (arith, front_long)) in
      ap₂ (λ (k : ℕ) (l : List Equation). meet_loop k i (i + 1) l) (sym rest_long) whole
      ∙ ap₂ (λ (a b : ℕ). meet_loop (length rest) a b (front ++ row ∷ [] ++ (rest ++ drop d full))) (sym front_long) (sym j)
      ∙ meet_loop_lem front [] row rest (drop d full)
      ∙ ap (followed (drop d full)) (sym (outer_full_at front row.vars row.c rest f) ∙ ap₂ outer_row front_long (sym split))
