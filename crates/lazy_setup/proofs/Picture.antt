-- The segments of the start, in terms of what the code makes of the lent starts and variables.
use mathlib.Core.Path.{◌≡◌, refl, sym, ap, ap₂, ◌∙◌}
use mathlib.Core.List.{List, [], ◌∷◌, ◌++◌, map, reverse, reverse-reverse}
use mathlib.Core.Bool.{true}
use Prim.Native.Nat.{ℕ, zero, suc, ◌+◌, ◌-◌, ◌*◌, ◌≤◌, ◌<◌}
use native.Mathlib.Omega.{arith}
use lib.ListN.{length, get_or, replicate, length-map, replicate-append-replicate}
use lib.Dec.{eqb, leb}
use Rattle.gf2.specs.Equation.{Equation, lists}
use Rattle.gf2.specs.NumberLists.{up_from, down_from, keep, count}
use Rattle.gf2.specs.ByNumber.{row_of, blank}
use Rattle.gf2.proofs.Selecting.{length-keep, length_up}
use Rattle.areas.specs.Rows.{padded, laid}
use Rattle.areas.specs.Stretch.{stretch}
use Rattle.areas.specs.Segments.{joined}
use Rattle.areas.proofs.Rows.{padded-nil}
use Rattle.areas.proofs.Stretch.{length-stretch}
use Rattle.system.specs.System.{equation_at, equations_from, equations}
use Rattle.system.specs.Fits.{Fits}
use Rattle.system.proofs.Reading.{equations_at}
use Rattle.lazy.specs.Lazy.{listing, heaviest, start}
use Rattle.lazy_setup.specs.Area.{mark, lengths, rows_of, lists_from, dense_part, segments}
use Rattle.lazy_setup.specs.Tables.{tallies, running, spans, firsts}
use Rattle.lazy_setup.proofs.Tables.{is_table, same_table}
use Rattle.lazy_setup.proofs.Sorting.{reverse-keep}
use Rattle.lazy_setup.proofs.Holding.{owners, shelves, filled_lists, begins_are, weights_are, weight_counts}

-- ---- the constants do not matter

pub rows_any : (k i : ℕ) (starts vars c d : List ℕ) → map (λ r. r.vars) (equations_from k i starts vars c) ≡ map (λ r. r.vars) (equations_from k i starts vars d)
unfolding equations_from equation_at
rows_any zero i starts vars c d = refl
rows_any (suc k) i starts vars c d = ap (λ (l : List (List ℕ)). stretch (get_or starts i 0) (get_or starts (i + 1) 0 - get_or starts i 0) vars ∷ l) (rows_any k (i + 1) starts vars c d)

owners_any : (k i e : ℕ) (starts vars c d : List ℕ) → owners e (equations_from k i starts vars c) ≡ owners e (equations_from k i starts vars d)
unfolding equations_from equation_at owners
owners_any zero i e starts vars c d = refl
owners_any (suc k) i e starts vars c d =
    ap (λ (l : List ℕ). replicate (length (stretch (get_or starts i 0) (get_or starts (i + 1) 0 - get_or starts i 0) vars)) e ++ l) (owners_any k (i + 1) (suc e) starts vars c d)

pub lists_any : {n m : ℕ} {starts vars c d : List ℕ} → Fits n m starts vars c → Fits n m starts vars d → lists_from (equations m starts vars c) 0 n ≡ lists_from (equations m starts vars d) 0 n
lists_any {n} {m} {starts} {vars} {c} {d} f g =
    sym (filled_lists f) ∙ ap (λ (os : List ℕ). joined (shelves vars os n (length vars))) (owners_any m 0 0 starts vars c d) ∙ filled_lists g

map_marks : (n : ℕ) → map mark (replicate n true) ≡ replicate n 1
map_marks zero = refl
map_marks (suc n) = ap (λ (l : List ℕ). 1 ∷ l) (map_marks n)

-- ---- what the code makes

unfoldable pub made_segments : ℕ → ℕ → List ℕ → List ℕ → List ℕ → List (List ℕ)
made_segments n m starts vars constants =
    rows_of n (equations m starts vars constants)
    ∷ spans m starts
    ∷ lists_from (equations m starts vars constants) 0 n
    ∷ running 0 (0 ∷ tallies n vars)
    ∷ tallies n vars
    ∷ padded n (reverse (heaviest (tallies n vars) n m))
    ∷ replicate n 1
    ∷ replicate n 0
    ∷ spans m starts
    ∷ padded m (firsts (spans m starts) m)
    ∷ replicate m 0
    ∷ replicate m 0
    ∷ replicate (m + 1) 0
    ∷ replicate (m * n + (n + m)) 0
    ∷ []

module _ {n m : ℕ} {starts vars constants : List ℕ} (f : Fits n m starts vars constants) where
  span_long : (i : ℕ) → i < m → length (row_of (equations m starts vars constants) i).vars ≡ get_or starts (i + 1) 0 - get_or starts i 0
  unfolding equation_at
  span_long i h =
      let c = f.climbing i (i + 1) (omega arith) (omega arith) in let w = f.within (i + 1) (omega arith) in
      ap (λ (r : Equation). length r.vars) (equations_at starts vars constants m i blank h)
      ∙ length-stretch (get_or starts i 0) (get_or starts (i + 1) 0 - get_or starts i 0) vars (omega arith)

  priority_are : map (λ e. length (row_of (equations m starts vars constants) e).vars) (up_from 0 (length (equations m starts vars constants))) ≡ spans m starts
  unfolding spans
  priority_are =
      ap (λ (k : ℕ). map (λ e. length (row_of (equations m starts vars constants) e).vars) (up_from 0 k)) f.many
      ∙ same_table 0 (λ e. length (row_of (equations m starts vars constants) e).vars) (λ i. get_or starts (i + 1) 0 - get_or starts i 0) m (λ i h. span_long i h)

  lengths_are : lengths (equations m starts vars constants) ≡ spans m starts
  unfolding spans
  lengths_are =
      is_table 0 (λ i. get_or starts (i + 1) 0 - get_or starts i 0) m (lengths (equations m starts vars constants))
      (length-map (equations m starts vars constants) (λ r. length r.vars) ∙ f.many) (λ i h. at (equations m starts vars constants) i (let z = f.many in omega arith) ∙ span_long i h)
    where
      at : (l : List Equation) (i : ℕ) → i < length l → get_or (map (λ r. length r.vars) l) i 0 ≡ length (row_of l i).vars
      at [] i h = absurd (omega arith)
      at (x ∷ l) zero h = refl
      at (x ∷ l) (suc i) h = at l i (omega arith)

  pub weights_low : (v : ℕ) → count (λ u. eqb u v) vars ≤ m
  unfolding listing
  weights_low v =
      let e = weight_counts f v in
      let k = length-keep (λ e. lists v (row_of (equations m starts vars constants) e).vars) (up_from 0 (length (equations m starts vars constants))) in
      let u = length_up 0 (length (equations m starts vars constants)) in
      let z = f.many in omega arith

  pub first_are : reverse (start n (equations m starts vars constants)).equations ≡ firsts (spans m starts) m
  unfolding start firsts
  first_are =
      ap₂ (λ (p : List ℕ) (k : ℕ). reverse (keep (λ e. leb (get_or p e 0) 1) (up_from 0 k))) priority_are f.many
      ∙ ap reverse (sym (reverse-keep (λ e. leb (get_or (spans m starts) e 0) 1) m)) ∙ reverse-reverse (keep (λ e. leb (get_or (spans m starts) e 0) 1) (down_from m))

  pub variables_are : (start n (equations m starts vars constants)).variables ≡ heaviest (tallies n vars) n m
  unfolding start
  variables_are = ap₂ (λ (w : List ℕ) (k : ℕ). heaviest w n k) (weights_are f) f.many

  dense_are : dense_part n (length (equations m starts vars constants)) [] ≡ replicate (m * n + (n + m)) 0
  unfolding laid
  dense_are =
      ap (λ (k : ℕ). padded (k * n) [] ++ (replicate n 0 ++ padded k [])) f.many
      ∙ rw (padded-nil (m * n), padded-nil m, replicate-append-replicate {A = ℕ} n m 0) (replicate-append-replicate {A = ℕ} (m * n) (n + m) 0)

  pub start_picture : segments n (equations m starts vars constants) (start n (equations m starts vars constants)) ≡ made_segments n m starts vars constants
  unfolding segments start made_segments
  start_picture =
      cons refl (cons lengths_are (cons refl (cons (begins_are f) (cons (weights_are f)
      (cons (ap (λ (l : List ℕ). padded n (reverse l)) variables_are) (cons (map_marks n) (cons refl (cons priority_are
      (cons (ap₂ (λ (k : ℕ) (l : List ℕ). padded k l) f.many first_are) (cons none (cons none (cons (ap (λ (k : ℕ). replicate k 0) (ap (λ (k : ℕ). k + 1) f.many)) (cons dense_are refl)))))))))))))
    where
      cons : {a b : List ℕ} {x y : List (List ℕ)} → a ≡ b → x ≡ y → ◌≡◌ {A = List (List ℕ)} (a ∷ x) (b ∷ y)
      cons p q = ap₂ (λ (x : List ℕ) (l : List (List ℕ)). x ∷ l) p q

      none : padded (length (equations m starts vars constants)) [] ≡ replicate m 0
      none = ap (λ (k : ℕ). padded k []) f.many ∙ padded-nil m
