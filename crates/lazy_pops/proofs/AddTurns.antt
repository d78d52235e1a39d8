-- The turns of the loop that adds one equation into others.
use mathlib.Core.Path.{◌≡◌, refl, sym, ap, ◌∙◌, subst}
use mathlib.Core.Logic.{◌≢◌}
use mathlib.Core.List.{List, [], ◌∷◌}
use Prim.Native.Nat.{ℕ, suc, ◌+◌, ◌-◌, ◌*◌, ◌≤◌, ◌<◌}
use native.Mathlib.Nat.{zero-add}
use native.Mathlib.Numerals.{add-one}
use native.Mathlib.Omega.{arith}
use lib.ListN.{length, get_or, set, drop, drop_of_length-le}
use lib.Seq.{drop-cons}
use Rattle.gf2.specs.Equation.{Equation, Each, Rising, sum}
use Rattle.gf2.specs.ByNumber.{row_of}
use Rattle.gf2.specs.NumberLists.{keep}
use Rattle.areas.proofs.Stretch.{get_or-stretch}
use Rattle.lazy.specs.Lazy.{State, listing, others, added_into}
use Rattle.gf2.specs.Common.{common}
use Rattle.lazy.specs.Cancelled.{added_cancels}
use Rattle.gf2.proofs.Tally.{Tally, tally_begin, tally_same, tally_turn, tally_over}
use Rattle.lazy.proofs.Cancelled.{others_le}
use Rattle.lazy_setup.specs.declared.Layout.{Layout}
use Rattle.lazy_pops.specs.Lowering.{but}
use Rattle.lazy_pops.specs.Writes.{add_to}
use Rattle.lazy_pops.specs.Adding.{with_rows, add_one, AddAt, AddDone, AddsAt}
use Rattle.lazy_pops.proofs.Listings.{start_next, start_within}
use Rattle.lazy_pops.proofs.Places.{places}
use Rattle.lazy_pops.proofs.Reading.{from_at, to_at, listing_at}
use Rattle.lazy_pops.proofs.CanLower.{listing_below}
use Rattle.lazy_pops.proofs.Stacks.{but_same, but_other}

pub record Adding (n m : ℕ) (layout : Layout) (sys : List Equation) (s : State) (v list count e : ℕ) (numbers words : List ℕ) (cancelled k : ℕ) : Type 0 where
  pub rows : List Equation
  pub at : AddsAt n m layout sys (with_rows rows s) v list count e numbers words
  pub within : k ≤ count
  -- what is still to be done leads to the same end
  pub same : added_into (but e (drop k (listing sys v))) e rows ≡ added_into (others sys v e) e s.rows
  pub rose : Each (λ r. Rising 0 n r.vars) s.rows
  pub counted : Tally cancelled (added_cancels (but e (drop k (listing sys v))) e rows) (added_cancels (others sys v e) e s.rows)

pub adding_begin : {n m : ℕ} {layout : Layout} {sys : List Equation} {s : State} {v list count e : ℕ} {numbers words : List ℕ}
    → AddsAt n m layout sys s v list count e numbers words → Adding n m layout sys s v list count e numbers words 0 0
unfolding with_rows others
adding_begin {s = s} a = record { rows = s.rows; at = a; within = omega arith; same = refl; rose = a.rows.rising; counted = tally_begin }

module _ {n m : ℕ} {layout : Layout} {sys : List Equation} {s : State} {v list count e : ℕ} {numbers words : List ℕ} {cancelled k : ℕ}
    (i : Adding n m layout sys s v list count e numbers words cancelled k) where
  -- where the list stands
  pub list_in : list + count ≤ length numbers
  list_in =
      let d = i.at.rows.laid in
      let p = places d in
      let x = start_next sys 0 0 n v i.at.v_in in
      let x' = rw (zero-add v) at x in
      let w = start_within sys 0 0 n (suc v) i.at.v_in in
      omega (arith, i.at.list_is, i.at.count_is)

  module _ (h : k < count) where
    pub cell_is : get_or numbers (list + k) 0 ≡ get_or (listing sys v) k 0
    cell_is =
        let d = i.at.rows.laid in
        let c : k < get_or numbers (layout.starts + v + 1) 0 - get_or numbers (layout.starts + v) 0 =
        rw (to_at d v i.at.v_in, from_at d v (omega (arith, i.at.v_in))) (omega (arith, i.at.count_is)) in
        let l : list ≡ layout.lists + get_or numbers (layout.starts + v) 0 = rw (from_at d v (omega (arith, i.at.v_in))) i.at.list_is in
        ap (λ (b : ℕ). get_or numbers (b + k) 0) l
        ∙ sym (get_or-stretch (layout.lists + get_or numbers (layout.starts + v) 0) (get_or numbers (layout.starts + v + 1) 0 - get_or numbers (layout.starts + v) 0) k 0 numbers c)
        ∙ ap (λ (l : List ℕ). get_or l k 0) (listing_at d v i.at.v_in)

    pub f_low : get_or numbers (list + k) 0 < m
    f_low = rw cell_is (rw i.at.rows.laid.many (listing_below sys v k (omega (arith, i.at.count_is))))

    next : drop k (listing sys v) ≡ get_or numbers (list + k) 0 ∷ drop (k + 1) (listing sys v)
    next = rw (cell_is, add-one k) (drop-cons (listing sys v) k 0 (omega (arith, i.at.count_is)))

    pub adding_skip : get_or numbers (list + k) 0 ≡ e → Adding n m layout sys s v list count e numbers words cancelled (k + 1)
    adding_skip q = record {
      rows = i.rows;
      at = i.at;
      within = omega arith;
      same = ap (λ (l : List ℕ). added_into l e i.rows) (sym (rw next (but_same e (get_or numbers (list + k) 0) (drop (k + 1) (listing sys v)) q))) ∙ i.same;
      rose = i.rose;
      counted = tally_same i.counted (ap (λ (l : List ℕ). added_cancels l e i.rows) (sym (rw next (but_same e (get_or numbers (list + k) 0) (drop (k + 1) (listing sys v)) q))));
    }

    pub adding_fits : AddAt n m layout sys (with_rows i.rows s) (get_or numbers (list + k) 0) e numbers words
    adding_fits = record { rows = i.at.rows; f_in = f_low; e_in = i.at.e_in }

    -- the sum that is next cancels no more than what is ahead
    pub adding_room : {r : ℕ} → get_or numbers (list + k) 0 ≢ e → r ≡ common (row_of (with_rows i.rows s).rows (get_or numbers (list + k) 0)).vars (row_of (with_rows i.rows s).rows e).vars
        → cancelled + r ≤ m * n
    unfolding with_rows added_cancels
    adding_room q c =
        let split : but e (drop k (listing sys v)) ≡ get_or numbers (list + k) 0 ∷ but e (drop (k + 1) (listing sys v)) =
        rw next (but_other e (get_or numbers (list + k) 0) (drop (k + 1) (listing sys v)) q) in
        let x = ap (λ (l : List ℕ). added_cancels l e i.rows) split in
        let y : added_cancels (others sys v e) e s.rows ≤ m * n = rw i.at.rows.laid.many (others_le n sys v e s.rows i.rose) in
        omega (arith, i.counted.both)

    pub adding_turn : {numbers' words' : List ℕ} {r : ℕ} → get_or numbers (list + k) 0 ≢ e → AddDone n m layout sys (add_one (get_or numbers (list + k) 0) e (with_rows i.rows s)) numbers' words'
        → r ≡ common (row_of (with_rows i.rows s).rows (get_or numbers (list + k) 0)).vars (row_of (with_rows i.rows s).rows e).vars
        → Adding n m layout sys s v list count e numbers' words' (cancelled + r) (k + 1)
    unfolding with_rows add_one added_into added_cancels
    adding_turn {numbers'} {words'} q a c =
        let split : but e (drop k (listing sys v)) ≡ get_or numbers (list + k) 0 ∷ but e (drop (k + 1) (listing sys v)) =
        rw next (but_other e (get_or numbers (list + k) 0) (drop (k + 1) (listing sys v)) q) in
        record {
          rows = set i.rows (get_or numbers (list + k) 0) (sum (row_of i.rows (get_or numbers (list + k) 0)) (row_of i.rows e));
          at = record {
            rows = record {
              laid = a.laid;
              words_are = a.words_are;
              rising = a.rising;
              small = i.at.rows.small;
            };
            v_in = i.at.v_in;
            e_in = i.at.e_in;
            list_is = i.at.list_is;
            count_is = i.at.count_is;
          };
          within = omega arith;
          same = sym (ap (λ (l : List ℕ). added_into l e i.rows) split) ∙ i.same;
          rose = i.rose;
          counted = tally_turn i.counted c (ap (λ (l : List ℕ). added_cancels l e i.rows) split);
        }

  pub adding_end : count ≤ k → AddDone n m layout sys (add_to (others sys v e) e s) numbers words
  unfolding with_rows add_to added_into keep
  adding_end h =
      let none : drop k (listing sys v) ≡ [] = drop_of_length-le (listing sys v) {i = k} (omega (arith, i.at.count_is)) in
      let same : i.rows ≡ added_into (others sys v e) e s.rows = rw none at i.same in
      subst (λ (rows : List Equation). AddDone n m layout sys (with_rows rows s) numbers words) same
      (record { laid = i.at.rows.laid; words_are = i.at.rows.words_are; rising = i.at.rows.rising })

  pub adding_count : count ≤ k → cancelled ≡ added_cancels (others sys v e) e s.rows
  unfolding added_cancels keep
  adding_count h =
      let none : drop k (listing sys v) ≡ [] = drop_of_length-le (listing sys v) {i = k} (omega (arith, i.at.count_is)) in
      tally_over i.counted (ap (λ (l : List ℕ). added_cancels (but e l) e i.rows) none) refl

  -- so many fit the numbers that are lent
  pub rows_in : m * n ≤ length numbers
  rows_in = let p = places i.at.rows.laid in omega arith
