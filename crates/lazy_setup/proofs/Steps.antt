-- The steps of the setup, from zeros to the picture of the start.
use mathlib.Core.Path.{◌≡◌, refl, sym, ap, ◌∙◌}
use mathlib.Core.List.{List, [], ◌∷◌, ◌++◌, reverse}
use Prim.Native.Nat.{ℕ, ◌+◌, ◌-◌, ◌*◌, ◌≤◌, ◌<◌}
use native.Mathlib.Omega.{arith}
use lib.ListN.{length, drop, set, replicate, length-replicate, length-reverse}
use Rattle.gf2.specs.Equation.{Each}
use Rattle.gf2.proofs.Each.{each_from}
use Rattle.answers.specs.Sizes.{max_variables, max_equations, max_listed, lazy_numbers}
use Rattle.areas.specs.Rows.{padded}
use Rattle.areas.specs.Stretch.{stretch, put}
use Rattle.areas.specs.Segments.{joined, offset}
use Rattle.areas.proofs.Rows.{padded_full}
use Rattle.system.specs.System.{equations}
use Rattle.system.specs.Fits.{Fits}
use Rattle.lazy.specs.Lazy.{heaviest, start}
use Rattle.lazy_setup.specs.declared.Layout.{Layout}
use Rattle.lazy_setup.specs.Area.{rows_of, lists_from, numbers_of}
use Rattle.lazy_setup.specs.Layout.{layout_of}
use Rattle.lazy_setup.specs.Tables.{tallies, running, spans, firsts}
use Rattle.lazy_setup.proofs.Offsets.{at_n, at_m, at_lengths, at_lists, at_starts, at_weight, at_variables, at_idle, at_position, at_priority, at_equations, at_count}
use Rattle.lazy_setup.proofs.Showing.{Shows, shows_read, shows_put, shows_fill, shows_inside, blanks, shows_blank}
use Rattle.lazy_setup.proofs.Tables.{length_tallies, get_or_tallies}
use Rattle.lazy_setup.proofs.RunningSums.{length_running}
use Rattle.lazy_setup.proofs.Sorting.{buckets_end, length_buckets}
use Rattle.lazy_setup.proofs.Holding.{vars_below, lists_long}
use Rattle.lazy_setup.proofs.Loading.{length_rows, length_spans, length_firsts}
use Rattle.lazy_setup.proofs.Picture.{made_segments, start_picture, first_are, weights_low}

-- a variable's weight is at most m
pub tallies_low : {n m : ℕ} {starts vars constants : List ℕ} → Fits n m starts vars constants → Each (λ w. w < m + 1) (tallies n vars)
tallies_low {n} {m} {starts} {vars} f =
    each_from (λ w. w < m + 1) (tallies n vars) 0 (λ i h. let z = length_tallies n vars in let e = get_or_tallies n i vars (omega arith) in let k = weights_low f i in omega arith)

pub length_heaviest : (weights : List ℕ) (m : ℕ) → Each (λ w. w < m + 1) weights → length (reverse (heaviest weights (length weights) m)) ≡ length weights
length_heaviest weights m e = ap (λ (l : List ℕ). length l) (sym (buckets_end weights m)) ∙ length_buckets weights (m + 1) 0 (omega arith) e

-- ---- the segments after each step

module _ (n m : ℕ) (starts vars constants : List ℕ) where
  unfoldable pub loaded : List (List ℕ)
  loaded =
      set (set (set (set (blanks n m (length vars)) 0 (rows_of n (equations m starts vars constants))) 1 (spans m starts)) 8 (spans m starts)) 6 (replicate n 1)

  unfoldable pub weighed : List (List ℕ)
  weighed = set (set loaded 4 (tallies n vars)) 3 (running 0 (0 ∷ tallies n vars))

  unfoldable pub listed : List (List ℕ)
  listed = set weighed 2 (lists_from (equations m starts vars constants) 0 n)

  unfoldable pub sorted : List (List ℕ)
  sorted = set listed 5 (reverse (heaviest (tallies n vars) n m))

  unfoldable pub made : List (List ℕ)
  made = set sorted 9 (padded m (firsts (spans m starts) m))

module _ {n m : ℕ} {starts vars constants : List ℕ} (g : Fits n m starts vars constants) where
  pub length_sorted : length (reverse (heaviest (tallies n vars) n m)) ≡ n
  length_sorted =
      let z = length_tallies n vars in
      ap (λ (k : ℕ). length (reverse (heaviest (tallies n vars) k m))) (sym z) ∙ length_heaviest (tallies n vars) m (tallies_low g) ∙ z

  pub made_is : made n m starts vars constants ≡ made_segments n m starts vars constants
  unfolding made sorted listed weighed loaded blanks made_segments
  made_is = ap (λ (v : List ℕ).
      rows_of n (equations m starts vars constants) ∷ spans m starts ∷ lists_from (equations m starts vars constants) 0 n ∷ running 0 (0 ∷ tallies n vars)
      ∷ tallies n vars ∷ v ∷ replicate n 1 ∷ replicate n 0 ∷ spans m starts ∷ padded m (firsts (spans m starts) m)
      ∷ replicate m 0 ∷ replicate m 0 ∷ replicate (m + 1) 0 ∷ replicate (m * n + (n + m)) 0 ∷ []) (sym (padded_full n (reverse (heaviest (tallies n vars) n m)) length_sorted))

  module _ {rest : List ℕ} (at : Layout) (same : at ≡ layout_of n m (length vars)) where
    -- ---- where the segments are

    lengths_at_lem : {segs : List (List ℕ)} {area : List ℕ} → Shows n m (length vars) rest segs area → at.lengths ≡ offset 1 segs
    lengths_at_lem {segs = segs} s = ap (λ (a : Layout). a.lengths) same ∙ sym (at_lengths n m (length vars) segs s.shape)

    lists_at : {segs : List (List ℕ)} {area : List ℕ} → Shows n m (length vars) rest segs area → at.lists ≡ offset 2 segs
    lists_at {segs = segs} s = ap (λ (a : Layout). a.lists) same ∙ sym (at_lists n m (length vars) segs s.shape)

    starts_at : {segs : List (List ℕ)} {area : List ℕ} → Shows n m (length vars) rest segs area → at.starts ≡ offset 3 segs
    starts_at {segs = segs} s = ap (λ (a : Layout). a.starts) same ∙ sym (at_starts n m (length vars) segs s.shape)

    weight_at : {segs : List (List ℕ)} {area : List ℕ} → Shows n m (length vars) rest segs area → at.weight ≡ offset 4 segs
    weight_at {segs = segs} s = ap (λ (a : Layout). a.weight) same ∙ sym (at_weight n m (length vars) segs s.shape)

    variables_at : {segs : List (List ℕ)} {area : List ℕ} → Shows n m (length vars) rest segs area → at.variables ≡ offset 5 segs
    variables_at {segs = segs} s = ap (λ (a : Layout). a.variables) same ∙ sym (at_variables n m (length vars) segs s.shape)

    idle_at : {segs : List (List ℕ)} {area : List ℕ} → Shows n m (length vars) rest segs area → at.idle ≡ offset 6 segs
    idle_at {segs = segs} s = ap (λ (a : Layout). a.idle) same ∙ sym (at_idle n m (length vars) segs s.shape)

    position_at : {segs : List (List ℕ)} {area : List ℕ} → Shows n m (length vars) rest segs area → at.position ≡ offset 7 segs
    position_at {segs = segs} s = ap (λ (a : Layout). a.position) same ∙ sym (at_position n m (length vars) segs s.shape)

    priority_at : {segs : List (List ℕ)} {area : List ℕ} → Shows n m (length vars) rest segs area → at.priority ≡ offset 8 segs
    priority_at {segs = segs} s = ap (λ (a : Layout). a.priority) same ∙ sym (at_priority n m (length vars) segs s.shape)

    equations_at : {segs : List (List ℕ)} {area : List ℕ} → Shows n m (length vars) rest segs area → at.equations ≡ offset 9 segs
    equations_at {segs = segs} s = ap (λ (a : Layout). a.equations) same ∙ sym (at_equations n m (length vars) segs s.shape)

    count_at : {segs : List (List ℕ)} {area : List ℕ} → Shows n m (length vars) rest segs area → at.count ≡ offset 12 segs
    count_at {segs = segs} s = ap (λ (a : Layout). a.count) same ∙ sym (at_count n m (length vars) segs s.shape)

    -- ---- zeros, then the rows, lengths, priorities and marks

    pub load_ready : {l : List ℕ} → Shows n m (length vars) rest (blanks n m (length vars)) l
        → (Fits n m starts vars constants × (m * n ≤ length l) × (at.lengths + m ≤ length l) × (at.idle + n ≤ length l) × (at.priority + m ≤ length l))
        × (stretch 0 (m * n) l ≡ replicate (m * n) 0)
    unfolding blanks offset
    load_ready s = (
      (
        g,
        (let i = shows_inside s 0 0 refl in omega arith),
        shows_inside s 1 at.lengths (lengths_at_lem s),
        shows_inside s 6 at.idle (idle_at s),
        shows_inside s 8 at.priority (priority_at s),
      ),
      shows_read s 0 0 (m * n) refl refl,
    )

    pub load_shows : {l l' : List ℕ} → Shows n m (length vars) rest (blanks n m (length vars)) l
        → l' ≡ put at.idle (replicate n 1) (put at.priority (spans m starts) (put at.lengths (spans m starts) (put 0 (rows_of n (equations m starts vars constants)) l)))
        → Shows n m (length vars) rest (loaded n m starts vars constants) l'
    unfolding loaded offset
    load_shows {l} {l'} s q =
        let a = shows_put s 0 0 (rows_of n (equations m starts vars constants)) refl (length_rows g) in
        let b = shows_put a 1 at.lengths (spans m starts) (lengths_at_lem a) (length_spans m starts) in
        let c = shows_put b 8 at.priority (spans m starts) (priority_at b) (length_spans m starts) in
        let d = shows_put c 6 at.idle (replicate n 1) (idle_at c) (length-replicate {A = ℕ} n 1) in
        rw q d

    -- ---- the weights and where the lists begin

    pub weigh_ready : {l : List ℕ} → Shows n m (length vars) rest (loaded n m starts vars constants) l
        → ((at.n ≤ max_variables) × (length vars ≤ max_listed) × Each (λ v. v < at.n) vars × (at.starts + (at.n + 1) ≤ at.weight) × (at.weight + at.n ≤ length l))
        × ((stretch at.starts (at.n + 1) l ≡ replicate (at.n + 1) 0) × (stretch at.weight at.n l ≡ replicate at.n 0))
    unfolding loaded blanks layout_of
    weigh_ready s = rw (at_n n m (length vars) at same) (
      (
        g.few_variables,
        g.few_listed,
        vars_below g,
        (let a = ap (λ (a : Layout). a.starts) same in let b = ap (λ (a : Layout). a.weight) same in omega arith),
        shows_inside s 4 at.weight (weight_at s),
      ),
      (shows_read s 3 at.starts (n + 1) (starts_at s) refl, shows_read s 4 at.weight n (weight_at s) refl),
    )

    pub weigh_shows : {l l' : List ℕ} → Shows n m (length vars) rest (loaded n m starts vars constants) l
        → l' ≡ put at.starts (running 0 (0 ∷ tallies at.n vars)) (put at.weight (tallies at.n vars) l) → Shows n m (length vars) rest (weighed n m starts vars constants) l'
    unfolding weighed
    weigh_shows {l} {l'} s q =
        let a = shows_put s 4 at.weight (tallies n vars) (weight_at s) (length_tallies n vars) in
        let z = length_tallies n vars in
        let e : length (running 0 (0 ∷ tallies n vars)) ≡ n + 1 = length_running 0 (0 ∷ tallies n vars) ∙ omega arith in
        let b = shows_put a 3 at.starts (running 0 (0 ∷ tallies n vars)) (starts_at a) e in
        rw (rw (at_n n m (length vars) at same) at q) b

    -- ---- the lists

    pub fill_ready : {l : List ℕ} → Shows n m (length vars) rest (weighed n m starts vars constants) l
        → (Fits n m starts vars constants × (at.lists + length vars ≤ at.starts) × (at.starts + (n + 1) ≤ at.position) × (at.position + n ≤ length l))
        × ((stretch at.starts (n + 1) l ≡ running 0 (0 ∷ tallies n vars)) × (stretch at.lists (length vars) l ≡ replicate (length vars) 0) × (stretch at.position n l ≡ replicate n 0))
    unfolding weighed loaded blanks layout_of
    fill_ready s = (
      (
        g,
        (let a = ap (λ (a : Layout). a.lists) same in let b = ap (λ (a : Layout). a.starts) same in omega arith),
        (let a = ap (λ (a : Layout). a.starts) same in let b = ap (λ (a : Layout). a.position) same in omega arith),
        shows_inside s 7 at.position (position_at s),
      ),
      (shows_read s 3 at.starts (n + 1) (starts_at s) refl, shows_read s 2 at.lists (length vars) (lists_at s) refl, shows_read s 7 at.position n (position_at s) refl),
    )

    pub fill_shows : {l l' : List ℕ} → Shows n m (length vars) rest (weighed n m starts vars constants) l
        → l' ≡ put at.lists (lists_from (equations m starts vars constants) 0 n) l → Shows n m (length vars) rest (listed n m starts vars constants) l'
    unfolding listed
    fill_shows {l} {l'} s q = let a = shows_put s 2 at.lists (lists_from (equations m starts vars constants) 0 n) (lists_at s) (lists_long g) in rw q a

    -- ---- the variables by weight

    weights_shown : {l : List ℕ} → Shows n m (length vars) rest (listed n m starts vars constants) l → stretch at.weight n l ≡ tallies n vars
    unfolding listed weighed loaded blanks
    weights_shown s = shows_read s 4 at.weight n (weight_at s) refl

    pub sort_ready : {l : List ℕ} → Shows n m (length vars) rest (listed n m starts vars constants) l
        → ((at.n ≤ max_variables) × (at.m ≤ max_equations) × (at.weight + at.n ≤ at.variables) × (at.variables + at.n ≤ at.count) × (at.count + (at.m + 1) ≤ length l) × Each (λ w. w < at.m + 1) (stretch at.weight at.n l))
        × ((stretch at.count (at.m + 1) l ≡ replicate (at.m + 1) 0) × (stretch at.variables at.n l ≡ replicate at.n 0))
    unfolding listed weighed loaded blanks layout_of
    sort_ready s = rw ((at_n n m (length vars) at same), (at_m n m (length vars) at same)) (
      (
        g.few_variables,
        g.few_equations,
        (let a = ap (λ (a : Layout). a.weight) same in let b = ap (λ (a : Layout). a.variables) same in omega arith),
        (let a = ap (λ (a : Layout). a.variables) same in let b = ap (λ (a : Layout). a.count) same in omega arith),
        shows_inside s 12 at.count (count_at s),
        rw (weights_shown s) (tallies_low g),
      ),
      (shows_read s 12 at.count (m + 1) (count_at s) refl, shows_read s 5 at.variables n (variables_at s) refl),
    )

    pub sort_shows : {l l' : List ℕ} → Shows n m (length vars) rest (listed n m starts vars constants) l
        → l' ≡ put at.variables (reverse (heaviest (stretch at.weight at.n l) at.n at.m)) l → Shows n m (length vars) rest (sorted n m starts vars constants) l'
    unfolding sorted
    sort_shows {l} {l'} s q =
        let a = shows_put s 5 at.variables (reverse (heaviest (tallies n vars) n m)) (variables_at s) length_sorted in
        rw (rw ((at_n n m (length vars) at same), (at_m n m (length vars) at same)) at q, weights_shown s) a

    -- ---- the first list

    priorities_shown : {l : List ℕ} → Shows n m (length vars) rest (sorted n m starts vars constants) l → stretch at.priority m l ≡ spans m starts
    unfolding sorted listed weighed loaded blanks
    priorities_shown s = shows_read s 8 at.priority m (priority_at s) refl

    pub first_ready : {l : List ℕ} → Shows n m (length vars) rest (sorted n m starts vars constants) l
        → (at.m ≤ max_equations) × (at.priority + at.m ≤ at.equations) × (at.equations + at.m ≤ length l)
    unfolding layout_of
    first_ready s =
        rw (at_m n m (length vars) at same) (g.few_equations, (let a = ap (λ (a : Layout). a.priority) same in let b = ap (λ (a : Layout). a.equations) same in omega arith), shows_inside s 9 at.equations (equations_at s))

    pub first_shows : {l l' : List ℕ} → Shows n m (length vars) rest (sorted n m starts vars constants) l
        → l' ≡ put at.equations (firsts (stretch at.priority at.m l) at.m) l → Shows n m (length vars) rest (made n m starts vars constants) l'
    unfolding made sorted listed weighed loaded blanks
    first_shows {l} {l'} s q =
        let a = shows_fill s 9 at.equations (firsts (spans m starts) m) (equations_at s) refl (length_firsts (spans m starts) m) in
        rw (rw (at_m n m (length vars) at same) at q, priorities_shown s) a

    -- ---- the start

    pub made_numbers : {area : List ℕ} → Shows n m (length vars) rest (made n m starts vars constants) area
        → area ≡ numbers_of n (equations m starts vars constants) (start n (equations m starts vars constants)) ++ rest
    unfolding numbers_of
    made_numbers {area} s = s.shown ∙ ap (λ (segs : List (List ℕ)). joined segs ++ rest) (made_is ∙ sym (start_picture g))

    pub first_many : {l : List ℕ} {r : ℕ} → Shows n m (length vars) rest (sorted n m starts vars constants) l → r ≡ length (firsts (stretch at.priority at.m l) at.m)
        → r ≡ length (start n (equations m starts vars constants)).equations
    first_many s q =
        rw (at_m n m (length vars) at same) at q ∙ ap (λ (p : List ℕ). length (firsts p m)) (priorities_shown s)
        ∙ ap (λ (l : List ℕ). length l) (sym (first_are g)) ∙ length-reverse (start n (equations m starts vars constants)).equations

-- the room is zeroed
pub zero_shows : (n m t r : ℕ) (l l' : List ℕ) → lazy_numbers n m t ≤ length l → r ≡ lazy_numbers n m t → l' ≡ put 0 (replicate (r - 0) 0) l
    → Shows n m t (drop (lazy_numbers n m t) l) (blanks n m t) l'
zero_shows n m t r l l' h e q = rw (q, e) (shows_blank n m t l h)
