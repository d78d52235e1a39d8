-- The loops that load the rows and list the first equations.
use mathlib.Core.Path.{◌≡◌, refl, sym, ap, ap₂, ◌∙◌}
use mathlib.Core.Logic.{◌≢◌}
use mathlib.Core.List.{List, [], ◌∷◌, ◌++◌, map, append_assoc, append-nil}
use mathlib.Core.Bool.{Bool, true, false, cond}
use Prim.Native.Nat.{ℕ, zero, suc, ◌+◌, ◌-◌, ◌*◌, ◌≤◌, ◌<◌}
use native.Mathlib.Nat.{zero-add}
use native.Mathlib.Numerals.{sub-one}
use native.Mathlib.Omega.{arith}
use native.Mathlib.Decide.{dec_lt}
use borrow.Author.Tests.{le-leb, lt-leb, lt-ltb, le-ltb}
use lib.ListN.{length, drop, get_or, set, replicate, length-append, length-replicate, length-set, length-map, take-append-drop, get_or-replicate}
use lib.Dec.{ltb, leb}
use Rattle.gf2.specs.Equation.{Equation}
use Rattle.gf2.specs.NumberLists.{up_from, down_from, keep}
use Rattle.gf2.specs.ByNumber.{row_of, blank}
use Rattle.gf2.proofs.SymDiff.{rising_length}
use Rattle.gf2.proofs.Selecting.{length-keep}
use Rattle.areas.specs.Rows.{laid, Narrow}
use Rattle.areas.specs.Stretch.{stretch, put}
use Rattle.areas.proofs.Stretch.{get_or-stretch, put_none, put_more, get_or-put_before, length-put}
use Rattle.areas.proofs.Rows.{length_laid, laid_empty, padded_full, put_row}
use Rattle.areas.proofs.Offsets.{row_before}
use Rattle.system.specs.System.{equation_at, equations}
use Rattle.system.specs.Fits.{Fits}
use Rattle.system.proofs.Reading.{equations_at}
use Rattle.lazy_setup.specs.Area.{rows_of}
use Rattle.lazy_setup.specs.Tables.{spans, firsts}
use Rattle.lazy_setup.proofs.Tables.{get_or_table, length_table, is_table, same_table, set_table}

-- a list is the table of its elements
pub table_of : (f : Equation → List ℕ) (es : List Equation) → map f es ≡ map (λ e. f (row_of es e)) (up_from 0 (length es))
table_of f es = is_table [] (λ e. f (row_of es e)) (length es) (map f es) (length-map es f) (λ i h. at es i h)
  where
    at : (l : List Equation) (i : ℕ) → i < length l → get_or (map f l) i [] ≡ f (row_of l i)
    at [] i h = absurd (omega arith)
    at (x ∷ l) zero h = refl
    at (x ∷ l) (suc i) h = at l i (omega arith)

-- ---- the rows

-- the first i rows are loaded
unfoldable pub rows_up_to : List Equation → ℕ → List (List ℕ)
rows_up_to es i = map (λ e. cond (ltb e i) (row_of es e).vars []) (up_from 0 (length es))

pub record Loading (n m : ℕ) (starts vars constants : List ℕ) (l : List ℕ) (i : ℕ) (area : List ℕ) : Type 0 where
  pub fits : Fits n m starts vars constants
  pub inside : i ≤ m
  pub room : m * n ≤ length l
  pub long : length area ≡ length l
  pub shown : area ≡ laid n (rows_up_to (equations m starts vars constants) i) ++ drop (m * n) l

module _ {n m : ℕ} {starts vars constants : List ℕ} (f : Fits n m starts vars constants) where
  es : List Equation
  es = equations m starts vars constants

  row_is : (i : ℕ) → i < m → row_of es i ≡ equation_at starts vars constants i
  unfolding es
  row_is i h = equations_at starts vars constants m i blank h

  row_short : (i : ℕ) → i < m → length (row_of es i).vars ≤ n
  row_short i h = let r = rising_length 0 n (equation_at starts vars constants i).vars (omega arith) (f.rising i h) in rw (row_is i h) (omega arith)

  many_rows : (i : ℕ) → length (rows_up_to es i) ≡ m
  unfolding rows_up_to es
  many_rows i = length_table (λ e. cond (ltb e i) (row_of es e).vars []) 0 (length es) ∙ f.many

  row_at : (i e : ℕ) → e < m → get_or (rows_up_to es i) e [] ≡ cond (ltb e i) (row_of es e).vars []
  unfolding rows_up_to es
  row_at i e h = get_or_table (λ e. cond (ltb e i) (row_of es e).vars []) [] (length es) e (let z = f.many in omega arith)

  narrow_rows : (i : ℕ) → Narrow n (rows_up_to es i)
  narrow_rows i e h = let z = many_rows i in go (ltb e i) (row_at i e (omega arith)) (row_short e (omega arith))
    where
      go : (b : Bool) → get_or (rows_up_to es i) e [] ≡ cond b (row_of es e).vars [] → length (row_of es e).vars ≤ n → length (get_or (rows_up_to es i) e []) ≤ n
      go true q k = rw q k
      go false q k = rw q (omega arith)

  all_rows : rows_up_to es m ≡ map (λ r. r.vars) es
  unfolding rows_up_to es
  all_rows =
      same_table [] (λ e. cond (ltb e m) (row_of es e).vars []) (λ e. (row_of es e).vars) (length es) (λ e h. let z = f.many in rw (lt-ltb e m (omega arith)))
      ∙ sym (table_of (λ r. r.vars) es)

  no_rows : rows_up_to es 0 ≡ replicate m []
  unfolding rows_up_to es
  no_rows =
      sym (is_table [] (λ e. cond (ltb e 0) (row_of es e).vars []) (length es) (replicate m []) (length-replicate m [] ∙ sym f.many)
      (λ e h. let z = f.many in get_or-replicate m e [] [] (omega arith) ∙ sym (rw (le-ltb e 0 (omega arith)))))

  next_row : (i : ℕ) → i < m → set (rows_up_to es i) i (row_of es i).vars ≡ rows_up_to es (i + 1)
  unfolding rows_up_to es
  next_row i h =
      set_table [] (λ e. cond (ltb e i) (row_of es e).vars []) (λ e. cond (ltb e (i + 1)) (row_of es e).vars []) (length es) i (row_of es i).vars (let z = f.many in omega arith)
      (rw (lt-ltb i (i + 1) (omega arith))) (λ e g r. ap (λ (b : Bool). cond b (row_of es e).vars []) (test e r (dec_lt e i)))
    where
      test : (e : ℕ) → e ≢ i → Dec (e < i) → ltb e i ≡ ltb e (i + 1)
      test e r (yes h) = lt-ltb e i h ∙ sym (lt-ltb e (i + 1) (omega arith))
      test e r (no h) = le-ltb e i (omega arith) ∙ sym (le-ltb e (i + 1) (omega arith))

pub length_rows : {n m : ℕ} {starts vars constants : List ℕ} → Fits n m starts vars constants → length (rows_of n (equations m starts vars constants)) ≡ m * n
unfolding es
length_rows {n} {m} f = ap (λ (r : List (List ℕ)). length (laid n r)) (sym (all_rows f)) ∙ length_laid n (rows_up_to (es f) m) (narrow_rows f m) ∙ ap (λ (k : ℕ). k * n) (many_rows f m)

pub loading_begin : (n m : ℕ) (starts vars constants l : List ℕ) → Fits n m starts vars constants → m * n ≤ length l → stretch 0 (m * n) l ≡ replicate (m * n) 0
    → Loading n m starts vars constants l 0 l
unfolding es stretch
loading_begin n m starts vars constants l f h z =
    record {
      fits = f;
      inside = omega arith;
      room = h;
      long = refl;
      shown = sym (take-append-drop (m * n) l) ∙ ap (λ (s : List ℕ). s ++ drop (m * n) l) (z ∙ sym (laid_empty n m) ∙ ap (laid n) (sym (no_rows f)));
    }

pub loading_fits : {n m : ℕ} {starts vars constants l : List ℕ} {i : ℕ} {area : List ℕ} → Loading n m starts vars constants l i area → i < m
    → i * n + length (equation_at starts vars constants i).vars ≤ length area
loading_fits {n} {m} {starts} {vars} {constants} {i = i} s h =
    let r : length (equation_at starts vars constants i).vars + 0 ≤ n = rising_length 0 n (equation_at starts vars constants i).vars (omega arith) (s.fits.rising i h) in
    let b = row_before i m n h in
    let g = s.long in let k = s.room in
    omega arith

pub loading_turn : {n m : ℕ} {starts vars constants l : List ℕ} {i : ℕ} {area : List ℕ} → Loading n m starts vars constants l i area → i < m → (area' : List ℕ)
    → area' ≡ put (i * n) (equation_at starts vars constants i).vars area → Loading n m starts vars constants l (i + 1) area'
unfolding es
loading_turn {n} {m} {starts} {vars} {constants} {l} {i} {area} s h area' q =
    record {
      fits = s.fits;
      inside = omega arith;
      room = s.room;
      long = ap (λ (t : List ℕ). length t) q ∙ length-put (i * n) vs area (loading_fits s h) ∙ s.long;
      shown = q ∙ ap (put (i * n) vs) s.shown ∙ written;
    }
  where
    f : Fits n m starts vars constants
    f = s.fits

    vs : List ℕ
    vs = (equation_at starts vars constants i).vars

    row : (row_of (es f) i).vars ≡ vs
    row = ap (λ (r : Equation). r.vars) (row_is f i h)

    short : length vs ≤ n
    short = let r = row_short f i h in let e = ap (λ (t : List ℕ). length t) row in omega arith

    bare : get_or (rows_up_to (es f) i) i [] ≡ []
    bare = row_at f i i h ∙ rw (le-ltb i i (omega arith))

    written : put (i * n) vs (laid n (rows_up_to (es f) i) ++ drop (m * n) l) ≡ laid n (rows_up_to (es f) (i + 1)) ++ drop (m * n) l
    written =
        let k = many_rows f i in
        let e = ap (λ (t : List ℕ). length t) bare in
        ap (λ (t : List ℕ). put (i * n) t (laid n (rows_up_to (es f) i) ++ drop (m * n) l)) (sym (padded_full (length vs) vs refl))
        ∙ put_row n i (length vs) vs (rows_up_to (es f) i) (drop (m * n) l) (narrow_rows f i) (omega arith) (omega arith) (omega arith) short
        ∙ ap (λ (t : List (List ℕ)). laid n t ++ drop (m * n) l) (ap (set (rows_up_to (es f) i) i) (sym row) ∙ next_row f i h)

pub loading_end : {n m : ℕ} {starts vars constants l : List ℕ} {i : ℕ} {area : List ℕ} → Loading n m starts vars constants l i area → m ≤ i
    → area ≡ put 0 (rows_of n (equations m starts vars constants)) l
unfolding es put
loading_end {n} {m} {starts} {vars} {constants} {l} {i} {area} s h =
    let q : i ≡ m = let w = s.inside in omega arith in
    s.shown ∙ ap (λ (k : ℕ). laid n (rows_up_to (equations m starts vars constants) k) ++ drop (m * n) l) q
    ∙ ap (λ (t : List (List ℕ)). laid n t ++ drop (m * n) l) (all_rows s.fits)
    ∙ ap (λ (k : ℕ). rows_of n (equations m starts vars constants) ++ drop k l) (sym (zero-add (length (rows_of n (equations m starts vars constants))) ∙ length_rows s.fits))

-- ---- lengths and marks

pub length_spans : (m : ℕ) (starts : List ℕ) → length (spans m starts) ≡ m
unfolding spans
length_spans m starts = length_table (λ i. get_or starts (i + 1) 0 - get_or starts i 0) 0 m

pub span_at : (m : ℕ) (starts : List ℕ) (i : ℕ) → i < m → get_or starts (i + 1) 0 - get_or starts i 0 ≡ get_or (spans m starts) i 0
unfolding spans
span_at m starts i h = sym (get_or_table (λ i. get_or starts (i + 1) 0 - get_or starts i 0) 0 m i h)

-- ---- the first list

pub record Listing (m p a : ℕ) (l : List ℕ) (i top : ℕ) (area : List ℕ) : Type 0 where
  pub done : List ℕ
  pub apart : p + m ≤ a
  pub room : a + m ≤ length l
  pub inside : i ≤ m
  pub long : length area ≡ length l
  pub high : top ≡ length done
  pub whole : done ++ firsts (stretch p m l) i ≡ firsts (stretch p m l) m
  pub shown : area ≡ put a done l

pub listing_begin : (m p a : ℕ) (l : List ℕ) → p + m ≤ a → a + m ≤ length l → Listing m p a l m 0 l
listing_begin m p a l h r =
    record { done = []; apart = h; room = r; inside = omega arith; long = refl; high = refl; whole = refl; shown = sym (put_none a l) }

length_down : (n : ℕ) → length (down_from n) ≡ n
unfolding down_from
length_down zero = refl
length_down (suc n) = ap suc (length_down n)

pub length_firsts : (priority : List ℕ) (m : ℕ) → length (firsts priority m) ≤ m
unfolding firsts
length_firsts priority m = let a = length-keep (λ e. leb (get_or priority e 0) 1) (down_from m) in let b = length_down m in omega arith

firsts_none : (priority : List ℕ) → firsts priority 0 ≡ []
unfolding firsts keep down_from
firsts_none priority = refl

firsts_taken : (priority : List ℕ) (j : ℕ) → get_or priority j 0 ≤ 1 → firsts priority (suc j) ≡ j ∷ firsts priority j
unfolding firsts keep down_from
firsts_taken priority j h = rw (le-leb (get_or priority j 0) 1 h)

firsts_left : (priority : List ℕ) (j : ℕ) → 1 < get_or priority j 0 → firsts priority (suc j) ≡ firsts priority j
unfolding firsts keep down_from
firsts_left priority j h = rw (lt-leb (get_or priority j 0) 1 h)

module _ {m p a : ℕ} {l : List ℕ} {j top : ℕ} {area : List ℕ} (s : Listing m p a l (suc j) top area) where
  low_top : (top + length (firsts (stretch p m l) (suc j))) ≤ m
  low_top =
      let w = ap (λ (t : List ℕ). length t) s.whole in let e = length-append s.done (firsts (stretch p m l) (suc j)) in
      let g = length_firsts (stretch p m l) m in let h = s.high in omega arith

  read : get_or area (p + j) 0 ≡ get_or (stretch p m l) j 0
  read =
      let h = s.apart in let r = s.room in let i = s.inside in
      ap (λ (t : List ℕ). get_or t (p + j) 0) s.shown ∙ get_or-put_before a (p + j) 0 s.done l (omega arith) (omega arith) ∙ sym (get_or-stretch p m j 0 l (omega arith))

  pub top_inside : get_or area (p + j) 0 ≤ 1 → top < m
  top_inside h =
      let t = low_top in let e = ap (λ (t : List ℕ). length t) (firsts_taken (stretch p m l) j (let r = read in omega arith)) in omega arith

  pub push : get_or area (p + j) 0 ≤ 1 → Listing m p a l j (top + 1) (set area (a + top) j)
  push h =
      let t = top_inside h in let r = s.room in let g = s.high in
      record {
        done = s.done ++ (j ∷ []);
        apart = s.apart;
        room = s.room;
        inside = let i = s.inside in omega arith;
        long = simp length-set s.long;
        high = rw length-append (omega arith);
        whole = append_assoc s.done (j ∷ []) (firsts (stretch p m l) j)
            ∙ ap (λ (t : List ℕ). s.done ++ t) (sym (firsts_taken (stretch p m l) j (let e = read in omega arith))) ∙ s.whole;
        shown = ap₂ (λ (t : List ℕ) (k : ℕ). set t (a + k) j) s.shown s.high ∙ put_more a j s.done l (omega arith);
      }

  pub pass : 1 < get_or area (p + j) 0 → Listing m p a l j top area
  pass h =
      record {
        done = s.done;
        apart = s.apart;
        room = s.room;
        inside = let i = s.inside in omega arith;
        long = s.long;
        high = s.high;
        whole = ap (λ (t : List ℕ). s.done ++ t) (sym (firsts_left (stretch p m l) j (let e = read in omega arith))) ∙ s.whole;
        shown = s.shown;
      }

-- ---- by the code's i

module _ {m p a : ℕ} {l : List ℕ} {top : ℕ} {area : List ℕ} where
  pub listing_room : {i : ℕ} → Listing m p a l i top area → 0 < i → get_or area (p + (i - 1)) 0 ≤ 1 → top < m
  listing_room {i = zero} s h g = absurd (omega arith)
  listing_room {i = suc j} s h g = top_inside s (rw sub-one at g)

  pub listing_push : {i : ℕ} → Listing m p a l i top area → 0 < i → get_or area (p + (i - 1)) 0 ≤ 1 → Listing m p a l (i - 1) (top + 1) (set area (a + top) (i - 1))
  listing_push {i = zero} s h g = absurd (omega arith)
  listing_push {i = suc j} s h g = rw sub-one (push s (rw sub-one at g))

  pub listing_pass : {i : ℕ} → Listing m p a l i top area → 0 < i → 1 < get_or area (p + (i - 1)) 0 → Listing m p a l (i - 1) top area
  listing_pass {i = zero} s h g = absurd (omega arith)
  listing_pass {i = suc j} s h g = rw sub-one (pass s (rw sub-one at g))

  pub listing_end : {i : ℕ} → Listing m p a l i top area → i ≤ 0 → (top ≡ length (firsts (stretch p m l) m)) × (area ≡ put a (firsts (stretch p m l) m) l)
  listing_end {i = zero} s h =
      let e : s.done ≡ firsts (stretch p m l) m = sym (append-nil s.done) ∙ ap (λ (t : List ℕ). s.done ++ t) (sym (firsts_none (stretch p m l))) ∙ s.whole in
      (s.high ∙ ap (λ (t : List ℕ). length t) e, s.shown ∙ ap (λ (t : List ℕ). put a t l) e)
  listing_end {i = suc i} s h = absurd (omega arith)
