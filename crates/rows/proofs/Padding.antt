-- Rows that lie padded: where they do, and how they are emptied.
use mathlib.Core.Path.{◌≡◌, refl, sym, ap, ◌∙◌}
use mathlib.Core.List.{List, [], ◌++◌, map}
use Prim.Native.Nat.{ℕ, ◌+◌, ◌-◌, ◌*◌, ◌≤◌, ◌<◌}
use native.Mathlib.Nat.{zero-add, zero-mul, add_assoc}
use native.Mathlib.Omega.{arith}
use lib.ListN.{length, get_or, take, drop, replicate, length-append, length-replicate, length-map, length-drop, replicate-append-replicate, get_or-map, get_or-append}
use lib.Seq.{get_or-append-add, get_or-drop, drop-drop}
use Rattle.areas.specs.Stretch.{stretch, put, zeroed}
use Rattle.areas.specs.Rows.{padded, laid, Narrow}
use Rattle.areas.proofs.Offsets.{row_before, row_next}
use Rattle.areas.proofs.Rows.{padded-nil, put-padded, length_laid, stretch_laid, stretch_row_all}
use Rattle.areas.proofs.Stretch.{length-stretch, length-put, put_none, put_then, stretch-put_after, get_or-put_after, stretch_agree, get_or_agree}
use Rattle.gf2.specs.Equation.{Equation, eqn}
use Rattle.rows.specs.Padding.{PaddedRows}
use Rattle.rows.specs.Picture.{vars_of, length_of}

-- ---- where rows lie padded

-- rows, something between, their lengths
pub rows_padded : (n : ℕ) (rows : List Equation) (mid rest : List ℕ) {numbers : List ℕ} → Narrow n (map vars_of rows)
    → numbers ≡ laid n (map vars_of rows) ++ (mid ++ (map length_of rows ++ rest)) → PaddedRows 0 (length rows * n + length mid) n (length rows) numbers
rows_padded n rows mid rest {numbers} f e =
    record {
      behind = omega arith;
      inside = rw (e, length-append, length-append, length-append, length-map, l) (omega arith);
      short = λ i h. rw (size i h) (f i (many h));
      zeros = λ i h. rw (zero-add (i * n), size i h) (whole i h ∙ ap (padded n) (sym (part i h)));
    }
  where
    many : {i : ℕ} → i < length rows → i < length (map vars_of rows)
    many h = rw length-map h

    l : length (laid n (map vars_of rows)) ≡ length rows * n
    l = length_laid n (map vars_of rows) f ∙ ap (λ (k : ℕ). k * n) (length-map rows vars_of)

    size : (i : ℕ) → i < length rows → get_or numbers (length rows * n + length mid + i) 0 ≡ length (get_or (map vars_of rows) i [])
    size i h =
        rw (e, ← l, add_assoc)
        (get_or-append-add (laid n (map vars_of rows)) (mid ++ (map length_of rows ++ rest)) (length mid + i) 0 ∙ get_or-append-add mid (map length_of rows ++ rest) i 0
        ∙ get_or-append (map length_of rows) rest 0 i (rw length-map h) ∙ get_or-map length_of rows i (eqn [] 0)
        ∙ ap (λ (vs : List ℕ). length vs) (sym (get_or-map vars_of rows i (eqn [] 0))))

    whole : (i : ℕ) → i < length rows → stretch (i * n) n numbers ≡ padded n (get_or (map vars_of rows) i [])
    whole i h = rw e (stretch_laid n i (map vars_of rows) (mid ++ (map length_of rows ++ rest)) f (many h))

    part : (i : ℕ) → i < length rows → stretch (i * n) (length (get_or (map vars_of rows) i [])) numbers ≡ get_or (map vars_of rows) i []
    part i h = rw e (stretch_row_all n i (map vars_of rows) (mid ++ (map length_of rows ++ rest)) f (many h))

-- at the end of an area
pub padded_past : (b lengths n m : ℕ) (numbers : List ℕ) → b ≤ length numbers → PaddedRows 0 lengths n m (drop b numbers) → PaddedRows b (b + lengths) n m numbers
unfolding stretch
padded_past b lengths n m numbers h p =
    let e = length-drop b numbers in
    let q = p.behind in
    let r = p.inside in
    record {
      behind = omega arith;
      inside = omega arith;
      short = λ i g. rw (add_assoc, ← (get_or-drop b numbers (lengths + i) 0)) (p.short i g);
      zeros = λ i g. rw (add_assoc, ← (get_or-drop b numbers (lengths + i) 0), ← (drop-drop (i * n) b numbers)) (rw (zero-add (i * n)) at (p.zeros i g));
    }

-- what stands before c is all that counts
pub padded_agree : {at lengths n m : ℕ} {numbers : List ℕ} (c : ℕ) (numbers' : List ℕ) → PaddedRows at lengths n m numbers → take c numbers' ≡ take c numbers → lengths + m ≤ c → c ≤ length numbers'
    → PaddedRows at lengths n m numbers'
padded_agree {at} {lengths} {n} {m} {numbers} c numbers' p e h k =
    let q = p.behind in
    record {
      behind = q;
      inside = omega arith;
      short = λ i g. rw (cell i g) (p.short i g);
      zeros = λ i g.
          let b = row_before i m n g in
          let s = p.short i g in
          rw (cell i g, stretch_agree (at + i * n) n c numbers' numbers e (omega arith), stretch_agree (at + i * n) (get_or numbers (lengths + i) 0) c numbers' numbers e (omega arith)) (p.zeros i g);
    }
  where
    cell : (i : ℕ) → i < m → get_or numbers' (lengths + i) 0 ≡ get_or numbers (lengths + i) 0
    cell i g = get_or_agree (lengths + i) 0 c numbers' numbers e (omega arith)

-- ---- how they are emptied

-- the first i rows are zero
pub record Emptying (at lengths n m : ℕ) (d : List ℕ) (i : ℕ) (out : List ℕ) : Type 0 where
  pub some : i ≤ m
  pub rows : PaddedRows at lengths n m d
  pub long : length out ≡ length d
  pub so_far : out ≡ zeroed at (at + i * n) d

pub emptying_begin : {at lengths n m : ℕ} {d : List ℕ} → PaddedRows at lengths n m d → Emptying at lengths n m d 0 d
emptying_begin {at} {n = n} {d = d} p =
    record { some = omega arith; rows = p; long = refl; so_far = sym (ap (λ (k : ℕ). put at (replicate k 0) d) (none n) ∙ put_none at d) }
  where
    none : (n : ℕ) → at + 0 * n - at ≡ 0
    none n = let z = zero-mul n in omega arith

-- row i and its length lie inside the area
pub record RowHere (at lengths n i : ℕ) (out : List ℕ) : Type 0 where
  pub ends : at + i * n + n ≤ lengths
  pub cell : lengths + i < length out
  pub short : get_or out (lengths + i) 0 ≤ n

module _ {at lengths n m : ℕ} {d : List ℕ} {i : ℕ} {out : List ℕ} (w : Emptying at lengths n m d i out) (h : i < m) where
  zeros_long : length (replicate {A = ℕ} (at + i * n - at) 0) ≡ i * n
  zeros_long = length-replicate (at + i * n - at) 0 ∙ omega arith

  read : get_or out (lengths + i) 0 ≡ get_or d (lengths + i) 0
  read = let b = row_before i m n h in let q = w.rows.behind in let r = w.rows.inside in let z = zeros_long in
      rw w.so_far (get_or-put_after at (lengths + i) 0 (replicate (at + i * n - at) 0) d (omega arith) (omega arith))

  pub row_here : RowHere at lengths n i out
  row_here =
      let b = row_before i m n h in let q = w.rows.behind in let r = w.rows.inside in let l = w.long in
      record { ends = omega arith; cell = omega arith; short = rw read (w.rows.short i h) }

  pub emptying_turn : Emptying at lengths n m d (i + 1) (zeroed (at + i * n) (at + i * n + get_or out (lengths + i) 0) out)
  emptying_turn =
      let b = row_before i m n h in let q = w.rows.behind in let r = w.rows.inside in let l = w.long in let x = row_here in let z = zeros_long in
      let k : ℕ = get_or out (lengths + i) 0 in
      let e : at + i * n + k - (at + i * n) ≡ k = omega arith in
      let us : List ℕ = stretch (at + i * n) (get_or d (lengths + i) 0) d in
      let lu : length us ≡ k = length-stretch (at + i * n) (get_or d (lengths + i) 0) d (let y = w.rows.short i h in omega arith) ∙ sym read in
      let same : stretch (at + i * n) n out ≡ padded n us =
      ap (stretch (at + i * n) n) w.so_far ∙ stretch-put_after (at + i * n) n at (replicate (at + i * n - at) 0) d (omega arith) (omega arith) ∙ w.rows.zeros i h in
      let full : put (at + i * n) (replicate k 0) out ≡ put (at + i * n) (replicate n 0) out =
      rw (padded-nil k, padded-nil n) at (put-padded n k (at + i * n) us [] out same (omega arith) (omega arith) (omega arith) (omega arith)) in
      let o : at + i * n ≡ at + length (replicate {A = ℕ} (at + i * n - at) 0) = omega arith in
      let s : (at + i * n - at) + n ≡ at + (i + 1) * n - at = let y = row_next i n in omega arith in
      let all : put (at + i * n) (replicate n 0) out ≡ zeroed at (at + (i + 1) * n) d =
      ap (put (at + i * n) (replicate n 0)) w.so_far ∙ ap (λ (p : ℕ). put p (replicate n 0) (zeroed at (at + i * n) d)) o
      ∙ put_then at (replicate (at + i * n - at) 0) (replicate n 0) d (omega arith)
      ∙ ap (λ (t : List ℕ). put at t d) (replicate-append-replicate (at + i * n - at) n 0 ∙ ap (λ (j : ℕ). replicate j 0) s) in
      record {
        some = omega arith;
        rows = w.rows;
        long = length-put (at + i * n) (replicate (at + i * n + k - (at + i * n)) 0) out (rw (length-replicate, e) (omega arith)) ∙ l;
        so_far = ap (λ (j : ℕ). put (at + i * n) (replicate j 0) out) e ∙ full ∙ all;
      }

pub emptying_end : {at lengths n m : ℕ} {d : List ℕ} {i : ℕ} {out : List ℕ} → Emptying at lengths n m d i out → m ≤ i → out ≡ zeroed at (at + m * n) d
emptying_end {m = m} {i = i} w h = let g = w.some in let e : i ≡ m = omega arith in rw e at w.so_far
