-- The laws of rows laid one after the other, each padded with zeros.
use mathlib.Core.Path.{◌≡◌, refl, sym, ap, ◌∙◌}
use mathlib.Core.List.{List, [], ◌∷◌, ◌++◌, append_assoc, append-nil}
use Prim.Native.Nat.{ℕ, zero, suc, ◌+◌, ◌-◌, ◌*◌, ◌<◌, ◌≤◌, zero-le, suc-le-suc}
use native.Mathlib.Nat.{add-zero, zero-mul, suc-mul, add_comm, sub_self, sub-zero, not-suc-le-zero, le_of_suc-le-suc, ne_of_lt}
use native.Mathlib.Omega.{arith}
use lib.ListN.{length, take, get_or, set, replicate, length-append, length-replicate, length-set, replicate-append-replicate}
use lib.Seq.{take-append_seam, get_or-set_other}
use Rattle.areas.specs.Stretch.{stretch, put, exchanged}
use Rattle.areas.specs.Rows.{padded, laid, Narrow, swapped}
use Rattle.areas.proofs.Stretch.{stretch-stretch, stretch_at, stretch_last, stretch-append_right, get_or-stretch, put_at, put-append, put-append_right, put-stretch}
use Rattle.areas.proofs.Offsets.{row_before}

-- ---- one row

pub length-padded : (n : ℕ) (vs : List ℕ) → length vs ≤ n → length (padded n vs) ≡ n
unfolding padded
length-padded n vs h = simp (length-append, length-replicate) (omega arith)

pub padded-nil : (n : ℕ) → padded n [] ≡ replicate n 0
unfolding padded
padded-nil n = rw sub-zero

-- a row that is full has no zeros
pub padded_full : (n : ℕ) (vs : List ℕ) → length vs ≡ n → padded n vs ≡ vs
unfolding padded
padded_full n vs h = rw (← h, sub_self) (append-nil vs)

pub take-padded : (n : ℕ) (vs : List ℕ) → take (length vs) (padded n vs) ≡ vs
unfolding padded
take-padded n vs = take-append_seam vs (replicate (n - length vs) 0)

pub stretch-padded : (n : ℕ) (vs : List ℕ) → stretch 0 (length vs) (padded n vs) ≡ vs
unfolding stretch
stretch-padded n vs = take-padded n vs

-- zeros at the end of a row count as its padding
pub padded_zeros : (n k : ℕ) (vs : List ℕ) → length vs + k ≤ n → padded n (vs ++ replicate k 0) ≡ padded n vs
unfolding padded
padded_zeros n k vs h =
    let e : k + (n - (length vs + k)) ≡ n - length vs = omega arith in
    rw (
      length-append vs (replicate k 0),
      length-replicate {A = ℕ} k 0,
      append_assoc vs (replicate k 0) (replicate (n - (length vs + k)) 0),
      replicate-append-replicate {A = ℕ} k (n - (length vs + k)) 0,
      e,
    )

-- a row padded to k, and then the zeros up to n
pub padded_split : (n k : ℕ) (vs : List ℕ) → length vs ≤ k → k ≤ n → padded n vs ≡ padded k vs ++ replicate (n - k) 0
unfolding padded
padded_split n k vs h g =
    let e : n - length vs ≡ (k - length vs) + (n - k) = omega arith in
    rw (e, ← (replicate-append-replicate {A = ℕ} (k - length vs) (n - k) 0)) (sym (append_assoc vs (replicate (k - length vs) 0) (replicate (n - k) 0)))

zero_at : (m k : ℕ) → ◌≡◌ {A = ℕ} (get_or (replicate m 0) k 0) 0
zero_at zero k = refl
zero_at (suc m) zero = refl
zero_at (suc m) (suc k) = zero_at m k

before_zeros : (k i : ℕ) (vs : List ℕ) → get_or (vs ++ replicate k 0) i 0 ≡ get_or vs i 0
before_zeros k i [] = zero_at k i
before_zeros k zero (v ∷ vs) = refl
before_zeros k (suc i) (v ∷ vs) = before_zeros k i vs

-- an element of a row; past its end stand zeros
pub get_or-padded : (n i : ℕ) (vs : List ℕ) → get_or (padded n vs) i 0 ≡ get_or vs i 0
unfolding padded
get_or-padded n i vs = before_zeros (n - length vs) i vs

-- a row with no number past the first k: to write k of them is to write it whole
pub put-padded : (n k b : ℕ) (us vs area : List ℕ) → stretch b n area ≡ padded n us → length us ≤ k → length vs ≤ k → k ≤ n → b + n ≤ length area
    → put b (padded k vs) area ≡ put b (padded n vs) area
put-padded n k b us vs area e g g' j w =
    let p : length (padded k vs) ≡ k = length-padded k vs g' in
    let z : stretch (b + k) (n - k) area ≡ replicate (n - k) 0 =
    sym (stretch-stretch k (n - k) b n area (omega arith))
    ∙ rw (e, padded_split n k us g j)
    (stretch_last k (n - k) (padded k us) (replicate (n - k) 0) (length-padded k us g) (length-replicate {A = ℕ} (n - k) 0)) in
    let same : put (b + k) (replicate (n - k) 0) area ≡ area = rw (← z) (put-stretch (b + k) (n - k) area (omega arith)) in
    ap (λ (l : List ℕ). put b (padded k vs) l) (sym (rw p same))
    ∙ sym (put-append b (padded k vs) (replicate (n - k) 0) area (omega arith))
    ∙ rw (← (padded_split n k vs g' j))

-- ---- the rows

pub laid_nil : (n : ℕ) → laid n [] ≡ []
unfolding laid
laid_nil n = refl

pub laid_cons : (n : ℕ) (vs : List ℕ) (rows : List (List ℕ)) → laid n (vs ∷ rows) ≡ padded n vs ++ laid n rows
unfolding laid
laid_cons n vs rows = refl

pub narrow_tail : (n : ℕ) (vs : List ℕ) (rows : List (List ℕ)) → Narrow n (vs ∷ rows) → Narrow n rows
narrow_tail n vs rows f i h = f (suc i) (suc-le-suc h)

pub narrow_set : (n i : ℕ) (vs : List ℕ) (rows : List (List ℕ)) → length vs ≤ n → Narrow n rows → Narrow n (set rows i vs)
narrow_set n i vs [] h f j k = f j k
narrow_set n zero vs (us ∷ rows) h f zero k = h
narrow_set n zero vs (us ∷ rows) h f (suc j) k = f (suc j) k
narrow_set n (suc i) vs (us ∷ rows) h f zero k = f zero (suc-le-suc zero-le)
narrow_set n (suc i) vs (us ∷ rows) h f (suc j) k = narrow_set n i vs rows h (narrow_tail n us rows f) j (le_of_suc-le-suc k)

pub length_laid : (n : ℕ) (rows : List (List ℕ)) → Narrow n rows → length (laid n rows) ≡ length rows * n
length_laid n [] f = rw (laid_nil n) (sym (zero-mul n))
length_laid n (vs ∷ rows) f =
    rw (
      laid_cons n vs rows,
      length-append (padded n vs) (laid n rows),
      length-padded n vs (f zero (suc-le-suc zero-le)),
      length_laid n rows (narrow_tail n vs rows f),
      suc-mul (length rows) n,
    ) (add_comm n (length rows * n))

pub laid_append : (n : ℕ) (a b : List (List ℕ)) → laid n (a ++ b) ≡ laid n a ++ laid n b
laid_append n [] b = rw (laid_nil n)
laid_append n (vs ∷ a) b = rw (laid_cons n vs (a ++ b), laid_cons n vs a, laid_append n a b) (sym (append_assoc (padded n vs) (laid n a) (laid n b)))

-- empty rows are zeros
pub laid_empty : (n m : ℕ) → laid n (replicate m []) ≡ replicate (m * n) 0
laid_empty n zero = rw (laid_nil n, zero-mul n)
laid_empty n (suc m) =
    rw (laid_cons n [] (replicate m []), laid_empty n m, padded-nil n, replicate-append-replicate {A = ℕ} n (m * n) 0, suc-mul m n, add_comm n (m * n))

-- ---- row i of an area that begins with the rows

row_within : (n i : ℕ) (rows : List (List ℕ)) (rest : List ℕ) → Narrow n rows → i < length rows → i * n + n ≤ length (laid n rows ++ rest)
row_within n i rows rest f h = omega (arith, length-append (laid n rows) rest, length_laid n rows f, row_before i (length rows) n h)

pub stretch_laid : (n i : ℕ) (rows : List (List ℕ)) (rest : List ℕ) → Narrow n rows → i < length rows
    → stretch (i * n) n (laid n rows ++ rest) ≡ padded n (get_or rows i [])
stretch_laid n i [] rest f h = absurd (not-suc-le-zero h)
stretch_laid n zero (vs ∷ rows) rest f h =
    rw (laid_cons n vs rows, zero-mul n, append_assoc (padded n vs) (laid n rows) rest)
    (stretch_at 0 n [] (padded n vs) (laid n rows ++ rest) refl (length-padded n vs (f zero h)))
stretch_laid n (suc i) (vs ∷ rows) rest f h =
    let p : length (padded n vs) ≡ n = length-padded n vs (f zero (suc-le-suc zero-le)) in
    let e : suc i * n ≡ length (padded n vs) + i * n = suc-mul i n ∙ add_comm (i * n) n ∙ ap (λ (k : ℕ). k + i * n) (sym p) in
    rw (laid_cons n vs rows, e, append_assoc (padded n vs) (laid n rows) rest, stretch-append_right (i * n) n (padded n vs) (laid n rows ++ rest))
    (stretch_laid n i rows rest (narrow_tail n vs rows f) (le_of_suc-le-suc h))

pub put_laid : (n i : ℕ) (vs : List ℕ) (rows : List (List ℕ)) (rest : List ℕ) → Narrow n rows → length vs ≤ n → i < length rows
    → put (i * n) (padded n vs) (laid n rows ++ rest) ≡ laid n (set rows i vs) ++ rest
put_laid n i vs [] rest f g h = absurd (not-suc-le-zero h)
put_laid n zero vs (us ∷ rows) rest f g h =
    rw (laid_cons n us rows, laid_cons n vs rows, zero-mul n, append_assoc (padded n us) (laid n rows) rest, append_assoc (padded n vs) (laid n rows) rest)
    (put_at 0 (padded n vs) [] (padded n us) (laid n rows ++ rest) refl (length-padded n vs g ∙ sym (length-padded n us (f zero h))))
put_laid n (suc i) vs (us ∷ rows) rest f g h =
    let p : length (padded n us) ≡ n = length-padded n us (f zero (suc-le-suc zero-le)) in
    let e : suc i * n ≡ length (padded n us) + i * n = suc-mul i n ∙ add_comm (i * n) n ∙ ap (λ (k : ℕ). k + i * n) (sym p) in
    rw (
      laid_cons n us rows,
      laid_cons n us (set rows i vs),
      e,
      append_assoc (padded n us) (laid n rows) rest,
      append_assoc (padded n us) (laid n (set rows i vs)) rest,
      put-append_right (i * n) (padded n vs) (padded n us) (laid n rows ++ rest),
    )
    (ap (λ (l : List ℕ). padded n us ++ l) (put_laid n i vs rows rest (narrow_tail n us rows f) g (le_of_suc-le-suc h)))

-- the first k numbers of row i
pub stretch_row : (n i k : ℕ) (rows : List (List ℕ)) (rest : List ℕ) → Narrow n rows → i < length rows → k ≤ n
    → stretch (i * n) k (laid n rows ++ rest) ≡ stretch 0 k (padded n (get_or rows i []))
stretch_row n i k rows rest f h g =
    let e : stretch 0 k (stretch (i * n) n (laid n rows ++ rest)) ≡ stretch (i * n + 0) k (laid n rows ++ rest) = stretch-stretch 0 k (i * n) n (laid n rows ++ rest) (omega arith) in
    sym (rw add-zero at e) ∙ rw (stretch_laid n i rows rest f h)

-- the numbers of row i without its zeros, and with some of them
pub stretch_row_all : (n i : ℕ) (rows : List (List ℕ)) (rest : List ℕ) → Narrow n rows → i < length rows
    → stretch (i * n) (length (get_or rows i [])) (laid n rows ++ rest) ≡ get_or rows i []
stretch_row_all n i rows rest f h = stretch_row n i (length (get_or rows i [])) rows rest f h (f i h) ∙ stretch-padded n (get_or rows i [])

pub stretch_row_padded : (n i k : ℕ) (rows : List (List ℕ)) (rest : List ℕ) → Narrow n rows → i < length rows → length (get_or rows i []) ≤ k → k ≤ n
    → stretch (i * n) k (laid n rows ++ rest) ≡ padded k (get_or rows i [])
stretch_row_padded n i k rows rest f h g j =
    stretch_row n i k rows rest f h j
    ∙ rw (padded_split n k (get_or rows i []) g j) (stretch_at 0 k [] (padded k (get_or rows i [])) (replicate (n - k) 0) refl (length-padded k (get_or rows i []) g))

-- number k of row i, and 0 past its end
pub get_or_laid : (n i k : ℕ) (rows : List (List ℕ)) (rest : List ℕ) → Narrow n rows → i < length rows → k < n
    → get_or (laid n rows ++ rest) (i * n + k) 0 ≡ get_or (get_or rows i []) k 0
get_or_laid n i k rows rest f h g =
    sym (get_or-stretch (i * n) n k 0 (laid n rows ++ rest) g) ∙ rw (stretch_laid n i rows rest f h) (get_or-padded n k (get_or rows i []))

-- past the numbers of row i stand zeros, so only the first k are written
pub put_row : (n i k : ℕ) (vs : List ℕ) (rows : List (List ℕ)) (rest : List ℕ) → Narrow n rows → i < length rows
    → length (get_or rows i []) ≤ k → length vs ≤ k → k ≤ n
    → put (i * n) (padded k vs) (laid n rows ++ rest) ≡ laid n (set rows i vs) ++ rest
put_row n i k vs rows rest f h g g' j =
    put-padded n k (i * n) (get_or rows i []) vs (laid n rows ++ rest) (stretch_laid n i rows rest f h) g g' j (row_within n i rows rest f h)
    ∙ put_laid n i vs rows rest f (omega arith) h

-- two rows change places: no more is moved than the longer one has
pub exchanged_rows : (n i j k : ℕ) (rows : List (List ℕ)) (rest : List ℕ) → Narrow n rows → i < j → j < length rows
    → length (get_or rows i []) ≤ k → length (get_or rows j []) ≤ k → k ≤ n
    → exchanged (i * n) (j * n) k (laid n rows ++ rest) ≡ laid n (swapped i j rows) ++ rest
exchanged_rows n i j k rows rest f h g a b c =
    let i_in : i < length rows = omega arith in
    let e : get_or (set rows j (get_or rows i [])) i [] ≡ get_or rows i [] = get_or-set_other rows j i (get_or rows i []) [] (ne_of_lt h) in
    let l : length (set rows j (get_or rows i [])) ≡ length rows = length-set rows j (get_or rows i []) in
    rw (stretch_row_padded n i k rows rest f i_in a c, stretch_row_padded n j k rows rest f g b c, put_row n j k (get_or rows i []) rows rest f g b a c)
    (put_row n i k (get_or rows j []) (set rows j (get_or rows i [])) rest (narrow_set n j (get_or rows i []) rows (f i i_in) f) (omega arith) (rw e a) b c)
