-- An equation copied to the dense part.
use mathlib.Core.Path.{◌≡◌, sym, ap, ◌∙◌}
use mathlib.Core.List.{List, [], ◌∷◌, ◌++◌, append-nil, append_assoc, map, map-append}
use Prim.Native.Nat.{ℕ, zero, suc, ◌+◌, ◌-◌, ◌*◌, ◌≤◌, ◌<◌}
use native.Mathlib.Omega.{arith}
use lib.ListN.{length, get_or, set, replicate, length-map, length-append, length-replicate, get_or-map, get_or-append}
use Rattle.gf2.specs.Equation.{Equation}
use Rattle.gf2.specs.ByNumber.{blank, row_of}
use Rattle.answers.specs.Sizes.{max_variables}
use Rattle.areas.specs.Segments.{offset}
use Rattle.areas.specs.Stretch.{stretch, put}
use Rattle.areas.specs.Rows.{padded, laid, Narrow}
use Rattle.areas.proofs.Offsets.{row_before, row_begins}
use Rattle.areas.proofs.Rows.{length_laid, length-padded, laid_append, laid_cons, laid_nil, padded_zeros}
use Rattle.areas.proofs.Stretch.{length-put, put-append_left}
use Rattle.rows.proofs.Put.{set_after}
use Rattle.lazy.specs.Lazy.{State}
use Rattle.lazy_setup.specs.declared.Layout.{Layout}
use Rattle.lazy_setup.specs.Area.{segments, lengths, rows_of, dense_part, words_of}
use Rattle.lazy_pops.specs.Writes.{copied, CopyAt, CopyDone}
use Rattle.lazy_pops.proofs.Padding.{push_padded, push_many}
use Rattle.lazy_pops.proofs.Places.{places, segmented}
use Rattle.lazy_pops.proofs.Reading.{size, dense_place, row_at}
use Rattle.lazy_pops.proofs.Segmented.{write_cell, write_part}
use Rattle.lazy_pops.proofs.Writing.{relaid}

-- one row more, its numbers written over zeros
pub more_rows : (n m d : ℕ) (rows : List (List ℕ)) (vs : List ℕ) → length rows ≡ d → Narrow n rows → length rows < m → length vs ≤ n
    → put (d * n) vs (padded (m * n) (laid n rows)) ≡ padded (m * n) (laid n (rows ++ (vs ∷ [])))
unfolding padded
more_rows n m d rows vs k f h g =
    let l = length_laid n rows f in
    let r = row_before (length rows) m n h in
    let e : laid n (rows ++ (vs ∷ [])) ≡ (laid n rows ++ vs) ++ replicate (n - length vs) 0 =
    laid_append n rows (vs ∷ []) ∙ one ∙ sym (append_assoc (laid n rows) vs (replicate (n - length vs) 0)) in
    rw (e, padded_zeros (m * n) (n - length vs) (laid n rows ++ vs) (rw (length-append (laid n rows) vs) (omega arith)), ← k, ← l)
    (push_many (m * n) (laid n rows) vs (omega arith))
  where
    one : laid n rows ++ laid n (vs ∷ []) ≡ laid n rows ++ (vs ++ replicate (n - length vs) 0)
    one = rw (laid_cons n vs [], laid_nil n, append-nil (padded n vs))

narrow_more : (n : ℕ) (rows : List Equation) (r : Equation) → Narrow n (map (λ (x : Equation). x.vars) rows) → length r.vars ≤ n
    → Narrow n (map (λ (x : Equation). x.vars) (rows ++ (r ∷ [])))
narrow_more n [] r f h zero k = h
narrow_more n [] r f h (suc i) k = absurd (omega arith)
narrow_more n (x ∷ rows) r f h zero k = f zero (omega arith)
narrow_more n (x ∷ rows) r f h (suc i) k = narrow_more n rows r (λ j q. f (suc j) (omega arith)) h i (omega arith)

set_right : (a l : List ℕ) (k i x : ℕ) → length a ≡ k → set (a ++ l) (k + i) x ≡ a ++ set l i x
set_right a l k i x h = rw (← h) (set_after a l i x)

-- the cells that are read and written
pub record CopyCells (n m dense e len d : ℕ) (numbers words : List ℕ) : Type 0 where
  pub from : e * n + len ≤ dense + d * n
  pub to : dense + d * n + n ≤ length numbers
  pub long : len ≤ n
  pub cell : dense + (m * n + (n + d)) < length numbers
  pub short : n ≤ max_variables
  pub word : m + d < length words
  pub old_word : e < m
  pub product : m * n ≤ length numbers

module _ {n m : ℕ} {layout : Layout} {sys : List Equation} {s : State} {e len d : ℕ} {numbers words : List ℕ} (a : CopyAt n m layout sys s e len d numbers words) where
  abbrev r : Equation
  r = row_of s.rows e

  r_narrow : length r.vars ≤ n
  r_narrow =
      let g = get_or-map (λ (r : Equation). r.vars) s.rows e blank in
      let k : e < length (map (λ (r : Equation). r.vars) s.rows) =
      rw (length-map s.rows (λ (r : Equation). r.vars)) (omega (arith, a.e_in, a.laid.many, a.laid.sized.rows)) in
      rw g at (a.laid.sized.narrow e k)

  pub words_long : length words ≡ m + m
  unfolding words_of
  words_long =
      let z = a.laid.sized.dense in
      let q = length-map s.dense (λ (r : Equation). r.c) in
      ap (λ (l : List ℕ). length l) a.words_are
      ∙ rw (
        length-append (map (λ (r : Equation). r.c) s.rows) (padded (length sys) (map (λ (r : Equation). r.c) s.dense)),
        length-map s.rows (λ (r : Equation). r.c),
        length-padded (length sys) (map (λ (r : Equation). r.c) s.dense) (omega arith),
      ) (omega (arith, a.laid.sized.rows, a.laid.many))

  pub copy_cells : CopyCells n m layout.dense e len d numbers words
  copy_cells =
      let p = places a.laid in let b = row_before d m n a.d_in in let f = row_before e m n a.e_in in
      let w = words_long in let g = a.size in let h = r_narrow in let i = a.e_in in let j = a.d_in in let k = a.small in
      record { from = omega arith; to = omega arith; long = omega arith; cell = omega arith; short = omega arith; word = omega arith; old_word = i; product = omega arith }

  copied_row : stretch (e * n) len numbers ≡ r.vars
  copied_row = rw a.size (row_at a.laid e a.e_in)

  rest : List ℕ
  rest = replicate n 0 ++ padded m (lengths s.dense)

  part : List ℕ
  part = get_or (segments n sys s) 13 []

  part_is : part ≡ padded (m * n) (rows_of n s.dense) ++ rest
  unfolding part rest segments
  part_is = rw a.laid.many

  part_written : put (d * n) r.vars part ≡ padded (m * n) (rows_of n (s.dense ++ (r ∷ []))) ++ rest
  part_written =
      let vs : List (List ℕ) = map (λ (r : Equation). r.vars) s.dense in
      let k : length vs ≡ d = length-map s.dense (λ (r : Equation). r.vars) ∙ sym a.d_is in
      let b = row_before d m n a.d_in in
      let l = length_laid n vs a.laid.sized.dense_narrow in
      let o : length (laid n vs) ≤ m * n = rw (l, k) (row_begins d m n (omega (arith, a.d_in))) in
      let lp = length-padded (m * n) (laid n vs) o in
      let h = r_narrow in
      rw (part_is, put-append_left (d * n) r.vars (padded (m * n) (laid n vs)) rest (omega arith), map-append (λ (r : Equation). r.vars) s.dense (r ∷ []))
      (ap (λ (t : List ℕ). t ++ rest) (more_rows n m d vs r.vars k a.laid.sized.dense_narrow (omega (arith, a.d_in)) h))

  lengths_written : set (padded (m * n) (rows_of n (s.dense ++ (r ∷ []))) ++ rest) (m * n + (n + d)) len ≡ dense_part n m (s.dense ++ (r ∷ []))
  unfolding rest
  lengths_written =
      let rows : List Equation = s.dense ++ (r ∷ []) in
      let vs : List (List ℕ) = map (λ (r : Equation). r.vars) rows in
      let k : length vs ≡ d + 1 = length-map rows (λ (r : Equation). r.vars) ∙ rw (length-append s.dense (r ∷ [])) (omega (arith, a.d_is)) in
      let l = length_laid n vs (narrow_more n s.dense r a.laid.sized.dense_narrow r_narrow) in
      let o : length (laid n vs) ≤ m * n = rw (l, k) (row_begins (d + 1) m n (omega (arith, a.d_in))) in
      let q : length (lengths s.dense) ≡ d = length-map s.dense (λ (r : Equation). length r.vars) ∙ sym a.d_is in
      let last : set (padded m (lengths s.dense)) d len ≡ padded m (lengths rows) =
      rw (map-append (λ (r : Equation). length r.vars) s.dense (r ∷ []), ← a.size, ← q) (push_padded m (lengths s.dense) len (omega (arith, a.d_in))) in
      set_right (padded (m * n) (laid n vs)) (replicate n 0 ++ padded m (lengths s.dense)) (m * n) (n + d) len (length-padded (m * n) (laid n vs) o)
      ∙ ap (λ (t : List ℕ). padded (m * n) (laid n vs) ++ t)
      (set_right (replicate n 0) (padded m (lengths s.dense)) n d len (length-replicate {A = ℕ} n 0) ∙ ap (λ (t : List ℕ). replicate n 0 ++ t) last)

  pub word_is : get_or words e 0 ≡ r.c
  unfolding words_of
  word_is =
      let q = length-map s.rows (λ (r : Equation). r.c) in
      ap (λ (l : List ℕ). get_or l e 0) a.words_are
      ∙ get_or-append (map (λ (r : Equation). r.c) s.rows) (padded (length sys) (map (λ (r : Equation). r.c) s.dense)) 0 e (omega (arith, a.e_in, a.laid.many, a.laid.sized.rows))
      ∙ get_or-map (λ (r : Equation). r.c) s.rows e blank

  words_written : set words (m + d) (get_or words e 0) ≡ words_of sys (copied e s)
  unfolding words_of copied
  words_written =
      let q = length-map s.rows (λ (r : Equation). r.c) in
      let p : length (map (λ (r : Equation). r.c) s.dense) ≡ d = length-map s.dense (λ (r : Equation). r.c) ∙ sym a.d_is in
      let z : length (map (λ (r : Equation). r.c) s.rows) ≡ m = omega (arith, a.laid.many, a.laid.sized.rows) in
      rw word_is
      (ap (λ (l : List ℕ). set l (m + d) r.c) a.words_are
      ∙ set_right (map (λ (r : Equation). r.c) s.rows) (padded (length sys) (map (λ (r : Equation). r.c) s.dense)) m d r.c z
      ∙ ap (λ (t : List ℕ). map (λ (r : Equation). r.c) s.rows ++ t)
      (rw (map-append (λ (r : Equation). r.c) s.dense (r ∷ []), ← p) (push_padded (length sys) (map (λ (r : Equation). r.c) s.dense) r.c (omega (arith, a.d_in, a.laid.many)))))

  pub copy_done : CopyDone n m layout sys s e (set (put (layout.dense + d * n) (stretch (e * n) len numbers) numbers) (layout.dense + (m * n + (n + d))) len) (set words (m + d) (get_or words e 0))
  unfolding segments copied part offset
  copy_done =
      let z = a.laid.sized in
      let b = row_before d m n a.d_in in
      let h = r_narrow in
      let sz : length (get_or (segments n sys s) 13 []) ≡ m * n + (n + m) = size a.laid 13 in
      let one = write_part (segmented a.laid) 13 layout.dense (dense_place a.laid) (d * n) r.vars (omega arith) in
      let two = write_cell one 13 layout.dense (dense_place a.laid) (m * n + (n + d)) len
      (rw (length-put (d * n) r.vars (get_or (segments n sys s) 13 []) (omega arith)) (omega (arith, a.d_in))) in
      let l : length (s.dense ++ (r ∷ [])) ≡ d + 1 = rw (length-append s.dense (r ∷ [])) (omega (arith, a.d_is)) in
      record {
        laid = rw copied_row (relaid a.laid (copied e s) two
            (ap (λ (t : List ℕ). set (segments n sys s) 13 t) (ap (λ (t : List ℕ). set t (m * n + (n + d)) len) part_written ∙ lengths_written ∙ rw a.laid.many))
            (record {
              rows = z.rows;
              narrow = z.narrow;
              weight = z.weight;
              variables = z.variables;
              idle = z.idle;
              priority = z.priority;
              equations = z.equations;
              solved = z.solved;
              dense = omega (arith, a.d_in, a.laid.many);
              dense_narrow = narrow_more n s.dense r z.dense_narrow r_narrow;
            }));
        words_are = words_written;
      }
