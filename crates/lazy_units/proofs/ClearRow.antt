-- One outer row of the dense part.
use mathlib.Core.Path.{◌≡◌, sym, ap, ap₂, ◌∙◌}
use mathlib.Core.List.{List, [], ◌++◌, append-nil, map}
use Prim.Native.Nat.{ℕ, suc, ◌+◌, ◌-◌, ◌*◌, ◌≤◌, ◌<◌}
use native.Mathlib.Numerals.{add-one}
use native.Mathlib.Omega.{arith}
use lib.ListN.{length, take, drop, replicate, length-append, length-map, length-replicate, length-drop, take-append-drop}
use Rattle.gf2.specs.Equation.{Equation, Each, Rising}
use Rattle.gf2.specs.ByNumber.{blank}
use Rattle.gf2.specs.Result.{Result, unsolvable, ok}
use Rattle.gf2.proofs.Each.{each_take}
use Rattle.areas.specs.Rows.{padded}
use Rattle.areas.proofs.Rows.{length-padded}
use Rattle.rows.specs.Picture.{picture, Drawn, Held, constant_of, rows_of}
use Rattle.rows.proofs.Holding.{held, carried, rows_are, drawn_padded}
use Rattle.rows.proofs.Padding.{padded_agree}
use Rattle.sparse_rules.specs.Eliminate.{outer_row}
use Rattle.sparse_rules.specs.Cancelled.{outer_row_cancels}
use Rattle.sparse_rows.specs.Reduce.{ReducedBy, refused, reduced}
use Rattle.sparse_rows.specs.Reduction.{Reduction}
use Rattle.sparse_rows.specs.Reduction as reduction
use Rattle.lazy.specs.Lazy.{State, dense_row}
use Rattle.lazy_setup.specs.declared.Layout.{Layout}
use Rattle.lazy_setup.specs.declared.Stand.{Stand}
use Rattle.lazy_setup.specs.Area.{dense_part, words_of}
use Rattle.lazy_setup.specs.Layout.{stand_of}
use Rattle.lazy_pops.specs.Step as step
use Rattle.lazy_pops.specs.Laid.{Laid}
use Rattle.lazy_pops.proofs.Places.{places}
use Rattle.lazy_units.specs.Clearing.{ClearFits, Cleared}
use Rattle.lazy_units.specs.Units.{Stands, Going, ClearAt}
use Rattle.lazy_units.proofs.DensePart.{filled, rising_narrows, part_is_picture, words_are_constants, part_long, dense_drawn, in_use, not_in_use}
use Rattle.lazy_units.proofs.Tidying.{laid_tidy}
use Rattle.lazy_units.proofs.Ends.{with_dense, numbers_end, write_end, words_end, words_front, write_words}

pub record ReducedTo (n m d : ℕ) (rows : List Equation) (rest rest' : List ℕ) (o : Result (List Equation)) (numbers words : List ℕ) : Type 0 where
  pub rows' : List Equation
  pub is : o ≡ ok rows'
  pub drawn : Drawn n m (rows' ++ drop d rows) rest rest' numbers words

module _ {n m d : ℕ} {rows : List Equation} {rest rest' : List ℕ} {o : Result (List Equation)} {numbers words : List ℕ} where
  pub refused_is : {r : Reduction} → ReducedBy n m d rows rest rest' o numbers words r → r ≡ reduction.Unsolvable → o ≡ unsolvable
  refused_is (refused e k) q = e
  refused_is (reduced rows' e w) q = let z : ◌≡◌ {A = ℕ} 0 1 = cc in absurd (omega arith)

  pub refused_held : {r : Reduction} → ReducedBy n m d rows rest rest' o numbers words r → r ≡ reduction.Unsolvable → Held n m numbers words
  refused_held (refused e k) q = k.held
  refused_held (reduced rows' e w) q = let z : ◌≡◌ {A = ℕ} 0 1 = cc in absurd (omega arith)

  pub reduced_is : {r : Reduction} → ReducedBy n m d rows rest rest' o numbers words r → r ≡ reduction.Reduced → ReducedTo n m d rows rest rest' o numbers words
  reduced_is (refused e k) q = let z : ◌≡◌ {A = ℕ} 0 1 = cc in absurd (omega arith)
  reduced_is (reduced rows' e w) q = record { rows' = rows'; is = e; drawn = w }

row_refused : (s : State) → outer_row s.dense_done s.dense ≡ unsolvable → dense_row s ≡ unsolvable
unfolding dense_row
row_refused s h = rw (h, dense_row)

row_done : (s : State) (rows : List Equation) → outer_row s.dense_done s.dense ≡ ok rows → dense_row s ≡ ok (with_dense rows (suc s.dense_done) s)
unfolding dense_row with_dense
row_done s rows h = rw (h, dense_row)

module _ {n m : ℕ} {layout : Layout} {sys : List Equation} {s : State} {stand : Stand} {numbers words : List ℕ} (st : Stands n m layout sys s stand numbers words) where
  d : Laid n m layout sys s numbers
  d = st.shows.laid

  pub dense_count : stand.dense ≡ length s.dense
  unfolding stand_of
  dense_count = ap (λ (x : Stand). x.dense) st.shows.counted

  pub done_count : stand.done ≡ s.dense_done
  unfolding stand_of
  done_count = ap (λ (x : Stand). x.done) st.shows.counted

  pub remaining_count : stand.remaining ≡ s.remaining
  unfolding stand_of
  remaining_count = ap (λ (x : Stand). x.remaining) st.shows.counted

  pub dense_low : length s.dense ≤ m
  dense_low = omega (arith, d.many, d.sized.dense)

  pub dense_there : Drawn n m (filled m s.dense) [] [] (drop layout.dense numbers) (drop m words)
  dense_there = rw (numbers_end d, words_end d st.words_are) (dense_drawn n m s.dense st.fit.dense_rising dense_low)

  pub words_long : length words ≡ m + m
  unfolding words_of
  words_long =
      let e = words_end d st.words_are in
      let f = words_front d st.words_are in
      let l = length-map s.rows (λ (r : Equation). r.c) in
      let p = length-map s.dense (λ (r : Equation). r.c) in
      ap (λ (l : List ℕ). length l) (sym (take-append-drop m words))
      ∙ rw (e, f, length-append, length-padded m (map (λ r. r.c) s.dense) (omega (arith, dense_low)), l) (omega (arith, d.many, d.sized.rows))

module _ {n m : ℕ} {layout : Layout} {sys : List Equation} {s : State} {stand : Stand} {numbers words : List ℕ} (a : ClearAt n m layout sys s stand numbers words) where
  abbrev st : Stands n m layout sys s stand numbers words
  st = a.stands

  pub clear_fits : ClearFits layout.dense n m stand.dense stand.done numbers words
  clear_fits =
      let p = places st.shows.laid in let w = words_long st in let c = dense_count st in let l = dense_low st in let h = a.some in
      record {
        place = omega arith;
        word_place = omega arith;
        held = held (dense_there st);
        in_use = omega arith;
        within = omega arith;
        small = st.fit.small;
      }

  -- the rows in use are the dense part
  pub clear_count : {t : ℕ} → t ≡ outer_row_cancels stand.done (take stand.dense (rows_of n m (drop layout.dense numbers) (drop m words))) → t ≡ outer_row_cancels s.dense_done s.dense
  clear_count q =
      let u : take stand.dense (filled m s.dense) ≡ s.dense = rw (dense_count st) (in_use m s.dense) in
      q ∙ ap₂ outer_row_cancels (done_count st) (ap (take stand.dense) (rows_are (dense_there st)) ∙ u)

  module _ {numbers' words' : List ℕ} {r : Reduction} (q : Cleared layout.dense n m stand.dense stand.done numbers words numbers' words' r) where
    came : ReducedBy n m stand.dense (filled m s.dense) [] [] (outer_row s.dense_done s.dense) (drop layout.dense numbers') (drop m words') r
    came =
        let c = carried (dense_there st) (λ rows rest rest'. ReducedBy n m stand.dense rows rest rest' (outer_row stand.done (take stand.dense rows)) (drop layout.dense numbers') (drop m words') r)
        q.reduces in
        let u : take stand.dense (filled m s.dense) ≡ s.dense = rw (dense_count st) (in_use m s.dense) in
        rw (u, done_count st) at c

    pub clear_refused : r ≡ reduction.Unsolvable → Going n m layout sys s (dense_row s) step.Unsolvable numbers' words'
    clear_refused e =
        let h = refused_held came e in
        let p = places st.shows.laid in
        let l = length-drop layout.dense numbers' in
        let r = h.numbers_room in
        let f = clear_fits in
        rw (row_refused s (refused_is came e)) (record {
          place = p.lengths;
          before = omega arith;
          inside = omega arith;
          equations = padded_agree layout.dense numbers' (laid_tidy st.shows.laid).equations q.numbers_kept (omega arith) (omega arith);
          dense = drawn_padded h;
        })

    pub clear_more : r ≡ reduction.Reduced → Going n m layout sys s (dense_row s) (step.More (record {
      variables = stand.variables;
      equations = stand.equations;
      solved = stand.solved;
      dense = stand.dense;
      remaining = stand.remaining;
      done = stand.done + 1;
    })) numbers' words'
    unfolding with_dense stand_of
    clear_more e =
        let to = reduced_is came e in
        let rows : List Equation = to.rows' in
        let k : ℕ = m - length s.dense in
        let rest-is : drop stand.dense (filled m s.dense) ≡ replicate k blank = rw (dense_count st) (not_in_use m s.dense) in
        let dr : Drawn n m (rows ++ replicate k blank) [] [] (drop layout.dense numbers') (drop m words') = rw rest-is at to.drawn in
        let lb : length (replicate k blank) ≡ k = length-replicate k blank in
        let ct : length rows + k ≡ m = rw lb at (sym (length-append rows (replicate k blank)) ∙ dr.count) in
        let l : length rows ≡ length s.dense = let x = dense_low st in omega arith in
        let fl : rows ++ replicate k blank ≡ filled m rows = rw l in
        let dr' : Drawn n m (filled m rows) [] [] (drop layout.dense numbers') (drop m words') = rw fl at dr in
        let rr : Each (λ r. Rising 0 n r.vars) rows =
        rw (in_use m rows) at (each_take (λ r. Rising 0 n r.vars) (filled m rows) (length rows) dr'.rising) in
        let low : length rows ≤ m = omega arith in
        let pic : drop layout.dense numbers' ≡ dense_part n m rows =
        dr'.numbers_are ∙ append-nil (picture n (filled m rows)) ∙ sym (part_is_picture n m rows (rising_narrows n rows rr) low) in
        let wic : drop m words' ≡ padded m (map (λ r. r.c) rows) =
        dr'.words_are ∙ append-nil (map constant_of (filled m rows)) ∙ sym (words_are_constants m rows) in
        let p = places st.shows.laid in
        let psize : length (dense_part n m rows) ≡ m * n + (n + m) = part_long n m rows rr low in
        rw (row_done s rows to.is) (
          record {
            fit = record {
              lent = st.fit.lent;
              inv = λ h. let z = a.popped in let y = remaining_count st in absurd (omega arith);
              rising = st.fit.rising;
              dense_rising = rr;
              solved_in = st.fit.solved_in;
              done_low = let c = dense_count st in let e = done_count st in let g = a.some in omega arith;
              small = st.fit.small;
            };
            shows = record {
              laid = write_end st.shows.laid rows (suc s.dense_done) psize (omega (arith, st.shows.laid.sized.dense)) (rising_narrows n rows rr) q.numbers_kept pic;
              counted =
                  ap (λ (x : Stand). record {
                    variables = x.variables;
                    equations = x.equations;
                    solved = x.solved;
                    dense = x.dense;
                    remaining = x.remaining;
                    done = x.done + 1;
                  }) st.shows.counted
                  ∙ ap₂ (λ (x y : ℕ). record {
                    variables = length s.variables;
                    equations = length s.equations;
                    solved = length s.solved;
                    dense = x;
                    remaining = s.remaining;
                    done = y;
                  }) (sym l) (add-one s.dense_done);
            };
            words_are = write_words st.shows.laid rows (suc s.dense_done) st.words_are q.words_kept wic;
          },
          nearer (length rows) l,
        )
      where
        nearer : (x : ℕ) → x ≡ length s.dense
            → s.remaining + length s.variables + (s.remaining + (x - suc s.dense_done)) < s.remaining + length s.variables + (s.remaining + (length s.dense - s.dense_done))
        nearer x h = let c = dense_count st in let e = done_count st in let g = a.some in omega arith
