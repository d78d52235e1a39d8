-- The dense part at the end of the areas.
use mathlib.Core.Path.{◌≡◌, sym, ap, ap₂, ◌∙◌}
use mathlib.Core.List.{List, [], ◌++◌, append-nil, map}
use Prim.Native.Nat.{ℕ, ◌+◌, ◌*◌, ◌≤◌}
use native.Mathlib.Nat.{add-zero}
use native.Mathlib.Omega.{arith}
use lib.ListN.{length, get_or, set, take, drop, length-map, length-drop, take-append-drop, drop_of_length-le}
use lib.Seq.{take_at, drop_at, take_all}
use Rattle.gf2.specs.Equation.{Equation}
use Rattle.areas.specs.Rows.{padded, Narrow}
use Rattle.areas.specs.Stretch.{stretch, put}
use Rattle.areas.proofs.Stretch.{stretch_whole, put_all}
use Rattle.lazy.specs.Lazy.{State}
use Rattle.lazy_setup.specs.declared.Layout.{Layout}
use Rattle.lazy_setup.specs.Area.{segments, dense_part, words_of}
use Rattle.lazy_pops.specs.Laid.{Laid, listed}
use Rattle.lazy_pops.proofs.Places.{places, segmented}
use Rattle.lazy_pops.proofs.Reading.{size, dense_place}
use Rattle.lazy_pops.proofs.Segmented.{Segmented, read_part, write_part}
use Rattle.lazy_pops.proofs.Writing.{relaid}

-- the whole end as a stretch
end_stretch : (b n : ℕ) (l : List ℕ) → length l ≡ b + n → stretch b n l ≡ drop b l
unfolding stretch
end_stretch b n l h = let e = length-drop b l in take_all n (drop b l) (omega arith)

-- what begins as l and ends as x is l with x written over its end
front_and_end : (b : ℕ) (x l l' : List ℕ) → length l ≡ b + length x → take b l' ≡ take b l → drop b l' ≡ x → l' ≡ put b x l
unfolding put
front_and_end b x l l' h t d =
    sym (take-append-drop b l')
    ∙ rw (t, d, drop_of_length-le l {i = b + length x} (omega arith), append-nil x)

-- the state with another dense part
unfoldable pub with_dense : List Equation → ℕ → State → State
with_dense dense done s = record {
  rows = s.rows;
  priority = s.priority;
  weight = s.weight;
  idle = s.idle;
  variables = s.variables;
  equations = s.equations;
  solved = s.solved;
  dense = dense;
  remaining = s.remaining;
  dense_done = done;
}

module _ {n m : ℕ} {layout : Layout} {sys : List Equation} {s : State} {numbers : List ℕ} (d : Laid n m layout sys s numbers) where
  part_size : length (dense_part n m s.dense) ≡ m * n + (n + m)
  unfolding segments
  part_size = rw (← d.many) at (size d 13)

  pub numbers_end : drop layout.dense numbers ≡ dense_part n m s.dense
  unfolding segments
  numbers_end =
      let p = places d in
      let z = size d 13 in
      sym (end_stretch layout.dense (m * n + (n + m)) numbers p.all)
      ∙ ap (λ (o : ℕ). stretch o (m * n + (n + m)) numbers) (sym (add-zero layout.dense))
      ∙ read_part (segmented d) 13 layout.dense (dense_place d) 0 (m * n + (n + m)) (omega arith)
      ∙ ap (λ (k : ℕ). stretch 0 k (get_or (segments n sys s) 13 [])) (sym z) ∙ stretch_whole (get_or (segments n sys s) 13 [])
      ∙ rw d.many

  pub write_end : (rows : List Equation) (k : ℕ) {numbers' : List ℕ} → length (dense_part n m rows) ≡ m * n + (n + m) → length rows ≤ length sys → Narrow n (map (λ r. r.vars) rows)
      → take layout.dense numbers' ≡ take layout.dense numbers → drop layout.dense numbers' ≡ dense_part n m rows
      → Laid n m layout sys (with_dense rows k s) numbers'
  unfolding segments with_dense
  write_end rows k {numbers'} l r w t e =
      let p = places d in
      let z = d.sized in
      let g = size d 13 in
      let is = front_and_end layout.dense (dense_part n m rows) numbers numbers' (omega arith) t e in
      let one = write_part (segmented d) 13 layout.dense (dense_place d) 0 (dense_part n m rows) (omega arith) in
      let one' : Segmented n m (listed n sys) (set (segments n sys s) 13 (put 0 (dense_part n m rows) (get_or (segments n sys s) 13 []))) numbers' =
      rw is (rw add-zero at one) in
      relaid d (with_dense rows k s) one'
      (ap (λ (x : List ℕ). set (segments n sys s) 13 x) (put_all (dense_part n m rows) (get_or (segments n sys s) 13 []) (omega arith) ∙ ap (λ (q : ℕ). dense_part n q rows) d.many))
      (record {
        rows = z.rows;
        narrow = z.narrow;
        weight = z.weight;
        variables = z.variables;
        idle = z.idle;
        priority = z.priority;
        equations = z.equations;
        solved = z.solved;
        dense = r;
        dense_narrow = w;
      })

  rows_many : length (map (λ (r : Equation). r.c) s.rows) ≡ m
  rows_many = length-map s.rows (λ (r : Equation). r.c) ∙ omega (arith, d.many, d.sized.rows)

  pub words_end : {words : List ℕ} → words ≡ words_of sys s → drop m words ≡ padded m (map (λ r. r.c) s.dense)
  unfolding words_of
  words_end e =
      ap (λ (l : List ℕ). drop m l) e ∙ drop_at (map (λ (r : Equation). r.c) s.rows) (padded (length sys) (map (λ (r : Equation). r.c) s.dense)) m rows_many
      ∙ ap (λ (k : ℕ). padded k (map (λ (r : Equation). r.c) s.dense)) (sym d.many)

  pub words_front : {words : List ℕ} → words ≡ words_of sys s → take m words ≡ map (λ r. r.c) s.rows
  unfolding words_of
  words_front e = rw e (take_at (map (λ (r : Equation). r.c) s.rows) (padded (length sys) (map (λ (r : Equation). r.c) s.dense)) m rows_many)

  pub write_words : (rows : List Equation) (k : ℕ) {words words' : List ℕ} → words ≡ words_of sys s → take m words' ≡ take m words → drop m words' ≡ padded m (map (λ r. r.c) rows)
      → words' ≡ words_of sys (with_dense rows k s)
  unfolding words_of with_dense
  write_words rows k {words} {words'} e t q =
      sym (take-append-drop m words') ∙ ap₂ (λ (a b : List ℕ). a ++ b) (t ∙ words_front e) (q ∙ ap (λ (j : ℕ). padded j (map (λ (r : Equation). r.c) rows)) d.many)
