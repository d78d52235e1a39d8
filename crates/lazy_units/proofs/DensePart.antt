-- The dense part is a picture of its rows, and of empty ones up to m.
use mathlib.Core.Path.{◌≡◌, refl, sym, ap, ◌∙◌}
use mathlib.Core.List.{List, [], ◌∷◌, ◌++◌, append-nil, map, map-append}
use Prim.Native.Nat.{ℕ, zero, suc, ◌+◌, ◌-◌, ◌*◌, ◌≤◌}
use native.Mathlib.Nat.{add-mul}
use native.Mathlib.Omega.{arith}
use lib.ListN.{length, take, drop, replicate, length-map, length-append, length-replicate}
use lib.Seq.{take_at, drop_at}
use Rattle.gf2.specs.Equation.{Equation, Each, Rising}
use Rattle.gf2.specs.ByNumber.{blank}
use Rattle.gf2.proofs.Each.{each_append}
use Rattle.areas.proofs.Offsets.{row_begins}
use Rattle.areas.specs.Rows.{padded, laid, Narrow}
use Rattle.areas.proofs.Rows.{laid_append, laid_empty, length_laid, length-padded}
use Rattle.rows.specs.Picture.{picture, Drawn, vars_of, length_of, constant_of}
use Rattle.rows.proofs.Holding.{rising_narrow}
use Rattle.lazy_setup.specs.Area.{dense_part, lengths}

-- empty equations up to m
abbrev pub filled : ℕ → List Equation → List Equation
filled m dense = dense ++ replicate (m - length dense) blank

blanks : {A : Type 0} (f : Equation → A) (k : ℕ) → map f (replicate k blank) ≡ replicate k (f blank)
blanks f zero = refl
blanks f (suc k) = ap (λ l. f blank ∷ l) (blanks f k)

pub length_filled : (m : ℕ) (dense : List Equation) → length dense ≤ m → length (filled m dense) ≡ m
length_filled m dense h = length-append dense (replicate (m - length dense) blank) ∙ rw (length-replicate (m - length dense) blank) (omega arith)

pub rising_narrows : (n : ℕ) (rows : List Equation) → Each (λ r. Rising 0 n r.vars) rows → Narrow n (map (λ r. r.vars) rows)
rising_narrows n [] e i h = absurd (omega arith)
rising_narrows n (r ∷ rows) e zero h = rising_narrow n r.vars e.0
rising_narrows n (r ∷ rows) e (suc i) h = rising_narrows n rows e.1 i (omega arith)

pub part_is_picture : (n m : ℕ) (dense : List Equation) → Narrow n (map vars_of dense) → length dense ≤ m → dense_part n m dense ≡ picture n (filled m dense)
unfolding picture padded
part_is_picture n m dense e h =
    let k : ℕ = m - length dense in
    let vs : List (List ℕ) = map vars_of dense in
    let l : length (laid n vs) ≡ length dense * n = length_laid n vs e ∙ ap (λ (x : ℕ). x * n) (length-map dense vars_of) in
    let q : m ≡ length dense + k = omega arith in
    let p : m * n ≡ length dense * n + k * n = ap (λ (x : ℕ). x * n) q ∙ add-mul (length dense) k n in
    let z : m * n - length (laid n vs) ≡ k * n = omega arith in
    let ll : length (lengths dense) ≡ length dense = length-map dense (λ (r : Equation). length r.vars) in
    rw (
      map-append vars_of dense (replicate k blank),
      blanks vars_of k,
      laid_append n vs (replicate k []),
      laid_empty n k,
      z,
      map-append length_of dense (replicate k blank),
      blanks length_of k,
      ll,
    )

blank_narrow : (n k : ℕ) → Narrow n (map vars_of (replicate k blank))
blank_narrow n zero i h = absurd (omega arith)
blank_narrow n (suc k) zero h = omega arith
blank_narrow n (suc k) (suc i) h = blank_narrow n k i (omega arith)

pub filled_narrow : (n m : ℕ) (dense : List Equation) → Narrow n (map vars_of dense) → Narrow n (map vars_of (filled m dense))
filled_narrow n m dense f = go dense f
  where
    go : (rows : List Equation) → Narrow n (map vars_of rows) → Narrow n (map vars_of (rows ++ replicate (m - length dense) blank))
    go [] f i h = blank_narrow n (m - length dense) i h
    go (r ∷ rows) f zero h = f zero (omega arith)
    go (r ∷ rows) f (suc i) h = go rows (λ j k. f (suc j) (omega arith)) i (omega arith)

pub words_are_constants : (m : ℕ) (dense : List Equation) → padded m (map (λ r. r.c) dense) ≡ map constant_of (filled m dense)
unfolding padded
words_are_constants m dense =
    rw (map-append constant_of dense (replicate (m - length dense) blank), blanks constant_of (m - length dense), length-map dense (λ (r : Equation). r.c))

each_blank : (n k : ℕ) → Each (λ r. Rising 0 n r.vars) (replicate k blank)
each_blank n zero = tt
each_blank n (suc k) = (tt, each_blank n k)

pub part_long : (n m : ℕ) (dense : List Equation) → Each (λ r. Rising 0 n r.vars) dense → length dense ≤ m → length (dense_part n m dense) ≡ m * n + (n + m)
part_long n m dense e h =
    let vs : List (List ℕ) = map (λ r. r.vars) dense in
    let l = length_laid n vs (rising_narrows n dense e) in
    let k = length-map dense (λ r. r.vars) in
    let g = row_begins (length dense) m n h in
    let o : length (laid n vs) ≤ m * n = rw (l, k) g in
    let q = length-map dense (λ (r : Equation). length r.vars) in
    rw (length-append, length-append, length-padded (m * n) (laid n vs) o, length-replicate {A = ℕ} n 0, length-padded m (lengths dense) (omega arith))

pub dense_drawn : (n m : ℕ) (dense : List Equation) → Each (λ r. Rising 0 n r.vars) dense → length dense ≤ m
    → Drawn n m (filled m dense) [] [] (dense_part n m dense) (padded m (map (λ r. r.c) dense))
dense_drawn n m dense e h =
    let size = part_long n m dense e h in
    let c = length-map dense (λ (r : Equation). r.c) in
    record {
      numbers_are = part_is_picture n m dense (rising_narrows n dense e) h ∙ sym (append-nil (picture n (filled m dense)));
      words_are = words_are_constants m dense ∙ sym (append-nil (map constant_of (filled m dense)));
      rising = each_append (λ r. Rising 0 n r.vars) dense (replicate (m - length dense) blank) e (each_blank n (m - length dense));
      count = length_filled m dense h;
      numbers_room = omega arith;
      words_room = rw (length-padded m (map (λ r. r.c) dense) (omega arith)) (omega arith);
    }

pub in_use : (m : ℕ) (dense : List Equation) → take (length dense) (filled m dense) ≡ dense
in_use m dense = take_at dense (replicate (m - length dense) blank) (length dense) refl

pub not_in_use : (m : ℕ) (dense : List Equation) → drop (length dense) (filled m dense) ≡ replicate (m - length dense) blank
not_in_use m dense = drop_at dense (replicate (m - length dense) blank) (length dense) refl
