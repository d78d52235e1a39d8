-- What the setup hands back: the words, and how far the lists reach.
use mathlib.Core.Path.{◌≡◌, refl, sym, ap, ap₂, ◌∙◌}
use mathlib.Core.List.{List, [], ◌∷◌, ◌++◌, map}
use Prim.Native.Nat.{ℕ, zero, suc, ◌-◌, ◌<◌}
use native.Mathlib.Nat.{sub-zero}
use native.Mathlib.Omega.{arith}
use lib.ListN.{length, drop, get_or, replicate, length-map, length-replicate, length-reverse}
use mathlib.Core.Bool.{true}
use lib.Dec.{leb}
use Rattle.gf2.specs.Equation.{Equation, Each, Rising}
use Rattle.gf2.specs.NumberLists.{up_from}
use Rattle.gf2.proofs.SymDiff.{rising_length}
use Rattle.gf2.proofs.Selecting.{length-keep, length_up}
use Rattle.gf2.specs.ByNumber.{row_of, blank}
use Rattle.answers.specs.Sizes.{lazy_words}
use Rattle.areas.specs.Rows.{padded, Narrow}
use Rattle.areas.specs.Stretch.{put, cleared}
use Rattle.areas.proofs.Stretch.{cleared_is_put, put-append_left}
use Rattle.system.specs.System.{equation_at, equations}
use Rattle.system.specs.Fits.{Fits}
use Rattle.system.proofs.Reading.{equations_at}
use Rattle.system.proofs.Soundness.{fits_from}
use Rattle.lazy.specs.Lazy.{listing, heaviest, start}
use Rattle.lazy.proofs.AtStart.{start_variables}
use Rattle.lazy_setup.specs.declared.Stand.{Stand}
use Rattle.lazy_setup.specs.Area.{words_of}
use Rattle.lazy_setup.specs.Layout.{stand_of, Sized}
use Rattle.lazy_setup.specs.Tables.{tallies}
use Rattle.lazy_setup.proofs.Tables.{is_table, length_table}
use Rattle.lazy_setup.proofs.Showing.{zeros_left}
use Rattle.lazy_setup.proofs.Picture.{variables_are}
use Rattle.lazy_setup.proofs.Steps.{length_sorted}

-- the rules of the constants ask for their number alone
pub fits_plain : {n m : ℕ} {starts vars constants : List ℕ} → Fits n m starts vars constants → Fits n m starts vars (replicate m 0)
unfolding equation_at
fits_plain {n} {m} {starts} {vars} {constants} f =
    fits_from n m starts vars (replicate m 0) f.few_variables f.few_equations f.few_listed
    (record { long = f.starts_long; first = f.first; last = f.last; climbing = f.climbing }) (length-replicate m 0) f.rising

module _ {n m : ℕ} {starts vars constants : List ℕ} (f : Fits n m starts vars constants) where
  constants_are : map (λ r. r.c) (equations m starts vars constants) ≡ constants
  unfolding equation_at
  constants_are =
      is_table 0 (λ i. get_or constants i 0) m (map (λ r. r.c) (equations m starts vars constants)) (length-map (equations m starts vars constants) (λ r. r.c) ∙ f.many)
      (λ i h. at (equations m starts vars constants) i (let z = f.many in omega arith) ∙ ap (λ (r : Equation). r.c) (equations_at starts vars constants m i blank h))
      ∙ sym (is_table 0 (λ i. get_or constants i 0) m constants f.constants_long (λ i h. refl))
    where
      at : (l : List Equation) (i : ℕ) → i < length l → get_or (map (λ r. r.c) l) i 0 ≡ (row_of l i).c
      at [] i h = absurd (omega arith)
      at (x ∷ l) zero h = refl
      at (x ∷ l) (suc i) h = at l i (omega arith)

  pub words_made : (r : ℕ) (l l₁ l₂ : List ℕ) → r ≡ lazy_words m → l₁ ≡ put 0 (replicate (r - 0) 0) l → l₂ ≡ put 0 constants l₁
      → l₂ ≡ words_of (equations m starts vars constants) (start n (equations m starts vars constants)) ++ drop (lazy_words m) l
  unfolding words_of start cleared padded
  words_made r l l₁ l₂ e q₁ q₂ =
      let z = f.constants_long in
      let o = length-replicate {A = ℕ} (lazy_words m) 0 in
      let first : l₁ ≡ replicate (lazy_words m) 0 ++ drop (lazy_words m) l = rw (q₁, e, sub-zero) (sym (cleared_is_put (lazy_words m) l)) in
      let k : lazy_words m - length constants ≡ m = omega arith in
      q₂ ∙ ap (put 0 constants) first ∙ put-append_left 0 constants (replicate (lazy_words m) 0) (drop (lazy_words m) l) (omega arith)
      ∙ ap (λ (s : List ℕ). s ++ drop (lazy_words m) l)
      (zeros_left (lazy_words m) constants (omega arith)
      ∙ ap₂ (λ (s : List ℕ) (j : ℕ). s ++ replicate j 0) (sym constants_are) k
      ∙ ap (λ (j : ℕ). map (λ r. r.c) (equations m starts vars constants) ++ replicate j 0) (sym (sub-zero (length (equations m starts vars constants)) ∙ f.many)))

  pub stand_made : (r : ℕ) → r ≡ length (start n (equations m starts vars constants)).equations
      → ◌≡◌ {A = Stand} (record { variables = n; equations = r; solved = 0; dense = 0; remaining = m; done = 0 }) (stand_of (start n (equations m starts vars constants)))
  unfolding stand_of start
  stand_made r q =
      ap₂ (λ (v e : ℕ). stand v e m) many q ∙ ap (λ (k : ℕ). stand (length (start n (equations m starts vars constants)).variables) (length (start n (equations m starts vars constants)).equations) k) (sym f.many)
    where
      stand : ℕ → ℕ → ℕ → Stand
      stand v e k = record { variables = v; equations = e; solved = 0; dense = 0; remaining = k; done = 0 }

      many : n ≡ length (start n (equations m starts vars constants)).variables
      many =
          sym (ap (λ (l : List ℕ). length l) (variables_are f) ∙ sym (length-reverse (heaviest (tallies n vars) n m)) ∙ length_sorted f)

  -- the start has the lengths that the areas are made for
  pub start_sized : Sized n (equations m starts vars constants) (start n (equations m starts vars constants))
  unfolding start
  start_sized =
      record {
        rows = refl;
        narrow = λ i h. at (equations m starts vars constants) f.each_rising i h;
        weight = length_table (λ v. length (listing (equations m starts vars constants) v)) 0 n;
        variables = start_variables n (equations m starts vars constants);
        idle = length-replicate n true;
        priority = length_table (λ e. length (row_of (equations m starts vars constants) e).vars) 0 (length (equations m starts vars constants));
        equations =
            let k = length-keep (λ e. leb (get_or (map (λ e. length (row_of (equations m starts vars constants) e).vars) (up_from 0 (length (equations m starts vars constants)))) e 0) 1) (up_from 0 (length (equations m starts vars constants))) in
            let u = length_up 0 (length (equations m starts vars constants)) in omega arith;
        solved = omega arith;
        dense = omega arith;
        dense_narrow = λ i h. absurd (omega arith);
      }
    where
      at : (es : List Equation) → Each (λ e. Rising 0 n e.vars) es → Narrow n (map (λ r. r.vars) es)
      at [] e i h = absurd (omega arith)
      at (x ∷ es) e zero h = let r = rising_length 0 n x.vars (omega arith) e.0 in omega arith
      at (x ∷ es) e (suc i) h = at es e.1 i (omega arith)
