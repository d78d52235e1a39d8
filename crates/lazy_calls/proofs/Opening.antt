-- The first state of a lent system, and the end of its build.
use mathlib.Core.Path.{◌≡◌, sym, ap, ◌∙◌, subst}
use mathlib.Core.List.{List, [], ◌++◌, append-nil}
use Prim.Native.Nat.{ℕ, ◌+◌, ◌≤◌, ◌<◌}
use native.Mathlib.Omega.{arith}
use lib.ListN.{length, drop, drop_of_length-le}
use Rattle.gf2.specs.Equation.{Equation}
use Rattle.answers.specs.Sizes.{lazy_numbers, lazy_words}
use Rattle.answers.specs.Answers.{Answer}
use Rattle.system.specs.Fits.{Fits}
use Rattle.system.specs.System.{equations}
use Rattle.lazy.specs.Lazy.{start, enough, whole_run, lazy_elimination}
use Rattle.lazy.proofs.AtStart.{start_inv, start_variables}
use Rattle.lazy.proofs.Theorems.{lent}
use Rattle.lazy.specs.Cancelled.{lazy_cancels}
use Rattle.lazy_setup.specs.declared.Layout.{Layout}
use Rattle.lazy_setup.specs.declared.Stand.{Stand}
use Rattle.lazy_setup.specs.Area.{numbers_of, words_of}
use Rattle.lazy_setup.specs.Layout.{layout_of, stand_of}
use Rattle.lazy_setup.proofs.Holding.{lists_long}
use Rattle.lazy_setup.proofs.Offsets.{at_n, at_m}
use Rattle.lazy_setup.proofs.Setting.{start_sized}
use Rattle.lazy_units.specs.Units.{left}
use Rattle.lazy_units.specs.Ending.{UnitAt}
use Rattle.lazy_units.specs.Running.{Answers, Ran, RanCount}
use Rattle.lazy_units.proofs.UnitCases.{inv_fit}

module _ {n m : ℕ} {starts vars constants : List ℕ} (f : Fits n m starts vars constants) where
  abbrev sys : List Equation
  sys = equations m starts vars constants

  pub open_at : {stand : Stand} {layout : Layout} (numbers₀ words₀ numbers words solution : List ℕ)
      → length solution ≡ n → length numbers₀ ≡ lazy_numbers n m (length vars) → length words₀ ≡ lazy_words m
      → stand ≡ stand_of (start n sys) → numbers ≡ numbers_of n sys (start n sys) ++ drop (lazy_numbers n m (length vars)) numbers₀
      → words ≡ words_of sys (start n sys) ++ drop (lazy_words m) words₀ → layout ≡ layout_of n m (length vars)
      → UnitAt layout.n layout.m layout sys (start n sys) stand numbers words solution
  open_at {stand} {layout} numbers₀ words₀ numbers words solution long room word_room counted shown words_are placed =
      let none : drop (lazy_numbers n m (length vars)) numbers₀ ≡ [] = drop_of_length-le numbers₀ {i = lazy_numbers n m (length vars)} (omega arith) in
      let wnone : drop (lazy_words m) words₀ ≡ [] = drop_of_length-le words₀ {i = lazy_words m} (omega arith) in
      let unit : UnitAt n m layout sys (start n sys) stand numbers words solution = record {
        stands = record {
          fit = inv_fit n sys (start n sys) (lent n sys f.sorted f.below) (start_inv n sys (lent n sys f.sorted f.below)) f.few_variables;
          shows = record {
            laid = record {
              many = sym f.many;
              placed = placed ∙ ap (λ (t : ℕ). layout_of n m t) (sym (lists_long f));
              sized = start_sized f;
              shown = shown ∙ ap (λ (l : List ℕ). numbers_of n sys (start n sys) ++ l) none ∙ append-nil (numbers_of n sys (start n sys));
            };
            counted = counted;
          };
          words_are = words_are ∙ ap (λ (l : List ℕ). words_of sys (start n sys) ++ l) wnone ∙ append-nil (words_of sys (start n sys));
        };
        long = long;
      } in
      subst (λ (k : ℕ). UnitAt k layout.m layout sys (start n sys) stand numbers words solution) (sym (at_n n m (length vars) layout placed))
      (subst (λ (k : ℕ). UnitAt n k layout sys (start n sys) stand numbers words solution) (sym (at_m n m (length vars) layout placed)) unit)

  -- enough units are left
  start_left : left (start n sys) < enough n sys
  unfolding start
  start_left = let v = start_variables n sys in let z : left (start n sys) ≤ length sys + n + (length sys + 0) = omega arith in omega arith

  pub built : {stand : Stand} {layout : Layout} {numbers words solution : List ℕ} (solution' numbers' : List ℕ) (r : Answer) → layout ≡ layout_of n m (length vars)
      → UnitAt layout.n layout.m layout sys (start n sys) stand numbers words solution
      → Ran layout.n layout.m layout stand numbers words solution solution' numbers' r → Answers (lazy_elimination n sys) r solution solution'
  unfolding lazy_elimination whole_run
  built {layout = layout} solution' numbers' r placed a q = rw (at_n n m (length vars) layout placed) at ((q sys (start n sys) a).1 (enough n sys) start_left)

  pub built_count : {stand : Stand} {layout : Layout} {numbers words solution : List ℕ} {t : ℕ} → layout ≡ layout_of n m (length vars)
      → UnitAt layout.n layout.m layout sys (start n sys) stand numbers words solution → RanCount layout.n layout.m layout stand numbers words solution t → t ≡ lazy_cancels n sys
  unfolding lazy_cancels
  built_count {layout = layout} placed a q = rw (at_n n m (length vars) layout placed) at (q sys (start n sys) a (enough n sys) start_left)
