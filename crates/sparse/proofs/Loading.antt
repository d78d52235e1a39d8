-- The system is loaded row by row.
use mathlib.Core.Path.{◌≡◌, sym, ap, ap₂, ◌∙◌, subst, subst₂}
use mathlib.Core.List.{List, [], ◌∷◌, ◌++◌, append_assoc, append-nil}
use Prim.Native.Nat.{ℕ, suc, ◌+◌, ◌-◌, ◌≤◌, ◌<◌}
use native.Mathlib.Omega.{arith}
use native.Mathlib.Nat.{sub-zero}
use native.Mathlib.Numerals.{add-one}
use lib.ListN.{length, get_or, set, take, drop, replicate, length-replicate}
use lib.Seq.{length-take-le, drop_at, take_all, take-suc, set_at, get_or_at}
use Rattle.areas.specs.Stretch.{cleared}
use Rattle.gf2.specs.Equation.{Equation, eqn}
use Rattle.answers.specs.Sizes.{row_numbers, row_words}
use Rattle.rows.specs.Picture.{Drawn, Held, Became, rows_of, row_at}
use Rattle.rows.proofs.Holding.{rows_are, held, carried}
use Rattle.rows.proofs.Loading.{blank_drawn}
use Rattle.system.specs.System.{equation_at, equations}
use Rattle.system.proofs.Reading.{equations_at}

-- the first i equations, and then rows without variables
abbrev loaded : ℕ → List Equation → ℕ → List Equation
loaded m es i = take i es ++ replicate (m - i) (eqn [] 0)

pub record Loading (n m : ℕ) (es : List Equation) (rest rest' numbers words : List ℕ) (i : ℕ) : Type 0 where
  pub drawn : Drawn n m (loaded m es i) rest rest' numbers words
  pub within : i ≤ m
  pub many : length es ≡ m

-- past a room that was zeroed
drop_cleared : (room : ℕ) (l : List ℕ) → drop room (cleared room l) ≡ drop room l
unfolding cleared
drop_cleared room l = drop_at (replicate room 0) (drop room l) room (length-replicate room 0)

-- the loop begins where the room has been zeroed
pub loading_begin : (n m : ℕ) (es : List Equation) (numbers words numbers' words' : List ℕ) → length es ≡ m → numbers' ≡ cleared (row_numbers n m) numbers → words' ≡ cleared (row_words m) words
    → Loading n m es (drop (row_numbers n m) numbers') (drop (row_words m) words') numbers' words' 0
loading_begin n m es numbers words numbers' words' many a w =
    record {
      drawn = subst (λ (r : List Equation). Drawn n m r (drop (row_numbers n m) numbers') (drop (row_words m) words') numbers' words')
          (ap (λ (k : ℕ). replicate k (eqn [] 0)) (sym (sub-zero m)))
          (subst₂ (λ (x y : List ℕ). Drawn n m (replicate m (eqn [] 0)) (drop (row_numbers n m) x) (drop (row_words m) y) x y) (sym a) (sym w)
          (subst₂ (λ (x y : List ℕ). Drawn n m (replicate m (eqn [] 0)) x y (cleared (row_numbers n m) numbers) (cleared (row_words m) words))
          (sym (drop_cleared (row_numbers n m) numbers)) (sym (drop_cleared (row_words m) words)) (blank_drawn n m numbers words)));
      within = omega arith;
      many = many;
    }

module _ {n m : ℕ} {es : List Equation} {rest rest' numbers words : List ℕ} {i : ℕ} (s : Loading n m es rest rest' numbers words i) where
  front_long : length (take i es) ≡ i
  front_long = length-take-le i es (omega (arith, s.within, s.many))

  pub loading_held : Held n m numbers words
  loading_held = held s.drawn

  pub loading_end : m ≤ i → Drawn n m es rest rest' numbers words
  loading_end h =
      let z : m - i ≡ 0 = omega arith in
      subst (λ (r : List Equation). Drawn n m r rest rest' numbers words)
      (ap₂ (λ (a : List Equation) (k : ℕ). a ++ replicate k (eqn [] 0)) (take_all i es (omega (arith, s.many))) z ∙ append-nil es) s.drawn

  module _ (h : i < m) where
    one_less : replicate (m - i) (eqn [] 0) ≡ eqn [] 0 ∷ replicate (m - (i + 1)) (eqn [] 0)
    one_less = let e : m - i ≡ suc (m - (i + 1)) = omega arith in ap (λ (k : ℕ). replicate k (eqn [] 0)) e

    seam : loaded m es i ≡ take i es ++ eqn [] 0 ∷ replicate (m - (i + 1)) (eqn [] 0)
    seam = ap (λ (l : List Equation). take i es ++ l) one_less

    -- the next row has no variables
    pub loading_empty : length (row_at (rows_of n m numbers words) i).vars ≡ 0
    loading_empty =
        ap (λ (r : List Equation). length (row_at r i).vars) (rows_are s.drawn ∙ seam)
        ∙ ap (λ (e : Equation). length e.vars) (get_or_at (take i es) (eqn [] 0) (replicate (m - (i + 1)) (eqn [] 0)) (eqn [] 0) i front_long)

    pub loading_turn : (e : Equation) (numbers' words' : List ℕ) → e ≡ get_or es i (eqn [] 0) → Became n m numbers words (set (rows_of n m numbers words) i e) numbers' words'
        → Loading n m es rest rest' numbers' words' (i + 1)
    loading_turn e numbers' words' q k =
        record {
          drawn = subst (λ (r : List Equation). Drawn n m r rest rest' numbers' words')
              (ap₂ (λ (l : List Equation) (x : Equation). set l i x) seam q
              ∙ set_at (take i es) (eqn [] 0) (replicate (m - (i + 1)) (eqn [] 0)) (get_or es i (eqn [] 0)) i front_long
              ∙ sym (ap (λ (l : List Equation). l ++ replicate (m - (i + 1)) (eqn [] 0)) (ap (λ (k : ℕ). take k es) (add-one i) ∙ take-suc es i (eqn [] 0) (omega (arith, s.many)))
              ∙ append_assoc (take i es) (get_or es i (eqn [] 0) ∷ []) (replicate (m - (i + 1)) (eqn [] 0))))
              (carried s.drawn (λ rows x y. Drawn n m (set rows i e) x y numbers' words') k);
          within = omega arith;
          many = s.many;
        }

-- equation i, as it is lent
pub equation_lent : (m : ℕ) (starts vars constants : List ℕ) (i : ℕ) (vs : List ℕ) → i < m → vs ≡ (equation_at starts vars constants i).vars
    → eqn vs (get_or constants i 0) ≡ get_or (equations m starts vars constants) i (eqn [] 0)
unfolding equation_at
equation_lent m starts vars constants i vs h e =
    ap (λ (v : List ℕ). eqn v (get_or constants i 0)) e ∙ sym (equations_at starts vars constants m i (eqn [] 0) h)

-- past the room nothing was written, not even where it was zeroed
pub loaded_all : {n m : ℕ} {es : List Equation} (numbers₀ words₀ : List ℕ) {rest rest' numbers words : List ℕ} → rest ≡ cleared (row_numbers n m) numbers₀ → rest' ≡ cleared (row_words m) words₀
    → Drawn n m es (drop (row_numbers n m) rest) (drop (row_words m) rest') numbers words → Became n m numbers₀ words₀ es numbers words
loaded_all {n} {m} {es} numbers₀ words₀ {rest} {rest'} {numbers} {words} a w d =
    subst₂ (λ (x y : List ℕ). Drawn n m es x y numbers words)
    (ap (drop (row_numbers n m)) a ∙ drop_cleared (row_numbers n m) numbers₀) (ap (drop (row_words m)) w ∙ drop_cleared (row_words m) words₀) d
