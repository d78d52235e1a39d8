-- The search for the first idle variable.
use mathlib.Core.Path.{◌≡◌, refl, sym, ap, ◌∙◌}
use mathlib.Core.Logic.{◌≢◌}
use mathlib.Core.List.{List, [], ◌∷◌, ◌++◌}
use mathlib.Core.Bool.{Bool, true, false, not}
use Prim.Native.Nat.{ℕ, ◌+◌, ◌-◌, ◌≤◌, ◌<◌}
use native.Mathlib.Numerals.{add-one}
use native.Mathlib.Omega.{arith}
use lib.ListN.{length, get_or, take, drop}
use lib.Seq.{drop-cons, take-suc, take_all}
use lib.Dec.{eqb}
use Rattle.gf2.specs.Equation.{Each, lists}
use Rattle.gf2.specs.NumberLists.{first_of}
use Rattle.gf2.proofs.Each.{each_at, each_append}
use Rattle.gf2.proofs.Members.{head_listed, tail_listed}
use Rattle.gf2.proofs.Tests.{eqb_ne}
use Rattle.areas.specs.Stretch.{stretch}
use Rattle.areas.proofs.Stretch.{length-stretch}
use Rattle.lazy_pops.specs.Idle.{marked, first_marked, RowFits}

pub first_yes : (p : ℕ → Bool) (v : ℕ) (vs : List ℕ) → p v ≡ true → first_of p (v ∷ vs) ≡ v
unfolding first_of
first_yes p v vs h = rw h

pub first_no : (p : ℕ → Bool) (v : ℕ) (vs : List ℕ) → p v ≡ false → first_of p (v ∷ vs) ≡ first_of p vs
unfolding first_of
first_no p v vs h = rw h

-- two tests that agree on the list
pub first_same : (p q : ℕ → Bool) (l : List ℕ) → ((v : ℕ) → lists v l ≡ true → p v ≡ q v) → first_of p l ≡ first_of q l
unfolding first_of
first_same p q [] h = refl
first_same p q (v ∷ vs) h = rw (h v (head_listed v vs), first_same p q vs (λ u k. h u (tail_listed u v vs k)))

-- none of the first k is marked
pub record Seeking (area : List ℕ) (row count idle k : ℕ) : Type 0 where
  pub fits : RowFits area row count idle
  pub within : k ≤ count
  pub same : first_of (marked area idle) (drop k (stretch row count area)) ≡ first_marked area row count idle
  pub none : Each (λ v. marked area idle v ≡ false) (take k (stretch row count area))

pub seek_begin : {area : List ℕ} {row count idle : ℕ} → RowFits area row count idle → Seeking area row count idle 0
seek_begin f = record { fits = f; within = omega arith; same = refl; none = tt }

-- the row, as it is lent
pub row_lent : (area : List ℕ) (row count : ℕ) → take (row + count - row) (drop row area) ≡ stretch row count area
unfolding stretch
row_lent area row count = let e : row + count - row ≡ count = omega arith in rw e

module _ {area : List ℕ} {row count idle k : ℕ} (i : Seeking area row count idle k) where
  long : length (stretch row count area) ≡ count
  long = length-stretch row count area i.fits.inside

  module _ {vs : List ℕ} (q : vs ≡ stretch row count area) where
    module _ (h : k < length vs) where
      inside : k < length (stretch row count area)
      inside = rw q at h

      is : get_or vs k 0 ≡ get_or (stretch row count area) k 0
      is = ap (λ (l : List ℕ). get_or l k 0) q

      next : drop k (stretch row count area) ≡ get_or vs k 0 ∷ drop (k + 1) (stretch row count area)
      next = drop-cons (stretch row count area) k 0 inside ∙ rw (add-one k, is)

      before : take (k + 1) (stretch row count area) ≡ take k (stretch row count area) ++ (get_or vs k 0 ∷ [])
      before = rw (add-one k, is) (take-suc (stretch row count area) k 0 inside)

      pub mark_in : idle + get_or vs k 0 < length area
      mark_in = rw is (each_at (λ v. idle + v < length area) (stretch row count area) 0 k inside i.fits.marks)

      pub seek_found : get_or area (idle + get_or vs k 0) 0 ≢ 0 → get_or vs k 0 ≡ first_marked area row count idle
      seek_found z =
          sym (first_yes (marked area idle) (get_or vs k 0) (drop (k + 1) (stretch row count area)) (ap not (eqb_ne (get_or area (idle + get_or vs k 0) 0) 0 z)))
          ∙ ap (λ (l : List ℕ). first_of (marked area idle) l) (sym next) ∙ i.same

      pub seek_on : get_or area (idle + get_or vs k 0) 0 ≡ 0 → Seeking area row count idle (k + 1)
      seek_on z =
          let u : marked area idle (get_or vs k 0) ≡ false = ap (λ (x : ℕ). not (eqb x 0)) z in
          record {
            fits = i.fits;
            within = omega (arith, inside, long);
            same = sym (first_no (marked area idle) (get_or vs k 0) (drop (k + 1) (stretch row count area)) u)
                ∙ ap (λ (l : List ℕ). first_of (marked area idle) l) (sym next) ∙ i.same;
            none = rw before (each_append (λ v. marked area idle v ≡ false) (take k (stretch row count area)) (get_or vs k 0 ∷ []) i.none (u, tt));
          }

    pub seek_none : length vs ≤ k → Each (λ v. marked area idle v ≡ false) (stretch row count area)
    seek_none h = rw (take_all k (stretch row count area) (rw q at h)) at i.none
