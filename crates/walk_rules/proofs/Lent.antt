-- Slice references in a walk, as rules that leave the positions of the context as they were.
--     val x            the machine value of a slice reference, as it came in: it never changes, whatever the list is now
--     at x δ d         the reference under the name δ, at the list d
--     Shr R κ x        what is owned of a `&[R]`
--     Mut R κ y d      what is owned of a `&mut [R]` that came in as y, and is at the list d now.        Its length is that of `now y`: each rule asks for that equation
--     Lent R ν δ y d   the same, lent again for the lifetime ν under the name δ.        Kept is what the lender has meanwhile
--     lends            [Mut y d; κ's token; …]  →  [ν's token; Lent y d; Kept; …]
--     backs            [ν's token; Kept; the last list zs under δ; …]  →  [Mut y zs; κ's token; …]
-- Assumes `Logic`.
use mathlib.Core.Path.{◌≡◌, refl, sym, subst}
use Prim.Native.Nat.{ℕ}
use mathlib.Core.List.{List, [], ◌∷◌}
use lib.ListN.{length}
use seplogic.Ra.Ura.{Ura}
use base.Fraction.{full_share}
use mir.Syntax.{named}
use mir.Val.{Val}
use base.Fml.{Lft, GName, Share, Fml, flft}
use types.Logic.{Logic}
use types.Kit.{Goal, Soaks, Seq, Step, step, Item, ‵, ◌⊛◌, some, later, ◌$◌, move, use2, use3, split, pick, rewrite, await}
use types.Tokens.{lft_new, lft_end}
use denote.RattleType.{RattleType}
use denote.Ref.{as_bor, Bor, MutBor}
use denote.Slice.{slice_val, ShrSlice, MutSlice, Room, finally}
use Rattle.walk_rules.proofs.Again.{LentAgain, lends_again, comes_back}

abbrev pub val : {X : Type 0} → Bor (List X) → Val
val x = slice_val x.ref_ptr (length x.now)

abbrev pub at : {X : Type 0} → MutBor (List X) → GName → List X → MutBor (List X)
at x δ d = record { ref_ptr = x.ref_ptr; ghost_name = δ; now = d }

abbrev pub Shr : (R : RattleType) → Lft → Bor (List R.Denot) → Fml
Shr R κ x = (ShrSlice (named 0) κ R).own_val x (val x ∷ [])

abbrev pub Mut : (R : RattleType) → Lft → MutBor (List R.Denot) → List R.Denot → Fml
Mut R κ y d = (MutSlice (named 0) κ R).own_val (at y y.ghost_name d) (val (as_bor y) ∷ [])

abbrev pub Lent : (R : RattleType) → ℕ → GName → MutBor (List R.Denot) → List R.Denot → Fml
Lent R ν δ y d = (MutSlice (named 0) (ν ∷ []) R).own_val (at y δ d) (val (as_bor y) ∷ [])

abbrev pub Kept : (R : RattleType) → Lft → Share → ℕ → GName → MutBor (List R.Denot) → List R.Denot → Fml
Kept R κ q ν δ y d = LentAgain R κ (ν ∷ []) q y.ghost_name y.ref_ptr.0 y.ref_ptr.1 δ d

module _ {M : Type 1} {𝓤 : Ura M} {𝓛 : Logic 𝓤} {K : Type 0} {Γ : List (Item 𝓤)} {G : Goal 𝓤 𝓛.H} where
  pub lends : K → Soaks G → (R : RattleType) (κ : Lft) (q : Share) (y : MutBor (List R.Denot)) (d : List R.Denot) → length d ≡ length y.now
      → ((ν : ℕ) (δ : GName) → Seq K 𝓛 (‵ (flft (ν ∷ []) full_share) ∷ ‵ (Lent R ν δ y d) ∷ ‵ (Kept R κ q ν δ y d) ∷ Γ) G) → Seq K 𝓛 (‵ (Mut R κ y d) ∷ ‵ (flft κ q) ∷ Γ) G
  lends t z R κ q y d e k =
      rewrite t 0 (λ (m : ℕ). ‵ ((MutSlice (named 0) κ R).own_val (at y y.ghost_name d) (slice_val y.ref_ptr m ∷ []))) (sym e) refl $ lft_new t z (λ ν. move t (1 ∷ 2 ∷ []) $
      use2 𝓛 (later (some (λ (δ : GName). ‵ ((MutSlice (named 0) (ν ∷ []) R).own_val (at y δ d) (slice_val y.ref_ptr (length d) ∷ [])) ⊛ ‵ (Kept R κ q ν δ y d))))
      (lends_again R κ (ν ∷ []) q y.ghost_name y.ref_ptr.0 y.ref_ptr.1 𝓛 (named 0) (named 0) d) $ await t z $ pick t (λ δ. split t $
      rewrite t 0 (λ (m : ℕ). ‵ ((MutSlice (named 0) (ν ∷ []) R).own_val (at y δ d) (slice_val y.ref_ptr m ∷ []))) e refl $ move t (2 ∷ 0 ∷ []) $ k ν δ))

  pub backs : K → Soaks G → (R : RattleType) (κ : Lft) (q : Share) (y : MutBor (List R.Denot)) (d : List R.Denot) → length d ≡ length y.now → Room R (length y.now) → (ν : ℕ) (δ : GName) (zs : List R.Denot) → length zs ≡ length d
      → Step K 𝓛 (‵ (Mut R κ y zs) ∷ ‵ (flft κ q) ∷ Γ) G (‵ (flft (ν ∷ []) full_share) ∷ ‵ (Kept R κ q ν δ y d) ∷ ‵ (finally R δ zs) ∷ Γ) G
  backs t z R κ q y d e room ν δ zs l = step (λ s. lft_end t z $
      use3 𝓛 (later (‵ ((MutSlice (named 0) κ R).own_val (at y y.ghost_name zs) (slice_val y.ref_ptr (length d) ∷ [])) ⊛ ‵ (flft κ q)))
      (comes_back R κ (ν ∷ []) q y.ghost_name y.ref_ptr.0 y.ref_ptr.1 𝓛 (named 0) (named 0) d δ zs (subst (Room R) (sym e) room) l) $ await t z $ split t $
      rewrite t 0 (λ (m : ℕ). ‵ ((MutSlice (named 0) κ R).own_val (at y y.ghost_name zs) (slice_val y.ref_ptr m ∷ []))) e refl $ s)
