-- A `&mut [T]` that is lent as a `&[T]` for a lifetime of a call, and comes back as it was.
--     LentShared       what the holder keeps meanwhile: the lender's part, and its own borrow, open, with both halves of its ghost variable
--     shares           [Mut y d; κ's token; …]  →  [ν's token; ShrOf y d; KeptShr; …]        given how a value of the elements' type is shared at ν, as `by_copied` gives it
--     by_copied        a type that is `Copy` is shared so: a number by `uint_Copied`, a struct by `denote.Struct.Laws.copied`
--     unshares         [ν's token; KeptShr; …]  →  [Mut y d; κ's token; …]
-- Assumes `Logic`.
use mathlib.Core.Path.{◌≡◌, refl, sym, subst}
use Prim.Native.Nat.{ℕ}
use mathlib.Core.List.{List, [], ◌∷◌}
use lib.ListN.{length}
use seplogic.Ra.Ura.{Ura}
use base.Fraction.{full_share}
use mir.Syntax.{Lifetime, named}
use mir.Val.{Val}
use base.Logic.{ent, sep}
use base.Fml.{Lft, GName, Share, Fml, Incl, Incl-refl, fsep, flft, fdead, fobs, fauth, flent, fobor}
use ghost.Rules.{Toks, span}
use types.Logic.{Logic, sem, lfts}
use types.Kit.{Goal, Soaks, Seq, Step, step, Item, ‵, raw, ◌⊛◌, later, ◌$◌, ◌∵◌, !, qed, move, use2, use3, drop, split, rewrite, fsplit, fjoin, feq_i, frame, await, updating, now as at_once, done}
use types.Share.{arr_parts}
use types.Tokens.{lft_new, lft_end, lent_back}
use denote.RattleType.{RattleType}
use denote.Shadow.{pure_l, pure_i}
use denote.Memory.{shared_of, shares as parts-of}
use denote.Copied.{Copied}
use denote.Shares.{SharesAsFrom}
use denote.Ref.{as_bor, Bor, MutBor}
use denote.Slice.{slice_val, MutSlice, ShrSlice, heres, Room, mut_slice_at, coded_holeys}
use denote.Lend.{Held, lends_shr_slice}
use denote.Index.{opens_slice, closes_slice}
use Rattle.walk_rules.proofs.Lent.{val, at, Mut}

module _ (R : RattleType) (κ κ' : Lft) (q : Share) (γ : GName) (b o : ℕ) where
  abbrev at_list : GName → List R.Denot → MutBor (List R.Denot)
  at_list δ ys = record { ref_ptr = (b, o); ghost_name = δ; now = ys }

  abbrev shr_list : List R.Denot → Bor (List R.Denot)
  shr_list ys = record { ref_ptr = (b, o); now = ys }

  abbrev pub LentShared : List R.Denot → Fml
  LentShared ys = fsep (flent κ' ((arr_parts (parts-of R) (length ys)).part full_share ys b o)) (fsep (fobor κ q (Held R (length ys) b o γ)) (fsep (fobs γ ((coded_holeys R).code (heres R ys))) (fauth γ ((coded_holeys R).code (heres R ys)))))

  module _ {M : Type 1} {𝓤 : Ura M} (𝓛 : Logic 𝓤) (ℓ ℓ' : Lifetime) (ys : List R.Denot) where
    open 𝓛 use {H, A}

    abbrev vals : List Val
    vals = slice_val (b, o) (length ys) ∷ []

    -- the law of sharing at l, and tokens whose lifetimes' meet is within l and κ', come from the caller, and the tokens go back to it
    pub lends_shared : (l : Lft) → SharesAsFrom 𝓛 full_share R (shared_of R) l → (ts : Toks) → Incl (span ts) l → Incl (span ts) κ'
        → ent 𝓤 (sep 𝓤 (sem 𝓛 ((MutSlice ℓ κ R).own_val (at_list γ ys) vals)) (sep 𝓤 (A.lft κ q) (lfts 𝓛 ts)))
        (H.⇛ (sep 𝓤 (sem 𝓛 ((ShrSlice ℓ' κ' R).own_val (shr_list ys) vals)) (sep 𝓤 (sem 𝓛 (LentShared ys)) (lfts 𝓛 ts))))
    lends_shared l law ts in_l in_κ' =
        qed 𝓛 (‵ ((MutSlice ℓ κ R).own_val (at_list γ ys) vals) ∷ ‵ (flft κ q) ∷ raw (lfts 𝓛 ts) ∷ []) ∵ updating ! $ fsplit ! $ pure_l ! (mut_slice_at R (at_list γ ys) vals) (λ p. fsplit ! $ opens_slice ! tt R ys b o $
        feq_i ! ℕ (length ys) (length ys) refl $ fjoin ! $ move ! (0 ∷ 4 ∷ []) $
        use2 𝓛 (later ((‵ ((ShrSlice ℓ' κ' R).own_val (shr_list ys) vals) ⊛ ‵ (flent κ' ((arr_parts (parts-of R) (length ys)).part full_share ys b o))) ⊛ raw (lfts 𝓛 ts))) (lends_shr_slice 𝓛 R ℓ' κ' full_share ys b o p.1 l law ts in_l in_κ') $ await ! tt $ split ! $ split ! $
        -- [the shared slice; the lender's part at κ'; the tokens; the open borrow at κ; obs γ; auth γ]
        at_once ! $ frame ! $
        move ! (3 ∷ 4 ∷ []) $ fjoin ! $ move ! (3 ∷ 0 ∷ []) $ fjoin ! $ move ! (1 ∷ 0 ∷ []) $ fjoin ! $ done !)

    pub shared_back : Room R (length ys) → ent 𝓤 (sep 𝓤 (A.dead κ') (sem 𝓛 (LentShared ys))) (H.⇛ (sep 𝓤 (sem 𝓛 ((MutSlice ℓ κ R).own_val (at_list γ ys) vals)) (A.lft κ q)))
    shared_back room =
        qed 𝓛 (‵ (fdead κ') ∷ ‵ (LentShared ys) ∷ []) ∵ updating ! $ move ! (1 ∷ []) $ fsplit ! $ move ! (2 ∷ 0 ∷ []) $ lent_back ! tt $ fsplit ! $ drop ! $
        move ! (1 ∷ []) $ fsplit ! $ move ! (1 ∷ []) $ fsplit ! $ move ! (3 ∷ 2 ∷ 0 ∷ 1 ∷ []) $ closes_slice ! tt R ys ys refl b o $ at_once ! $
        fjoin ! $ pure_i ! (mut_slice_at R (at_list γ ys) vals) (tt, (tt, tt)) (refl, room) $ fjoin ! $ done !

abbrev pub ShrOf : (R : RattleType) → ℕ → MutBor (List R.Denot) → List R.Denot → Fml
ShrOf R ν y d = (ShrSlice (named 0) (ν ∷ []) R).own_val (record { ref_ptr = y.ref_ptr; now = d }) (val (as_bor y) ∷ [])

abbrev pub KeptShr : (R : RattleType) → Lft → Share → ℕ → MutBor (List R.Denot) → List R.Denot → Fml
KeptShr R κ q ν y d = LentShared R κ (ν ∷ []) q y.ghost_name y.ref_ptr.0 y.ref_ptr.1 d

abbrev pub by_copied : {M : Type 1} {𝓤 : Ura M} {𝓛 : Logic 𝓤} {R : RattleType} → Copied 𝓛 R → (ν : ℕ) → SharesAsFrom 𝓛 full_share R (shared_of R) (ν ∷ [])
by_copied c ν = c.shares full_share (ν ∷ [])

module _ {M : Type 1} {𝓤 : Ura M} {𝓛 : Logic 𝓤} {K : Type 0} {Γ : List (Item 𝓤)} {G : Goal 𝓤 𝓛.H} where
  pub shares : K → Soaks G → (R : RattleType) → ((ν : ℕ) → SharesAsFrom 𝓛 full_share R (shared_of R) (ν ∷ [])) → (κ : Lft) (q : Share) (y : MutBor (List R.Denot)) (d : List R.Denot) → length d ≡ length y.now
      → ((ν : ℕ) → Seq K 𝓛 (‵ (flft (ν ∷ []) full_share) ∷ ‵ (ShrOf R ν y d) ∷ ‵ (KeptShr R κ q ν y d) ∷ Γ) G) → Seq K 𝓛 (‵ (Mut R κ y d) ∷ ‵ (flft κ q) ∷ Γ) G
  shares t z R law κ q y d e k =
      rewrite t 0 (λ (m : ℕ). ‵ ((MutSlice (named 0) κ R).own_val (at y y.ghost_name d) (slice_val y.ref_ptr m ∷ []))) (sym e) refl $ lft_new t z (λ ν. move t (1 ∷ 2 ∷ 0 ∷ []) $
      use3 𝓛 (later (‵ ((ShrSlice (named 0) (ν ∷ []) R).own_val (record { ref_ptr = y.ref_ptr; now = d }) (slice_val y.ref_ptr (length d) ∷ [])) ⊛ (‵ (KeptShr R κ q ν y d) ⊛ ‵ (flft (ν ∷ []) full_share))))
      (lends_shared R κ (ν ∷ []) q y.ghost_name y.ref_ptr.0 y.ref_ptr.1 𝓛 (named 0) (named 0) d (ν ∷ []) (law ν) ((ν ∷ [], full_share) ∷ []) (Incl-refl (ν ∷ [])) (Incl-refl (ν ∷ []))) $ await t z $ split t $ move t (1 ∷ []) $ split t $ move t (2 ∷ []) $
      rewrite t 0 (λ (m : ℕ). ‵ ((ShrSlice (named 0) (ν ∷ []) R).own_val (record { ref_ptr = y.ref_ptr; now = d }) (slice_val y.ref_ptr m ∷ []))) e refl $ move t (2 ∷ 0 ∷ 1 ∷ []) $ k ν)

  pub unshares : K → Soaks G → (R : RattleType) (κ : Lft) (q : Share) (y : MutBor (List R.Denot)) (d : List R.Denot) → length d ≡ length y.now → Room R (length y.now) → (ν : ℕ)
      → Step K 𝓛 (‵ (Mut R κ y d) ∷ ‵ (flft κ q) ∷ Γ) G (‵ (flft (ν ∷ []) full_share) ∷ ‵ (KeptShr R κ q ν y d) ∷ Γ) G
  unshares t z R κ q y d e room ν = step (λ s. lft_end t z $
      use2 𝓛 (later (‵ ((MutSlice (named 0) κ R).own_val (at y y.ghost_name d) (slice_val y.ref_ptr (length d) ∷ [])) ⊛ ‵ (flft κ q)))
      (shared_back R κ (ν ∷ []) q y.ghost_name y.ref_ptr.0 y.ref_ptr.1 𝓛 (named 0) (named 0) d (subst (Room R) (sym e) room)) $ await t z $ split t $
      rewrite t 0 (λ (m : ℕ). ‵ ((MutSlice (named 0) κ R).own_val (at y y.ghost_name d) (slice_val y.ref_ptr m ∷ []))) e refl $ s)
