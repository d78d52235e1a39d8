-- Increasing lists of variables: membership, the sum of two, and that membership determines the list.
use mathlib.Core.Path.{◌≡◌, refl, sym, ap, ap₂, ◌∙◌}
use mathlib.Core.List.{List, [], ◌∷◌}
use mathlib.Core.Bool.{Bool, true, false, true≢false, false≢true, ◌||◌}
use Prim.Native.Nat.{ℕ, ◌<◌}
use native.Mathlib.Omega.{arith}
use lib.Dec.{eqb}
use Rattle.gf2.specs.Equation.{Above, Increasing, lists, xor_bool, sym_diff}
use Rattle.gf2.proofs.Tests.{Tri, less, same, more, tri, eqb_same, eqb_true, eqb_ne, xor_bool_laws, xor_bool_comm, xor_bool_twice, xor_bool_left_comm, xor_bool_assoc, xor_bool_false, or_is_xor}
use Rattle.gf2.proofs.SymDiff as sd
use Rattle.gf2.proofs.SymDiff.{Merge, no_left, no_right, left, right, merge, merge_each}

-- ---- what is above

pub above_trans : {v u : ℕ} (us : List ℕ) → v < u → Above u us → Above v us
above_trans [] h k = tt
above_trans {v} {u} (w ∷ ws) h k = (omega arith, above_trans ws h k.1)

pub above_not_listed : (v : ℕ) (us : List ℕ) → Above v us → lists v us ≡ false
unfolding lists
above_not_listed v [] h = refl
above_not_listed v (u ∷ us) h = ap₂ ◌||◌ (eqb_ne v u (omega arith)) (above_not_listed v us h.1)

pub listed_above : (v w : ℕ) (us : List ℕ) → Above v us → lists w us ≡ true → v < w
unfolding lists
listed_above v w [] h p = absurd (false≢true p)
listed_above v w (u ∷ us) h p = go (eqb w u) refl (listed_above v w us h.1)
  where
    go : (b : Bool) → eqb w u ≡ b → (lists w us ≡ true → v < w) → v < w
    go true e ih = rw (eqb_true w u e) h.0
    go false e ih = ih (ap (λ b. b || lists w us) (sym e) ∙ p)

-- the first of an increasing list is not listed after it, so "or" is "exactly one" there
pub lists_cons : (w v : ℕ) (vs : List ℕ) → Above v vs → lists w (v ∷ vs) ≡ xor_bool (eqb w v) (lists w vs)
unfolding lists
lists_cons w v vs h = or_is_xor (eqb w v) (lists w vs) (λ p. rw (eqb_true w v p) (above_not_listed v vs h))

pub lists_head : (v : ℕ) (vs : List ℕ) → lists v (v ∷ vs) ≡ true
unfolding lists
lists_head v vs = ap (λ b. b || lists v vs) (eqb_same v)

-- ---- the sum of two lists

merge_increasing : {a b d : List ℕ} → Merge a b d → Increasing a → Increasing b → Increasing d
merge_increasing no_left h k = k
merge_increasing no_right h k = h
merge_increasing (left {x} {y} {xs} {ys} l m) h k =
    (merge_each (λ u. x < u) m h.0 (l, above_trans ys l k.0), merge_increasing m h.1 k)
merge_increasing (sd.same e m) h k = merge_increasing m h.1 k.1
merge_increasing (right {x} {y} {xs} {ys} l m) h k =
    (merge_each (λ u. y < u) m (l, above_trans xs l h.0) k.0, merge_increasing m h k.1)

pub increasing_sym_diff : (a b : List ℕ) → Increasing a → Increasing b → Increasing (sym_diff a b)
increasing_sym_diff a b = merge_increasing (merge a b)

merge_lists : (w : ℕ) {a b d : List ℕ} → Merge a b d → Increasing a → Increasing b → lists w d ≡ xor_bool (lists w a) (lists w b)
merge_lists w no_left h k = unfold lists in refl
merge_lists w (no_right {x} {xs}) h k = unfold lists in sym (xor_bool_false (lists w (x ∷ xs)))
merge_lists w (left {x} {y} {xs} {ys} {zs} l m) h k =
    lists_cons w x zs (merge_each (λ u. x < u) m h.0 (l, above_trans ys l k.0))
    ∙ ap (xor_bool (eqb w x)) (merge_lists w m h.1 k)
    ∙ sym (xor_bool_assoc (eqb w x) (lists w xs) (lists w (y ∷ ys)))
    ∙ ap (λ d. xor_bool d (lists w (y ∷ ys))) (sym (lists_cons w x xs h.0))
merge_lists w (sd.same {x} {y} {xs} {ys} {zs} e m) h k =
    merge_lists w m h.1 k.1 ∙ pairs (eqb w x) (lists w xs) (lists w ys)
    ∙ sym (ap₂ xor_bool (lists_cons w x xs h.0) (lists_cons w y ys k.0 ∙ ap (λ u. xor_bool (eqb w u) (lists w ys)) (sym e)))
  where
    pairs : (p q r : Bool) → xor_bool q r ≡ xor_bool (xor_bool p q) (xor_bool p r)
    pairs p q r = simp xor_bool_laws
merge_lists w (right {x} {y} {xs} {ys} {zs} l m) h k =
    lists_cons w y zs (merge_each (λ u. y < u) m (l, above_trans xs l h.0) k.0)
    ∙ ap (xor_bool (eqb w y)) (merge_lists w m h k.1)
    ∙ xor_bool_left_comm (eqb w y) (lists w (x ∷ xs)) (lists w ys)
    ∙ ap (xor_bool (lists w (x ∷ xs))) (sym (lists_cons w y ys k.0))

pub lists_sym_diff : (w : ℕ) (a b : List ℕ) → Increasing a → Increasing b → lists w (sym_diff a b) ≡ xor_bool (lists w a) (lists w b)
lists_sym_diff w a b = merge_lists w (merge a b)

-- ---- an increasing list is determined by what it lists

-- the heads agree: the lower of two different heads is listed on one side only
heads : (a b : ℕ) (as' bs : List ℕ) → Above a as' → Above b bs → ((w : ℕ) → lists w (a ∷ as') ≡ lists w (b ∷ bs)) → a < b → ⊥
heads a b as' bs h k f l = true≢false (sym (lists_head a as') ∙ f a ∙ above_not_listed a (b ∷ bs) (l, above_trans bs l k))

pub same_lists : (a b : List ℕ) → Increasing a → Increasing b → ((w : ℕ) → lists w a ≡ lists w b) → a ≡ b
same_lists [] [] h k f = refl
same_lists [] (b ∷ bs) h k f = absurd (false≢true (unfold lists in f b ∙ lists_head b bs))
same_lists (a ∷ as') [] h k f = absurd (true≢false (unfold lists in sym (lists_head a as') ∙ f a))
same_lists (a ∷ as') (b ∷ bs) h k f = go (tri a b) (same_lists as' bs h.1 k.1)
  where
    go : Tri a b → (((w : ℕ) → lists w as' ≡ lists w bs) → as' ≡ bs) → a ∷ as' ≡ b ∷ bs
    go (less l) ih = absurd (heads a b as' bs h.0 k.0 f l)
    go (more l) ih = absurd (heads b a bs as' k.0 h.0 (λ w. sym (f w)) l)
    go (same e) ih = ap₂ ◌∷◌ e (ih tails)
      where
        tails : (w : ℕ) → lists w as' ≡ lists w bs
        tails w =
            sym (xor_bool_twice (eqb w a) (lists w as'))
            ∙ ap (xor_bool (eqb w a)) (sym (lists_cons w a as' h.0) ∙ f w ∙ lists_cons w b bs k.0 ∙ ap (λ m. xor_bool (eqb w m) (lists w bs)) (sym e))
            ∙ xor_bool_twice (eqb w a) (lists w bs)

-- an increasing list with the members of the sum is the sum
pub sym_diff_unique : (a b l : List ℕ) → Increasing a → Increasing b → Increasing l → ((w : ℕ) → lists w l ≡ xor_bool (lists w a) (lists w b)) → l ≡ sym_diff a b
sym_diff_unique a b l ha hb hl f = same_lists l (sym_diff a b) hl (increasing_sym_diff a b ha hb) (λ w. f w ∙ sym (lists_sym_diff w a b ha hb))

pub sym_diff_comm : (a b : List ℕ) → Increasing a → Increasing b → sym_diff a b ≡ sym_diff b a
sym_diff_comm a b h k =
    sym_diff_unique b a (sym_diff a b) k h (increasing_sym_diff a b h k) (λ w. lists_sym_diff w a b h k ∙ xor_bool_comm (lists w a) (lists w b))

-- a list added twice falls away
pub sym_diff_twice : (a b : List ℕ) → Increasing a → Increasing b → sym_diff (sym_diff a b) b ≡ a
sym_diff_twice a b h k =
    sym (sym_diff_unique (sym_diff a b) b a (increasing_sym_diff a b h k) k h
    (λ w. sym (ap (λ d. xor_bool d (lists w b)) (lists_sym_diff w a b h k) ∙ simp xor_bool_laws)))
