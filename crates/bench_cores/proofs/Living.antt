-- Sets of edges: what they hold, and what is left when one edge is taken out.
use Rattle.std.proofs.Common.{◌≡◌, refl, sym, ap, ◌∙◌, List, [], ◌∷◌, Bool, true, false, cond, ℕ, zero, suc, ◌+◌, ◌<◌, length, get_or, set, replicate, arith}
use Rattle.std.proofs.lemmas.Bool.{false≢true}
use Rattle.peeling.specs.declared.numbers.Edge.{Edge}
use Rattle.peel_rules.specs.Edges.{edge, touches, degree}
use Rattle.peel_rules.specs.Core.{pick, Within}
use Rattle.peel_rules.proofs.PeelCore.{zero_parts}

-- all alive
pub pick_all : (es : List Edge) → pick (replicate (length es) true) es ≡ es
unfolding pick
pick_all [] = refl
pick_all (e ∷ es) = ap (λ (l : List Edge). e ∷ l) (pick_all es)

pub within_all : (bs : List Bool) → Within bs (replicate (length bs) true)
within_all [] = tt
within_all (b ∷ bs) = (λ _. refl, within_all bs)

-- a vertex that is touched is touched by an edge that is alive
pub record TouchedBy (w : ℕ) (bs : List Bool) (es : List Edge) : Type 0 where
  pub at : ℕ
  pub inside : at < length es
  pub alive : get_or bs at false ≡ true
  pub touch : touches w (get_or es at (edge 0 0 0 0)) ≡ true

pub touched_by : (w : ℕ) (bs : List Bool) (es : List Edge) → 0 < degree w (pick bs es) → TouchedBy w bs es
unfolding pick degree
touched_by w [] es h = absurd (omega arith)
touched_by w (b ∷ bs) [] h = absurd (omega arith)
touched_by w (b ∷ bs) (e ∷ es) h = go b (touches w e) refl (touched_by w bs es) h
  where
    later : (c : Bool) → TouchedBy w bs es → TouchedBy w (c ∷ bs) (e ∷ es)
    later c t = record { at = suc t.at; inside = omega (arith, t.inside); alive = t.alive; touch = t.touch }

    go : (c t : Bool) → touches w e ≡ t → (0 < degree w (pick bs es) → TouchedBy w bs es)
        → 0 < degree w (cond c (e ∷ pick bs es) (pick bs es)) → TouchedBy w (c ∷ bs) (e ∷ es)
    go false t r ih g = later false (ih g)
    go true true r ih g = record { at = 0; inside = omega arith; alive = refl; touch = r }
    go true false r ih g = later true (ih (rw r at g))

pub fewer_alive : (k : ℕ) (bs : List Bool) (es : List Edge) → k < length es → get_or bs k false ≡ true
    → length (pick bs es) ≡ 1 + length (pick (set bs k false) es)
unfolding pick
fewer_alive k [] es h a = absurd (false≢true a)
fewer_alive k (b ∷ bs) [] h a = absurd (omega arith)
fewer_alive zero (b ∷ bs) (e ∷ es) h a = rw a (omega arith)
fewer_alive (suc k) (b ∷ bs) (e ∷ es) h a = go b (fewer_alive k bs es (omega arith) a)
  where
    go : (c : Bool) → length (pick bs es) ≡ 1 + length (pick (set bs k false) es)
        → length (cond c (e ∷ pick bs es) (pick bs es)) ≡ 1 + length (cond c (e ∷ pick (set bs k false) es) (pick (set bs k false) es))
    go true ih = omega (arith, ih)
    go false ih = ih

-- a set that does not touch one of the edge's vertices does not have the edge
pub within_without : (v k : ℕ) (ms bs : List Bool) (es : List Edge) → k < length es → touches v (get_or es k (edge 0 0 0 0)) ≡ true → degree v (pick ms es) ≡ 0
    → Within ms bs → Within ms (set bs k false)
unfolding pick
within_without v k [] [] es h t d w = tt
within_without v k [] (b ∷ bs) es h t d w = absurd w
within_without v k (m ∷ ms) [] es h t d w = absurd w
within_without v k (m ∷ ms) (b ∷ bs) [] h t d w = absurd (omega arith)
within_without v zero (m ∷ ms) (b ∷ bs) (e ∷ es) h t d w = (λ q. absurd (false≢true (sym ((zero_parts v e (pick ms es) m d).1 q) ∙ t)), w.1)
within_without v (suc k) (m ∷ ms) (b ∷ bs) (e ∷ es) h t d w =
    (w.0, within_without v k ms bs es (omega arith) t (zero_parts v e (pick ms es) m d).0 w.1)
