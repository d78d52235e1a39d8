-- What a peeler's answer is, in the form that a reader cites.
use mathlib.Core.Path.{◌≡◌, refl, sym, ap, ◌∙◌}
use mathlib.Core.List.{List, [], ◌∷◌}
use mathlib.Core.Bool.{Bool, true, false, cond}
use mathlib.Core.Logic.{◌≢◌, ◌↔◌}
use Prim.Native.Nat.{ℕ, suc, ◌+◌, ◌-◌, ◌^◌, ◌≤◌, ◌<◌}
use native.Mathlib.Omega.{arith}
use lib.ListN.{length, get_or, replicate}
use borrow.Author.Tests.{le-leb}
use Rattle.gf2.specs.Equation.{Each}
use Rattle.gf2.proofs.Each.{each_at, each_from}
use Rattle.answers.specs.Sizes.{max_variables}
use Rattle.answers.specs.Answers.{Solved}
use Rattle.peeling.specs.declared.numbers.Edge.{Edge}
use Rattle.peel_rules.specs.Edges.{edge, Valid, is_valid, bad_edge}
use Rattle.peel_rules.specs.Peel.{Met, edge_xor, fill, peel, solved, stuck, answer}
use Rattle.peel_rules.specs.Core.{pick, Core}
use Rattle.peel_rules.specs.Ours.{Closed, keep}
use Rattle.peel_rules.specs.Calls.{lookup_call}
use Rattle.std.proofs.lemmas.Bool.Decides.{nat_tests}
use Rattle.peel_rules.proofs.PeelSolved.{answer_solves}
use Rattle.peel_rules.proofs.PeelCore.{Ends, peel_ends, core_unique, answer_solved, answer_stuck}
use Rattle.peel_rules.proofs.PeelIsolated.{isolated}
use Rattle.peel_rules.proofs.PeelWidth.{answer_narrow}

-- ---- the edges' rule as a test

valid_test : (n : ℕ) (e : Edge) → is_valid n e ≡ true → Valid n e
valid_test n e h = record {
  a< = grind (arith, nat_tests);
  b< = grind (arith, nat_tests);
  c< = grind (arith, nat_tests);
  a≢b = grind (arith, nat_tests);
  a≢c = grind (arith, nat_tests);
  b≢c = grind (arith, nat_tests);
}

pub test_valid : (n : ℕ) (e : Edge) → Valid n e → is_valid n e ≡ true
test_valid n e v = grind (arith, nat_tests)

-- no bad edge: all are valid
pub all_valid : (n : ℕ) (es : List Edge) → length es ≤ bad_edge n es → Each (Valid n) es
unfolding bad_edge
all_valid n [] h = tt
all_valid n (e ∷ es) h = go (is_valid n e) refl (all_valid n es) h
  where
    go : (b : Bool) → is_valid n e ≡ b → (length es ≤ bad_edge n es → Each (Valid n) es) → suc (length es) ≤ cond b (suc (bad_edge n es)) 0 → Each (Valid n) (e ∷ es)
    go true q ih k = (valid_test n e q, ih (omega arith))
    go false q ih k = absurd (omega arith)

-- ---- solved

-- every edge's XOR of three cells is its value
pub peel_solves : (n : ℕ) (es : List Edge) (x : List ℕ) → Each (Valid n) es → answer n es ≡ solved x → (length x ≡ n) × Each (Met x) es
peel_solves n es x v h = let s = answer_solves n es x v h in (s.size, s.meets)

-- ---- stuck

-- there is a core, and one only (core_unique)
pub has_core : (n : ℕ) (es : List Edge) → Each (Valid n) es → (core : List Bool) × Core es core
has_core n es v = ((peel_ends n es v).core, (peel_ends n es v).is_core)

-- stuck with k edges peeled: exactly when the core is not empty and k edges are outside of it
pub peel_core : (n : ℕ) (es : List Edge) (core : List Bool) (k : ℕ) → Each (Valid n) es → Core es core
    → (answer n es ≡ stuck k) ↔ ((pick core es ≢ []) × (k + length (pick core es) ≡ length es))
peel_core n es core k v c = (there, back)
  where
    ends : Ends n es
    ends = peel_ends n es v

    below : length (pick core es) ≤ length es
    below = rw (core_unique es core ends.core c ends.is_core) (omega (arith, ends.count))

    there : answer n es ≡ stuck k → (pick core es ≢ []) × (k + length (pick core es) ≡ length es)
    there h = (full, omega (arith, same, below))
      where
        full : pick core es ≢ []
        full z = let s = answer_solved n es core v c z in let w : ◌≡◌ {A = ℕ} 0 1 = cc in omega arith

        same : k ≡ length es - length (pick core es)
        same = let s = answer_stuck n es core v c full in cc

    back : (pick core es ≢ []) × (k + length (pick core es) ≡ length es) → answer n es ≡ stuck k
    back h = let e : length es - length (pick core es) ≡ k = omega (arith, h.1) in answer_stuck n es core v c h.0 ∙ ap stuck e

-- and solved exactly when it is empty
pub peel_core_empty : (n : ℕ) (es : List Edge) (core : List Bool) → Each (Valid n) es → Core es core → ((x : List ℕ) × (answer n es ≡ solved x)) ↔ (pick core es ≡ [])
peel_core_empty n es core v c = (there, λ z. (fill (peel n es).peeled (replicate n 0), answer_solved n es core v c z))
  where
    never : (x : List ℕ) (k : ℕ) → answer n es ≡ solved x → answer n es ≡ stuck k → ⊥
    never x k p q = let z : ◌≡◌ {A = ℕ} 0 1 = cc in omega arith

    there : ((x : List ℕ) × (answer n es ≡ solved x)) → pick core es ≡ []
    there s = go (pick core es) refl
      where
        go : (l : List Edge) → pick core es ≡ l → l ≡ []
        go [] q = refl
        go (e ∷ l) q =
            absurd (never s.0 (length es - length (pick core es)) s.1
            (answer_stuck n es core v c (λ z. let w : ◌≡◌ {A = List Edge} [] (e ∷ l) = sym z ∙ q in let k : ◌≡◌ {A = ℕ} 0 1 = cc in omega arith)))

-- ---- our cells

-- two builds over the same cells that have our edges in the same order: our cells are the same
pub peel_isolated : (ours : ℕ → Bool) (n : ℕ) (A B : List Edge) (x y : List ℕ)
    → Each (Valid n) A → Each (Valid n) B → Each (Closed ours) A → Each (Closed ours) B → keep ours A ≡ keep ours B
    → answer n A ≡ solved x → answer n B ≡ solved y
    → (w : ℕ) → ours w ≡ true → get_or x w 0 ≡ get_or y w 0
peel_isolated = isolated

-- ---- narrow values

pub peel_narrow : (k n : ℕ) (es : List Edge) (x : List ℕ) → Each (λ e. e.value < 2 ^ k) es → answer n es ≡ solved x → Each (λ cell. cell < 2 ^ k) x
peel_narrow k n es x v h = each_from (λ cell. cell < 2 ^ k) x 0 (λ i l. answer_narrow k n es x v h i)

-- ---- lookup

-- after a solved build a lookup of a listed edge's cells gives its value
pub lookup_bib : (n : ℕ) (es : List Edge) (x : List ℕ) (d : Edge) (i : ℕ) → n ≤ max_variables → Each (Valid n) es → answer n es ≡ solved x → i < length es
    → lookup_call x (get_or es i d).a.0 (get_or es i d).b.0 (get_or es i d).c.0 ≡ record { answer = Solved; bib = (get_or es i d).value }
unfolding edge_xor
lookup_bib n es x d i small v h l =
    let s = peel_solves n es x v h in
    let e : Edge = get_or es i d in
    let met : edge_xor x e ≡ e.value = each_at (Met x) es d i l s.1 in
    let fit : is_valid n (edge e.a.0 e.b.0 e.c.0 0) ≡ true = test_valid n e (each_at (Valid n) es d i l v) in
    rw (s.0, le-leb n max_variables small, fit, met)
