-- What a solver's call on a lent system answers, from what its run answers: once for every solver of such systems.
use mathlib.Core.Path.{◌≡◌, ap}
use mathlib.Core.Logic.{◌↔◌, ◌⊎◌, inl, inr}
use mathlib.Core.Bool.{Bool, true}
use mathlib.Core.List.{List}
use Prim.Native.Nat.{ℕ, ◌<◌, ◌^◌}
use lib.ListN.{length, get_or}
use Rattle.gf2.specs.Equation.{Equation, Each, Sorted, Below, MeetsAll}
use Rattle.gf2.specs.Span.{Cancels}
use Rattle.gf2.specs.Ours.{Apart, our_part}
use Rattle.gf2.specs.Result.{Result, unsolvable, ok}
use Rattle.answers.specs.Calls.{Call, solver_call}
use Rattle.answers.specs.Answers.{Solved, Unsolvable}
use Rattle.answers.proofs.Calls.{Admitted, call_two, solved_call, unsolvable_call, none_call}
use Rattle.system.specs.System.{system_rules, equations}
use Rattle.system.specs.Fits.{Fits}
use Rattle.system.proofs.Soundness.{kept_sound, rules_early}

-- what is lent to a solver: the system, the solution and the two areas
pub record Lent : Type 0 where
  pub m : ℕ
  pub starts : List ℕ
  pub vars : List ℕ
  pub constants : List ℕ
  pub solution : List ℕ
  pub numbers : List ℕ
  pub words : List ℕ

abbrev pub system : Lent → List Equation
system l = equations l.m l.starts l.vars l.constants

-- a call that asks for this room comes to its run: no refusal from 1 to 5
abbrev pub Runs : (ℕ → ℕ → ℕ → ℕ) → (ℕ → ℕ → ℕ → ℕ) → ℕ → Lent → Type 0
Runs kn kw n l =
    Admitted n (kn n l.m (length l.vars)) (kw n l.m (length l.vars)) l.solution l.numbers l.words
    (system_rules n l.m l.starts l.vars l.constants)

-- a run with these answers, and the room that its call asks for
module _ (run : ℕ → List Equation → Result (List ℕ)) (kn kw : ℕ → ℕ → ℕ → ℕ)
    (solves : (n : ℕ) (es : List Equation) → Sorted es → Below n es → (x : List ℕ) → run n es ≡ ok x → (length x ≡ n) × MeetsAll x es)
    (exact : (n : ℕ) (es : List Equation) → Sorted es → Below n es → (run n es ≡ unsolvable) ↔ ((mask : List Bool) × Cancels mask es))
    (narrow : (n : ℕ) (es : List Equation) → Sorted es → Below n es → (k : ℕ) (x : List ℕ) → Each (λ e. e.c < 2 ^ k) es → run n es ≡ ok x → (v : ℕ) → get_or x v 0 < 2 ^ k)
    (isolated : (P : ℕ → Bool) (n : ℕ) (A B : List Equation) → Sorted A → Below n A → Sorted B → Below n B → Apart P A → Apart P B → our_part P A ≡ our_part P B
    → (x y : List ℕ) → run n A ≡ ok x → run n B ≡ ok y → (v : ℕ) → P v ≡ true → get_or x v 0 ≡ get_or y v 0) where
  abbrev pub call : ℕ → Lent → Call
  call n l =
      solver_call (system_rules n l.m l.starts l.vars l.constants) n (kn n l.m (length l.vars)) (kw n l.m (length l.vars)) (run n (system l))
      l.solution l.numbers l.words

  -- the lent system keeps its rules, and the run has what the solution slice holds
  pub solved : (n : ℕ) (l : Lent) → (call n l).answer ≡ Solved → Fits n l.m l.starts l.vars l.constants × (run n (system l) ≡ ok (call n l).solution)
  solved n l e =
      let s = solved_call n (kn n l.m (length l.vars)) (kw n l.m (length l.vars)) (run n (system l)) l.solution l.numbers l.words
      (system_rules n l.m l.starts l.vars l.constants) (rules_early n l.m l.starts l.vars l.constants) e in
      (kept_sound n l.m l.starts l.vars l.constants s.0.kept, s.1)

  -- 0: the solution slice has n words, which meet every equation
  pub call_solves : (n : ℕ) (l : Lent) → (call n l).answer ≡ Solved → (length (call n l).solution ≡ n) × MeetsAll (call n l).solution (system l)
  call_solves n l e = let s = solved n l e in solves n (system l) s.0.sorted s.0.below (call n l).solution s.1

  -- 6 exactly if some set of equations cancels
  pub call_exact : (n : ℕ) (l : Lent) → Runs kn kw n l → ((call n l).answer ≡ Unsolvable) ↔ ((mask : List Bool) × Cancels mask (system l))
  call_exact n l a = (forth, back)
    where
      fits : Fits n l.m l.starts l.vars l.constants
      fits = kept_sound n l.m l.starts l.vars l.constants a.kept

      forth : (call n l).answer ≡ Unsolvable → (mask : List Bool) × Cancels mask (system l)
      forth e =
          (exact n (system l) fits.sorted fits.below).0
          (unsolvable_call n (kn n l.m (length l.vars)) (kw n l.m (length l.vars)) (run n (system l)) l.solution l.numbers l.words
          (system_rules n l.m l.starts l.vars l.constants) (rules_early n l.m l.starts l.vars l.constants) e).1

      back : (mask : List Bool) × Cancels mask (system l) → (call n l).answer ≡ Unsolvable
      back c =
          ap (λ (r : Call). r.answer)
          (none_call n (kn n l.m (length l.vars)) (kw n l.m (length l.vars)) (run n (system l)) l.solution l.numbers l.words
          (system_rules n l.m l.starts l.vars l.constants) a ((exact n (system l) fits.sorted fits.below).1 c))

  -- a call that is not refused: 0, and n values that meet every equation; or 6, and some set of equations cancels
  pub call_says : (n : ℕ) (l : Lent) → Runs kn kw n l
      → (((call n l).answer ≡ Solved) × (length (call n l).solution ≡ n) × MeetsAll (call n l).solution (system l))
      ⊎ (((call n l).answer ≡ Unsolvable) × ((mask : List Bool) × Cancels mask (system l)))
  call_says n l a =
      go (call_two n (kn n l.m (length l.vars)) (kw n l.m (length l.vars)) (run n (system l)) l.solution l.numbers l.words
      (system_rules n l.m l.starts l.vars l.constants) a)
    where
      go : ((call n l).answer ≡ Solved) ⊎ ((call n l).answer ≡ Unsolvable)
          → (((call n l).answer ≡ Solved) × (length (call n l).solution ≡ n) × MeetsAll (call n l).solution (system l))
          ⊎ (((call n l).answer ≡ Unsolvable) × ((mask : List Bool) × Cancels mask (system l)))
      go (inl e) = inl (let s = call_solves n l e in (e, s.0, s.1))
      go (inr e) = inr (e, (call_exact n l a).0 e)

  -- constants below 2 ^ k: cells below 2 ^ k
  pub call_narrow : (n : ℕ) (l : Lent) (k : ℕ) → Each (λ e. e.c < 2 ^ k) (system l) → (call n l).answer ≡ Solved → (v : ℕ) → get_or (call n l).solution v 0 < 2 ^ k
  call_narrow n l k h e = let s = solved n l e in narrow n (system l) s.0.sorted s.0.below k (call n l).solution h s.1

  -- two builds over the same cells that share our equations, whatever the others are: our cells are the same
  pub call_isolated : (P : ℕ → Bool) (n : ℕ) (a b : Lent) → Apart P (system a) → Apart P (system b) → our_part P (system a) ≡ our_part P (system b)
      → (call n a).answer ≡ Solved → (call n b).answer ≡ Solved → (v : ℕ) → P v ≡ true → get_or (call n a).solution v 0 ≡ get_or (call n b).solution v 0
  call_isolated P n a b pa pb same ea eb =
      let s = solved n a ea in
      let t = solved n b eb in
      isolated P n (system a) (system b) s.0.sorted s.0.below t.0.sorted t.0.below pa pb same (call n a).solution (call n b).solution s.1 t.1
