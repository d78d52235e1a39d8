-- The peelers' calls: both give one answer, and what their answers say of the edges.
use mathlib.Core.Path.{◌≡◌, refl, ap, ◌∙◌}
use mathlib.Core.List.{List}
use mathlib.Core.Bool.{Bool, true, false, ◌&&◌}
use Prim.Native.Nat.{ℕ, ◌≤◌}
use native.Mathlib.Omega.{arith}
use lib.ListN.{length}
use lib.Dec.{eqb, leb, ltb}
use borrow.Author.Tests.{le-leb, ltb-false}
use Rattle.gf2.specs.Equation.{Each}
use Rattle.answers.specs.Sizes.{max_variables, max_equations, peel_high_numbers, peel_high_bytes, peel_low_numbers, peel_low_bytes}
use Rattle.answers.specs.Answers.{Solved, TooLarge, BadEntry, WrongSolution, ShortArea, CrowdedVertex, Stuck}
use Rattle.peeling.specs.declared.numbers.Edge.{Edge}
use Rattle.peel_rules.specs.Edges.{Valid, bad_edge}
use Rattle.peel_rules.specs.Peel.{Outcome, solved, stuck, answer, crowded_vertex}
use Rattle.peel_rules.specs.Report.{report_of}
use Rattle.peel_rules.specs.Calls.{PeelCall, peel_call, peel_high_call, peel_low_call}
use Rattle.peel_rules.proofs.PeelCrowd.{crowded_lowest}
use Rattle.peel_rules.proofs.PeelTheorems.{all_valid}

-- two calls agree in all but the areas
abbrev pub Agree : PeelCall → PeelCall → Type 0
Agree c d = (c.answer ≡ d.answer) × (c.report ≡ d.report) × (c.solution ≡ d.solution)

-- how long the areas are does not matter, if they have their room
any_room : (n kn kb kn' kb' : ℕ) (es : List Edge) (solution numbers bytes numbers' bytes' : List ℕ)
    → kn ≤ length numbers → kb ≤ length bytes → kn' ≤ length numbers' → kb' ≤ length bytes'
    → Agree (peel_call kn kb n es solution numbers bytes) (peel_call kn' kb' n es solution numbers' bytes')
any_room n kn kb kn' kb' es solution numbers bytes numbers' bytes' hn hb hn' hb' =
    go (leb n max_variables && leb (length es) max_equations) refl (ltb (bad_edge n es) (length es)) refl (eqb (length solution) n) refl (ltb (crowded_vertex n es) n) refl (answer n es) refl
  where
    room : leb kn (length numbers) && leb kb (length bytes) ≡ true
    room = rw (le-leb kn (length numbers) hn, le-leb kb (length bytes) hb)

    room' : leb kn' (length numbers') && leb kb' (length bytes') ≡ true
    room' = rw (le-leb kn' (length numbers') hn', le-leb kb' (length bytes') hb')

    go : (p : Bool) → leb n max_variables && leb (length es) max_equations ≡ p → (q : Bool) → ltb (bad_edge n es) (length es) ≡ q → (r : Bool) → eqb (length solution) n ≡ r
        → (t : Bool) → ltb (crowded_vertex n es) n ≡ t → (o : Outcome) → answer n es ≡ o
        → Agree (peel_call kn kb n es solution numbers bytes) (peel_call kn' kb' n es solution numbers' bytes')
    go false hp q hq r hr t ht o ho = rw hp (refl, refl, refl)
    go true hp true hq r hr t ht o ho = rw (hp, hq) (refl, refl, refl)
    go true hp false hq false hr t ht o ho = rw (hp, hq, hr) (refl, refl, refl)
    go true hp false hq true hr true ht o ho = rw (hp, hq, hr, room, room', ht) (refl, refl, refl)
    go true hp false hq true hr false ht (solved x) ho = rw (hp, hq, hr, room, room', ht, ho) (refl, refl, refl)
    go true hp false hq true hr false ht (stuck k) ho = rw (hp, hq, hr, room, room', ht, ho) (refl, refl, refl)

-- lent their room, both peelers give the same answer, report and solution
pub peelers_agree : (n : ℕ) (es : List Edge) (solution hn hb ln lb : List ℕ)
    → peel_high_numbers n (length es) ≤ length hn → peel_high_bytes n (length es) ≤ length hb → peel_low_numbers n ≤ length ln → peel_low_bytes n ≤ length lb
    → Agree (peel_high_call n es solution hn hb) (peel_low_call n es solution ln lb)
peelers_agree n es solution hn hb ln lb =
    any_room n (peel_high_numbers n (length es)) (peel_high_bytes n (length es)) (peel_low_numbers n) (peel_low_bytes n) es solution hn hb ln lb

-- ---- what an answer says

-- the edges keep their rules, and no vertex lies on a crowd of them
pub record Runs (n : ℕ) (es : List Edge) : Type 0 where
  pub valid : Each (Valid n) es
  pub uncrowded : crowded_vertex n es ≡ n

pub record SolvedCall (n : ℕ) (es : List Edge) (c : PeelCall) : Type 0 where
  pub runs : Runs n es
  pub is : answer n es ≡ solved c.solution

pub call_solved : (n kn kb : ℕ) (es : List Edge) (solution numbers bytes : List ℕ) → (peel_call kn kb n es solution numbers bytes).answer ≡ Solved
    → SolvedCall n es (peel_call kn kb n es solution numbers bytes)
call_solved n kn kb es solution numbers bytes h =
    go (leb n max_variables && leb (length es) max_equations) refl (ltb (bad_edge n es) (length es)) refl (eqb (length solution) n) refl
    (leb kn (length numbers) && leb kb (length bytes)) refl (ltb (crowded_vertex n es) n) refl (answer n es) refl
  where
    Out : Type 0
    Out = SolvedCall n es (peel_call kn kb n es solution numbers bytes)

    go : (p : Bool) → leb n max_variables && leb (length es) max_equations ≡ p → (q : Bool) → ltb (bad_edge n es) (length es) ≡ q → (r : Bool) → eqb (length solution) n ≡ r
        → (s : Bool) → leb kn (length numbers) && leb kb (length bytes) ≡ s → (t : Bool) → ltb (crowded_vertex n es) n ≡ t → (o : Outcome) → answer n es ≡ o → Out
    go false hp q hq r hr s hs t ht o ho = let k : TooLarge ≡ Solved = rw hp at h in let z : ◌≡◌ {A = ℕ} 0 1 = cc in absurd (omega arith)
    go true hp true hq r hr s hs t ht o ho = let k : BadEntry (bad_edge n es) ≡ Solved = rw (hp, hq) at h in let z : ◌≡◌ {A = ℕ} 0 1 = cc in absurd (omega arith)
    go true hp false hq false hr s hs t ht o ho = let k : WrongSolution ≡ Solved = rw (hp, hq, hr) at h in let z : ◌≡◌ {A = ℕ} 0 1 = cc in absurd (omega arith)
    go true hp false hq true hr false hs t ht o ho = let k : ShortArea ≡ Solved = rw (hp, hq, hr, hs) at h in let z : ◌≡◌ {A = ℕ} 0 1 = cc in absurd (omega arith)
    go true hp false hq true hr true hs true ht o ho = let k : CrowdedVertex (crowded_vertex n es) ≡ Solved = rw (hp, hq, hr, hs, ht) at h in let z : ◌≡◌ {A = ℕ} 0 1 = cc in absurd (omega arith)
    go true hp false hq true hr true hs false ht (stuck k) ho = let j : Stuck k ≡ Solved = rw (hp, hq, hr, hs, ht, ho) at h in let z : ◌≡◌ {A = ℕ} 0 1 = cc in absurd (omega arith)
    go true hp false hq true hr true hs false ht (solved x) ho = record {
      runs = record {
        valid = all_valid n es (ltb-false (bad_edge n es) (length es) hq);
        uncrowded = omega (arith, (crowded_lowest n es).within, ltb-false (crowded_vertex n es) n ht);
      };
      is = rw (hp, hq, hr, hs, ht, ho) refl;
    }

pub record StuckCall (n k : ℕ) (es : List Edge) (c : PeelCall) : Type 0 where
  pub runs : Runs n es
  pub is : answer n es ≡ stuck k
  pub report : c.report ≡ report_of k (length es)

pub call_stuck : (n kn kb k : ℕ) (es : List Edge) (solution numbers bytes : List ℕ) → (peel_call kn kb n es solution numbers bytes).answer ≡ Stuck k
    → StuckCall n k es (peel_call kn kb n es solution numbers bytes)
call_stuck n kn kb k es solution numbers bytes h =
    go (leb n max_variables && leb (length es) max_equations) refl (ltb (bad_edge n es) (length es)) refl (eqb (length solution) n) refl
    (leb kn (length numbers) && leb kb (length bytes)) refl (ltb (crowded_vertex n es) n) refl (answer n es) refl
  where
    Out : Type 0
    Out = StuckCall n k es (peel_call kn kb n es solution numbers bytes)

    go : (p : Bool) → leb n max_variables && leb (length es) max_equations ≡ p → (q : Bool) → ltb (bad_edge n es) (length es) ≡ q → (r : Bool) → eqb (length solution) n ≡ r
        → (s : Bool) → leb kn (length numbers) && leb kb (length bytes) ≡ s → (t : Bool) → ltb (crowded_vertex n es) n ≡ t → (o : Outcome) → answer n es ≡ o → Out
    go false hp q hq r hr s hs t ht o ho = let j : TooLarge ≡ Stuck k = rw hp at h in let z : ◌≡◌ {A = ℕ} 0 1 = cc in absurd (omega arith)
    go true hp true hq r hr s hs t ht o ho = let j : BadEntry (bad_edge n es) ≡ Stuck k = rw (hp, hq) at h in let z : ◌≡◌ {A = ℕ} 0 1 = cc in absurd (omega arith)
    go true hp false hq false hr s hs t ht o ho = let j : WrongSolution ≡ Stuck k = rw (hp, hq, hr) at h in let z : ◌≡◌ {A = ℕ} 0 1 = cc in absurd (omega arith)
    go true hp false hq true hr false hs t ht o ho = let j : ShortArea ≡ Stuck k = rw (hp, hq, hr, hs) at h in let z : ◌≡◌ {A = ℕ} 0 1 = cc in absurd (omega arith)
    go true hp false hq true hr true hs true ht o ho = let j : CrowdedVertex (crowded_vertex n es) ≡ Stuck k = rw (hp, hq, hr, hs, ht) at h in let z : ◌≡◌ {A = ℕ} 0 1 = cc in absurd (omega arith)
    go true hp false hq true hr true hs false ht (solved x) ho = let j : Solved ≡ Stuck k = rw (hp, hq, hr, hs, ht, ho) at h in let z : ◌≡◌ {A = ℕ} 0 1 = cc in absurd (omega arith)
    go true hp false hq true hr true hs false ht (stuck i) ho =
        let j : Stuck i ≡ Stuck k = rw (hp, hq, hr, hs, ht, ho) at h in
        let same : i ≡ k = cc in
        record {
          runs = record {
            valid = all_valid n es (ltb-false (bad_edge n es) (length es) hq);
            uncrowded = omega (arith, (crowded_lowest n es).within, ltb-false (crowded_vertex n es) n ht);
          };
          is = ho ∙ ap stuck same;
          report = rw (hp, hq, hr, hs, ht, ho) (ap (λ (a : ℕ). report_of a (length es)) same);
        }
