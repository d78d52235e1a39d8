-- The theorems of peeling, of the public calls: what the solution slice holds after 0, when the answer is 8, and what of it is ours.
use mathlib.Core.Path.{◌≡◌, refl}
use mathlib.Core.List.{List, []}
use mathlib.Core.Bool.{Bool, true, false}
use mathlib.Core.Logic.{◌≢◌, ◌↔◌}
use Prim.Native.Nat.{ℕ, ◌+◌, ◌^◌, ◌≤◌, ◌<◌}
use native.Mathlib.Omega.{arith}
use lib.ListN.{length, get_or}
use lib.Dec.{leb}
use borrow.Author.Tests.{le-leb, eq-eqb, le-ltb, leb-true}
use Rattle.gf2.specs.Equation.{Each}
use Rattle.answers.specs.Sizes.{max_variables, max_equations, peel_high_numbers, peel_high_bytes, peel_low_numbers, peel_low_bytes}
use Rattle.answers.specs.Answers.{Solved, TooLarge, Stuck}
use Rattle.peeling.specs.declared.numbers.Edge.{Edge}
use Rattle.peel_rules.specs.Edges.{Valid, bad_edge}
use Rattle.peel_rules.specs.Peel.{Met, stuck, answer, crowded_vertex}
use Rattle.peel_rules.specs.Core.{pick, Core}
use Rattle.peel_rules.specs.Ours.{Closed, keep}
use Rattle.peel_rules.specs.Calls.{PeelCall, peel_call, lookup_call}
use Rattle.peel_rules.proofs.PeelTheorems.{peel_solves, peel_core, peel_isolated, peel_narrow, lookup_bib, all_valid}
use Rattle.peel_rules.proofs.PeelCalls.{SolvedCall, call_solved, call_stuck}

-- what is lent to a peeler besides n
pub record LentToPeel : Type 0 where
  pub es : List Edge
  pub solution : List ℕ
  pub numbers : List ℕ
  pub bytes : List ℕ

-- what a peeler asks of its areas
pub record PeelRoom : Type 0 where
  pub numbers : ℕ
  pub bytes : ℕ

abbrev pub high_room : ℕ → LentToPeel → PeelRoom
high_room n l = record { numbers = peel_high_numbers n (length l.es); bytes = peel_high_bytes n (length l.es) }

abbrev pub low_room : ℕ → LentToPeel → PeelRoom
low_room n l = record { numbers = peel_low_numbers n; bytes = peel_low_bytes n }

-- the call of the peeler that asks for this room: `peel_high_call` for `high_room`, `peel_low_call` for `low_room`
abbrev pub peel_on : PeelRoom → ℕ → LentToPeel → PeelCall
peel_on r n l = peel_call r.numbers r.bytes n l.es l.solution l.numbers l.bytes

-- no refusal by 1, 3, 4, 5 and 7
pub record PeelRuns (r : PeelRoom) (n : ℕ) (l : LentToPeel) : Type 0 where
  pub few_cells : n ≤ max_variables
  pub few_edges : length l.es ≤ max_equations
  pub no_bad : length l.es ≤ bad_edge n l.es
  pub size : length l.solution ≡ n
  pub numbers_room : r.numbers ≤ length l.numbers
  pub bytes_room : r.bytes ≤ length l.bytes
  pub no_crowd : n ≤ crowded_vertex n l.es

-- ---- after 0

solved_on : (r : PeelRoom) (n : ℕ) (l : LentToPeel) → (peel_on r n l).answer ≡ Solved → SolvedCall n l.es (peel_on r n l)
solved_on r n l = call_solved n r.numbers r.bytes l.es l.solution l.numbers l.bytes

-- the solution slice has n words, and every edge's XOR of three of them is its value
pub peel_call_solves : (r : PeelRoom) (n : ℕ) (l : LentToPeel) → (peel_on r n l).answer ≡ Solved
    → (length (peel_on r n l).solution ≡ n) × Each (Met (peel_on r n l).solution) l.es
peel_call_solves r n l h = let s = solved_on r n l h in peel_solves n l.es (peel_on r n l).solution s.runs.valid s.is

-- values below 2 ^ k: cells below 2 ^ k
pub peel_call_narrow : (k : ℕ) (r : PeelRoom) (n : ℕ) (l : LentToPeel) → Each (λ e. e.value < 2 ^ k) l.es → (peel_on r n l).answer ≡ Solved
    → Each (λ cell. cell < 2 ^ k) (peel_on r n l).solution
peel_call_narrow k r n l v h = peel_narrow k n l.es (peel_on r n l).solution v (solved_on r n l h).is

-- two builds over the same cells, by either peeler, that have our edges in the same order, whatever the others are: our cells are the same
pub peel_call_isolated : (ours : ℕ → Bool) (n : ℕ) (r s : PeelRoom) (a b : LentToPeel)
    → Each (Closed ours) a.es → Each (Closed ours) b.es → keep ours a.es ≡ keep ours b.es
    → (peel_on r n a).answer ≡ Solved → (peel_on s n b).answer ≡ Solved
    → (w : ℕ) → ours w ≡ true → get_or (peel_on r n a).solution w 0 ≡ get_or (peel_on s n b).solution w 0
peel_call_isolated ours n r s a b ca cb same ha hb =
    let x = solved_on r n a ha in
    let y = solved_on s n b hb in
    peel_isolated ours n a.es b.es (peel_on r n a).solution (peel_on s n b).solution x.runs.valid y.runs.valid ca cb same x.is y.is

few_cells_on : (r : PeelRoom) (n : ℕ) (l : LentToPeel) → (peel_on r n l).answer ≡ Solved → n ≤ max_variables
few_cells_on r n l h = go (leb n max_variables) refl
  where
    go : (b : Bool) → leb n max_variables ≡ b → n ≤ max_variables
    go true e = leb-true n max_variables e
    go false e = let k : TooLarge ≡ Solved = rw e at h in let z : ◌≡◌ {A = ℕ} 0 1 = cc in absurd (omega arith)

-- a lookup of edge i's cells in the solution slice gives its value
pub peel_call_lookup : (r : PeelRoom) (n : ℕ) (l : LentToPeel) (d : Edge) (i : ℕ) → (peel_on r n l).answer ≡ Solved → i < length l.es
    → lookup_call (peel_on r n l).solution (get_or l.es i d).a.0 (get_or l.es i d).b.0 (get_or l.es i d).c.0 ≡ record { answer = Solved; bib = (get_or l.es i d).value }
peel_call_lookup r n l d i h k = let s = solved_on r n l h in lookup_bib n l.es (peel_on r n l).solution d i (few_cells_on r n l h) s.runs.valid s.is k

-- ---- 8

-- a call that runs and is stuck says so
ran_stuck : (r : PeelRoom) (n k : ℕ) (l : LentToPeel) → PeelRuns r n l → answer n l.es ≡ stuck k → (peel_on r n l).answer ≡ Stuck k
ran_stuck r n k l runs h =
    rw (
      le-leb n max_variables runs.few_cells,
      le-leb (length l.es) max_equations runs.few_edges,
      le-ltb (bad_edge n l.es) (length l.es) runs.no_bad,
      eq-eqb (length l.solution) n runs.size,
      le-leb r.numbers (length l.numbers) runs.numbers_room,
      le-leb r.bytes (length l.bytes) runs.bytes_room,
      le-ltb (crowded_vertex n l.es) n runs.no_crowd,
      h,
    )
    refl

-- 8 with place k exactly when the core is not empty and k edges are outside of it
pub peel_call_core : (r : PeelRoom) (n : ℕ) (l : LentToPeel) (core : List Bool) (k : ℕ) → PeelRuns r n l → Core l.es core
    → ((peel_on r n l).answer ≡ Stuck k) ↔ ((pick core l.es ≢ []) × (k + length (pick core l.es) ≡ length l.es))
peel_call_core r n l core k runs c = (there, back)
  where
    valid : Each (Valid n) l.es
    valid = all_valid n l.es runs.no_bad

    there : (peel_on r n l).answer ≡ Stuck k → (pick core l.es ≢ []) × (k + length (pick core l.es) ≡ length l.es)
    there h = (peel_core n l.es core k valid c).0 (call_stuck n r.numbers r.bytes k l.es l.solution l.numbers l.bytes h).is

    back : (pick core l.es ≢ []) × (k + length (pick core l.es) ≡ length l.es) → (peel_on r n l).answer ≡ Stuck k
    back h = ran_stuck r n k l runs ((peel_core n l.es core k valid c).1 h)
