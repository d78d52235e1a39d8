-- The edges of rows of three variables: nothing is lost, and a solution of the edges meets the rows.
use mathlib.Core.Path.{◌≡◌, refl, ap₂, subst}
use mathlib.Core.List.{List, [], ◌∷◌, map}
use mathlib.Core.Option.{some}
use Prim.Native.Nat.{ℕ, zero, suc}
use native.Mathlib.Omega.{arith}
use lib.ListN.{length, drop}
use lib.Bits.{xor_zero_r}
use Rattle.gf2.specs.Equation.{Equation, eqn, Each, eval_vars, Meets, MeetsAll}
use Rattle.answers.specs.Sizes.{peel_low_numbers, peel_low_bytes}
use Rattle.std.specs.Prelude.{Result, Ok, Err}
use Rattle.answers.specs.declared.refusal.Unpeeled.{Unpeeled}
use Rattle.answers.specs.declared.refusal.Unpeeled.TheVariants as unpeeled
use Rattle.answers.specs.Answers.{Solved, answer_by, unpeeled_of}
use Rattle.peel_gates.specs.Ends.{peeling_of}
use Rattle.peeling.specs.declared.numbers.Edge.{Edge}
use Rattle.peel_rules.specs.Peel.{edge_xor, Met}
use Rattle.peel_rules.proofs.PeelCalls.{call_solved}
use Rattle.peel_rules.proofs.PeelTheorems.{peel_solves}
use Rattle.link_form.specs.File.{peel_kind, count, row_bytes, read_rows}
use Rattle.areas.specs.Stretch.{zeros}
use Rattle.link_form.specs.Lent.{lent_numbers, lent_bytes}
use Rattle.link_form.proofs.Scanning.{length_row}
use Rattle.link_form.proofs.RoundTrip.{taken}
use Rattle.link_edges.specs.Edges.{edge_of, edges_of, lent_call, edges_call}

abbrev pub Three : Equation → Type 0
Three r = length r.vars ≡ 3

-- an edge as a row
abbrev pub row_of : Edge → Equation
row_of e = eqn (e.a.0 ∷ e.b.0 ∷ e.c.0 ∷ []) e.value

row_kept : (r : Equation) → Three r → row_of (edge_of r) ≡ r
row_kept r h = kept r.vars r.c h
  where
    kept : (vs : List ℕ) (d : ℕ) → length vs ≡ 3 → row_of (edge_of (eqn vs d)) ≡ eqn vs d
    kept [] d h = absurd (omega arith)
    kept (a ∷ []) d h = absurd (omega arith)
    kept (a ∷ b ∷ []) d h = absurd (omega arith)
    kept (a ∷ b ∷ c ∷ []) d h = unfold edge_of in refl
    kept (a ∷ b ∷ c ∷ e ∷ more) d h = absurd (omega arith)

-- the edges are the rows in another form
pub edges_kept : (rows : List Equation) → Each Three rows → map row_of (edges_of rows) ≡ rows
unfolding edges_of
edges_kept [] t = refl
edges_kept (r ∷ rows) t = ap₂ (λ (x : Equation) (xs : List Equation). x ∷ xs) (row_kept r t.0) (edges_kept rows t.1)

-- every row of a file of edges has three
pub edges_three : (w m : ℕ) (bytes : List ℕ) (rows : List Equation) → read_rows peel_kind w m bytes ≡ some rows → Each Three rows
unfolding read_rows count
edges_three w zero [] rows e = let q : rows ≡ [] = cc in rw q tt
edges_three w zero (b ∷ bytes) rows e = absurd (let z : ◌≡◌ {A = ℕ} 0 1 = cc in omega arith)
edges_three w (suc m) bytes rows e =
    let t = taken peel_kind w m bytes rows e in
    rw t.all (length_row peel_kind w bytes, edges_three w m (drop (row_bytes peel_kind w bytes) bytes) t.others t.reads)

-- ---- the answer of the peeler's result

pub peeling_answer : {A : Type 0} (r : Result A Unpeeled) → (peeling_of r).answer ≡ answer_by unpeeled_of r
peeling_answer (Ok x) = refl
peeling_answer (Err (unpeeled.Refused refusal)) = refl
peeling_answer (Err (unpeeled.Stuck report)) = refl

-- ---- what a solution of the edges is to the rows

meets : (x : List ℕ) (e : Edge) → Met x e → Meets x (row_of e)
unfolding eval_vars edge_xor
meets x e h = simp xor_zero_r h

all_meet : (x : List ℕ) (rows : List Equation) → Each Three rows → Each (Met x) (edges_of rows) → MeetsAll x rows
unfolding edges_of
all_meet x [] t h = tt
all_meet x (r ∷ rows) t h = (subst (Meets x) (row_kept r t.0) (meets x (edge_of r) h.0), all_meet x rows t.1 h.1)

-- after 0 the solution has n words and meets every row
pub edges_solves : (n : ℕ) (rows : List Equation) (solution : List ℕ) → Each Three rows → (edges_call n rows solution).answer ≡ Solved
    → (length (edges_call n rows solution).solution ≡ n) × MeetsAll (edges_call n rows solution).solution rows
unfolding lent_call
edges_solves n rows solution t h =
    let c = call_solved n (peel_low_numbers n) (peel_low_bytes n) (edges_of rows) solution (zeros lent_numbers) (zeros lent_bytes) h in
    let s = peel_solves n (edges_of rows) (edges_call n rows solution).solution c.runs.valid c.is in
    (s.0, all_meet (edges_call n rows solution).solution rows t s.1)
