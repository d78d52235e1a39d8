-- The text of a file in the cases that the code tells apart.
use mathlib.Core.Path.{◌≡◌, refl, sym, ap, ◌∙◌}
use mathlib.Core.Bool.{Bool, true, false, ◌&&◌}
use mathlib.Core.List.{List, [], ◌++◌}
use mathlib.Core.Option.{Option, none, some}
use Prim.Native.Nat.{ℕ, ◌≤◌, ◌<◌}
use native.Mathlib.Omega.{arith}
use lib.ListN.{length, drop, length-append}
use lib.Dec.{eqb, leb}
use borrow.Author.Rules.{rules}
use borrow.Author.Tests.{eqb-true, le-leb, lt-leb, leb-true}
use denote.Enum.Bare.{sameb, same_true}
use Rattle.gf2.specs.Equation.{Equation, MeetsAll}
use Rattle.gf2.proofs.Both.{both}
use Rattle.answers.specs.Calls.{pick}
use Rattle.answers.specs.Numbers.{number_of, place_of}
use Rattle.answers.specs.Answers.{Answer, Solved, TooLarge, BadShape, BadEntry, WrongSolution, ShortArea, Unsolvable, CrowdedVertex, Stuck, BadFile, OutsideDomain}
use Rattle.areas.specs.Stretch.{put, zeros}
use Rattle.link_form.specs.contracts.kind.Kind.{the_type}
use Rattle.link_form.specs.declared.kind.Kind.{Kind}
use Rattle.link_form.specs.declared.kind.Kind.TheVariants.{Peel}
use Rattle.link_form.specs.declared.lent.ServedFile.{ServedFile}
use Rattle.link_form.specs.File.{Link, peel_kind, width, header_bytes, read_rows, read_file, form_of, Malformed}
use Rattle.link_form.specs.Lent.{most_variables, most_rows, most_listed, file_rows, Served, sizes_served}
use Rattle.link_form.specs.Serving.{rows_in_file}
use Rattle.link_form.proofs.Loadable.{Loadable}
use Rattle.link_form.proofs.SameKind.{same_kind}
use Rattle.link_lines.specs.Lines.{header_line, value_lines}
use Rattle.link_lines.specs.Outcomes.{Outcome, outcome, refusal_text, outcome_text}
use Rattle.link_lines.proofs.Lining.{answer_short, values_short, refused_text}
use Rattle.link_rows.specs.RowsCall.{rows_call, file_call}
use Rattle.link_rows.proofs.Solving.{rows_solves}
use Rattle.link_edges.specs.Edges.{edges_call}
use Rattle.link_edges.proofs.Threes.{edges_three, edges_solves}
use Rattle.link_file.specs.Text.{of_rows, of_edges, served, served_file, file_link, answered, version, text_of, file_text, link_text, most_outcome, most_text, link_call}

-- ---- the call of a kind, by the code's test of it

pub by_peeling : (file : ServedFile) (solution : List ℕ) → true ≡ sameb the_type file.form.kind Peel → served_file file solution ≡ of_edges (edges_call file.form.n (rows_in_file file) solution)
unfolding served
by_peeling file solution e = rw (← (same_kind file.form.kind Peel), ← e)

pub by_elimination : (file : ServedFile) (solution : List ℕ) → false ≡ sameb the_type file.form.kind Peel → served_file file solution ≡ of_rows (file_call file solution)
unfolding served
by_elimination file solution e = rw (← (same_kind file.form.kind Peel), ← e)

pub is_peel : (kind : Kind) → true ≡ sameb the_type kind Peel → kind ≡ Peel
is_peel kind e = same_true the_type (search rules) kind Peel (sym e)

-- ---- sizes

pub served_is : {bytes : List ℕ} {kind n m t : ℕ} → Loadable bytes kind n m t → sizes_served n m t ≡ true → Served kind n m bytes
served_is {bytes} {kind} {n} {m} {t} l s =
    let a = both (leb n most_variables) (leb m most_rows && leb t most_listed) s in
    let b = both (leb m most_rows) (leb t most_listed) a.1 in
    record {
      whole = l.reads;
      header = l.long;
      short = l.short;
      few_variables = leb-true n most_variables a.0;
      few_rows = leb-true m most_rows b.0;
      few_listed = rw l.listed (leb-true t most_listed b.1);
    }

pub answered_small : {bytes : List ℕ} {kind n m t : ℕ} → Loadable bytes kind n m t → sizes_served n m t ≡ true
    → answered (file_link kind n m bytes) ≡ served kind n (file_rows kind m bytes) (zeros n)
unfolding answered
answered_small l s = rw (l.many, l.listed, s)

pub answered_large : {bytes : List ℕ} {kind n m t : ℕ} → Loadable bytes kind n m t → sizes_served n m t ≡ false → answered (file_link kind n m bytes) ≡ outcome TooLarge []
unfolding answered
answered_large l s = rw (l.many, l.listed, s)

-- ---- the lines

pub large_text : {bytes : List ℕ} {kind n m t : ℕ} → Loadable bytes kind n m t → sizes_served n m t ≡ false → refusal_text TooLarge ≡ outcome_text (answered (file_link kind n m bytes))
large_text l s = refused_text TooLarge [] (λ e. absurd (omega arith)) ∙ sym (ap outcome_text (answered_large l s))

pub small_text : {bytes : List ℕ} {kind n m t : ℕ} → Loadable bytes kind n m t → sizes_served n m t ≡ true
    → outcome_text (served kind n (file_rows kind m bytes) (zeros n)) ≡ outcome_text (answered (file_link kind n m bytes))
small_text l s = sym (ap outcome_text (answered_small l s))

-- ---- no text is longer than the longest

zero_solved : (answer : Answer) → number_of answer ≡ 0 → answer ≡ Solved
zero_solved Solved e = refl
zero_solved TooLarge e = absurd (omega arith)
zero_solved BadShape e = absurd (omega arith)
zero_solved (BadEntry place) e = absurd (omega arith)
zero_solved WrongSolution e = absurd (omega arith)
zero_solved ShortArea e = absurd (omega arith)
zero_solved Unsolvable e = absurd (omega arith)
zero_solved (CrowdedVertex vertex) e = absurd (omega arith)
zero_solved (Stuck outside) e = absurd (omega arith)
zero_solved BadFile e = absurd (omega arith)
zero_solved OutsideDomain e = absurd (omega arith)

outcome_fits : (r : Outcome) → (r.answer ≡ Solved → length r.values ≤ most_variables) → length (outcome_text r) ≤ most_outcome
unfolding outcome_text
outcome_fits r few = go (eqb (number_of r.answer) 0) refl
  where
    go : (b : Bool) → eqb (number_of r.answer) 0 ≡ b → length (refusal_text r.answer ++ pick b (value_lines r.values) []) ≤ most_outcome
    go true e =
        let a = answer_short (number_of r.answer) (place_of r.answer) in
        let v = values_short r.values in
        let f = few (zero_solved r.answer (eqb-true (number_of r.answer) 0 e)) in
        let l = length-append (refusal_text r.answer) (value_lines r.values) in
        omega arith
    go false e =
        let a = answer_short (number_of r.answer) (place_of r.answer) in
        let l = length-append (refusal_text r.answer) [] in
        omega arith

-- after 0 the values are n, and meet every row
pub served_solves : (kind n m : ℕ) (bytes : List ℕ) (rows : List Equation) (solution : List ℕ) → read_rows kind width m bytes ≡ some rows
    → (served kind n rows solution).answer ≡ Solved → (length (served kind n rows solution).values ≡ n) × MeetsAll (served kind n rows solution).values rows
unfolding served
served_solves kind n m bytes rows solution e = go (eqb kind peel_kind) refl
  where
    go : (b : Bool) → eqb kind peel_kind ≡ b → (pick b (of_edges (edges_call n rows solution)) (of_rows (rows_call kind n rows solution))).answer ≡ Solved
        → (length (pick b (of_edges (edges_call n rows solution)) (of_rows (rows_call kind n rows solution))).values ≡ n)
        × MeetsAll (pick b (of_edges (edges_call n rows solution)) (of_rows (rows_call kind n rows solution))).values rows
    go true q h = edges_solves n rows solution (edges_three width m bytes rows (rw (eqb-true kind peel_kind q) at e)) h
    go false q h = rows_solves kind n rows solution h

pub answered_solves : {bytes : List ℕ} {kind n m t : ℕ} → Loadable bytes kind n m t → (answered (file_link kind n m bytes)).answer ≡ Solved
    → (n ≤ most_variables) × (length (answered (file_link kind n m bytes)).values ≡ n) × MeetsAll (answered (file_link kind n m bytes)).values (file_rows kind m bytes)
answered_solves {bytes} {kind} {n} {m} {t} l e = go (sizes_served n m t) refl
  where
    go : (b : Bool) → sizes_served n m t ≡ b
        → (n ≤ most_variables) × (length (answered (file_link kind n m bytes)).values ≡ n) × MeetsAll (answered (file_link kind n m bytes)).values (file_rows kind m bytes)
    go true q =
        let is = answered_small l q in
        let s = served_solves kind n m (drop header_bytes bytes) (file_rows kind m bytes) (zeros n) l.reads (sym (ap (λ (r : Outcome). r.answer) is) ∙ e) in
        rw is ((served_is l q).few_variables, s.0, s.1)
    go false q = absurd (let is = answered_large l q in let f : TooLarge ≡ Solved = sym (ap (λ (r : Outcome). r.answer) is) ∙ e in let z : ◌≡◌ {A = ℕ} 0 1 = cc in omega arith)

pub answered_fits : {bytes : List ℕ} {kind n m t : ℕ} → Loadable bytes kind n m t → length (outcome_text (answered (file_link kind n m bytes))) ≤ most_outcome
answered_fits {bytes} {kind} {n} {m} {t} l =
    outcome_fits (answered (file_link kind n m bytes)) (λ e. let s = answered_solves l e in let a = s.0 in let b = s.1 in omega arith)

-- ---- the whole text

pub malformed_text : (bytes : List ℕ) → form_of (read_file bytes) ≡ Malformed → link_text bytes ≡ refusal_text BadFile
unfolding link_text
malformed_text bytes e = go (read_file bytes) e
  where
    go : (o : Option Link) → form_of o ≡ Malformed → file_text o ≡ refusal_text BadFile
    go none q = refl
    go (some f) q = absurd (cc)

pub described_text : {bytes : List ℕ} {kind n m t : ℕ} → Loadable bytes kind n m t → header_line version kind n m ++ outcome_text (answered (file_link kind n m bytes)) ≡ link_text bytes
unfolding link_text text_of
described_text l = rw (l.link, l.many)

-- ---- the call

pub short_call : (bytes out : List ℕ) → length out < most_text → (0 ≡ (link_call bytes out).written) × (out ≡ (link_call bytes out).out)
unfolding link_call
short_call bytes out h = simp (lt-leb most_text (length out) h) (refl, refl)

pub long_call : (bytes out then : List ℕ) (k : ℕ) → most_text ≤ length out → k ≡ length (link_text bytes) → then ≡ put 0 (link_text bytes) out
    → (k ≡ (link_call bytes out).written) × (then ≡ (link_call bytes out).out)
unfolding link_call
long_call bytes out then k h e p = simp (le-leb most_text (length out) h) (e, p)
