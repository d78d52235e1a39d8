-- What a peeler's call and a lookup answer, and what a peeler leaves in every cell that it was lent.
use Rattle.std.specs.Prelude.{List, ◌&&◌, ℕ, length, eqb, leb, ltb}
use Rattle.areas.specs.Stretch.{cleared}
use Rattle.answers.specs.Sizes.{max_variables, max_equations, peel_high_numbers, peel_high_bytes, peel_low_numbers, peel_low_bytes}
use Rattle.answers.specs.Calls.{pick}
use Rattle.answers.specs.Answers.{Answer}
use Rattle.answers.specs.Answers.{Solved, TooLarge, BadEntry, WrongSolution, ShortArea, CrowdedVertex, Stuck}
use Rattle.peeling.specs.declared.numbers.Edge.{Edge}
use Rattle.answers.specs.declared.refusal.StuckReport.{StuckReport}
use Rattle.peel_rules.specs.Edges.{edge, is_valid, bad_edge}
use Rattle.peel_rules.specs.Peel.{edge_xor, Outcome, solved, stuck, answer, crowded_vertex}
use Rattle.peel_rules.specs.Report.{report_of, no_report}

pub record PeelCall : Type 0 where
  pub answer : Answer
  pub report : StuckReport
  pub solution : List ℕ
  pub numbers : List ℕ
  pub bytes : List ℕ

-- a refusal that comes before the run leaves everything as lent
abbrev pub refused : Answer → List ℕ → List ℕ → List ℕ → PeelCall
refused a solution numbers bytes = record { answer = a; report = no_report; solution = solution; numbers = numbers; bytes = bytes }

-- after a run, and after 7, the room of kn numbers and kb bytes is zero
abbrev pub ended : ℕ → ℕ → Answer → StuckReport → List ℕ → List ℕ → List ℕ → PeelCall
ended kn kb a report solution numbers bytes =
    record { answer = a; report = report; solution = solution; numbers = cleared kn numbers; bytes = cleared kb bytes }

-- the run over m edges: the solution is written only where there is one
abbrev pub ran : ℕ → ℕ → ℕ → Outcome → List ℕ → List ℕ → List ℕ → PeelCall
ran kn kb m (solved x) solution numbers bytes = ended kn kb Solved no_report x numbers bytes
ran kn kb m (stuck k) solution numbers bytes = ended kn kb (Stuck k) (report_of k m) solution numbers bytes

-- edges and areas that keep their rules: no vertex on a crowd of edges, then the run
abbrev pub admitted : ℕ → ℕ → ℕ → List Edge → List ℕ → List ℕ → List ℕ → PeelCall
admitted kn kb n es solution numbers bytes =
    pick (ltb (crowded_vertex n es) n) (ended kn kb (CrowdedVertex (crowded_vertex n es)) no_report solution numbers bytes)
    (ran kn kb (length es) (answer n es) solution numbers bytes)

-- a peeler's call, in the order 1, 3, 4, 5, 7, run
abbrev pub peel_call : ℕ → ℕ → ℕ → List Edge → List ℕ → List ℕ → List ℕ → PeelCall
peel_call kn kb n es solution numbers bytes =
    pick (leb n max_variables && leb (length es) max_equations)
    (pick (ltb (bad_edge n es) (length es)) (refused (BadEntry (bad_edge n es)) solution numbers bytes)
    (pick (eqb (length solution) n)
    (pick (leb kn (length numbers) && leb kb (length bytes)) (admitted kn kb n es solution numbers bytes) (refused ShortArea solution numbers bytes))
    (refused WrongSolution solution numbers bytes)))
    (refused TooLarge solution numbers bytes)

abbrev pub peel_high_call : ℕ → List Edge → List ℕ → List ℕ → List ℕ → PeelCall
peel_high_call n es = peel_call (peel_high_numbers n (length es)) (peel_high_bytes n (length es)) n es

abbrev pub peel_low_call : ℕ → List Edge → List ℕ → List ℕ → List ℕ → PeelCall
peel_low_call n es = peel_call (peel_low_numbers n) (peel_low_bytes n) n es

-- ---- lookup

pub record LookupCall : Type 0 where
  pub answer : Answer
  pub bib : ℕ

-- three cell numbers: within the table and different, or 3; the XOR of the three cells is the bib
abbrev pub lookup_call : List ℕ → ℕ → ℕ → ℕ → LookupCall
lookup_call table a b c =
    pick (leb (length table) max_variables)
    (pick (is_valid (length table) (edge a b c 0)) (record { answer = Solved; bib = edge_xor table (edge a b c 0) }) (record { answer = BadEntry 0; bib = 0 }))
    (record { answer = TooLarge; bib = 0 })
