-- The call's answer on each way through its tests: refused before the run, or the run.
use mathlib.Core.Path.{◌≡◌, refl, sym, ap, ◌∙◌}
use mathlib.Core.List.{List}
use Prim.Native.Nat.{ℕ, ◌≤◌}
use Rattle.answers.specs.Calls.{Call, refused, ran, lengths_rules, both_rules}
use Rattle.answers.specs.Sizes.{sparse_numbers, sparse_words}
use Rattle.answers.specs.Answers.{Answer, Rules, Kept, Broken}
use Rattle.answers.proofs.Told.{Says}
use Rattle.answers.proofs.Calls.{call_ran}
use Rattle.answers.proofs.Gate.{gate_kept, gate_broken}
use Rattle.system.specs.System.{system_rules, equations}
use Rattle.sparse_rules.specs.Eliminate.{gaussian_elimination}
use Rattle.sparse_rules.specs.SparseCall.{sparse_call}

module _ (n m : ℕ) (starts vars constants solution numbers words : List ℕ) where
  abbrev call : Call
  call = sparse_call n m starts vars constants solution numbers words

  -- what is tried before the run: the system's rules, then the lengths beside it
  abbrev pub sparse_gate : Rules
  sparse_gate = both_rules (system_rules n m starts vars constants) (lengths_rules n (sparse_numbers n m) (sparse_words m) solution numbers words)

  pub call_refused : (answer : Answer) → sparse_gate ≡ Broken answer → Says call answer solution numbers words
  unfolding sparse_call
  call_refused answer e =
      rw (gate_broken n (sparse_numbers n m) (sparse_words m) (gaussian_elimination n (equations m starts vars constants)) solution numbers words (system_rules n m starts vars constants) answer e)
      (refl, (refl, (refl, refl)))

  -- the run that is not refused
  pub call_run : sparse_gate ≡ Kept → (answer : Answer) (solution' numbers' words' : List ℕ)
      → Says (ran (sparse_numbers n m) (sparse_words m) (gaussian_elimination n (equations m starts vars constants)) solution numbers words) answer solution' numbers' words'
      → Says call answer solution' numbers' words'
  unfolding sparse_call
  call_run k answer solution' numbers' words' e =
      let run = gaussian_elimination n (equations m starts vars constants) in
      let a = gate_kept n (sparse_numbers n m) (sparse_words m) run solution numbers words (system_rules n m starts vars constants) k in
      rw (call_ran n (sparse_numbers n m) (sparse_words m) run solution numbers words (system_rules n m starts vars constants) a) e
