-- What is tried of a lent system and of what is lent beside it, and what its run comes to.
use Rattle.std.specs.Prelude.{List, ℕ}
use Rattle.answers.specs.Answers.{Rules}
use Rattle.answers.specs.Calls.{Call, ran, both_rules, lengths_rules}
use Rattle.answers.specs.Sizes.{sparse_numbers, sparse_words}
use Rattle.system.specs.Lent.{rules_in, equations_in}
use Rattle.system.specs.declared.System.{System}
use Rattle.sparse_rules.specs.Eliminate.{gaussian_elimination}

-- the rules, then the lengths beside the system
abbrev pub gate_in : System → List ℕ → List ℕ → List ℕ → Rules
gate_in s solution numbers words = both_rules (rules_in s) (lengths_rules s.n (sparse_numbers s.n s.m) (sparse_words s.m) solution numbers words)

abbrev pub ran_in : System → List ℕ → List ℕ → List ℕ → Call
ran_in s solution numbers words =
    ran (sparse_numbers s.n s.m) (sparse_words s.m) (gaussian_elimination s.n (equations_in s)) solution numbers words
