-- Each return by the tests that led there.
use Rattle.std.proofs.Common.{le-leb}
use Rattle.std.proofs.lemmas.Bool.{lt-leb}
use Rattle.dense_rows.specs.Rules.{dense_rules}
use Rattle.dense_rows.proofs.system.DenseSystem.rules.Goals as goal
use Rattle.dense_rows.proofs.system.DenseSystem.rules.Goals.{then-self-gt-MAX_VARIABLES-via-then-self-gt-MAX_VARIABLES, then-self-gt-MAX_VARIABLES-via-else-self-gt-MAX_VARIABLES+then-self-gt-MAX_EQUATIONS, then-self-gt-MAX_VARIABLES-via-else-self-gt-MAX_VARIABLES+else-self-gt-MAX_EQUATIONS+then-self-gt-MAX_ROW_WORDS}
use Rattle.dense_rows.proofs.system.DenseSystem.rules.Goals.{then-self-via-then-self, then-self-via-else-self+then-self-2, then-self-via-else-self+else-self-2+then-self-3}

pub returns-then-self-gt-MAX_VARIABLES : goal.returns-then-self-gt-MAX_VARIABLES
unfolding dense_rules
returns-then-self-gt-MAX_VARIABLES c =
    elim c.then-self-gt-MAX_VARIABLES.branch [
      | then-self-gt-MAX_VARIABLES-via-then-self-gt-MAX_VARIABLES w ↦ simp (lt-leb _ _ w.if-self-gt-MAX_VARIABLES.true)
      | then-self-gt-MAX_VARIABLES-via-else-self-gt-MAX_VARIABLES+then-self-gt-MAX_EQUATIONS w ↦ simp (le-leb _ _ w.if-self-gt-MAX_VARIABLES.false, lt-leb _ _ w.if-self-gt-MAX_EQUATIONS.true)
      | then-self-gt-MAX_VARIABLES-via-else-self-gt-MAX_VARIABLES+else-self-gt-MAX_EQUATIONS+then-self-gt-MAX_ROW_WORDS w ↦ simp (le-leb _ _ w.if-self-gt-MAX_VARIABLES.false, le-leb _ _ w.if-self-gt-MAX_EQUATIONS.false, lt-leb _ _ w.if-self-gt-MAX_ROW_WORDS.true)
    ]

pub returns-then-self : goal.returns-then-self
unfolding dense_rules
returns-then-self c =
    elim c.then-self.branch [
      | then-self-via-then-self w ↦ simp (le-leb _ _ c.if-self-gt-MAX_VARIABLES.false, le-leb _ _ c.if-self-gt-MAX_EQUATIONS.false, le-leb _ _ c.if-self-gt-MAX_ROW_WORDS.false, lt-leb _ _ w.if-self.true)
      | then-self-via-else-self+then-self-2 w ↦ simp (le-leb _ _ c.if-self-gt-MAX_VARIABLES.false, le-leb _ _ c.if-self-gt-MAX_EQUATIONS.false, le-leb _ _ c.if-self-gt-MAX_ROW_WORDS.false, le-leb _ _ w.if-self.false, lt-leb _ _ w.if-self-2.true)
      | then-self-via-else-self+else-self-2+then-self-3 w ↦ simp (le-leb _ _ c.if-self-gt-MAX_VARIABLES.false, le-leb _ _ c.if-self-gt-MAX_EQUATIONS.false, le-leb _ _ c.if-self-gt-MAX_ROW_WORDS.false, le-leb _ _ w.if-self.false, le-leb _ _ w.if-self-2.false, lt-leb _ _ w.if-self-3.true)
    ]

pub returns-in-Some : goal.returns-in-Some
unfolding dense_rules
returns-in-Some c =
    simp (
      le-leb _ _ c.if-self-gt-MAX_VARIABLES.false,
      le-leb _ _ c.if-self-gt-MAX_EQUATIONS.false,
      le-leb _ _ c.if-self-gt-MAX_ROW_WORDS.false,
      le-leb _ _ c.if-self.false,
      le-leb _ _ c.if-self-2.false,
      le-leb _ _ c.if-self-3.false,
    ) c.in-Some.ensures

pub returns-in-None : goal.returns-in-None
unfolding dense_rules
returns-in-None c =
    simp (
      le-leb _ _ c.if-self-gt-MAX_VARIABLES.false,
      le-leb _ _ c.if-self-gt-MAX_EQUATIONS.false,
      le-leb _ _ c.if-self-gt-MAX_ROW_WORDS.false,
      le-leb _ _ c.if-self.false,
      le-leb _ _ c.if-self-2.false,
      le-leb _ _ c.if-self-3.false,
    ) c.in-None.ensures
