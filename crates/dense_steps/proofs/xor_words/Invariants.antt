use Rattle.dense_steps.proofs.Xoring.{Xoring}
use Rattle.dense_steps.proofs.xor_words.Given as goal

abbrev pub invariant-loop-k : goal.invariant-loop-k
invariant-loop-k l = Xoring l.initial.words l.from l.to l.n l.k l.words
