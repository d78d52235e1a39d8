-- The product is bounded by the largest sizes, so every sum fits.
use borrow.Author.Rules.{rules}
use Rattle.answers.proofs.Rooms.{cells_fit}
use Rattle.answers.proofs.sizes.sparse_numbers.Statement.{statement}
use Rattle.answers.proofs.sizes.sparse_numbers.Tie as tie

pub sparse_numbers_spec : {M : Type 1} → statement M
sparse_numbers_spec =
    tie.close
    (tie.spec
    (λ c. let h = cells_fit c.args.n c.args.m c.requires.0 c.requires.1 in search rules)  -- overflow_mul-result
    (λ c. let h = cells_fit c.args.n c.args.m c.requires.0 c.requires.1 in search rules)  -- overflow_add-result
    (λ c. let h = cells_fit c.args.n c.args.m c.requires.0 c.requires.1 in search rules)  -- overflow_add-result-2
    (λ c. search rules))
