-- The product is bounded by the largest sizes, so every sum fits.
use borrow.Author.Rules.{rules}
use Rattle.answers.proofs.Rooms.{row_words_fit}
use Rattle.answers.proofs.sizes.dense_words.Statement.{statement}
use Rattle.answers.proofs.sizes.dense_words.Tie as tie

pub dense_words_spec : {M : Type 1} → statement M
dense_words_spec =
    tie.close
    (tie.spec
    (λ c. let h = row_words_fit c.args.m c.args.w c.requires.0 c.requires.1 in search rules)  -- overflow_mul-result
    (λ c. let h = row_words_fit c.args.m c.args.w c.requires.0 c.requires.1 in search rules)  -- overflow_add-result
    (λ c. search rules))
