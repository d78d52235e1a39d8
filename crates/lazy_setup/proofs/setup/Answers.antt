use Rattle.lazy_setup.proofs.Setting.{fits_plain, words_made, stand_made}
use Rattle.lazy_setup.proofs.setup.Goals as goal

pub setup_numbers-first-requires : goal.setup_numbers-first-requires
setup_numbers-first-requires c = (fits_plain c.requires.0, c.requires.1)

pub returns-clause-value : goal.returns-clause-value
returns-clause-value c = stand_made c.requires.0 _ (c.setup_numbers-first.ensures.value _ c.requires.0)

pub returns-clause-numbers_after : goal.returns-clause-numbers_after
returns-clause-numbers_after c = c.setup_numbers-first.ensures.numbers_after _ c.requires.0

pub returns-clause-words_after : goal.returns-clause-words_after
returns-clause-words_after c = words_made c.requires.0 _ c.args.words.now _ _ c.lazy_words.ensures c.fill.ensures c.copy.ensures
