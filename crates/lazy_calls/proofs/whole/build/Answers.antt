use Rattle.std.proofs.Common.{ap, ◌∙◌, ℕ, refl, replicate}
use Rattle.lazy_setup.proofs.Offsets.{at_m}
use Rattle.lazy_calls.proofs.Closing.{words_zero}
use Rattle.lazy_calls.proofs.Opening.{open_at, built, built_count}
use Rattle.lazy_calls.proofs.whole.build.Goals as goal

pub run_units-end-requires : goal.run_units-end-requires
run_units-end-requires c =
    let p = c.requires in let e = c.setup-stand.ensures in
    (record { sys = _; s = _; at = open_at p.0 _ _ _ _ _ p.1 p.2 p.3 e.value e.numbers_after e.words_after c.of-layout.ensures }, rw (at_m _ _ _ _ c.of-layout.ensures) p.0.few_equations)

pub sweep-requires : goal.sweep-requires
sweep-requires c =
    let p = c.requires in let e = c.setup-stand.ensures in
    (c.run_units-end.ensures.ran _ _ (open_at p.0 _ _ _ _ _ p.1 p.2 p.3 e.value e.numbers_after e.words_after c.of-layout.ensures)).0

pub returns-clause-answers : goal.returns-clause-answers
returns-clause-answers c =
    let p = c.requires in let e = c.setup-stand.ensures in
    built p.0 _ _ _ c.of-layout.ensures (open_at p.0 _ _ _ _ _ p.1 p.2 p.3 e.value e.numbers_after e.words_after c.of-layout.ensures) c.run_units-end.ensures.ran

pub returns-clause-numbers_after : goal.returns-clause-numbers_after
returns-clause-numbers_after c = c.sweep.ensures ∙ ap (λ (k : ℕ). replicate k 0) (c.run_units-end.auto.numbers ∙ c.setup-stand.auto.numbers)

pub returns-clause-words_after : goal.returns-clause-words_after
returns-clause-words_after c =
    words_zero _ _ c.run_units-end.new.words _ c.fill.ensures refl (c.run_units-end.auto.words ∙ c.setup-stand.auto.words)

pub returns-clause-cancelled_value : goal.returns-clause-cancelled_value
returns-clause-cancelled_value c =
    let p = c.requires in let e = c.setup-stand.ensures in
    built_count p.0 c.of-layout.ensures (open_at p.0 _ _ _ _ _ p.1 p.2 p.3 e.value e.numbers_after e.words_after c.of-layout.ensures) c.run_units-end.ensures.ran_count
