-- Each step shows the area as a picture of fourteen segments; the next asks of it what it reads.
use Rattle.lazy_setup.proofs.Steps.{zero_shows, load_ready, load_shows, weigh_ready, weigh_shows, fill_ready, fill_shows, sort_ready, sort_shows, first_ready, first_shows, first_many, made_numbers}
use Rattle.lazy_setup.proofs.setup_numbers.Goals as goal

pub load-requires : goal.load-requires
load-requires c =
    let g = c.requires.0 in let at = c.of-at.result in let same = c.of-at.ensures in
    let a = zero_shows c.args.system.now.n c.args.system.now.m _ _ c.args.numbers.now _ c.requires.1 c.lazy_numbers.ensures c.fill.ensures in
    let r = load_ready g at same a in
    record { fits = r.0; numbers_value = r.1 }

pub weigh-requires : goal.weigh-requires
weigh-requires c =
    let g = c.requires.0 in let at = c.of-at.result in let same = c.of-at.ensures in
    let a = zero_shows c.args.system.now.n c.args.system.now.m _ _ c.args.numbers.now _ c.requires.1 c.lazy_numbers.ensures c.fill.ensures in
    let b = load_shows g at same a (c.load.ensures _) in
    let r = weigh_ready g at same b in
    record { n_le_max_variables = r.0; numbers_value = r.1 }

pub fill_lists-requires : goal.fill_lists-requires
fill_lists-requires c =
    let g = c.requires.0 in let at = c.of-at.result in let same = c.of-at.ensures in
    let a = zero_shows c.args.system.now.n c.args.system.now.m _ _ c.args.numbers.now _ c.requires.1 c.lazy_numbers.ensures c.fill.ensures in
    let b = load_shows g at same a (c.load.ensures _) in
    let e = weigh_shows g at same b c.weigh.ensures in
    let r = fill_ready g at same e in
    record { fits = r.0; numbers_value = r.1 }

pub sort_variables-requires : goal.sort_variables-requires
sort_variables-requires c =
    let g = c.requires.0 in let at = c.of-at.result in let same = c.of-at.ensures in
    let a = zero_shows c.args.system.now.n c.args.system.now.m _ _ c.args.numbers.now _ c.requires.1 c.lazy_numbers.ensures c.fill.ensures in
    let b = load_shows g at same a (c.load.ensures _) in
    let e = weigh_shows g at same b c.weigh.ensures in
    let f = fill_shows g at same e (c.fill_lists.ensures _ g) in
    let r = sort_ready g at same f in
    record { n_le_max_variables = r.0; numbers_value = r.1 }

pub first_list-requires : goal.first_list-requires
first_list-requires c =
    let g = c.requires.0 in let at = c.of-at.result in let same = c.of-at.ensures in
    let a = zero_shows c.args.system.now.n c.args.system.now.m _ _ c.args.numbers.now _ c.requires.1 c.lazy_numbers.ensures c.fill.ensures in
    let b = load_shows g at same a (c.load.ensures _) in
    let e = weigh_shows g at same b c.weigh.ensures in
    let f = fill_shows g at same e (c.fill_lists.ensures _ g) in
    let h = sort_shows g at same f c.sort_variables.ensures in
    first_ready g at same h

pub returns-clause-value : goal.returns-clause-value
returns-clause-value c = λ constants g.
    let at = c.of-at.result in let same = c.of-at.ensures in
    let a = zero_shows c.args.system.now.n c.args.system.now.m _ _ c.args.numbers.now _ c.requires.1 c.lazy_numbers.ensures c.fill.ensures in
    let b = load_shows g at same a (c.load.ensures constants) in
    let e = weigh_shows g at same b c.weigh.ensures in
    let f = fill_shows g at same e (c.fill_lists.ensures constants g) in
    let h = sort_shows g at same f c.sort_variables.ensures in
    first_many g at same h c.first_list.ensures.value

pub returns-clause-numbers_after : goal.returns-clause-numbers_after
returns-clause-numbers_after c = λ constants g.
    let at = c.of-at.result in let same = c.of-at.ensures in
    let a = zero_shows c.args.system.now.n c.args.system.now.m _ _ c.args.numbers.now _ c.requires.1 c.lazy_numbers.ensures c.fill.ensures in
    let b = load_shows g at same a (c.load.ensures constants) in
    let e = weigh_shows g at same b c.weigh.ensures in
    let f = fill_shows g at same e (c.fill_lists.ensures constants g) in
    let h = sort_shows g at same f c.sort_variables.ensures in
    let i = first_shows g at same h c.first_list.ensures.numbers_after in
    made_numbers g at same i
