-- The calls one after the other: what the laws of the run and of the engine say of them.
use Rattle.std.proofs.Common.{◌≡◌, refl, sym, ap, subst, ◌∙◌, length, take, drop, arith}
use lib.Seq.{length-take-le}
use Rattle.gf2.specs.Result.{ok}
use Rattle.dense_rows.specs.Areas.{rows_in}
use Rattle.dense_rows.specs.Rules.{rows_lent}
use Rattle.dense_rows.proofs.Holding.{seen_rows}
use Rattle.dense_rows.proofs.Lending.{dense_kept_sound}
use Rattle.dense_walk.specs.Eliminate.{residue}
use Rattle.dense.proofs.Running.{rows_fit, w_is, run_reduced, run_numbers, run_words, tells_refused, tells_solved, zeroed_all, zeroed_length}
use Rattle.dense.proofs.run.run.Goals as goal

pub load-requires : goal.load-requires
load-requires g c =
    let s = c.args.system.now in
    let lent = dense_kept_sound s.n s.m s.w s.rows.now s.constants.now c.requires.0 in
    (lent.rows_there, lent.constants_there, c.requires.3, c.requires.4)

pub reduce-rank-requires : goal.reduce-rank-requires
reduce-rank-requires g c =
    let s = c.args.system.now in
    let lent = dense_kept_sound s.n s.m s.w s.rows.now s.constants.now c.requires.0 in
    let l = c.load.ensures.same in
    (lent.few_variables, omega (arith, lent.columns_there, l, c.requires), omega (arith, l, c.requires))

pub constant_left-requires : goal.constant_left-requires
constant_left-requires g c =
    let e = c.reduce-rank.ensures in
    omega (arith, e.reduced, e.same, c.view.ensures)

pub returns-then-constant_left-clause-told : goal.returns-then-constant_left-clause-told
returns-then-constant_left-clause-told g c =
    let s = c.args.system.now in
    let l = c.load.ensures in
    let e = c.reduce-rank.ensures in
    tells_refused g.E.Engine.elimination s c.args.solution.now c.args.numbers.now c.args.area.now.words.now _
    (c.clear_room.ensures.numbers_after ∙ run_numbers s c.requires.3 c.requires.4 l e.same e.reduced)
    (c.clear_room.ensures.words_after ∙ run_words s c.requires.3 c.requires.4 l e.same e.reduced)
    (g.met.E.Engine.refuses s.n (rows_lent s) _ _ _ (run_reduced s c.requires.3 c.requires.4 l e.same e.reduced) (sym (c.constant_left.ensures ∙ ap (λ rows. residue (drop c.reduce-rank.result rows)) (seen_rows c.view.ensures)) ∙ c.if-constant_left.true))
    refl

pub read-requires : goal.read-requires
read-requires g c =
    let s = c.args.system.now in
    let l = c.load.ensures in
    let e = c.reduce-rank.ensures in
    let lent = dense_kept_sound s.n s.m s.w s.rows.now s.constants.now c.requires.0 in
    let ranked = e.reduced.ranked in
    let count : length (take c.reduce-rank.result c.reduce-rank.new.numbers) ≡ c.reduce-rank.result =
    length-take-le c.reduce-rank.result c.reduce-rank.new.numbers (omega (arith, e.reduced, e.same, l.same, c.requires)) in
    let w = w_is s c.requires.3 c.requires.4 l e.same e.reduced in
    let pivots = take c.reduce-rank.result c.reduce-rank.new.numbers in
    let tops = take c.reduce-rank.result (rows_in c.reduce-rank.new.area) in
    let ready = g.met.E.Engine.readable s.n s.w (rows_lent s) _ _ _ lent.columns_there (rows_fit s c.requires.0) (run_reduced s c.requires.3 c.requires.4 l e.same e.reduced) in
    rw (count, zeroed_length s.n _ _ c.requires.1 c.fill.ensures)
    (omega (arith, e.reduced, e.same), omega (arith, w, lent.few_words), subst (λ k. g.E.Engine.Readable s.n k pivots tops) (sym w) ready)

pub returns-clause-told : goal.returns-clause-told
returns-clause-told g c =
    let s = c.args.system.now in
    let l = c.load.ensures in
    let e = c.reduce-rank.ensures in
    let count : length (take c.reduce-rank.result c.reduce-rank.new.numbers) ≡ c.reduce-rank.result =
    length-take-le c.reduce-rank.result c.reduce-rank.new.numbers (omega (arith, e.reduced, e.same, l.same, c.requires)) in
    let values = rw (count, zeroed_length s.n _ _ c.requires.1 c.fill.ensures, zeroed_all s.n _ _ c.requires.1 c.fill.ensures) at c.read.ensures in
    tells_solved g.E.Engine.elimination s c.args.solution.now c.args.numbers.now c.args.area.now.words.now _
    (c.clear_room-2.ensures.numbers_after ∙ run_numbers s c.requires.3 c.requires.4 l e.same e.reduced)
    (c.clear_room-2.ensures.words_after ∙ run_words s c.requires.3 c.requires.4 l e.same e.reduced)
    (g.met.E.Engine.solves s.n (rows_lent s) _ _ _ (run_reduced s c.requires.3 c.requires.4 l e.same e.reduced) (sym (c.constant_left.ensures ∙ ap (λ rows. residue (drop c.reduce-rank.result rows)) (seen_rows c.view.ensures)) ∙ c.if-constant_left.false) ∙ ap ok (sym values))
