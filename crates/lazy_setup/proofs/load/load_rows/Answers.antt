use Rattle.std.proofs.Common.{ap, replicate, ◌∙◌}
use Rattle.areas.specs.Rows.{laid}
use Rattle.areas.specs.Stretch.{put}
use Rattle.system.proofs.Reading.{variables_any}
use Rattle.lazy_setup.proofs.Loading.{loading_begin, loading_fits, loading_turn, loading_end}
use Rattle.lazy_setup.proofs.Picture.{rows_any}
use Rattle.lazy_setup.proofs.load.load_rows.Goals as goal

pub loop-i-init : goal.loop-i-init
loop-i-init c = loading_begin _ _ _ _ _ _ c.requires.0 c.requires.1 c.requires.2

pub copy-requires : goal.copy-requires
copy-requires c =
    let s = c.args.system.now in
    let e = c.variables.ensures ∙ variables_any s.starts.now s.vars.now s.constants.now (replicate s.m 0) c.loop-i.i in
    rw e (loading_fits c.loop-i.invariant c.loop-i-test.true)

pub loop-i-preserved : goal.loop-i-preserved
loop-i-preserved c =
    let s = c.args.system.now in
    let e = c.variables.ensures ∙ variables_any s.starts.now s.vars.now s.constants.now (replicate s.m 0) c.loop-i.i in
    loading_turn c.loop-i.invariant c.loop-i-test.true _ (rw e at c.copy.ensures)

pub returns : goal.returns
returns c = λ constants.
    let s = c.args.system.now in
    loading_end c.loop-i.invariant c.loop-i-test.false ∙ ap (λ rows. put 0 (laid s.n rows) c.args.numbers.now) (rows_any s.m 0 s.starts.now s.vars.now (replicate s.m 0) constants)
