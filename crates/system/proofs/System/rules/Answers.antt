-- Each return is the definition at the tests that led there.
use Rattle.std.proofs.Common.{sym, ◌∙◌, lt-ltb, le-ltb, arith}
use Rattle.system.specs.System.{system_rules}
use Rattle.system.proofs.Soundness.{sizes_sound, shape_starts}
use Rattle.system.proofs.System.rules.Goals as goal

pub returns-then-not-sizes_fit : goal.returns-then-not-sizes_fit
unfolding system_rules
returns-then-not-sizes_fit c = simp (sym c.sizes_fit.ensures ∙ c.if-not-sizes_fit.true)

pub shape_kept-requires : goal.shape_kept-requires
shape_kept-requires c =
    let s = c.args.self.now in
    (sizes_sound s.n s.m s.starts.now s.vars.now s.constants.now (sym c.sizes_fit.ensures ∙ c.if-not-sizes_fit.false)).1

pub returns-then-not-shape_kept : goal.returns-then-not-shape_kept
unfolding system_rules
returns-then-not-shape_kept c =
    simp (sym c.sizes_fit.ensures ∙ c.if-not-sizes_fit.false, sym c.shape_kept.ensures ∙ c.if-not-shape_kept.true)

pub lowest_bad-requires : goal.lowest_bad-requires
lowest_bad-requires c =
    let s = c.args.self.now in
    shape_starts s.n s.m s.starts.now s.vars.now s.constants.now (sym c.shape_kept.ensures ∙ c.if-not-shape_kept.false)

pub returns-in-Some : goal.returns-in-Some
unfolding system_rules
returns-in-Some c =
    let e = c.in-Some.ensures c.args.self.now.constants.now in
    simp (
      sym c.sizes_fit.ensures ∙ c.if-not-sizes_fit.false,
      sym c.shape_kept.ensures ∙ c.if-not-shape_kept.false,
      sym e.1,
      lt-ltb _ _ e.0,
    )

pub returns-in-None : goal.returns-in-None
unfolding system_rules
returns-in-None c =
    simp (
      sym c.sizes_fit.ensures ∙ c.if-not-sizes_fit.false,
      sym c.shape_kept.ensures ∙ c.if-not-shape_kept.false,
      c.in-None.ensures c.args.self.now.constants.now,
      le-ltb c.args.self.now.m c.args.self.now.m (omega arith),
    )
