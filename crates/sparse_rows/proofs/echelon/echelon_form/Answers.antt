use Rattle.std.proofs.Common.{◌+◌, ◌<◌, arith, refl, sym, ◌∙◌}
use Rattle.gf2.proofs.Tally.{tally_begin, tally_turn, tally_same, tally_last, tally_over, tally_fits}
use Rattle.sparse_rows.proofs.Rounds.{reducing_begin, reducing_held, reducing_stop, reducing_turn, reducing_end}
use Rattle.sparse_rows.proofs.Ahead.{form_whole, form_room, form_least, form_stop, form_turn, form_over}
use Rattle.sparse_rows.proofs.Solving.{error_refused, no_error_reduced}
use Rattle.sparse_rows.proofs.echelon.echelon_form.Goals as goal

pub loop-i-init : goal.loop-i-init
loop-i-init c =
    record {
      reducing = reducing_begin c.requires.0 c.requires.1;
      counted = tally_same tally_begin (form_whole c.requires.0 c.requires.1);
    }

pub outer_row-row-requires : goal.outer_row-row-requires
outer_row-row-requires c = (reducing_held c.loop-i.invariant.reducing, omega (arith, c.loop-i-test.true), c.requires.1, c.requires.2)

pub overflow_add-cancelled : goal.overflow_add-cancelled
overflow_add-cancelled c =
    let v = c.loop-i.invariant in
    let t : c.loop-i.i + 1 < c.args.d = omega arith in
    let f =
    tally_fits v.counted c.outer_row-row.ensures.cancelled_value (form_least (reducing_held v.reducing) c.requires.1 _ t) refl
    (form_room c.requires.0 c.requires.1 c.requires.2 c.requires.3) in
    record { fits = omega arith }

pub returns-then-is_err : goal.returns-then-is_err
returns-then-is_err c =
    let v = c.loop-i.invariant in
    let t : c.loop-i.i + 1 < c.args.d = omega arith in
    let o = c.outer_row-row.ensures in
    let e = error_refused _ (sym c.is_err.ensures.value ∙ c.if-is_err.true) in
    record {
      reduces = rw e (reducing_stop v.reducing t o.reduces e);
      cancelled_value = tally_last v.counted o.cancelled_value (form_stop (reducing_held v.reducing) v.reducing.d_in _ t o.reduces e) refl;
    }

pub loop-i-preserved : goal.loop-i-preserved
loop-i-preserved c =
    let v = c.loop-i.invariant in
    let t : c.loop-i.i + 1 < c.args.d = omega arith in
    let o = c.outer_row-row.ensures in
    let e = no_error_reduced _ (sym c.is_err.ensures.value ∙ c.if-is_err.false) in
    record {
      reducing = reducing_turn v.reducing t o.reduces e;
      counted = tally_turn v.counted o.cancelled_value (form_turn (reducing_held v.reducing) v.reducing.d_in _ t o.reduces e);
    }

pub returns : goal.returns
returns c =
    let v = c.loop-i.invariant in
    record {
      reduces = reducing_end v.reducing (omega arith);
      cancelled_value = tally_over v.counted (form_over _ _ _ _ _ _ (omega arith)) refl;
    }
