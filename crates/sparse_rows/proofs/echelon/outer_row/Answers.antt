use Rattle.std.proofs.Common.{arith, ◌∙◌}
use Rattle.rows.proofs.Holding.{held}
use Rattle.sparse_rows.proofs.Rounds.{stands_turn, stands_again, stands_filled, passes_none, passes_turn, again_onward, passes_again, round_wrong, round_blank, round_begin, round_passed, round_clash, round_identity, round_end}
use Rattle.sparse_rows.proofs.Fallen.{fallen_begin, fallen_turn, fallen_same, fallen_last, fallen_over, fallen_most}
use Rattle.sparse_rows.proofs.Ahead.{round_none, round_room, round_whole, ahead_clash, ahead_identity, ahead_turn, ahead_again, ahead_over}
use Rattle.sparse_rows.proofs.echelon.outer_row.Goals as goal

pub returns-then-words-i-ne0 : goal.returns-then-words-i-ne0
returns-then-words-i-ne0 c =
    record {
      reduces = round_wrong c.requires.0 c.requires.1 c.requires.2 c.if-numbers-m-eq0.true c.if-words-i-ne0.true;
      cancelled_value = round_none c.requires.0 c.requires.1 c.requires.2 c.if-numbers-m-eq0.true;
    }

pub returns-then-numbers-m-eq0 : goal.returns-then-numbers-m-eq0
returns-then-numbers-m-eq0 c =
    record {
      reduces = round_blank c.requires.0 c.requires.1 c.requires.2 c.if-numbers-m-eq0.true c.if-words-i-ne0.false;
      cancelled_value = round_none c.requires.0 c.requires.1 c.requires.2 c.if-numbers-m-eq0.true;
    }

pub loop-j-init : goal.loop-j-init
loop-j-init c = let p = c.pass_rows-j.ensures.passes in record { passes = passes_none p.stands p.alike; fallen = fallen_begin }

pub meet_rows-e-requires : goal.meet_rows-e-requires
meet_rows-e-requires c =
    let p = c.loop-j.invariant.passes in
    let k = round_room c.requires.0 c.requires.1 c.requires.2 c.if-numbers-m-eq0.false in
    let f = fallen_most c.loop-j.invariant.fallen c.pass_rows-j.ensures.result_after k in
    (held p.stands.drawn, p.stands.i_below, omega (arith, c.loop-j-test.true, c.requires.2), c.requires.3, p.alike c.loop-j-test.true, omega (arith, c.requires.0.numbers_room))

pub returns-in-Clash : goal.returns-in-Clash
returns-in-Clash c =
    let v = c.loop-j.invariant in
    let r = round_passed (round_passed (round_begin c.requires.0 c.requires.1 c.requires.2 c.if-numbers-m-eq0.false) c.pass_rows-j.ensures.passes) v.passes in
    record {
      reduces = round_clash r c.loop-j-test.true c.meet_rows-e.ensures.meets_rows c.in-Clash.is;
      cancelled_value =
          fallen_last v.fallen _ c.meet_rows-e.ensures.fallen_value
          (ahead_clash (held v.passes.stands.drawn) v.passes.stands.i_below c.loop-j-test.true c.requires.2 c.meet_rows-e.ensures.meets_rows c.in-Clash.is)
          (c.pass_rows-j.ensures.result_after ∙ round_whole c.requires.0 c.requires.1 c.requires.2 c.if-numbers-m-eq0.false);
    }

pub returns-in-Identity : goal.returns-in-Identity
returns-in-Identity c =
    let v = c.loop-j.invariant in
    let r = round_passed (round_passed (round_begin c.requires.0 c.requires.1 c.requires.2 c.if-numbers-m-eq0.false) c.pass_rows-j.ensures.passes) v.passes in
    record {
      reduces = round_identity r c.loop-j-test.true c.meet_rows-e.ensures.meets_rows c.in-Identity.is;
      cancelled_value =
          fallen_last v.fallen _ c.meet_rows-e.ensures.fallen_value
          (ahead_identity (held v.passes.stands.drawn) v.passes.stands.i_below c.loop-j-test.true c.requires.2 c.meet_rows-e.ensures.meets_rows c.in-Identity.is)
          (c.pass_rows-j.ensures.result_after ∙ round_whole c.requires.0 c.requires.1 c.requires.2 c.if-numbers-m-eq0.false);
    }

pub pass_rows-j-requires-in-Both : goal.pass_rows-j-requires-in-Both
pass_rows-j-requires-in-Both c =
    let v = c.loop-j.invariant in
    let t = stands_turn v.passes.stands c.loop-j-test.true c.meet_rows-e.ensures.meets_rows c.in-Both.is in
    (held t.drawn, t.i_below, t.j_in, t.d_in, stands_filled t)

pub loop-j-preserved-in-Both : goal.loop-j-preserved-in-Both
loop-j-preserved-in-Both c =
    let v = c.loop-j.invariant in
    let h = held v.passes.stands.drawn in
    record {
      passes = passes_turn v.passes c.loop-j-test.true c.meet_rows-e.ensures.meets_rows c.in-Both.is c.pass_rows-j-in-Both.ensures.passes;
      fallen =
          fallen_same
          (fallen_turn v.fallen _ c.meet_rows-e.ensures.fallen_value (ahead_turn h v.passes.stands.i_below c.loop-j-test.true v.passes.stands.d_in c.meet_rows-e.ensures.meets_rows c.in-Both.is))
          c.pass_rows-j-in-Both.ensures.result_after;
    }

pub pass_rows-j-requires-in-Summed : goal.pass_rows-j-requires-in-Summed
pass_rows-j-requires-in-Summed c =
    let v = c.loop-j.invariant in
    let t = stands_again v.passes.stands c.loop-j-test.true c.meet_rows-e.ensures.meets_rows c.in-Summed.is in
    (held t.drawn, t.i_below, t.j_in, t.d_in, stands_filled t)

pub loop-j-smaller : goal.loop-j-smaller
loop-j-smaller c =
    let v = c.loop-j.invariant in
    let f = again_onward v.passes c.loop-j-test.true c.meet_rows-e.ensures.meets_rows c.in-Summed.is c.pass_rows-j-in-Summed.ensures.passes in
    omega arith

pub loop-j-preserved : goal.loop-j-preserved
loop-j-preserved c =
    let v = c.loop-j.invariant in
    let h = held v.passes.stands.drawn in
    record {
      passes = passes_again v.passes c.loop-j-test.true c.meet_rows-e.ensures.meets_rows c.in-Summed.is c.pass_rows-j-in-Summed.ensures.passes;
      fallen =
          fallen_same
          (fallen_turn v.fallen _ c.meet_rows-e.ensures.fallen_value (ahead_again h v.passes.stands.i_below c.loop-j-test.true v.passes.stands.d_in c.meet_rows-e.ensures.meets_rows c.in-Summed.is))
          c.pass_rows-j-in-Summed.ensures.result_after;
    }

pub returns : goal.returns
returns c =
    let v = c.loop-j.invariant in
    let r = round_passed (round_passed (round_begin c.requires.0 c.requires.1 c.requires.2 c.if-numbers-m-eq0.false) c.pass_rows-j.ensures.passes) v.passes in
    record {
      reduces = round_end r c.loop-j-test.false;
      cancelled_value =
          fallen_over v.fallen (ahead_over _ _ _ _ _ _ _ c.loop-j-test.false)
          (c.pass_rows-j.ensures.result_after ∙ round_whole c.requires.0 c.requires.1 c.requires.2 c.if-numbers-m-eq0.false);
    }
