use Rattle.std.proofs.Common.{rules, arith, sym, ◌≡◌, ◌≤◌, ◌∙◌, length, map, Some}
use Rattle.std.proofs.lemmas.List.{length-map, map-set}
use Rattle.link_form.proofs.Reading.{power_le}
use Rattle.replay_cases.specs.Lists.{head_at}
use Rattle.replay_cases.proofs.ListLoading.{head_fits, loading_begin, loading_room, loading_turn, loading_end, ends_loaded}
use Rattle.replay_cases.proofs.lists.Lists.load.Goals as goal

pub loop-i-init : goal.loop-i-init
loop-i-init g c =
    let s = c.args.self.now in
    let h = c.in_ok-head.head in
    let room : h.count ≤ length (map g.T.Listed.value c.args.out.now) = rw length-map c.if-out-head.false in
    let e : Some h ≡ head_at s.at s.bytes.now = c.in_ok-head.ensures in
    loading_begin s.bytes.now (map g.T.Listed.value c.args.out.now) h (head_fits s.at s.bytes.now h (sym e)) room

pub read_number-requires : goal.read_number-requires
read_number-requires g c = (loading_room c.loop-i.invariant c.loop-i-test.true, c.loop-i.invariant.narrow)

pub listed-requires : goal.listed-requires
listed-requires g c =
    let w : c.in_ok-head.head.width ≤ g.T.Listed.BYTES = omega arith in
    let p = power_le c.in_ok-head.head.width g.T.Listed.BYTES w in
    omega (arith, c.read_number.ensures.upper_bound)

pub overflow_add-at : goal.overflow_add-at
overflow_add-at g c = let r = loading_room c.loop-i.invariant c.loop-i-test.true in search rules

pub loop-i-preserved : goal.loop-i-preserved
loop-i-preserved g c =
    rw map-set (loading_turn c.loop-i.invariant c.loop-i-test.true (c.listed.ensures ∙ c.read_number.ensures.value))

pub returns-clause-loads : goal.returns-clause-loads
returns-clause-loads g c =
    let s = c.args.self.now in
    let h = c.in_ok-head.head in
    let l = c.loop-i.invariant in
    let e : Some h ≡ head_at s.at s.bytes.now = c.in_ok-head.ensures in
    let narrow : h.width ≤ g.T.Listed.BYTES = omega arith in
    ends_loaded g.T.Listed.BYTES s.at h s.bytes.now (map g.T.Listed.value c.args.out.now) (map g.T.Listed.value c.loop-i.out) c.loop-i.at
    (sym e) l.space narrow (loading_end l c.loop-i-test.false)
