use Rattle.std.proofs.Common.{sym, arith, rules}
use Rattle.link_file.proofs.Texts.{short_call, long_call}
use Rattle.link_file.proofs.link_file.Goals as goal

pub returns-then-out-lt-MOST_TEXT-clause-value : goal.returns-then-out-lt-MOST_TEXT-clause-value
returns-then-out-lt-MOST_TEXT-clause-value c = (short_call c.args.bytes.now c.args.out.now (omega (arith, c.if-out-lt-MOST_TEXT.true))).0

pub returns-then-out-lt-MOST_TEXT-clause-out_after : goal.returns-then-out-lt-MOST_TEXT-clause-out_after
returns-then-out-lt-MOST_TEXT-clause-out_after c = (short_call c.args.bytes.now c.args.out.now (omega (arith, c.if-out-lt-MOST_TEXT.true))).1

pub returns-clause-value : goal.returns-clause-value
returns-clause-value c =
    let w = c.write_text.ensures in
    (long_call c.args.bytes.now c.args.out.now _ c.write_text.new.text.end (omega (arith, c.if-out-lt-MOST_TEXT.false)) (omega (arith, w.end)) w.out).0

-- the lent bytes end as the text left them
pub returns-clause-out_after : goal.returns-clause-out_after
returns-clause-out_after c =
    let w = c.write_text.ensures in
    let e = (long_call c.args.bytes.now c.args.out.now _ c.write_text.new.text.end (omega (arith, c.if-out-lt-MOST_TEXT.false)) (omega (arith, w.end)) w.out).1 in
    let s = sym w.same in
    rw (← e) (search rules)
