use Rattle.std.proofs.Common.{◌+◌, ◌-◌, rules, arith}
use Rattle.link_form.proofs.Reading.{reading_begin, reading_fits, reading_turn, reading_end}
use Rattle.link_form.proofs.bytes.read_number.Goals as goal

pub loop-k-init : goal.loop-k-init
loop-k-init c = search (rules, reading_begin)

pub overflow_mul-number : goal.overflow_mul-number
overflow_mul-number c = let h = reading_fits c.loop-k.invariant c.loop-k-test.true in search rules

pub overflow_add-number : goal.overflow_add-number
overflow_add-number c = let h = reading_fits c.loop-k.invariant c.loop-k-test.true in search rules

pub loop-k-preserved : goal.loop-k-preserved
loop-k-preserved c =
    rw c.from.ensures (reading_turn c.loop-k.invariant c.loop-k-test.true (omega (arith, c.type_inv.bytes (c.args.at + (c.loop-k.k - 1)))))

pub returns : goal.returns
returns c = let e = reading_end c.loop-k.invariant c.loop-k-test.false in record { value = e.0; upper_bound = e.1 }
