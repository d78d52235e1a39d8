use Rattle.std.proofs.Common.{sym, ◌∙◌, arith}
use Rattle.link_form.specs.Bytes.{power}
use Rattle.link_form.specs.File.{count}
use Rattle.link_form.proofs.Reading.{power_le}
use Rattle.link_form.proofs.Scanning.{counted}
use Rattle.link_form.proofs.rows.Rows.count.Goals as goal

pub number-requires : goal.number-requires
number-requires c =
    let s = c.args.self.now in
    let e = counted s.kind s.width s.rest.now c.in-Sparse.is in
    let n = s.narrow in
    (omega arith, omega arith)

pub returns-in-Sparse : goal.returns-in-Sparse
returns-in-Sparse c =
    let s = c.args.self.now in
    let e = counted s.kind s.width s.rest.now c.in-Sparse.is in
    let p = power_le s.width 4 s.narrow in
    record { value = c.number.ensures.value ∙ sym e.0; upper_bound = omega arith; passed = rw e.1 c.number.ensures.passed }

pub returns-in-Peel-clause-value : goal.returns-in-Peel-clause-value
unfolding count
returns-in-Peel-clause-value c = let h = c.in-Peel in rw h.is

pub returns-in-Peel-clause-upper_bound : goal.returns-in-Peel-clause-upper_bound
unfolding power
returns-in-Peel-clause-upper_bound c = omega arith
