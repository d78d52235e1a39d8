use Rattle.std.proofs.Common.{◌∙◌, arith, rules}
use Rattle.link_form.specs.File.{row_bytes}
use Rattle.link_form.proofs.Scanning.{size_fits, row_rest}
use Rattle.link_form.proofs.rows.Rows.pass.Goals as goal

pub returns-then-self-count_bytes : goal.returns-then-self-count_bytes
unfolding row_bytes
returns-then-self-count_bytes c = let e = c.count_bytes.ensures in omega arith

pub overflow_mul-count : goal.overflow_mul-count
overflow_mul-count c =
    let s = c.count-count.new.self in
    let f = size_fits 0 c.count-count.result s.width (omega arith) s.narrow c.count-count.ensures.upper_bound in
    search rules

pub overflow_add-count : goal.overflow_add-count
overflow_add-count c =
    let s = c.count-count.new.self in
    let f = size_fits 0 c.count-count.result s.width (omega arith) s.narrow c.count-count.ensures.upper_bound in
    search rules

pub returns-in_err-rest : goal.returns-in_err-rest
returns-in_err-rest c =
    let h = c.in_err-rest.ensures in
    let k = c.count-count.ensures in
    let e = c.count_bytes.ensures in
    let p = row_rest c.args.self.now c.count-count.new.self c.count-count.result k.value (omega arith) k.passed in
    rw c.from_residual.ensures (omega (arith, h.cases))

pub returns : goal.returns
returns c =
    let h = c.in_ok-rest.ensures in
    let k = c.count-count.ensures in
    let e = c.count_bytes.ensures in
    let p = row_rest c.args.self.now c.count-count.new.self c.count-count.result k.value (omega arith) k.passed in
    record {
      there = omega arith;
      listed_is = k.value;
      passed = record { rest = h.cases.2 ∙ p.1; kind = k.passed.kind; width = k.passed.width };
    }
