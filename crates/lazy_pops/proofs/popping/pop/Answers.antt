use Rattle.std.proofs.Common.{arith}
use Rattle.lazy_pops.proofs.EquationPop.{first_variable, variable_at, variable_after, variable_count}
use Rattle.lazy_pops.proofs.popping.pop.Goals as goal

pub pop_equation-requires : goal.pop_equation-requires
pop_equation-requires c = (c.requires, omega (arith, c.if-stand-ne0.true))

pub pop_variable-requires : goal.pop_variable-requires
pop_variable-requires c =
    let w = c.requires in let z = c.if-stand-ne0.false in let t = first_variable w.at z in
    record { n = c.args.layout.n; sys = w.sys; s = w.s; v = t.first; vs = t.rest; at = variable_at w.at z t.first t.rest t.is }

pub returns : goal.returns
returns c =
    let z = c.if-stand-ne0.false in
    record {
      after = λ sys s a. let t = first_variable a z in
          variable_after a z t.first t.rest t.is _ _ (c.pop_variable.ensures _ sys s t.first t.rest (variable_at a z t.first t.rest t.is));
      cancelled_value = λ sys s a. variable_count a z;
    }
