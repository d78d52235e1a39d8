-- A search over the numbers of the rows.
use Rattle.std.proofs.Common.{◌≡◌, ◌+◌, ◌-◌, ◌*◌, true, false, take, drop, rules, tests}
use Rattle.std.proofs.lemmas.Iterator.{first_from_Range}
use Rattle.dense_rows.specs.Bits.{row_fits}
use Rattle.dense_rows.proofs.RowRules.{searched_rows}
use Rattle.dense_rows.proofs.system.DenseSystem.bad_row.Goals as goal

pub returns : goal.returns
returns c =
    let s = c.args.self.now in
    searched_rows s.n s.m s.w s.rows.now s.constants.now c.find.result
    (first_from_Range _ _ _ _ (λ i. row_fits s.n (take (i * s.w + s.w - i * s.w) (drop (i * s.w) s.rows.now)) ≡ false)
    (λ i. row_fits s.n (take (i * s.w + s.w - i * s.w) (drop (i * s.w) s.rows.now)) ≡ true) c.find.ensures.ran (λ x q k. search (rules, tests)) (λ x q k. search (rules, tests)))
