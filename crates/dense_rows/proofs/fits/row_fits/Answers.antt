-- The row ends before the column's word; the words after it decide; the column's word has a bit there.
use Rattle.std.proofs.Common.{◌≡◌, sym, ap, ◌∙◌, ◌+◌, ◌≤◌, ◌/◌, ◌%◌, ◌^◌, length, rules, arith, tests, nat_eq}
use Rattle.std.specs.List.{list_all, between}
use Rattle.std.proofs.lemmas.Iterator.{YieldsList-from_slice}
use Rattle.std.proofs.lemmas.Iterator.Search.{all_from_yields_List}
use Rattle.std.proofs.lemmas.Slice.{between_to_end}
use Rattle.gf2.proofs.Tests.{eqb_ne}
use Rattle.dense_rows.specs.Bits.{empty_from}
use Rattle.dense_rows.proofs.Emptiness.{fits_short, fits_later, fits_not, all_zero}
use Rattle.dense_rows.proofs.fits.row_fits.Goals as goal

pub returns-in_default : goal.returns-in_default
returns-in_default c = let h : length c.args.row.now ≤ c.args.n / 64 = search (rules, tests) in sym (fits_short c.args.n c.args.row.now h)

pub returns-then-first-n-eq0 : goal.returns-then-first-n-eq0
returns-then-first-n-eq0 c =
    let row = c.args.row.now in
    let n = c.args.n in
    let found = c.in-Some.ensures.lookup.3 in
    let later = between (n / 64 + 1) (length row) row in
    let all : c.all.result ≡ list_all (λ word. nat_eq word 0) later = all_from_yields_List (λ word. nat_eq word 0) _ _ c.all.result c.all.ensures.ran (YieldsList-from_slice later cc) (λ x b q k. search (rules, tests)) in
    all ∙ all_zero later ∙ ap (empty_from 0) (between_to_end row (n / 64 + 1) (length row) (omega arith))
    ∙ sym (fits_later n row found.0 (ap (λ word. word / 2 ^ (n % 64)) (sym (found.1 0)) ∙ c.if-first-n-eq0.true))

pub returns-else-first-n-eq0 : goal.returns-else-first-n-eq0
returns-else-first-n-eq0 c =
    let n = c.args.n in
    let found = c.in-Some.ensures.lookup.3 in
    eqb_ne _ 0 c.if-first-n-eq0.false
    ∙ sym (fits_not n c.args.row.now found.0 (λ z. c.if-first-n-eq0.false (ap (λ word. word / 2 ^ (n % 64)) (found.1 0) ∙ z)))
