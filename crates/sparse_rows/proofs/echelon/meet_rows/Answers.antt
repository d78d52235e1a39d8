-- A row without variables is refused or passed over; else the sum, which is refused, ends the round, or is to meet row j again.
use Rattle.sparse_rows.proofs.Forward.{meet_clash, meet_skip, sum_clash, sum_identity, sum_again}
use Rattle.sparse_rows.proofs.Ahead.{blank_cost, sum_cost}
use Rattle.sparse_rows.proofs.echelon.meet_rows.Goals as goal

pub returns-then-words-j-ne0 : goal.returns-then-words-j-ne0
returns-then-words-j-ne0 c =
    let z = c.if-numbers-m-eq0.true in
    record {
      meets_rows = meet_clash c.requires.0 _ _ c.requires.1 c.requires.2 z c.if-words-j-ne0.true;
      fallen_value = blank_cost c.requires.0 _ _ c.requires.1 c.requires.2 _ z;
    }

pub returns-then-numbers-m-eq0 : goal.returns-then-numbers-m-eq0
returns-then-numbers-m-eq0 c =
    let z = c.if-numbers-m-eq0.true in
    record {
      meets_rows = meet_skip c.requires.0 _ _ c.requires.1 c.requires.2 c.requires.4.filled z c.if-words-j-ne0.false;
      fallen_value = blank_cost c.requires.0 _ _ c.requires.1 c.requires.2 _ z;
    }

pub returns-then-words-i-ne0 : goal.returns-then-words-i-ne0
returns-then-words-i-ne0 c =
    let f = c.if-numbers-m-eq0.false in
    let a = c.requires.4 in
    let b = c.add_rows-with_sum.ensures in
    record {
      meets_rows = sum_clash c.requires.0 _ _ c.requires.1 c.requires.2 f a.filled (a.same f) b.became c.if-numbers-m-eq0-2.true c.if-words-i-ne0.true;
      fallen_value = sum_cost c.requires.0 _ _ c.requires.1 c.requires.2 a.filled _ f (a.same f) b.value;
    }

pub returns-then-numbers-m-eq0-2 : goal.returns-then-numbers-m-eq0-2
returns-then-numbers-m-eq0-2 c =
    let f = c.if-numbers-m-eq0.false in
    let a = c.requires.4 in
    let b = c.add_rows-with_sum.ensures in
    record {
      meets_rows = sum_identity c.requires.0 _ _ c.requires.1 c.requires.2 f a.filled (a.same f) b.became c.if-numbers-m-eq0-2.true c.if-words-i-ne0.false;
      fallen_value = sum_cost c.requires.0 _ _ c.requires.1 c.requires.2 a.filled _ f (a.same f) b.value;
    }

pub returns : goal.returns
returns c =
    let f = c.if-numbers-m-eq0.false in
    let a = c.requires.4 in
    let b = c.add_rows-with_sum.ensures in
    record {
      meets_rows = sum_again c.requires.0 _ _ c.requires.1 c.requires.2 f a.filled (a.same f) b.became c.if-numbers-m-eq0-2.false;
      fallen_value = sum_cost c.requires.0 _ _ c.requires.1 c.requires.2 a.filled _ f (a.same f) b.value;
    }
