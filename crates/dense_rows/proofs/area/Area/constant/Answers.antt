use Rattle.dense_rows.proofs.area.Area.constant.Goals as goal

pub constant-requires : goal.constant-requires
constant-requires c = let v = c.view.ensures in rw v.same_m c.requires

pub returns : goal.returns
returns c = let v = c.view.ensures in rw (v.same_m, v.same_w, v.same_words) at c.constant.ensures
