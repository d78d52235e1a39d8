use Rattle.dense_rows.proofs.area.Area.has.Goals as goal

pub has-requires : goal.has-requires
has-requires c = let v = c.view.ensures in rw (v.same_m, v.same_w) c.requires

pub returns : goal.returns
returns c = let v = c.view.ensures in rw (v.same_m, v.same_w, v.same_words) at c.has.ensures
