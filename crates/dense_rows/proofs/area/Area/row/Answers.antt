use Rattle.dense_rows.proofs.area.Area.row.Goals as goal

pub row-requires : goal.row-requires
row-requires c = let v = c.view.ensures in rw v.same_m c.requires

pub returns : goal.returns
returns c = let v = c.view.ensures in rw (v.same_m, v.same_w, v.same_words) at c.row.ensures
