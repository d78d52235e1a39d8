use Rattle.dense_rows.proofs.area.Area.find_pivot.Goals as goal

pub find_pivot-requires : goal.find_pivot-requires
find_pivot-requires c = let v = c.view.ensures in rw (v.same_m, v.same_w) c.requires

pub returns : goal.returns
returns c = let v = c.view.ensures in rw (v.same_m, v.same_w, v.same_words) at c.find_pivot.ensures
