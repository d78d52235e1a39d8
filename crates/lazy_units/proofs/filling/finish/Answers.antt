use Rattle.std.proofs.Common.{ap, arith, ◌∙◌}
use Rattle.std.proofs.lemmas.Result.{err_from_is_err_and}
use Rattle.sparse_rows.specs.Reduction.{reduction_of}
use Rattle.lazy_units.proofs.LastUnit.{last_cells, finish_refused, finish_solved, fill_at}
use Rattle.lazy_units.proofs.filling.finish.Goals as goal

pub offset_bounds-numbers-dense : goal.offset_bounds-numbers-dense
offset_bounds-numbers-dense c = let b = last_cells c.requires.at in omega (arith, b.place, b.word_place)

pub slice_bounds-finish_rows-count : goal.slice_bounds-finish_rows-count
slice_bounds-finish_rows-count c = let b = last_cells c.requires.at in omega (arith, b.place, b.word_place)

pub slice_bounds-finish_rows-start : goal.slice_bounds-finish_rows-start
slice_bounds-finish_rows-start c = let b = last_cells c.requires.at in omega (arith, b.place, b.word_place)

pub slice_bounds-finish_rows-end : goal.slice_bounds-finish_rows-end
slice_bounds-finish_rows-end c = let b = last_cells c.requires.at in omega (arith, b.place, b.word_place)

pub offset_bounds-words-m : goal.offset_bounds-words-m
offset_bounds-words-m c = let b = last_cells c.requires.at in omega (arith, b.place, b.word_place)

pub slice_bounds-finish_rows-count-2 : goal.slice_bounds-finish_rows-count-2
slice_bounds-finish_rows-count-2 c = let b = last_cells c.requires.at in omega (arith, b.place, b.word_place)

pub slice_bounds-finish_rows-start-2 : goal.slice_bounds-finish_rows-start-2
slice_bounds-finish_rows-start-2 c = let b = last_cells c.requires.at in omega (arith, b.place, b.word_place)

pub slice_bounds-finish_rows-end-2 : goal.slice_bounds-finish_rows-end-2
slice_bounds-finish_rows-end-2 c = let b = last_cells c.requires.at in omega (arith, b.place, b.word_place)

pub finish_rows-requires : goal.finish_rows-requires
finish_rows-requires c = (last_cells c.requires.at).asks

pub fill_solved-requires : goal.fill_solved-requires
fill_solved-requires c = record { sys = c.requires.sys; s = c.requires.s; at = fill_at c.requires.at; long = c.finish_rows.auto.solution ∙ c.requires.at.long }

pub returns-in_err-finish_rows : goal.returns-in_err-finish_rows
returns-in_err-finish_rows c = λ sys s a.
    let p = err_from_is_err_and c.from_residual.result c.from_residual.ensures.1 in
    rw p.1 (finish_refused a c.finish_rows.ensures (ap reduction_of c.in_err-finish_rows.was))

pub returns : goal.returns
returns c = λ sys s a. finish_solved a c.finish_rows.ensures (ap reduction_of c.in_ok-finish_rows.was) (c.fill_solved.ensures sys s (fill_at a))
