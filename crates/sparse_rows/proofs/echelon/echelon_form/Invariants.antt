-- What is left of the outer rows gives what the whole gives, and cancels what the whole cancels less what is counted.
use Rattle.std.proofs.Common.{take, drop}
use Rattle.answers.specs.Sizes.{row_numbers, row_words}
use Rattle.gf2.proofs.Tally.{Tally}
use Rattle.rows.specs.Picture.{rows_of}
use Rattle.sparse_rules.specs.Cancelled.{sparse_cancels}
use Rattle.sparse_rows.proofs.Ahead.{ahead_rows}
use Rattle.sparse_rows.proofs.Rounds.{Reducing}
use Rattle.sparse_rows.proofs.echelon.echelon_form.Given as goal

abbrev pub invariant-loop-i : goal.invariant-loop-i
invariant-loop-i l =
    record {
      reducing : Reducing l.n l.m l.d (rows_of l.n l.m l.fn.numbers l.fn.words) (drop (row_numbers l.n l.m) l.fn.numbers) (drop (row_words l.m) l.fn.words) l.numbers l.words l.i;
      counted : Tally l.cancelled (ahead_rows l.n l.m l.d l.numbers l.words l.i) (sparse_cancels (take l.d (rows_of l.n l.m l.fn.numbers l.fn.words)));
    }
