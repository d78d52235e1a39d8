-- Each test is a part of what kept starts are; the test of a start and the next answers `leb`.
use Rattle.std.proofs.Common.{leb, rules}
use Rattle.std.proofs.lemmas.List.Sorted.{answers_always}
use Rattle.system.proofs.Climbing.{never_falls, one_falls, starts_refused, starts_decided, starts_unsorted}
use Rattle.system.proofs.shape.starts_kept.Goals as goal
use Rattle.system.proofs.shape.starts_kept.Goals.{then-starts-m-via-then-starts-m, then-starts-m-via-else-starts-m+then-starts-ne0, then-starts-m-via-else-starts-m+else-starts-ne0+then-not-is_sorted_by}

pub returns-then-starts-m : goal.returns-then-starts-m
returns-then-starts-m c =
    elim c.then-starts-m.branch [
      | then-starts-m-via-then-starts-m w ↦ starts_refused c.args.m c.args.t c.args.starts.now (λ k. w.if-starts-m.true k.long)
      | then-starts-m-via-else-starts-m+then-starts-ne0 w ↦ starts_refused c.args.m c.args.t c.args.starts.now (λ k. w.if-starts-ne0.true k.first)
      | then-starts-m-via-else-starts-m+else-starts-ne0+then-not-is_sorted_by w ↦
          starts_unsorted c.args.m c.args.t c.args.starts.now w.if-starts-m.false
          (one_falls c.args.starts.now (w.if-not-is_sorted_by.ensures.cases leb (answers_always _ _ _ (λ f a r f' k. search rules))))
    ]

pub returns : goal.returns
returns c =
    starts_decided _ _ _ c.if-starts-m.false c.if-starts-ne0.false
    (never_falls c.args.starts.now (c.if-not-is_sorted_by.ensures.cases leb (answers_always _ _ _ (λ f a r f' k. search rules))))
