use Rattle.std.proofs.Common.{ℕ}
use Rattle.std.proofs.lemmas.List.{take-replicate}
use Rattle.link_form.specs.Lent.{most_variables}
use Rattle.link_file.proofs.telling.write_served.Goals as goal

pub returns : goal.returns
returns c =
    let file = c.args.file.now in
    rw (take-replicate {X = ℕ} file.form.n most_variables 0 file.served.few_variables) at c.solve_and_write.ensures
