use Rattle.std.proofs.Common.{◌∙◌, ◌<◌, sym, subst}
use Rattle.louis_translate.proofs.Runs.{run_end-inside}
use Rattle.louis_translate.proofs.sign.Signs.end_at.Goals as goal

pub invariant_of-self-clause-run : goal.invariant_of-self-clause-run
invariant_of-self-clause-run c = λ k le lt.
    run_end-inside c.args.self.now.table.now c.args.self.now.print.now c.args.place k le (subst (λ n. k < n) c.end_of_run-self.ensures.end lt)
    ∙ sym c.end_of_run-self.ensures.end
