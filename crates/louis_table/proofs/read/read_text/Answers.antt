use Rattle.std.proofs.Common.{sym, subst, map, chars}
use Rattle.louis_table.specs.Lines.{lines_of}
use Rattle.louis_table.specs.Meaning.{Meaning}
use Rattle.louis_table.specs.Steps.Read.{LinesMean}
use Rattle.louis_table.proofs.OneMeaning.{LinesMean-finished}
use Rattle.louis_table.proofs.read.read_text.Goals as goal

pub returns-clause-ok : goal.returns-clause-ok
returns-clause-ok c =
    subst (λ (meaning : Meaning). LinesMean (map chars (lines_of c.args.text.now)) meaning) (sym c.with_rules.ensures)
    (LinesMean-finished (map chars (lines_of c.args.text.now)) c.in_ok-draft.draft.table c.in_ok-draft.draft.written.items c.in_ok-rules.rules.items c.in_ok-draft.ensures.ok c.in_ok-rules.ensures.0 c.in_ok-rules.ensures.1)
