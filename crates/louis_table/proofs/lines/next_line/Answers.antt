use Rattle.std.proofs.Common.{◌∙◌, ap, Bor, List, ℕ}
use Rattle.louis_table.proofs.LineLaws.{lines_of-next}
use Rattle.louis_table.proofs.ReturnLaws.{unwrap_or-strip_last}
use Rattle.louis_table.proofs.lines.next_line.Goals as goal

pub returns-clause-line : goal.returns-clause-line
returns-clause-line c =
    let line = ap (λ (b : Bor (List ℕ)). b.now) c.unwrap_or.ensures ∙ unwrap_or-strip_last c.split_line.result.0 c.strip_suffix.result c.strip_suffix.ensures.cases in
    lines_of-next c.args.text.now c.split_line.result.0.now c.unwrap_or.result.now c.split_line.result.1.now c.requires c.split_line.ensures.line line c.split_line.ensures.rest
