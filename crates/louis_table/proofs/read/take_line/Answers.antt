use Rattle.std.proofs.Common.{rules}
use Rattle.louis_table.specs.Steps.Line.{entry_in}
use Rattle.louis_table.proofs.VerdictLaws.{judge-beyond, judge-within, judge_line-CanTake}
use Rattle.louis_table.proofs.StepLaws.{IsVerdict-TakesLine}
use Rattle.louis_table.proofs.read.take_line.Goals as goal
use Rattle.louis_table.proofs.read.take_line.Goals.{then-line-gt-MOST_LINE_CHARACTERS-via-else-line-gt-MOST_LINE_CHARACTERS+then-before-ge-MOST_LINES}

pub returns-in_err-given : goal.returns-in_err-given
returns-in_err-given c = search (rules, IsVerdict-TakesLine)

pub returns-then-line-gt-MOST_LINE_CHARACTERS : goal.returns-then-line-gt-MOST_LINE_CHARACTERS
returns-then-line-gt-MOST_LINE_CHARACTERS c = search (rules, judge-beyond, then-line-gt-MOST_LINE_CHARACTERS-via-else-line-gt-MOST_LINE_CHARACTERS+then-before-ge-MOST_LINES)

pub take-requires : goal.take-requires
take-requires c = judge_line-CanTake c.args.draft.now.table c.args.line.now (entry_in c.in_ok-given.given) c.requires c.in_ok-given.ensures

pub returns : goal.returns
returns c = search (rules, judge-within)
