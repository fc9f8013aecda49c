use Rattle.std.proofs.Common.{ℕ, sym, ap, ◌∙◌, arith}
use Rattle.louis_table.specs.Lines.{lines_of}
use Rattle.desk_line.specs.ReadingSteps.{are_lines}
use Rattle.desk_line.proofs.LineLists.{not-empty, no-line-left, line-too-long, line-taken}
use Rattle.desk_line.proofs.read.are_lines.Goals as goal

pub returns-then-left-eq0 : goal.returns-then-left-eq0
returns-then-left-eq0 c =
    sym (c.loop-rest.invariant
    ∙ (ap (λ (n : ℕ). are_lines (lines_of c.loop-rest.rest.now) n) c.if-left-eq0.true
    ∙ no-line-left c.loop-rest.rest.now (not-empty c.loop-rest.rest.now (sym c.loop-rest-test.ensures))))

pub returns-then-line-gt-MOST_LINE_BYTES : goal.returns-then-line-gt-MOST_LINE_BYTES
returns-then-line-gt-MOST_LINE_BYTES c =
    sym (c.loop-rest.invariant
    ∙ line-too-long c.loop-rest.rest.now c.split_line.result.0.now c.loop-rest.left (not-empty c.loop-rest.rest.now (sym c.loop-rest-test.ensures))
    c.split_line.ensures.line c.if-line-gt-MOST_LINE_BYTES.true)

pub loop-rest-preserved : goal.loop-rest-preserved
loop-rest-preserved c =
    c.loop-rest.invariant
    ∙ line-taken c.loop-rest.rest.now c.split_line.result.0.now c.loop-rest.left (not-empty c.loop-rest.rest.now (sym c.loop-rest-test.ensures))
    c.split_line.ensures.line c.split_line.result.1.now c.split_line.ensures.rest (omega arith) c.if-line-gt-MOST_LINE_BYTES.false
