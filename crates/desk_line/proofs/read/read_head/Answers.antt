use Rattle.std.proofs.Common.{List, ℕ, ap, sym, ◌∙◌, arith}
use Rattle.desk_line.specs.Fields.{fields_of}
use Rattle.desk_line.specs.ReadingSteps.{head_in}
use Rattle.desk_line.proofs.HeadLines.{head-of-text, head-of-bytes}
use Rattle.desk_line.proofs.read.read_head.Goals as goal

pub returns-in-Ok : goal.returns-in-Ok
returns-in-Ok c =
    c.read_text.ensures ∙ (ap (λ (text : List ℕ). head_in (fields_of text)) c.in-Ok.ensures.cases.0
    ∙ sym (head-of-text c.args.line.now (omega arith) c.in-Ok.ensures.cases.1))

pub returns-in-Err : goal.returns-in-Err
returns-in-Err c = sym (head-of-bytes c.args.line.now c.in-Err.ensures.cases.0)
