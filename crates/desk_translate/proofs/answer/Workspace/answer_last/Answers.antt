use Rattle.std.proofs.Common.{◌∙◌, sym, ap}
use Rattle.std.proofs.lemmas.Bool.{both_ways}
use Rattle.desk_ends.specs.Lines.{kept_line}
use Rattle.desk_ends.proofs.OneLine.{kept_line-some}
use Rattle.desk_translate.proofs.LastLine.{SendsLast-none, SendsLast-some}
use Rattle.desk_translate.proofs.answer.Workspace.answer_last.Goals as goal

pub returns-then-is_empty : goal.returns-then-is_empty
returns-then-is_empty g c = λ bytes is.
    let empty = c.is_empty.ensures.0 c.if-is_empty.true in
    SendsLast-none g.K.Sink c.args.sink.now c.args.sink.now (g.B.RuleBook.meaning c.args.book.now) bytes (kept_line-some bytes _ (sym empty ∙ is))

pub returns : goal.returns
returns g c = λ bytes is.
    SendsLast-some g.K.Sink c.args.sink.now c.answer_line.new.sink (g.B.RuleBook.meaning c.args.book.now) bytes _
    (λ none. both_ways _ c.if-is_empty.false (c.is_empty.ensures.1 (is ∙ sym (ap kept_line none))))
    (c.answer_line.ensures bytes is)
