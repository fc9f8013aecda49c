use Rattle.std.proofs.Common.{◌≡◌, ◌∙◌}
use Rattle.desk_ends.proofs.OneLine.{kept_line-some, long-line}
use Rattle.desk_translate.proofs.Answering.{long_answer}
use Rattle.desk_translate.proofs.answer.Workspace.answer_line.Goals as goal

pub returns-in-Some : goal.returns-in-Some
returns-in-Some g c = λ bytes is.
    let same : c.in-Some.bytes.now ≡ bytes = kept_line-some bytes c.in-Some.bytes.now (c.in-Some.ensures ∙ is) in
    rw (← same) (rw c.without_ending.ensures at c.answer.ensures)

pub returns-in-None : goal.returns-in-None
returns-in-None g c = λ bytes is answer right.
    rw (long_answer _ _ answer (long-line bytes (c.in-None.ensures ∙ is)) right) c.refuse.ensures
