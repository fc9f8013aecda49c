use Rattle.std.proofs.Common.{◌∙◌}
use Rattle.desk_translate.proofs.Answering.{refused_answer, shown_answer}
use Rattle.desk_translate.proofs.answer.Workspace.answer.Goals as goal

pub send_braille-requires : goal.send_braille-requires
send_braille-requires g c = rw (c.as_slice.ensures ∙ c.in-Ok.ensures.1) c.in-Ok.ensures.0.2

pub returns-in-Ok : goal.returns-in-Ok
returns-in-Ok g c =
    let meaning = g.B.RuleBook.meaning c.args.book.now in
    let read = c.in-Ok.ensures in
    λ answer right.
    let there = shown_answer meaning c.args.line.now answer read.0 right in
    rw there.2 (rw (c.as_slice.ensures ∙ read.1) at c.send_braille.ensures there.0 there.1)

pub returns-in-Err : goal.returns-in-Err
returns-in-Err g c =
    let meaning = g.B.RuleBook.meaning c.args.book.now in
    λ answer right.
    rw (refused_answer meaning c.args.line.now answer c.in-Err.refusal c.in-Err.ensures right) c.refuse.ensures
