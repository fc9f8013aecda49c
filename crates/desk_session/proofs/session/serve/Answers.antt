use Rattle.std.proofs.Common.{◌≡◌, ◌∙◌, true, false, not, is_ok, Ok, ap}
use Rattle.std.proofs.lemmas.Bool.{both_ways}
use Rattle.desk_session.proofs.Losses.{loses-command}
use Rattle.desk_session.proofs.MoreTurns.{lost-stays}
use Rattle.desk_session.proofs.Serving.{IsServing-more, IsServing-none, Serves-done, Serves-input, Serves-lost, Serves-output, fewer-left}
use Rattle.desk_session.proofs.session.serve.Goals as goal

pub loop-found-init : goal.loop-found-init
loop-found-init g c = (rw c.new-input.ensures (IsServing-none c.args.book g.R.Source _ g.W.Sink _ _), λ none. none)

pub returns-in-Ok-None-clause-served : goal.returns-in-Ok-None-clause-served
returns-in-Ok-None-clause-served g c =
    Serves-done _ _ _ _ _ _ c.loop-found.invariant.0 (rw (c.in-Ok-None.is ∙ ap Ok c.in-Ok-None.field-0-is) at c.next_request.ensures)

pub returns-in-Err-clause-served : goal.returns-in-Err-clause-served
returns-in-Err-clause-served g c =
    Serves-input _ _ _ _ _ _ c.loop-found.invariant.0 c.in-Err.field-0 (rw c.in-Err.is at c.next_request.ensures)

pub returns-then-is_lost-clause-served : goal.returns-then-is_lost-clause-served
returns-then-is_lost-clause-served g c =
    let read = rw (c.in-Ok-Some.is ∙ ap Ok c.in-Ok-Some.field-0-is) at c.next_request.ensures in
    let took = c.answer_found-answer.ensures.taken read.bytes read.found.1 in
    Serves-lost _ _ _ _ _ _ c.loop-found.invariant.0
    _ _ _ _ _ _ _ read took c.reply-sent.ensures (c.is_lost.ensures.0 c.if-is_lost.true)

pub returns-then-is_err-clause-served : goal.returns-then-is_err-clause-served
returns-then-is_err-clause-served g c =
    let read = rw (c.in-Ok-Some.is ∙ ap Ok c.in-Ok-Some.field-0-is) at c.next_request.ensures in
    let took = c.answer_found-answer.ensures.taken read.bytes read.found.1 in
    let broken : is_ok c.reply-sent.result ≡ false = c.is_err.ensures.negation ∙ ap not c.if-is_err.true in
    Serves-output _ _ _ _ _ _ c.loop-found.invariant.0
    _ _ _ _ _ _ _ read took c.reply-sent.ensures (λ lost. both_ways _ c.if-is_lost.false (c.is_lost.ensures.1 lost)) broken

pub loop-found-smaller : goal.loop-found-smaller
loop-found-smaller g c =
    let read = rw (c.in-Ok-Some.is ∙ ap Ok c.in-Ok-Some.field-0-is) at c.next_request.ensures in
    let took = c.answer_found-answer.ensures.taken read.bytes read.found.1 in
    fewer-left _ _ _ _ _ _ c.loop-found.invariant.0
    _ _ _ _ _ _ _ read took c.reply-sent.ensures

pub loop-found-preserved : goal.loop-found-preserved
loop-found-preserved g c =
    let read = rw (c.in-Ok-Some.is ∙ ap Ok c.in-Ok-Some.field-0-is) at c.next_request.ensures in
    let took = c.answer_found-answer.ensures.taken read.bytes read.found.1 in
    let whole : is_ok c.reply-sent.result ≡ true = c.is_err.ensures.negation ∙ ap not c.if-is_err.false in (
      IsServing-more _ _ _ _ _ _ c.loop-found.invariant.0
          _ _ _ _ _ _ _ read took c.reply-sent.ensures (λ lost. both_ways _ c.if-is_lost.false (c.is_lost.ensures.1 lost)) whole,
      λ none. c.answer_found-answer.ensures.held (c.loop-found.invariant.1 none) (λ lost. both_ways _ c.if-is_lost.false (c.is_lost.ensures.1 lost)),
    )

pub returns-then-is_lost-clause-lost : goal.returns-then-is_lost-clause-lost
returns-then-is_lost-clause-lost g c ended = c.answer_found-answer.ensures.lost (c.is_lost.ensures.0 c.if-is_lost.true)

pub returns-then-is_lost-clause-cause : goal.returns-then-is_lost-clause-cause
returns-then-is_lost-clause-cause g c clean none ended =
    let read = rw (c.in-Ok-Some.is ∙ ap Ok c.in-Ok-Some.field-0-is) at c.next_request.ensures in
    let took = c.answer_found-answer.ensures.taken read.bytes read.found.1 in
    let lost = c.is_lost.ensures.0 c.if-is_lost.true in
    let same = lost-stays read.bytes c.loop-found.book c.answer_found-answer.result.1 c.answer_found-answer.result.0 took.answered lost in
    rw same
    (loses-command g.S.Store _ _ _ _ _ (c.loop-found.invariant.0.kept (took.clean clean))
    (c.answer_found-answer.ensures.cause clean (c.loop-found.invariant.1 none) lost))
