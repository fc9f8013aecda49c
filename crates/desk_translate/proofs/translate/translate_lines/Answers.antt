use Rattle.std.proofs.Common.{◌≡◌, ◌∙◌, Ok, not, false, true, is_ok, ap}
use Rattle.desk_ends.specs.Lines.{without_ending}
use Rattle.desk_ends.proofs.Sending.{at_ok}
use Rattle.desk_translate.proofs.Answering.{answer_to, is-answer}
use Rattle.desk_translate.proofs.LastLine.{SendsLast-answers}
use Rattle.desk_translate.proofs.Runs.{Answered-more, Answered-none, AnswersBeginning-Stepped, HonestRun-Stepped, Stepped-broken, Stepped-done, Stepped-stopped, Stepped-unanswered, fewer-left, flushed-stopped}
use Rattle.desk_translate.proofs.translate.translate_lines.Goals as goal

pub loop-is_whole-init : goal.loop-is_whole-init
loop-is_whole-init g c = rw c.new-input.ensures (Answered-none (g.B.RuleBook.meaning c.args.book.now) _ _)

pub returns-in-Err : goal.returns-in-Err
returns-in-Err g c =
    let meaning = g.B.RuleBook.meaning c.args.book.now in
    let read = rw c.in-Err.is at c.take_line.ensures in
    let s = Stepped-stopped meaning g.S.Source.can_fail g.K.Sink.can_fail _ _ _ _ _ _ _ c.loop-is_whole.input _ _ c.loop-is_whole.invariant c.in-Err.ended read in
    record {
      run = HonestRun-Stepped s _ (flushed-stopped meaning g.S.Source.can_fail g.K.Sink.can_fail _ _ _ _ _ _ _ c.loop-is_whole.input _ _ c.loop-is_whole.invariant c.in-Err.ended read);
      beginning = AnswersBeginning-Stepped s;
    }

pub returns-in-Ok-finish : goal.returns-in-Ok-finish
returns-in-Ok-finish g c =
    let meaning = g.B.RuleBook.meaning c.args.book.now in
    let read = rw (c.in-Ok.is ∙ ap Ok c.if-not-is_whole.true) at c.take_line.ensures in
    let whole : is_ok c.finish.result ≡ true = ap is_ok c.in-Ok-finish.is in
    let sent = SendsLast-answers g.K.Sink c.take_line.new.sink c.finish.new.sink meaning read.bytes _ read.ends.0 (c.finish.ensures.sent read.bytes read.held) in
    let s = Stepped-done meaning g.S.Source.can_fail g.K.Sink.can_fail _ _ _ _ _ _ _ c.loop-is_whole.input _ _ c.loop-is_whole.invariant read _ _ sent whole in
    record { run = HonestRun-Stepped s _ (at_ok c.finish.result _ c.finish.ensures.flushed whole); beginning = AnswersBeginning-Stepped s }

pub returns-in-Err-finish : goal.returns-in-Err-finish
returns-in-Err-finish g c =
    let meaning = g.B.RuleBook.meaning c.args.book.now in
    let read = rw (c.in-Ok.is ∙ ap Ok c.if-not-is_whole.true) at c.take_line.ensures in
    let broken : is_ok c.finish.result ≡ false = ap is_ok c.in-Err-finish.is in
    let sent = SendsLast-answers g.K.Sink c.take_line.new.sink c.finish.new.sink meaning read.bytes _ read.ends.0 (c.finish.ensures.sent read.bytes read.held) in
    let s = Stepped-broken meaning g.S.Source.can_fail g.K.Sink.can_fail _ _ _ _ _ _ _ c.loop-is_whole.input _ _ c.loop-is_whole.invariant read _ _ sent broken in
    record { run = HonestRun-Stepped s _ tt; beginning = AnswersBeginning-Stepped s }

pub returns-then-is_err : goal.returns-then-is_err
returns-then-is_err g c =
    let meaning = g.B.RuleBook.meaning c.args.book.now in
    let read = rw (c.in-Ok.is ∙ ap Ok c.if-not-is_whole.false) at c.take_line.ensures in
    let broken : is_ok c.answer_line.result ≡ false = c.is_err.ensures.negation ∙ ap not c.if-is_err.true in
    let line = without_ending read.bytes in
    let sent = c.answer_line.ensures read.bytes read.held (answer_to meaning line) (is-answer meaning line) in
    let s = Stepped-unanswered meaning g.S.Source.can_fail g.K.Sink.can_fail _ _ _ _ _ _ _ c.loop-is_whole.input _ _ c.loop-is_whole.invariant read _ _ sent broken in
    record { run = HonestRun-Stepped s _ tt; beginning = AnswersBeginning-Stepped s }

pub loop-is_whole-smaller : goal.loop-is_whole-smaller
loop-is_whole-smaller g c =
    let meaning = g.B.RuleBook.meaning c.args.book.now in
    let read = rw (c.in-Ok.is ∙ ap Ok c.if-not-is_whole.false) at c.take_line.ensures in
    let line = without_ending read.bytes in
    let sent = c.answer_line.ensures read.bytes read.held (answer_to meaning line) (is-answer meaning line) in
    fewer-left meaning g.S.Source.can_fail g.K.Sink.can_fail _ _ _ _ _ _ _ c.loop-is_whole.input _ _ c.loop-is_whole.invariant read _ _ sent

pub loop-is_whole-preserved : goal.loop-is_whole-preserved
loop-is_whole-preserved g c =
    let meaning = g.B.RuleBook.meaning c.args.book.now in
    let read = rw (c.in-Ok.is ∙ ap Ok c.if-not-is_whole.false) at c.take_line.ensures in
    let whole : is_ok c.answer_line.result ≡ true = c.is_err.ensures.negation ∙ ap not c.if-is_err.false in
    let line = without_ending read.bytes in
    let sent = c.answer_line.ensures read.bytes read.held (answer_to meaning line) (is-answer meaning line) in
    Answered-more meaning g.S.Source.can_fail g.K.Sink.can_fail _ _ _ _ _ _ _ c.loop-is_whole.input _ _ c.loop-is_whole.invariant read _ _ sent whole
