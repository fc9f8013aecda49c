use Rattle.std.proofs.Common.{◌∙◌, Ok, ap, sym}
use Rattle.std.proofs.lemmas.Result.{err_from_is_err_and}
use Rattle.desk_session.proofs.NextRequests.{ReadsRequest-block, ReadsRequest-cut, ReadsRequest-fault, ReadsRequest-long, ReadsRequest-unsaid, some-bytes}
use Rattle.desk_session.proofs.reader.next_request.Goals as goal

pub returns-in_default : goal.returns-in_default
returns-in_default g c =
    ReadsRequest-long g.S.Source.can_fail _ _ _ _ _ c.in_ok-read_line.field-0 (rw c.in_ok-read_line.was at c.read_line.ensures) c.in_default.ensures

pub returns-in_default-begin_request : goal.returns-in_default-begin_request
returns-in_default-begin_request g c =
    let read = rw c.in_ok-read_line.was at c.read_line.ensures in
    let some = some-bytes c.in-Some.line.now (sym c.is_empty.ensures ∙ c.if-is_empty.false) in
    let none = rw c.without_ending.ensures at c.in_default-begin_request.ensures in
    ReadsRequest-unsaid g.S.Source.can_fail _ _ _ _ _ c.in-Some.line.now c.in-Some.ensures c.in_ok-read_line.field-0 read some none

pub returns-in_err-text : goal.returns-in_err-text
returns-in_err-text g c =
    let p = err_from_is_err_and c.from_residual-in_err-text.result c.from_residual-in_err-text.ensures.1 in
    let read = rw c.in_ok-read_line.was at c.read_line.ensures in
    let some = some-bytes c.in-Some.line.now (sym c.is_empty.ensures ∙ c.if-is_empty.false) in
    let says = rw c.without_ending.ensures at c.in-Some-begin_request.ensures in
    rw p.1
    (ReadsRequest-cut g.S.Source.can_fail _ _ _ _ _ c.in-Some.line.now c.in-Some.ensures c.in_ok-read_line.field-0 read some
    _ _ c.in-Some-begin_request.head says c.lines_after-count.result c.lines_after-count.ensures p.0 (rw c.in_err-text.was at c.read_block.ensures))

pub returns-in-Ok : goal.returns-in-Ok
returns-in-Ok g c =
    let read = rw c.in_ok-read_line.was at c.read_line.ensures in
    let some = some-bytes c.in-Some.line.now (sym c.is_empty.ensures ∙ c.if-is_empty.false) in
    let says = rw c.without_ending.ensures at c.in-Some-begin_request.ensures in
    let block = rw (c.in_ok-text.was ∙ ap Ok c.in-Ok.is) at c.read_block.ensures in
    rw c.ok_or.ensures.value
    (ReadsRequest-block g.S.Source.can_fail _ _ _ _ _ c.in-Some.line.now c.in-Some.ensures c.in_ok-read_line.field-0 read some
    _ _ c.in-Some-begin_request.head says c.lines_after-count.result c.lines_after-count.ensures c.in-Ok.text c.finish.result block
    (rw c.as_slice.ensures.value at c.finish.ensures.reads))

pub returns-in-Err : goal.returns-in-Err
returns-in-Err g c =
    let read = rw c.in_ok-read_line.was at c.read_line.ensures in
    let some = some-bytes c.in-Some.line.now (sym c.is_empty.ensures ∙ c.if-is_empty.false) in
    let says = rw c.without_ending.ensures at c.in-Some-begin_request.ensures in
    let block = rw (c.in_ok-text.was ∙ ap Ok c.in-Err.is) at c.read_block.ensures in
    ReadsRequest-fault g.S.Source.can_fail _ _ _ _ _ c.in-Some.line.now c.in-Some.ensures c.in_ok-read_line.field-0 read some
    _ _ c.in-Some-begin_request.head says c.lines_after-count.result c.lines_after-count.ensures c.in-Err.fault block
