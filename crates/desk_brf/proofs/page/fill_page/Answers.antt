use Rattle.desk_brf.specs.Laying.{bytes_of_lines}
use Rattle.std.proofs.Common.{◌≡◌, ◌+◌, ◌-◌, ◌%◌, [], true, is_ok, ap, sym, refl, arith}
use Rattle.std.specs.Prelude.{replicate}
use Rattle.std.proofs.lemmas.Bool.{both_ways}
use Rattle.std.proofs.lemmas.Result.{err_from_is_err_and}
use Rattle.desk_ends.proofs.Sending.{Sending-more, Sending-fails, Sending-done, Sending-same}
use Rattle.desk_brf.proofs.SendLemmas.{FillsPage-from, bytes_of_lines-blank}
use Rattle.desk_brf.proofs.page.fill_page.Goals as goal

pub returns-in_err-put_line : goal.returns-in_err-put_line
returns-in_err-put_line g c =
    let F = g.K.Sink.can_fail in
    let p = err_from_is_err_and c.from_residual.result c.from_residual.ensures.1 in
    let t = c.text_lines-text_lines.result in
    let n = c.args.lines.now in
    let left = (t - n % t) % t - c.loop.counter in
    let less = c.loop-test.true in
    let inv = c.loop.invariant in
    let parts = bytes_of_lines-blank c.args.layout.now c.loop.lines left (left - 1) (omega arith) in
    let sent = rw inv.0 at c.put_line.ensures.sent in
    FillsPage-from F _ _ c.args.layout.now n t _ _ c.text_lines-text_lines.ensures.lines (let least = c.text_lines-text_lines.ensures.least in omega arith)
    (Sending-fails F _ _ _ [] [] _ _ _ inv.2 _ _ parts sent [] _ (ap is_ok c.in_err-put_line.was) (ap is_ok p.1))
    (λ whole. absurd (both_ways _ (ap is_ok p.1) whole))

pub loop-preserved : goal.loop-preserved
loop-preserved g c =
    let F = g.K.Sink.can_fail in
    let t = c.text_lines-text_lines.result in
    let n = c.args.lines.now in
    let left = (t - n % t) % t - c.loop.counter in
    let less = c.loop-test.true in
    let inv = c.loop.invariant in
    let count = c.in_ok-put_line.ensures.count in
    let lines_are = inv.1 in
    let parts = bytes_of_lines-blank c.args.layout.now c.loop.lines left ((t - n % t) % t - (c.loop.counter + 1)) (omega arith) in
    let sent = rw inv.0 at c.put_line.ensures.sent in (
      c.in_ok-put_line.ensures.empty,
      omega (arith, count, lines_are),
      Sending-same _ _ [] _ _ _ (Sending-more F _ _ _ [] [] _ _ _ inv.2 _ _ parts sent (ap is_ok c.in_ok-put_line.was))
          (ap (λ k. bytes_of_lines c.args.layout.now k (replicate ((t - n % t) % t - (c.loop.counter + 1)) [])) (sym count)),
    )

pub returns : goal.returns
returns g c =
    let F = g.K.Sink.can_fail in
    let t = c.text_lines-text_lines.result in
    let n = c.args.lines.now in
    let inv = c.loop.invariant in
    let past = c.loop-test.false in
    let within = c.loop.auto.counter-end in
    let lines_are = inv.1 in
    let none : (t - n % t) % t - c.loop.counter ≡ 0 = omega arith in
    FillsPage-from F _ _ c.args.layout.now n t _ true c.text_lines-text_lines.ensures.lines (let least = c.text_lines-text_lines.ensures.least in omega arith)
    (Sending-done F _ _ [] _ true (Sending-same _ _ [] _ _ _ inv.2 (ap (λ k. bytes_of_lines c.args.layout.now c.loop.lines (replicate k [])) none)) refl)
    (λ _. omega arith)
