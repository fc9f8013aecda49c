use Rattle.std.proofs.Common.{◌+◌, [], is_ok, ap, sym, ◌∙◌}
use Rattle.std.proofs.lemmas.Result.{err_from_is_err_and}
use Rattle.desk_brf.proofs.SendLemmas.{Transmits-then, Transmits-same, Transmits-reported, page_end-full}
use Rattle.desk_brf.proofs.page.put_line.Goals as goal

pub returns-in_err-end_page-clause-sent : goal.returns-in_err-end_page-clause-sent
returns-in_err-end_page-clause-sent g c =
    let F = g.K.Sink.can_fail in
    let p = err_from_is_err_and c.from_residual-in_err-end_page.result c.from_residual-in_err-end_page.ensures.1 in
    let e = page_end-full c.args.layout.now (c.args.lines.now + 1) c.text_lines-text_lines.result c.width.result
    c.text_lines-text_lines.ensures.lines c.width.ensures.width c.if-lines-text_lines-eq0.true in
    Transmits-reported F _ _ _ [] _ _ (ap is_ok c.in_err-end_page.was ∙ sym (ap is_ok p.1))
    (Transmits-then F _ _ _ _ _ _ _ c.end_line.ensures.sent (ap is_ok c.in_ok-end_line.was) (Transmits-same F _ _ _ _ [] _ e c.end_page.ensures.sent))

pub returns-in_ok-end_page-clause-sent : goal.returns-in_ok-end_page-clause-sent
returns-in_ok-end_page-clause-sent g c =
    let F = g.K.Sink.can_fail in
    let e = page_end-full c.args.layout.now (c.args.lines.now + 1) c.text_lines-text_lines.result c.width.result
    c.text_lines-text_lines.ensures.lines c.width.ensures.width c.if-lines-text_lines-eq0.true in
    Transmits-reported F _ _ _ [] _ _ (ap is_ok c.in_ok-end_page.was)
    (Transmits-then F _ _ _ _ _ _ _ c.end_line.ensures.sent (ap is_ok c.in_ok-end_line.was) (Transmits-same F _ _ _ _ [] _ e c.end_page.ensures.sent))
