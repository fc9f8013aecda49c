use Rattle.std.proofs.Common.{rules, is_ok, ap, refl, sym, ◌∙◌, arith}
use Rattle.std.proofs.lemmas.Result.{err_from_is_err_and}
use Rattle.desk_brf.specs.Volumes.{volume_of}
use Rattle.desk_brf.proofs.PageLemmas.{Pages-goes, Pages-stop, not_ok}
use Rattle.desk_brf.proofs.volume.put_volume.Goals as goal

pub returns-in_err-put_paragraphs : goal.returns-in_err-put_paragraphs
returns-in_err-put_paragraphs g c =
    let room = c.text_lines-text_lines in
    let least = room.ensures.least in
    let p = err_from_is_err_and c.from_residual.result c.from_residual.ensures.1 in
    Pages-stop g.K.Sink.can_fail c.args.book.now c.args.layout.now (volume_of c.args.book.now c.args.volume) room.result room.ensures.lines (omega (arith, least)) c.from_residual.result
    _ _ _ _ c.put_paragraphs.ensures.lines (ap is_ok c.in_err-put_paragraphs.was) (ap is_ok p.1)

pub returns-in_err-fill_page : goal.returns-in_err-fill_page
returns-in_err-fill_page g c =
    let room = c.text_lines-text_lines in
    let least = room.ensures.least in
    let answer = c.from_residual-in_err-fill_page.result in
    let p = err_from_is_err_and answer c.from_residual-in_err-fill_page.ensures.1 in
    Pages-goes g.K.Sink.can_fail c.args.book.now c.args.layout.now (volume_of c.args.book.now c.args.volume) room.result room.ensures.lines (omega (arith, least)) answer
    _ _ _ _ _ _ _ c.put_paragraphs.ensures.lines (ap is_ok c.in_ok-put_paragraphs.was) c.fill_page.ensures (ap is_ok p.1 ∙ sym (ap is_ok c.in_err-fill_page.was))
    (not_ok answer _ (ap is_ok p.1))

pub returns : goal.returns
returns g c =
    let room = c.text_lines-text_lines in
    let least = room.ensures.least in
    Pages-goes g.K.Sink.can_fail c.args.book.now c.args.layout.now (volume_of c.args.book.now c.args.volume) room.result room.ensures.lines (omega (arith, least)) _
    _ _ _ _ _ _ _ c.put_paragraphs.ensures.lines (ap is_ok c.in_ok-put_paragraphs.was) c.fill_page.ensures (sym (ap is_ok c.in_ok-fill_page.was)) refl

pub put_paragraphs-requires-clause-none : goal.put_paragraphs-requires-clause-none
put_paragraphs-requires-clause-none g c = search rules
