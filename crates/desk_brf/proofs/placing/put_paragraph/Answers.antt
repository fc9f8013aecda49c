use Rattle.std.proofs.Common.{◌≡◌, [], is_ok, ap, sym, ◌∙◌, arith}
use Rattle.std.proofs.lemmas.Bool.{eqb-true}
use Rattle.std.proofs.lemmas.Result.{err_from_is_err_and}
use Rattle.desk_brf.specs.Words.{words}
use Rattle.desk_brf.proofs.ExistLemmas.{words-are}
use Rattle.desk_brf.specs.Volume.{IsSixDot}
use Rattle.desk_brf.proofs.ParagraphLemmas.{at_word-words, paragraph-none, paragraph-stops, paragraph-goes, some-cells}
use Rattle.desk_brf.proofs.PutLemmas.{first_indent-small, other_indent-small, words-none}
use Rattle.desk_brf.proofs.placing.put_paragraph.Goals as goal

pub returns-then-is_empty-clause-lines : goal.returns-then-is_empty-clause-lines
returns-then-is_empty-clause-lines g c =
    paragraph-none g.K.Sink.can_fail _ c.args.layout.now c.args.style (words c.args.cells.now) c.args.lines.now
    (sym c.skip_blanks-rest.ensures.words ∙ words-none c.skip_blanks-rest.result.now (eqb-true _ _ (sym c.is_empty.ensures ∙ c.if-is_empty.true)))

pub returns-in_err-put_gap-clause-lines : goal.returns-in_err-put_gap-clause-lines
returns-in_err-put_gap-clause-lines g c =
    let p = err_from_is_err_and c.from_residual.result c.from_residual.ensures.1 in
    let rest = c.skip_blanks-rest.result.now in
    let style = c.args.style in
    let small = first_indent-small style in
    let other_small = other_indent-small style in
    let wide = c.width.ensures.least in
    let width_is = c.width.ensures.width in
    let some : words c.args.cells.now ≡ [] → ⊥ = λ none. at_word-words rest c.skip_blanks-rest.ensures.at_word
    (some-cells rest (sym c.is_empty.ensures ∙ c.if-is_empty.false)) (c.skip_blanks-rest.ensures.words ∙ none) in
    paragraph-stops g.K.Sink.can_fail _ _ c.args.layout.now style (words c.args.cells.now) c.args.lines.now some
    (omega (arith, small, wide, width_is)) (omega (arith, other_small, wide, width_is)) (words-are IsSixDot c.args.cells.now c.requires.dots) _ _ _
    (ap is_ok c.in_err-put_gap.was) (ap is_ok p.1) c.put_gap.ensures.sent

pub returns-clause-lines : goal.returns-clause-lines
returns-clause-lines g c =
    let rest = c.skip_blanks-rest.result.now in
    let some : words c.args.cells.now ≡ [] → ⊥ = λ none. at_word-words rest c.skip_blanks-rest.ensures.at_word
    (some-cells rest (sym c.is_empty.ensures ∙ c.if-is_empty.false)) (c.skip_blanks-rest.ensures.words ∙ none) in
    paragraph-goes g.K.Sink.can_fail _ _ c.args.layout.now c.args.style (words c.args.cells.now) c.args.lines.now some _ _ _ _ _
    (ap is_ok c.in_ok-put_gap.was) c.in_ok-put_gap.ensures.count c.put_gap.ensures.sent (rw c.skip_blanks-rest.ensures.words at c.put_words.ensures.lines)
