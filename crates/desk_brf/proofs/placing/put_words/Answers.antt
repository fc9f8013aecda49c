use Rattle.std.proofs.Common.{◌≡◌, ℕ, List, ◌++◌, is_ok, ap, sym, refl, ◌∙◌, arith}
use Rattle.std.specs.Prelude.{replicate}
use Rattle.std.proofs.lemmas.Bool.{eqb-true}
use Rattle.std.proofs.lemmas.Result.{err_from_is_err_and}
use Rattle.desk_brf.specs.Placing.{first_indent, other_indent}
use Rattle.desk_brf.specs.Words.{words}
use Rattle.desk_brf.proofs.ExistLemmas.{words-are}
use Rattle.desk_brf.specs.Volume.{IsSixDot}
use Rattle.desk_brf.proofs.PutLemmas.{Putting-none, Putting-more, Putting-fails, Putting-done, Putting-same, first_indent-small, other_indent-small, words-none}
use Rattle.desk_brf.proofs.placing.put_words.Goals as goal

pub loop-rest-init : goal.loop-rest-init
loop-rest-init g c =
    let style = c.args.style in
    let small = first_indent-small style in
    let other_small = other_indent-small style in
    let wide = c.width-width.ensures.least in
    let width_is = c.width-width.ensures.width in
    record {
      putting = Putting-same _ _ _ _ _ _ _ _ _ _ _ _ (sym c.first_indent-indent.ensures) refl
          (Putting-none _ c.args.layout.now (first_indent style) (other_indent style) (words c.args.cells.now) c.args.lines.now
          (omega (arith, small, wide, width_is)) (omega (arith, other_small, wide, width_is)) (words-are IsSixDot c.args.cells.now c.requires.dots));
      at_word = c.requires.at_word;
      dots = c.requires.dots;
      small = rw c.first_indent-indent.ensures small;
      empty = c.new-line.ensures;
      fewer = omega arith;
    }

pub returns-in_err-put_line-clause-lines : goal.returns-in_err-put_line-clause-lines
returns-in_err-put_line-clause-lines g c =
    let F = g.K.Sink.can_fail in
    let p = err_from_is_err_and c.from_residual.result c.from_residual.ensures.1 in
    let inv = c.loop-rest.invariant in
    let blanks : c.push_blanks.new.self ≡ replicate c.loop-rest.indent 32 = c.push_blanks.ensures ∙ ap (λ (xs : List ℕ). xs ++ replicate c.loop-rest.indent 32) inv.empty in
    let laid = rw (c.width-width.ensures.width, blanks) at c.lay_line-rest.ensures.line in
    Putting-fails F _ _ _ c.args.layout.now _ _ c.loop-rest.indent _ _ _ _ _ inv.putting _ laid _ c.put_line.ensures.sent _ _ (ap is_ok c.in_err-put_line.was) (ap is_ok p.1)

pub loop-rest-preserved : goal.loop-rest-preserved
loop-rest-preserved g c =
    let F = g.K.Sink.can_fail in
    let inv = c.loop-rest.invariant in
    let blanks : c.push_blanks.new.self ≡ replicate c.loop-rest.indent 32 = c.push_blanks.ensures ∙ ap (λ (xs : List ℕ). xs ++ replicate c.loop-rest.indent 32) inv.empty in
    let laid = rw (c.width-width.ensures.width, blanks) at c.lay_line-rest.ensures.line in
    let count = c.in_ok-put_line.ensures.count in
    let fewer = c.lay_line-rest.ensures.fewer in
    let before = inv.fewer in
    record {
      putting = Putting-same _ _ _ _ _ _ _ _ _ _ _ _ (sym c.other_indent-indent.ensures) (sym count)
          (Putting-more F _ _ _ c.args.layout.now _ _ c.loop-rest.indent _ _ _ _ _ inv.putting _ laid _ c.put_line.ensures.sent (ap is_ok c.in_ok-put_line.was));
      at_word = c.lay_line-rest.ensures.at_word;
      dots = c.lay_line-rest.ensures.dots;
      small = rw c.other_indent-indent.ensures (other_indent-small c.args.style);
      empty = c.in_ok-put_line.ensures.empty;
      fewer = omega (arith, count, fewer, before);
    }

pub returns-clause-lines : goal.returns-clause-lines
returns-clause-lines g c =
    Putting-done g.K.Sink.can_fail _ _ _ _ _ c.loop-rest.indent _ _ _ _ c.loop-rest.invariant.putting (words-none c.loop-rest.rest.now (eqb-true _ _ (sym c.is_empty.ensures ∙ c.loop-rest-test.false)))
