use Rattle.std.proofs.Common.{length, ap, ◌∙◌, arith, below_more, not, chars}
use Rattle.std.proofs.lemmas.Iterator.{YieldsList-from_chars}
use Rattle.std.proofs.lemmas.Iterator.Consumers.{YieldsList-turn, YieldsList-end}
use Rattle.std.proofs.lemmas.List.{length_push}
use Rattle.louis_translate.proofs.Characters.{definition_of-none, definition_of-some}
use Rattle.louis_translate.proofs.print.first_undefined.Goals as goal

pub returns-then-is_none-clause-some : goal.returns-then-is_none-clause-some
returns-then-is_none-clause-some c =
    let t = YieldsList-turn (YieldsList-from_chars c.args.text.now c.utf8.text cc) c.loop-character.yielded _ c.loop-character.yielded_by _ _ c.in-Some.character c.in-Some.is c.next.ensures.steps in
    let counted = c.loop-character.invariant.counted in
    record {
      within = omega arith;
      undefined = definition_of-none c.args.table.now (chars c.args.text.now) c.loop-character.place (length c.loop-character.yielded) c.in-Some.character c.definition.result c.definition.ensures counted t (c.is_none.ensures ∙ ap not c.if-is_none.true);
      before = c.loop-character.invariant.defined;
    }

pub loop-character-preserved : goal.loop-character-preserved
loop-character-preserved c =
    let t = YieldsList-turn (YieldsList-from_chars c.args.text.now c.utf8.text cc) c.loop-character.yielded _ c.loop-character.yielded_by _ _ c.in-Some.character c.in-Some.is c.next.ensures.steps in
    let n = length_push c.loop-character.yielded c.in-Some.character in
    let counted = c.loop-character.invariant.counted in
    record {
      can_next = tt;
      is_finite = tt;
      counted = omega arith;
      defined = below_more _ _ c.loop-character.invariant.defined (definition_of-some c.args.table.now (chars c.args.text.now) c.loop-character.place (length c.loop-character.yielded) c.in-Some.character c.definition.result c.definition.ensures counted t (c.is_none.ensures ∙ ap not c.if-is_none.false));
    }

pub returns-clause-none : goal.returns-clause-none
returns-clause-none c =
    let t = YieldsList-end (YieldsList-from_chars c.args.text.now c.utf8.text cc) c.loop-character.yielded _ c.loop-character.yielded_by _ _ c.in-None.is c.next.ensures.steps in
    let counted = c.loop-character.invariant.counted in
    λ k lt. c.loop-character.invariant.defined k (omega (arith, t.1))
