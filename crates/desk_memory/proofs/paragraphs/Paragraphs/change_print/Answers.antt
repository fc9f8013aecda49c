use Rattle.std.proofs.Common.{◌<◌, length, subst, sym, ap, ◌∙◌, arith}
use Rattle.std.specs.Option.{option_copied_mut}
use Rattle.desk_memory.specs.declared.paragraphs.Paragraph.{Paragraph as HeldParagraph}
use Rattle.desk_memory.specs.HeldPrints.{with_print_changed}
use Rattle.desk_memory.specs.Room.{Suffices}
use Rattle.desk_memory.proofs.paragraphs.Paragraphs.change_print.Goals as goal
use Rattle.std.proofs.lemmas.Option.{same_Some}

pub push-requires-clause-few : goal.push-requires-clause-few
push-requires-clause-few c =
    let same = same_Some _ _ (sym c.requires.found ∙ (sym c.get_mut.ensures.value ∙ ap option_copied_mut c.in-Some.is)) in
    let few = subst (λ (k : HeldParagraph). length k.history < 10000) same c.requires.few in
    omega arith

pub push-requires-clause-room : goal.push-requires-clause-room
push-requires-clause-room c =
    let same = same_Some _ _ (sym c.requires.found ∙ (sym c.get_mut.ensures.value ∙ ap option_copied_mut c.in-Some.is)) in
    subst (λ (k : HeldParagraph). Suffices (length k.history) c.args.change.room) same c.requires.room_is

pub returns : goal.returns
returns c = rw c.push.ensures (c.in-Some.ensures.alone (with_print_changed c.args.change))
