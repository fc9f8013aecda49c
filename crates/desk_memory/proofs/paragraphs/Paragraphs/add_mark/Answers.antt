use Rattle.std.proofs.Common.{sym, ap, ◌∙◌, arith}
use Rattle.std.specs.Option.{option_copied_mut}
use Rattle.desk_memory.specs.HeldPrints.{with_mark}
use Rattle.desk_memory.proofs.paragraphs.Paragraphs.add_mark.Goals as goal

pub push-requires-clause-few : goal.push-requires-clause-few
push-requires-clause-few c =
    let few = (c.requires _ (sym c.get_mut.ensures.value ∙ ap option_copied_mut c.in-Some.is)).0 in
    omega arith

pub push-requires-clause-room : goal.push-requires-clause-room
push-requires-clause-room c = (c.requires _ (sym c.get_mut.ensures.value ∙ ap option_copied_mut c.in-Some.is)).1

pub returns-in-Some : goal.returns-in-Some
returns-in-Some c = rw c.push.ensures (c.in-Some.ensures.alone (with_mark c.args.index))
