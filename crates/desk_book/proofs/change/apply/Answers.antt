use Rattle.std.proofs.Common.{◌≡◌, ℕ, ◌+◌, List, length, sym, ap, subst, ◌∙◌, arith}
use Rattle.std.specs.Cmp.Lexicographic.{pointwise}
use Rattle.std.specs.List.{insert}
use Rattle.std.specs.Map.{lookup}
use Rattle.std.specs.Prelude.{IsSome, nat_eq}
use Rattle.desk_book.specs.declared.change.Effect.{Effect}
use Rattle.desk_book.specs.Changes.{IsEffect, IsEffectOn}
use Rattle.desk_memory.specs.declared.marks.HeldMark.{HeldMark}
use Rattle.desk_memory.specs.Held.{HeldParagraphs, HeldTables, book_held, ids, with_held_change, with_table}
use Rattle.desk_memory.specs.HeldPrints.{with_mark}
use Rattle.desk_memory.specs.Room.{Suffices}
use Rattle.desk_memory.proofs.Callers.{count-marks}
use Rattle.desk_model.specs.Book.{Book}
use Rattle.desk_book.proofs.Held.Applied.{IsHeldIn-applied, applied}
use Rattle.desk_book.proofs.Held.Settled as settled
use Rattle.desk_book.proofs.Held.Settled.{IsHeldIn, Parts, sound-next}
use Rattle.desk_book.proofs.Held.ShownEffects.{accepted-by, makes-by}
use Rattle.desk_book.proofs.change.apply.Goals as goal

module _ {was at : ℕ} {tables : HeldTables} {paragraphs : HeldParagraphs} {marks : List HeldMark} {effect this : Effect} {next : Book}
    (is : effect ≡ this) (it : IsEffectOn was tables paragraphs marks at effect next) where
  -- the effect on these parts, where it is this one
  on : IsEffect (book_held was tables paragraphs marks) at this next
  on = subst (λ e. IsEffect (book_held was tables paragraphs marks) at e next) is it.1

  -- the next book is held in what is left, where that is what this effect makes of them
  left : {ts : HeldTables} {ps : HeldParagraphs} {ms : List HeldMark} → ◌≡◌ {A = Parts} (ts, ps, ms) (applied this (tables, paragraphs, marks))
      → IsHeldIn at next (ts, ps, ms)
  left same = subst (IsHeldIn at next) (sym same) (IsHeldIn-applied was at tables paragraphs marks next this (it.0, on))

-- ---- tables

pub add-requires-clause-new : goal.add-requires-clause-new
add-requires-clause-new c =
    let it = c.requires in
    settled.new-added it.0 c.args.tables.now c.args.paragraphs.now c.args.marks.now it.2 it.1 c.in-AddTable.name c.in-AddTable.table c.in-AddTable.room (on c.in-AddTable.is it.3)

pub returns-in-AddTable : goal.returns-in-AddTable
returns-in-AddTable c = λ was at next it.
    left c.in-AddTable.is it (λ i. (c.add.ensures i, c.args.paragraphs.now, c.args.marks.now))

pub replace-requires : goal.replace-requires
replace-requires c =
    let it = c.requires in
    let tables = c.args.tables.now in
    let here = on c.in-ReplaceTable.is it.3 in
    subst (λ (name : List ℕ). IsSome (lookup (pointwise nat_eq name) tables)) (sym c.as_str.ensures)
    (settled.there-replaced it.0 tables c.args.paragraphs.now c.args.marks.now c.in-ReplaceTable.name here.does.1)

pub returns-in-ReplaceTable : goal.returns-in-ReplaceTable
returns-in-ReplaceTable c = λ was at next it.
    let replaced = c.replace.ensures ∙ ap (λ (name : List ℕ). with_table name c.in-ReplaceTable.table c.args.tables.now) c.as_str.ensures in
    left c.in-ReplaceTable.is it (λ i. (replaced i, c.renew.ensures i, c.args.marks.now))

-- ---- paragraphs

pub add-requires-in-AddParagraph-clause-order : goal.add-requires-in-AddParagraph-clause-order
add-requires-in-AddParagraph-clause-order c =
    let it = c.requires in
    let tables = c.args.tables.now in
    let paragraphs = c.args.paragraphs.now in
    let marks = c.args.marks.now in
    let place = c.in-AddParagraph.place in
    let here = on c.in-AddParagraph.is it.3 in
    let order = settled.order-placed it.0 tables paragraphs marks it.2 place here.does.order in
    settled.order-typed it.0 tables paragraphs marks it.2 it.1 here.does.anchor here.does.text (insert (ids paragraphs) place (length paragraphs + 1)) c.in-AddParagraph.paragraph here.at
    (accepted-by here here.does.command_is) (makes-by here here.does.command_is) here.does.typed_is order it.3.0 (sound-next _ _ _ _ it.3.0 _ _ _ here)

pub returns-in-AddParagraph : goal.returns-in-AddParagraph
returns-in-AddParagraph c = λ was at next it.
    left c.in-AddParagraph.is it (λ i. (c.args.tables.now, c.add-in-AddParagraph.ensures i, c.args.marks.now))

pub give_way-requires-clause-indexes : goal.give_way-requires-clause-indexes
give_way-requires-clause-indexes c =
    let it = c.requires in
    let here = on c.in-ChangePrint.is it.3 in (
      c.in-ChangePrint.id,
      settled.indexes-print_changed it.0 c.args.tables.now c.args.paragraphs.now c.args.marks.now it.2 it.1 c.in-ChangePrint.id c.in-ChangePrint.change here.at here.does.1 it.3.0
          c.marks_of-indexes.result.now c.marks_of-indexes.ensures,
    )

pub give_way-requires-clause-marks : goal.give_way-requires-clause-marks
give_way-requires-clause-marks c = let it = c.requires in settled.AreWithin-marks it.0 c.args.tables.now c.args.paragraphs.now c.args.marks.now it.3.0

pub change_print-requires : goal.change_print-requires
change_print-requires c =
    let it = c.requires in
    let here = on c.in-ChangePrint.is it.3 in
    settled.HasRoomFor-print_changed it.0 c.args.tables.now c.args.paragraphs.now c.args.marks.now it.2 it.1 c.in-ChangePrint.id c.in-ChangePrint.change here.at here.does.1

pub returns-in-ChangePrint : goal.returns-in-ChangePrint
returns-in-ChangePrint c = λ was at next it.
    let id = c.in-ChangePrint.id in
    let here = on c.in-ChangePrint.is it in
    let indexes = settled.indexes-print_changed was c.args.tables.now c.args.paragraphs.now c.args.marks.now next at id c.in-ChangePrint.change here.at here.does.1 it.0
    c.marks_of-indexes.result.now c.marks_of-indexes.ensures in
    left c.in-ChangePrint.is it (λ i. (c.args.tables.now, c.change_print.ensures i, c.give_way.ensures id indexes i))

pub returns-in-SetFlags : goal.returns-in-SetFlags
returns-in-SetFlags c = λ was at next it.
    left c.in-SetFlags.is it (λ i. (c.args.tables.now, c.set_flags.ensures i, c.args.marks.now))

pub returns-in-ChangeTable : goal.returns-in-ChangeTable
returns-in-ChangeTable c = λ was at next it.
    left c.in-ChangeTable.is it (λ i. (c.args.tables.now, c.set_table.ensures i, c.args.marks.now))

pub reorder-requires : goal.reorder-requires
reorder-requires c =
    let it = c.requires in
    let here = on c.in-Reorder.is it.3 in
    settled.order-reordered it.0 c.args.tables.now c.args.paragraphs.now c.args.marks.now it.2 it.1 c.in-Reorder.order here.at here.does.0.1 here.does.0.2 here.does.1 it.3.0 (sound-next _ _ _ _ it.3.0 _ _ _ here)

pub returns-in-Reorder : goal.returns-in-Reorder
returns-in-Reorder c = λ was at next it.
    left c.in-Reorder.is it (λ i. (c.args.tables.now, c.reorder.ensures i, c.args.marks.now))

-- ---- marks

pub add_mark-requires : goal.add_mark-requires
add_mark-requires c =
    let it = c.requires in
    let here = on c.in-AddMark.is it.3 in
    settled.HasRoomForMark-noted it.0 c.args.tables.now c.args.paragraphs.now c.args.marks.now it.2 it.1 c.in-AddMark.mark here.at here.does.0 it.3.0 c.in-AddMark.index_room here.does.2 here.does.3

pub push-requires-clause-few : goal.push-requires-clause-few
push-requires-clause-few c =
    let here = on c.in-AddMark.is c.requires.3 in
    let count = count-marks c.args.marks.now in
    let few = here.does.2 in
    omega arith

pub push-requires-clause-room : goal.push-requires-clause-room
push-requires-clause-room c =
    let here = on c.in-AddMark.is c.requires.3 in
    subst (λ n. Suffices n c.in-AddMark.room) (count-marks c.args.marks.now) here.does.1

pub returns-in-AddMark : goal.returns-in-AddMark
returns-in-AddMark c = λ was at next it.
    let noted = c.add_mark.ensures ∙ ap (λ (n : ℕ). with_held_change c.in-AddMark.mark.paragraph (with_mark n) c.args.paragraphs.now) c.len.ensures in
    left c.in-AddMark.is it (λ i. (c.args.tables.now, noted i, c.push.ensures i))

pub returns-in-ResolveMark : goal.returns-in-ResolveMark
returns-in-ResolveMark c = λ was at next it.
    left c.in-ResolveMark.is it (λ i. (c.args.tables.now, c.args.paragraphs.now, c.resolve.ensures i))
