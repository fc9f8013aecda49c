use Rattle.std.proofs.Common.{◌≤◌, List, Err, Ok, length, sym, subst, ◌∙◌, All, IfErr}
use Rattle.desk_memory.specs.declared.marks.HeldMark.{HeldMark}
use Rattle.desk_memory.specs.declared.paragraphs.Paragraph.{Paragraph as HeldParagraph}
use Rattle.desk_parts.specs.declared.file_table.FileTable.TheVariants.{Mark as MarkTable}
use Rattle.desk_model.specs.Damage.{IsDamagedMark}
use Rattle.desk_rebuild.specs.Faults.{TellsDamageOf}
use Rattle.desk_rebuild.specs.Marks.{AreHeldOf, IsOnOne, mark_rule}
use Rattle.desk_rebuild.specs.OrderedRows.{TellsUnsound}
use Rattle.desk_model.specs.Limits.{most_marks}
use Rattle.desk_rebuild.proofs.FirstTables.{IfErr-exit}
use Rattle.desk_rebuild.proofs.FirstTables.{first-of-table, of-table-rows}
use Rattle.desk_rebuild.proofs.MarkRows.{all-texts, are-marks, few-held, on-ones, tells, whole}
use Rattle.desk_rebuild.proofs.marks.read_marks.Goals as goal

pub returns-in_err-marks-clause-damaged : goal.returns-in_err-marks-clause-damaged
returns-in_err-marks-clause-damaged c = λ paras of.
    let items = c.args.items.now.items in
    let sorted = c.sort.new.rows.items in
    let reported = subst (λ items. IfErr c.marks_of.result (TellsUnsound (mark_rule items) sorted)) c.deref.ensures.value c.marks_of.ensures.damaged in
    IfErr-exit c.from_residual.result c.in_err-marks.field-0.0 (TellsDamageOf MarkTable (IsDamagedMark paras c.args.rows.items)) c.from_residual.ensures.1
    (first-of-table MarkTable c.marks_of.result (Err c.in_err-marks.field-0.0) c.in_err-marks.ensures (mark_rule items) sorted (IsDamagedMark paras c.args.rows.items)
    (tells paras items of c.args.rows.items sorted c.sort.ensures.same c.sort.ensures.sorted) reported)

pub give_indexes-requires-clause-there : goal.give_indexes-requires-clause-there
give_indexes-requires-clause-there c =
    let sorted = c.sort.new.rows.items in
    let held = of-table-rows MarkTable c.marks_of.result (Ok c.in_ok-marks.marks) c.in_ok-marks.ensures (λ marks. AreHeldOf c.deref.result.now sorted marks.items) c.marks_of.ensures.marks in
    subst (λ marks. All (IsOnOne (length c.deref_mut.result.now)) marks) (sym c.deref-2.ensures.value)
    (subst (λ (items : List HeldParagraph). All (IsOnOne (length items)) c.in_ok-marks.marks.items) (c.deref.ensures.value ∙ sym c.deref_mut.ensures.value)
    (on-ones c.deref.result.now sorted c.in_ok-marks.marks.items held))

pub give_indexes-requires-clause-few : goal.give_indexes-requires-clause-few
give_indexes-requires-clause-few c =
    let sorted = c.sort.new.rows.items in
    let held = of-table-rows MarkTable c.marks_of.result (Ok c.in_ok-marks.marks) c.in_ok-marks.ensures (λ marks. AreHeldOf c.deref.result.now sorted marks.items) c.marks_of.ensures.marks in
    subst (λ (marks : List HeldMark). length marks ≤ most_marks) (sym c.deref-2.ensures.value) (few-held c.deref.result.now sorted c.in_ok-marks.marks.items held)

pub returns-clause-whole : goal.returns-clause-whole
returns-clause-whole c = λ paras of.
    let sorted = c.sort.new.rows.items in
    let held = of-table-rows MarkTable c.marks_of.result (Ok c.in_ok-marks.marks) c.in_ok-marks.ensures (λ marks. AreHeldOf c.deref.result.now sorted marks.items) c.marks_of.ensures.marks in
    whole paras c.args.items.now.items of c.args.rows.items sorted c.sort.ensures.same c.sort.ensures.sorted c.in_ok-marks.marks.items
    (subst (λ items. AreHeldOf items sorted c.in_ok-marks.marks.items) c.deref.ensures.value held)

pub returns-clause-texts : goal.returns-clause-texts
returns-clause-texts c =
    let sorted = c.sort.new.rows.items in
    let held = of-table-rows MarkTable c.marks_of.result (Ok c.in_ok-marks.marks) c.in_ok-marks.ensures (λ marks. AreHeldOf c.deref.result.now sorted marks.items) c.marks_of.ensures.marks in
    all-texts c.deref.result.now c.args.rows.items sorted c.in_ok-marks.marks.items c.sort.ensures.same held

pub returns-clause-marks : goal.returns-clause-marks
returns-clause-marks c =
    let sorted = c.sort.new.rows.items in
    let held = of-table-rows MarkTable c.marks_of.result (Ok c.in_ok-marks.marks) c.in_ok-marks.ensures (λ marks. AreHeldOf c.deref.result.now sorted marks.items) c.marks_of.ensures.marks in
    are-marks c.deref.result.now c.args.rows.items sorted c.in_ok-marks.marks.items c.sort.ensures.same held

pub returns-clause-few : goal.returns-clause-few
returns-clause-few c =
    let sorted = c.sort.new.rows.items in
    let held = of-table-rows MarkTable c.marks_of.result (Ok c.in_ok-marks.marks) c.in_ok-marks.ensures (λ marks. AreHeldOf c.deref.result.now sorted marks.items) c.marks_of.ensures.marks in
    few-held c.deref.result.now sorted c.in_ok-marks.marks.items held
