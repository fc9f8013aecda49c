use Rattle.std.proofs.Common.{rules, subst, sym}
use Rattle.desk_model.specs.Rebuilding.{IsFaultOf}
use Rattle.desk_parts.specs.Parts.{rows_in}
use Rattle.desk_model.specs.Shows.{Shows}
use Rattle.desk_rebuild.proofs.FirstTables.{IfErr-exit}
use Rattle.desk_memory.specs.Held.{IsHeld, book_held}
use Rattle.desk_rebuild.specs.Rows.{AreOf}
use Rattle.desk_rebuild.specs.declared.book.HeldBook.{HeldBook}
use Rattle.desk_rebuild.proofs.CacheRows.{few-items}
use Rattle.desk_rebuild.proofs.HeldRows.{order-permutes}
use Rattle.desk_rebuild.proofs.RebuiltBook.{cache-fault, entry-fault, made, mark-fault, of-with_cells, of-with_history, of-with_marks, para-fault, tab-fault, unmarked-with_history, version-read}
use Rattle.desk_rebuild.proofs.book.rebuild.Goals as goal
use Rattle.desk_rebuild.proofs.book.rebuild.Goals.{In_ok-give_histories, In_ok-marks}

-- the paragraphs with their histories, and with their marks, are those of the rows
history_of : (c : In_ok-give_histories) → AreOf (rows_in c.args.parts).paras c.give_histories.new.items.items
history_of c = of-with_history _ _ _ c.in_ok-give_histories.ensures.same (c.in_ok-items.ensures.items (rows_in c.args.parts).tabs c.in_ok-tables.ensures.tables)

marks_of : (c : In_ok-marks) → AreOf (rows_in c.args.parts).paras c.give_histories.new.items.items → AreOf (rows_in c.args.parts).paras c.read_marks.new.items.items
marks_of c = of-with_marks _ _ _ c.in_ok-marks.ensures.same

pub returns-in_err-tables-clause-damaged : goal.returns-in_err-tables-clause-damaged
returns-in_err-tables-clause-damaged c =
    let within = (version-read c.args.parts (search rules) c.in-Some.version c.in-Some.ensures).0 in
    IfErr-exit c.from_residual.result c.in_err-tables.field-0.0 (IsFaultOf (rows_in c.args.parts)) c.from_residual.ensures.1
    (tab-fault c.args.parts within c.in_err-tables.field-0.0 c.in_err-tables.ensures.damaged)

pub returns-in_err-items-clause-damaged : goal.returns-in_err-items-clause-damaged
returns-in_err-items-clause-damaged c =
    let rows = rows_in c.args.parts in
    let within = (version-read c.args.parts (search rules) c.in-Some.version c.in-Some.ensures).0 in
    IfErr-exit c.from_residual-in_err-items.result c.in_err-items.field-0.0 (IsFaultOf rows) c.from_residual-in_err-items.ensures.1
    (para-fault c.args.parts within c.in_ok-tables.ensures.whole c.in_err-items.field-0.0 (c.in_err-items.ensures.damaged rows.tabs c.in_ok-tables.ensures.tables))

pub give_histories-requires : goal.give_histories-requires
give_histories-requires c =
    let rows = rows_in c.args.parts in
    record { of = (rows.paras, c.in_ok-items.ensures.items rows.tabs c.in_ok-tables.ensures.tables) }

pub returns-in_err-give_histories-clause-damaged : goal.returns-in_err-give_histories-clause-damaged
returns-in_err-give_histories-clause-damaged c =
    let rows = rows_in c.args.parts in
    let within = (version-read c.args.parts (search rules) c.in-Some.version c.in-Some.ensures).0 in
    let tables = c.in_ok-tables.ensures.tables in
    IfErr-exit c.from_residual-in_err-give_histories.result c.in_err-give_histories.field-0.0 (IsFaultOf rows) c.from_residual-in_err-give_histories.ensures.1
    (entry-fault c.args.parts within c.in_ok-tables.ensures.whole (c.in_ok-items.ensures.whole rows.tabs tables) c.in_err-give_histories.field-0.0
    (c.in_err-give_histories.ensures.damaged rows.paras (c.in_ok-items.ensures.items rows.tabs tables)))

pub read_marks-requires-clause-of : goal.read_marks-requires-clause-of
read_marks-requires-clause-of c = ((rows_in c.args.parts).paras, history_of (goal.at.read_marks-requires-clause-of c).In_ok-give_histories)

pub read_marks-requires-clause-unmarked : goal.read_marks-requires-clause-unmarked
read_marks-requires-clause-unmarked c =
    unmarked-with_history c.in_ok-items.field-0.items.items c.give_histories.new.items.items c.in_ok-give_histories.ensures.same c.in_ok-items.ensures.unmarked

pub returns-in_err-marks-clause-damaged : goal.returns-in_err-marks-clause-damaged
returns-in_err-marks-clause-damaged c =
    let rows = rows_in c.args.parts in
    let within = (version-read c.args.parts (search rules) c.in-Some.version c.in-Some.ensures).0 in
    let tables = c.in_ok-tables.ensures.tables in
    let of = c.in_ok-items.ensures.items rows.tabs tables in
    let with_history = history_of (goal.at.returns-in_err-marks-clause-damaged c).In_ok-give_histories in
    IfErr-exit c.from_residual-in_err-marks.result c.in_err-marks.field-0.0 (IsFaultOf rows) c.from_residual-in_err-marks.ensures.1
    (mark-fault c.args.parts within c.in_ok-tables.ensures.whole (c.in_ok-items.ensures.whole rows.tabs tables) (c.in_ok-give_histories.ensures.whole rows.paras of)
    c.in_err-marks.field-0.0 (c.in_err-marks.ensures.damaged rows.paras with_history))

pub give_cells-requires : goal.give_cells-requires
give_cells-requires c =
    let at = goal.at.give_cells-requires c in
    let rows = rows_in c.args.parts in
    let tables = c.in_ok-tables.ensures.tables in
    record { of = (rows.tabs, rows.paras, tables, marks_of at.In_ok-marks (history_of at.In_ok-give_histories), c.in_ok-items.ensures.whole rows.tabs tables) }

pub returns-in_err-give_cells-clause-damaged : goal.returns-in_err-give_cells-clause-damaged
returns-in_err-give_cells-clause-damaged c =
    let at = goal.at.returns-in_err-give_cells-clause-damaged c in
    let rows = rows_in c.args.parts in
    let within = (version-read c.args.parts (search rules) c.in-Some.version c.in-Some.ensures).0 in
    let tables = c.in_ok-tables.ensures.tables in
    let no_para = c.in_ok-items.ensures.whole rows.tabs tables in
    let of = c.in_ok-items.ensures.items rows.tabs tables in
    let with_history = history_of at.In_ok-give_histories in
    IfErr-exit c.from_residual-in_err-give_cells.result c.in_err-give_cells.field-0.0 (IsFaultOf rows) c.from_residual-in_err-give_cells.ensures.1
    (cache-fault c.args.parts within c.in_ok-tables.ensures.whole no_para (c.in_ok-give_histories.ensures.whole rows.paras of) (c.in_ok-marks.ensures.whole rows.paras with_history)
    c.in_err-give_cells.field-0.0 (c.in_err-give_cells.ensures.damaged rows.tabs rows.paras tables (marks_of at.In_ok-marks with_history) no_para))

pub held_book-requires-clause-order : goal.held_book-requires-clause-order
held_book-requires-clause-order c =
    let at = goal.at.held_book-requires-clause-order c in
    let rows = rows_in c.args.parts in
    let with_marks = marks_of at.In_ok-marks (history_of at.In_ok-give_histories) in
    let last = of-with_cells rows.paras c.read_marks.new.items.items c.give_cells.new.items.items c.in_ok-give_cells.ensures.same with_marks in
    order-permutes rows.paras c.give_cells.new.items.items c.in_ok-items.field-0.order.items last (c.in_ok-items.ensures.order rows.tabs c.in_ok-tables.ensures.tables)

pub held_book-requires-clause-few_paragraphs : goal.held_book-requires-clause-few_paragraphs
held_book-requires-clause-few_paragraphs c =
    let at = goal.at.held_book-requires-clause-few_paragraphs c in
    let rows = rows_in c.args.parts in
    let tables = c.in_ok-tables.ensures.tables in
    let with_marks = marks_of at.In_ok-marks (history_of at.In_ok-give_histories) in
    let last = of-with_cells rows.paras c.read_marks.new.items.items c.give_cells.new.items.items c.in_ok-give_cells.ensures.same with_marks in
    few-items rows.tabs rows.paras c.in_ok-tables.tables c.give_cells.new.items.items tables last (c.in_ok-items.ensures.whole rows.tabs tables)

pub held_book-requires-clause-few_marks : goal.held_book-requires-clause-few_marks
held_book-requires-clause-few_marks c = c.in_ok-marks.ensures.few

pub returns-clause-made : goal.returns-clause-made
returns-clause-made c =
    let at = goal.at.returns-clause-made c in
    let rows = rows_in c.args.parts in
    let version = version-read c.args.parts (search rules) c.in-Some.version c.in-Some.ensures in
    let tables = c.in_ok-tables.ensures.tables in
    let no_para = c.in_ok-items.ensures.whole rows.tabs tables in
    let of = c.in_ok-items.ensures.items rows.tabs tables in
    let with_history = history_of at.In_ok-give_histories in
    let with_marks = marks_of at.In_ok-marks with_history in
    subst (λ (book : HeldBook). IsHeld book.version book.tables book.paragraphs book.marks
    × Shows rows (book_held book.version book.tables book.paragraphs book.marks)) (sym c.in_ok-book.ensures)
    (made c.args.parts version.0 c.in_ok-tables.ensures.whole no_para (c.in_ok-give_histories.ensures.whole rows.paras of) (c.in_ok-marks.ensures.whole rows.paras with_history)
    (c.in_ok-give_cells.ensures.whole rows.tabs rows.paras tables with_marks no_para) c.in-Some.version version.1 c.in_ok-tables.tables tables
    c.in_ok-items.field-0.items.items c.give_histories.new.items.items c.read_marks.new.items.items c.give_cells.new.items.items c.in_ok-items.field-0.order.items of
    (c.in_ok-items.ensures.order rows.tabs tables) c.in_ok-give_histories.ensures.texts (c.in_ok-give_histories.ensures.histories rows.paras of) c.in_ok-give_histories.ensures.same
    c.in_ok-marks.ensures.texts c.in_ok-marks.marks.items c.in_ok-marks.ensures.marks c.in_ok-marks.ensures.indexes c.in_ok-marks.ensures.same
    (c.in_ok-give_cells.ensures.cells rows.tabs rows.paras tables with_marks no_para) c.in_ok-give_cells.ensures.same)
