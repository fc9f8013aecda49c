use Rattle.std.proofs.Common.{refl}
use Rattle.desk_parts.specs.declared.file_table.FileTable.TheVariants as tables
use Rattle.desk_store.specs.Opening.{format_read}
use Rattle.desk_store.proofs.AnyFile.{cells_before, entries_before}
use Rattle.desk_store.proofs.TablesRead.{and_then, fails_after, on_table, read_in_both, reads_on, reads_rest, table_fails}
use Rattle.desk_store.proofs.Exits.{reported_is}
use Rattle.desk_store.proofs.book_file.read_rest.Goals as goal

pub returns-in_err-read_tabs-clause-fails : goal.returns-in_err-read_tabs-clause-fails
returns-in_err-read_tabs-clause-fails g c clean =
    let f = format_read c.args.format in
    rw (reported_is _ c.from_residual.ensures.1)
    (table_fails g.S.Store f tables.Tab c.args.conn.now (read_in_both f tables.Tab _ refl tt) (c.in_err-read_tabs.ensures.answers clean))

pub returns-in_err-read_rows-clause-fails : goal.returns-in_err-read_rows-clause-fails
returns-in_err-read_rows-clause-fails g c clean =
    let f = format_read c.args.format in
    let tabs = on_table f tables.Tab (read_in_both f tables.Tab _ refl tt) c.read_tabs.ensures.survives c.in_ok-read_tabs.ensures.answers in
    rw (reported_is _ c.from_residual-in_err-read_rows.ensures.1)
    (fails_after g.S.Store c.args.conn.now c.read_tabs.new.conn tabs c.read_rows.ensures.survives clean
    (table_fails g.S.Store f tables.Para c.read_tabs.new.conn (read_in_both f tables.Para _ refl tt) (c.in_err-read_rows.ensures.answers clean)))

pub returns-in_err-read_entries-clause-fails : goal.returns-in_err-read_entries-clause-fails
returns-in_err-read_entries-clause-fails g c clean =
    let f = format_read c.args.format in
    let tabs = on_table f tables.Tab (read_in_both f tables.Tab _ refl tt) c.read_tabs.ensures.survives c.in_ok-read_tabs.ensures.answers in
    let paras = on_table f tables.Para (read_in_both f tables.Para _ refl tt) c.read_rows.ensures.survives c.in_ok-read_rows.ensures.answers in
    rw (reported_is _ c.from_residual-in_err-read_entries.ensures.1)
    (fails_after g.S.Store c.args.conn.now c.read_rows.new.conn (and_then tabs paras) c.read_entries.ensures.survives clean
    (c.in_err-read_entries.ensures.fails clean))

pub returns-in_err-read_rows-2-clause-fails : goal.returns-in_err-read_rows-2-clause-fails
returns-in_err-read_rows-2-clause-fails g c clean =
    let f = format_read c.args.format in
    let tabs = on_table f tables.Tab (read_in_both f tables.Tab _ refl tt) c.read_tabs.ensures.survives c.in_ok-read_tabs.ensures.answers in
    let paras = on_table f tables.Para (read_in_both f tables.Para _ refl tt) c.read_rows.ensures.survives c.in_ok-read_rows.ensures.answers in
    let entries = reads_on c.read_entries.ensures.survives c.in_ok-read_entries.ensures.read (λ a b same. entries_before a b same _) in
    rw (reported_is _ c.from_residual-in_err-read_rows-2.ensures.1)
    (fails_after g.S.Store c.args.conn.now c.read_entries.new.conn (and_then (and_then tabs paras) entries) c.read_rows-2.ensures.survives clean
    (table_fails g.S.Store f tables.Mark c.read_entries.new.conn (read_in_both f tables.Mark _ refl tt) (c.in_err-read_rows-2.ensures.answers clean)))

pub returns-in_err-read_cells-clause-fails : goal.returns-in_err-read_cells-clause-fails
returns-in_err-read_cells-clause-fails g c clean =
    let f = format_read c.args.format in
    let tabs = on_table f tables.Tab (read_in_both f tables.Tab _ refl tt) c.read_tabs.ensures.survives c.in_ok-read_tabs.ensures.answers in
    let paras = on_table f tables.Para (read_in_both f tables.Para _ refl tt) c.read_rows.ensures.survives c.in_ok-read_rows.ensures.answers in
    let entries = reads_on c.read_entries.ensures.survives c.in_ok-read_entries.ensures.read (λ a b same. entries_before a b same _) in
    let marks = on_table f tables.Mark (read_in_both f tables.Mark _ refl tt) c.read_rows-2.ensures.survives c.in_ok-read_rows-2.ensures.answers in
    rw (reported_is _ c.from_residual-in_err-read_cells.ensures.1)
    (fails_after g.S.Store c.args.conn.now c.read_rows-2.new.conn (and_then (and_then (and_then tabs paras) entries) marks) c.read_cells.ensures.survives clean
    (c.in_err-read_cells.ensures.fails clean))

pub returns-clause-read : goal.returns-clause-read
returns-clause-read g c clean =
    let f = format_read c.args.format in
    let tabs = on_table f tables.Tab (read_in_both f tables.Tab _ refl tt) c.read_tabs.ensures.survives c.in_ok-read_tabs.ensures.answers in
    let paras = on_table f tables.Para (read_in_both f tables.Para _ refl tt) c.read_rows.ensures.survives c.in_ok-read_rows.ensures.answers in
    let entries = reads_on c.read_entries.ensures.survives c.in_ok-read_entries.ensures.read (λ a b same. entries_before a b same _) in
    let marks = on_table f tables.Mark (read_in_both f tables.Mark _ refl tt) c.read_rows-2.ensures.survives c.in_ok-read_rows-2.ensures.answers in
    let cells = reads_on c.read_cells.ensures.survives c.in_ok-read_cells.ensures.read (λ a b same. cells_before a b same _) in
    let all = and_then (and_then (and_then (and_then tabs paras) entries) marks) cells in
    reads_rest f c.in_ok-read_tabs.field-0.items _ refl (all.read clean)
