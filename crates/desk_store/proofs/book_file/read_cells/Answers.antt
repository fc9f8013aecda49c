use Rattle.std.proofs.Common.{◌∙◌, refl, sym}
use Rattle.desk_parts.specs.declared.file_table.FileTable.TheVariants as tables
use Rattle.desk_store.specs.Opening.{format_read}
use Rattle.desk_store.proofs.TablesRead.{read_in_both, reads_cells, reads_none, reads_table, table_fails}
use Rattle.desk_store.proofs.Exits.{reported_is}
use Rattle.desk_store.proofs.book_file.read_cells.Goals as goal

pub returns-then-not-has_table-clause-read : goal.returns-then-not-has_table-clause-read
returns-then-not-has_table-clause-read g c clean =
    reads_none (format_read c.args.format) _ (sym c.has_table.ensures ∙ c.if-not-has_table.true)

pub returns-in_err-read_rows-clause-fails : goal.returns-in_err-read_rows-clause-fails
returns-in_err-read_rows-clause-fails g c clean =
    let f = format_read c.args.format in
    let there = sym c.has_table.ensures ∙ c.if-not-has_table.false in
    rw (reported_is _ c.from_residual.ensures.1)
    (table_fails g.S.Store f tables.Cache c.args.conn.now (read_in_both f tables.Cache _ refl there) (c.in_err-read_rows.ensures.answers clean))

pub returns-clause-read : goal.returns-clause-read
returns-clause-read g c clean =
    let f = format_read c.args.format in
    let there = sym c.has_table.ensures ∙ c.if-not-has_table.false in
    reads_cells f c.in_ok-read_rows.field-0.items there
    (reads_table f tables.Cache (read_in_both f tables.Cache _ refl there) (c.in_ok-read_rows.ensures.answers clean))
