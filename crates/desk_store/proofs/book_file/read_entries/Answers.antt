use Rattle.desk_parts.specs.declared.file_table.FileTable.TheVariants as tables
use Rattle.desk_store.specs.Formats.{named, unnamed}
use Rattle.desk_store.proofs.TablesRead.{reads_named, reads_table, reads_unnamed, table_fails}
use Rattle.desk_store.proofs.Exits.{reported_is}
use Rattle.desk_store.proofs.book_file.read_entries.Goals as goal

pub returns-in_err-read_rows-in-Unnamed-clause-fails : goal.returns-in_err-read_rows-in-Unnamed-clause-fails
returns-in_err-read_rows-in-Unnamed-clause-fails g c clean =
    rw (reported_is _ c.from_residual.ensures.1, c.in-Unnamed.is)
    (table_fails g.S.Store unnamed tables.Corr c.args.conn.now tt (c.in_err-read_rows-in-Unnamed.ensures.answers clean))

pub returns-in_err-read_rows-in-Named-clause-fails : goal.returns-in_err-read_rows-in-Named-clause-fails
returns-in_err-read_rows-in-Named-clause-fails g c clean =
    rw (reported_is _ c.from_residual-in_err-read_rows-in-Named.ensures.1, c.in-Named.is)
    (table_fails g.S.Store named tables.NamedCorr c.args.conn.now tt (c.in_err-read_rows-in-Named.ensures.answers clean))

pub returns-in_ok-read_rows-in-Unnamed-clause-read : goal.returns-in_ok-read_rows-in-Unnamed-clause-read
returns-in_ok-read_rows-in-Unnamed-clause-read g c clean =
    let read = c.in_ok-read_rows-in-Unnamed in
    rw c.in-Unnamed.is
    (reads_unnamed read.field-0.items (reads_table unnamed tables.Corr tt (read.ensures.answers clean)))

pub returns-in_ok-read_rows-in-Named-clause-read : goal.returns-in_ok-read_rows-in-Named-clause-read
returns-in_ok-read_rows-in-Named-clause-read g c clean =
    let read = c.in_ok-read_rows-in-Named in
    rw c.in-Named.is
    (reads_named read.field-0.items (reads_table named tables.NamedCorr tt (read.ensures.answers clean)))
