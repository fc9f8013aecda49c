use Rattle.std.proofs.Common.{List, refl, subst}
use Rattle.sqlite.specs.Held.{state}
use Rattle.desk_parts.specs.declared.file_table.FileTable.{FileTable}
use Rattle.desk_parts.specs.Puts.{LendsFirst}
use Rattle.desk_rows.specs.Failing.{FailsToChange, of_items}
use Rattle.desk_rows.specs.Statements.{with_transaction}
use Rattle.desk_rows.specs.States.{ShowsContents}
use Rattle.desk_store.proofs.BookPuts.{left_made, shown_made}
use Rattle.desk_store.proofs.Filled.{are_written, crash_gained, gains, left_filled}
use Rattle.desk_store.proofs.fill.fill.Goals as goal

pub write_with_tables-requires : goal.write_with_tables-requires
write_with_tables-requires g c κs =
    ((refl, tt), (c.requires, (are_written c.args.tables c.file_tables.result.now c.file_tables.ensures, (tt, tt))))

pub returns-in-Ok-clause-open : goal.returns-in-Ok-clause-open
returns-in-Ok-clause-open g c clean = (c.in-Ok.ensures.commits clean).committed

pub returns-in-Ok-clause-settled : goal.returns-in-Ok-clause-settled
returns-in-Ok-clause-settled g c clean = (c.in-Ok.ensures.commits clean).settled

pub returns-in-Ok-clause-fills : goal.returns-in-Ok-clause-fills
returns-in-Ok-clause-fills g c =
    let old = c.args.conn.now in
    let new = state g.S.Store c.write_with_tables.new.conn in
    let puts = c.filling.result in
    let tables = c.file_tables.result.now in
    record {
      filled = λ clean. gains c.args.tables c.args.book.now puts c.filling.ensures tables c.file_tables.ensures _
          (λ after d. ShowsContents after d new) (shown_made g.S.Store puts old tables new (c.in-Ok.ensures.commits clean).shown).0;
      crash = crash_gained c.args.tables c.args.book.now puts c.filling.ensures tables c.file_tables.ensures _
          (λ db left. (left_made g.S.Store puts old tables db left).0) c.write_with_tables.ensures.crash;
      ran = λ clean.
          let run = (shown_made g.S.Store puts old tables new (c.in-Ok.ensures.commits clean).shown).1 in
          (run.0, (tables, puts, (c.file_tables.ensures, c.filling.ensures), run.1), run.2);
      left = left_filled g.S.Store c.args.tables c.args.book.now puts c.filling.ensures tables c.file_tables.ensures old new c.write_with_tables.ensures.crash;
      reported = tt;
      stops = λ clean. tt;
    }

pub returns-in-Err-clause-fills : goal.returns-in-Err-clause-fills
returns-in-Err-clause-fills g c =
    let old = c.args.conn.now in
    let new = state g.S.Store c.write_with_tables.new.conn in
    let puts = c.filling.result in
    let tables = c.file_tables.result.now in
    record {
      filled = λ clean l stands. tt;
      crash = crash_gained c.args.tables c.args.book.now puts c.filling.ensures tables c.file_tables.ensures _
          (λ db left. (left_made g.S.Store puts old tables db left).0) c.write_with_tables.ensures.crash;
      ran = λ clean. tt;
      left = left_filled g.S.Store c.args.tables c.args.book.now puts c.filling.ensures tables c.file_tables.ensures old new c.write_with_tables.ensures.crash;
      reported = c.stopped_by.ensures.not_refused;
      stops = λ clean. (
        c.args.tables,
        refl,
        record {
          puts = puts;
          fill = c.filling.ensures;
          error = c.in-Err.error;
          fails = subst (λ (made : List FileTable). FailsToChange g.S.Store made (of_items g.S.Store LendsFirst puts) (with_transaction old) new c.in-Err.error)
              c.file_tables.ensures (c.in-Err.ensures.commits clean).fails;
          why = c.stopped_by.ensures.reported.0;
          is_caused = c.stopped_by.ensures.reported.1;
          is_reported = c.stopped_by.ensures.reported.2;
          as_before = (c.in-Err.ensures.commits clean).as_before;
        },
      );
    }
