use Rattle.std.proofs.Common.{◌≡◌, ◌+◌, ◌++◌, List, arith, sym, subst, take, drop, true, ap, ◌∙◌, take_all, get_or, Ok, Err}
use Rattle.std.proofs.lemmas.List.{drop_more, take-append-drop, take_more}
use Rattle.std.proofs.lemmas.Result.{err_from_is_err_and}
use Rattle.sqlite.specs.State.{HasCleanDisk}
use Rattle.sqlite.proofs.InsideLemmas.{keeps_then}
use Rattle.sqlite.proofs.StateLemmas.{survives_then}
use Rattle.desk_parts.specs.declared.file_table.FileTable.{FileTable}
use Rattle.desk_parts.specs.declared.file_table.FileTable.TheVariants as tables
use Rattle.sql_tables.specs.States.{seen}
use Rattle.desk_rows.specs.Descriptions.{description_of}
use Rattle.desk_rows.specs.Making.{AreMade, IsCreated, creation}
use Rattle.sqlite_trees.proofs.ListLemmas.{all-get_or}
use Rattle.desk_rows.proofs.Schema.Creates.{creates}
use Rattle.desk_rows.proofs.Schema.MadeTables.{makes_more}
use Rattle.desk_rows.proofs.Transactions.Turns.{one_more_ran}
use Rattle.desk_rows.proofs.make.create_all.Goals as goal

pub loop-table-preserved : goal.loop-table-preserved
loop-table-preserved g c =
    let old = seen g.S.Store c.args.tx.now in
    let now = seen g.S.Store c.loop-table.tx in
    let new = seen g.S.Store c.run.new.tx in
    let given = c.args.tables.now in
    let at = c.loop-table.table-index in
    let next = get_or given at tables.Book in
    let early : HasCleanDisk new → HasCleanDisk now = λ clean. omega (arith, clean, c.run.ensures.survives.clean) in
    let written = all-get_or (λ t. (description_of t).is_written ≡ true) given at tables.Book c.requires c.loop-table-test.true in
    let created : HasCleanDisk new → IsCreated {V = Unit {0}} (Ok tt) next now new =
    λ clean. creates next written now new (Ok tt) (rw c.create_text.ensures at (c.in_ok-run.ensures.runs clean)) in
    record {
      same = c.run.ensures.same_reference ∙ c.loop-table.invariant.same;
      survives = survives_then old now new _ _ _ (λ _ db none. none) (λ _ db none. none) c.loop-table.invariant.survives c.run.ensures.survives;
      kept = λ clean. keeps_then old now new (c.loop-table.invariant.kept (early clean)) (created clean).kept;
      inside = λ clean was. (created clean).inside;
      made = λ clean.
          let before = c.loop-table.invariant.made (early clean) in
          let it = created clean in
          let ran = one_more_ran g.S.Store creation (take at given) next
          c.args.tx.now.conn.now c.loop-table.tx.conn.now c.run.new.tx.conn.now before.1 it.ran c.run.ensures.survives in
          subst (λ ts. AreMade g.S.Store ts c.args.tx.now.conn.now c.run.new.tx.conn.now) (sym (take_more given at tables.Book c.loop-table-test.true))
          (makes_more (take at given) next old now new before.0 it.made, ran);
    }

pub returns-clause-makes : goal.returns-clause-makes
returns-clause-makes g c clean =
    let whole : take c.loop-table.table-index c.args.tables.now ≡ c.args.tables.now = take_all c.loop-table.table-index c.args.tables.now c.loop-table-test.false in
    subst (λ ts. AreMade g.S.Store ts c.args.tx.now.conn.now c.loop-table.tx.conn.now) whole (c.loop-table.invariant.made clean)

pub returns-in_err-run-clause-reported : goal.returns-in_err-run-clause-reported
returns-in_err-run-clause-reported g c clean was =
    let p = err_from_is_err_and c.from_residual.result c.from_residual.ensures.1 in
    let now = seen g.S.Store c.loop-table.tx in
    let early : HasCleanDisk now = omega (arith, c.run.ensures.survives.clean) in
    let given = c.args.tables.now in
    let at = c.loop-table.table-index in
    let next = get_or given at tables.Book in
    let written = all-get_or (λ t. (description_of t).is_written ≡ true) given at tables.Book c.requires c.loop-table-test.true in
    rw (p.1, p.2) (record {
      done = take at given;
      next = next;
      later = drop (at + 1) given;
      all = sym (take-append-drop at given) ∙ ap (λ (later : List FileTable). take at given ++ later) (drop_more given at tables.Book c.loop-table-test.true);
      stops = record {
        before = c.loop-table.tx.conn.now;
        ran = (c.loop-table.invariant.made early).1;
        failed = (creates next written now (seen g.S.Store c.run.new.tx) (Err c.in_err-run.field-0.0) (rw c.create_text.ensures at (c.in_err-run.ensures.runs clean))).reported (c.loop-table.invariant.inside early was);
        left = c.run.ensures.survives;
      };
      made = (c.loop-table.invariant.made early).0;
    })
