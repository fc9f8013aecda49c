use Rattle.std.proofs.Common.{List, map, subst}
use Rattle.sqlite.specs.Held.{state}
use Rattle.sqlite.specs.State.{Survives}
use Rattle.sqlite.proofs.StateLemmas.{survives_weaker}
use Rattle.desk_parts.specs.Puts.{LendsFirst, RowPut}
use Rattle.desk_rows.specs.Failing.{FailsToPut, of_items}
use Rattle.desk_rows.specs.Puts.{statement}
use Rattle.desk_rows.specs.Statements.{AreRun, IsLeftBy, with_transaction}
use Rattle.desk_store.specs.Keeping.{HoldsKept}
use Rattle.desk_store.proofs.BookKeeps.{holds_next, is_kept, leaves_either}
use Rattle.desk_store.proofs.BookPuts.{left_put, shown_put}
use Rattle.desk_rows.proofs.Transactions.Both.{on_given_up}
use Rattle.desk_store.proofs.Exits.{at_done, at_given_up}
use Rattle.desk_store.proofs.store.put_change.Goals as goal

pub returns-clause-keeps : goal.returns-clause-keeps
returns-clause-keeps g c =
    let old = c.args.conn.now in
    let new = state g.S.Store c.write.new.conn in
    let puts = c.puts.result in
    let survives : Survives (state g.S.Store old) new (HoldsKept c.args.book.now c.args.change.now (state g.S.Store old)) =
    survives_weaker (state g.S.Store old) new _ _ (λ clean db left l next may.
    holds_next c.args.book.now c.args.change.now puts c.puts.ensures.leads c.puts.ensures.lent l next (state g.S.Store old) may
    db (left_put g.S.Store puts old db left).0)
    c.write.ensures.crash in
    record {
      kept = λ clean ok l next may.
          let done = at_done c.write.result _ _ (c.write.ensures.commits clean) ok in
          is_kept c.args.book.now c.args.change.now puts c.puts.ensures.leads c.puts.ensures.lent l next (state g.S.Store old) may
          new (shown_put g.S.Store puts old new done.shown).0 done.settled;
      either = λ clean l next may.
          leaves_either (state g.S.Store old) new l c.args.book.now c.args.change.now next survives clean may;
      survives = survives;
      ran = λ clean ok.
          let done = at_done c.write.result _ _ (c.write.ensures.commits clean) ok in
          subst (λ (xs : List RowPut). AreRun g.S.Store (map statement xs) old new) c.puts.ensures.these (shown_put g.S.Store puts old new done.shown).1;
      left = survives_weaker (state g.S.Store old) new _ _ (λ clean db left.
          subst (λ (xs : List RowPut). IsLeftBy g.S.Store (map statement xs) old db) c.puts.ensures.these (left_put g.S.Store puts old db left).1)
          c.write.ensures.crash;
      as_before = λ clean failed. (at_given_up c.write.result _ _ (c.write.ensures.commits clean) failed).1.as_before;
    }

pub returns-clause-reported : goal.returns-clause-reported
returns-clause-reported g c clean =
    on_given_up c.write.result _ _ _ (λ e it. record {
      fails = subst (λ (puts : List RowPut). FailsToPut g.S.Store (of_items g.S.Store LendsFirst puts) (with_transaction c.args.conn.now) (state g.S.Store c.write.new.conn) e) c.puts.ensures.these it.fails;
      counts = it.lost;
    }) (c.write.ensures.commits clean)
