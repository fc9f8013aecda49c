use Rattle.std.proofs.Common.{arith, map, subst, sym, ◌∙◌}
use Rattle.std.specs.Iterator.{Yields}
use Rattle.std.proofs.lemmas.List.{map_push}
use Rattle.std.proofs.lemmas.Result.{err_from_is_err_and}
use Rattle.sqlite.specs.State.{HasCleanDisk}
use Rattle.sqlite.proofs.InsideLemmas.{keeps_then}
use Rattle.sqlite.proofs.StateLemmas.{survives_then}
use Rattle.sql_tables.specs.States.{seen}
use Rattle.desk_parts.specs.Puts.{put_of}
use Rattle.desk_rows.specs.Puts.{statement}
use Rattle.desk_rows.proofs.RowPuts.Changing.{ArePut, puts_more}
use Rattle.desk_rows.proofs.Transactions.Turns.{one_more_ran}
use Rattle.desk_rows.proofs.put_statements.put_all.Goals as goal

pub loop-one-preserved : goal.loop-one-preserved
loop-one-preserved g c =
    let old = seen g.S.Store c.args.tx.now in
    let now = seen g.S.Store c.loop-one.tx in
    let new = seen g.S.Store c.put.new.tx in
    let puts = map put_of c.loop-one.yielded in
    let next = put_of c.in-Some.one in
    let early : HasCleanDisk new → HasCleanDisk now = λ clean. omega (arith, clean, c.put.ensures.survives.clean) in
    record {
      same = c.put.ensures.same_reference ∙ c.loop-one.invariant.same;
      survives = survives_then old now new _ _ _ (λ _ db none. none) (λ _ db none. none) c.loop-one.invariant.survives c.put.ensures.survives;
      kept = λ clean. keeps_then old now new (c.loop-one.invariant.kept (early clean)) (c.put.ensures.put clean).kept;
      inside = λ clean was. (c.in_ok-put.ensures.put clean).inside;
      put = λ clean.
          let before = c.loop-one.invariant.put (early clean) in
          let it = c.in_ok-put.ensures.put clean in
          let ran = one_more_ran g.S.Store statement puts next
          c.args.tx.now.conn.now c.loop-one.tx.conn.now c.put.new.tx.conn.now before.1 it.ran c.put.ensures.survives in
          subst (λ xs. ArePut g.S.Store xs c.args.tx.now.conn.now c.put.new.tx.conn.now) (sym (map_push put_of c.loop-one.yielded c.in-Some.one))
          (puts_more puts next old now new before.0 it.put, ran);
    }

pub returns-clause-put : goal.returns-clause-put
returns-clause-put g c clean =
    let given = subst (λ it. Yields g.I.Iterator.next_gives it c.loop-one.yielded c.loop-one.one-iterator) c.into_iter-one-iterator.ensures.into_iter_gives c.loop-one.yielded_by in (
      c.loop-one.yielded,
      (c.next.new.self, (c.loop-one.one-iterator, given, c.in-None.ensures.steps)),
      c.loop-one.invariant.put clean,
    )

pub returns-in_err-put-clause-reported : goal.returns-in_err-put-clause-reported
returns-in_err-put-clause-reported g c clean was =
    let p = err_from_is_err_and c.from_residual.result c.from_residual.ensures.1 in
    let now = seen g.S.Store c.loop-one.tx in
    let early : HasCleanDisk now = omega (arith, c.put.ensures.survives.clean) in
    let given = subst (λ it. Yields g.I.Iterator.next_gives it c.loop-one.yielded c.loop-one.one-iterator) c.into_iter-one-iterator.ensures.into_iter_gives c.loop-one.yielded_by in
    rw (p.1, p.2) (
      c.loop-one.yielded,
      c.in-Some.one,
      c.next.new.self,
      (c.loop-one.one-iterator, given, c.in-Some.ensures.steps),
      record {
        stops = record {
          before = c.loop-one.tx.conn.now;
          ran = (c.loop-one.invariant.put early).1;
          failed = (c.in_err-put.ensures.put clean).reported (c.loop-one.invariant.inside early was);
          left = c.put.ensures.survives;
        };
        put = (c.loop-one.invariant.put early).0;
      },
    )
