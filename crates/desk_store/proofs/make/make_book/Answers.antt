use Rattle.std.proofs.Common.{◌≡◌, ◌∙◌, sym}
use Rattle.sqlite.specs.declared.error.Error.{Error}
use Rattle.sqlite.specs.Held.{state}
use Rattle.desk_rows.specs.Fault.{IsReportedAs}
use Rattle.desk_rows.specs.declared.fault.DatabaseFault.{DatabaseFault}
use Rattle.desk_rows.specs.declared.fault.DatabaseFault.TheVariants as fault
use Rattle.desk_store.specs.Opening.{opened_as}
use Rattle.desk_store.specs.declared.fault.OpenFault.TheVariants.{NotABook}
use Rattle.sqlite.proofs.StateLemmas.{survives_weaker}
use Rattle.desk_store.proofs.make.make_book.Goals as goal

-- only a refusal is reported as no book
is_refused : (e : Error) (why : DatabaseFault) → opened_as why ≡ NotABook → IsReportedAs e why → IsReportedAs e fault.Refused
is_refused e fault.Refused is reported = reported
is_refused e why is reported = absurd (cc is)

-- ---- it isn't made

pub returns-in-Err-clause-crash : goal.returns-in-Err-clause-crash
returns-in-Err-clause-crash g c =
    survives_weaker (state g.S.Store c.args.conn.now) (state g.S.Store c.make_tables.new.conn) _ _ (λ clean db left. left.0) c.make_tables.ensures.crash

pub returns-in-Err-clause-reported : goal.returns-in-Err-clause-reported
returns-in-Err-clause-reported g c clean none =
    (c.in-Err.error, (c.in-Err.ensures.commits clean).fails, (c.of.result, c.of.ensures, c.from.ensures))

pub returns-in-Err-clause-as_before : goal.returns-in-Err-clause-as_before
returns-in-Err-clause-as_before g c clean = (c.in-Err.ensures.commits clean).as_before

pub returns-in-Err-clause-refused : goal.returns-in-Err-clause-refused
returns-in-Err-clause-refused g c clean is =
    (c.in-Err.ensures.commits clean).refused (is_refused c.in-Err.error c.of.result (sym c.from.ensures ∙ is) c.of.ensures)

-- ---- it is made

pub returns-in-Ok-clause-made : goal.returns-in-Ok-clause-made
returns-in-Ok-clause-made g c clean = let it = c.in-Ok.ensures.commits clean in (it.shown.1, it.committed, it.settled)
