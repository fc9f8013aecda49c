use Rattle.std.proofs.Common.{◌≤◌, ℕ, inl, inr, Result, Ok, Err, IfErr, IfOk, arith, refl, sym, ◌∙◌, rules, subst}
use Rattle.sqlite_catalog.specs.Listing.{IsSound}
use Rattle.sqlite_disk.specs.Disk.{MoreFaults}
use Rattle.sqlite_schema.specs.declared.schema.Schema.{Schema}
use Rattle.sqlite_trees.specs.Tree.{Trees}
use Rattle.sqlite_trees.specs.declared.error.StoreError.TheVariants.{OutOfMemory, Io, Corrupt, Full, Broken, Unstorable}
use Rattle.sqlite.specs.declared.error.Error.{Error}
use Rattle.sqlite.specs.Steps.{FailsToOpen}
use Rattle.desk_rows.specs.Fault.{FailsToReopen, IsReportedAs}
use Rattle.desk_rows.specs.declared.fault.DatabaseFault.{DatabaseFault}
use Rattle.desk_rows.specs.declared.fault.DatabaseFault.TheVariants.{NoMemory, Lost, Refused}
use Rattle.std.proofs.lemmas.Result.{IfOk-weaker}
use Rattle.sqlite.specs.Held.{state}
use Rattle.sqlite_trees.specs.View.{IsClean}
use Rattle.sql_tables.proofs.Refusals.{IsPlain, not_of_store}
use Rattle.desk_rows.proofs.Schema.Schemas.{shows_own}
use Rattle.desk_rows.proofs.Transactions.LostStores.{memory_alone, more_after}
use Rattle.desk_rows.proofs.reopening.reopen.Goals as goal

module _ (a mid b : ℕ) (up : a ≤ mid) (db : Trees) (e : Error) where
  fails_again : (f : DatabaseFault) → (schema : Schema) × IsSound schema db → FailsToOpen db (MoreFaults mid b) e → IsReportedAs e f → FailsToReopen a b f
  fails_again NoMemory is fails reported = tt
  fails_again Lost is (inl none) reported = absurd (not_of_store e reported.0 (subst IsPlain (sym none.0) refl) reported.2)
  fails_again Lost is (inr (OutOfMemory, same, excuse)) reported = absurd (memory_alone reported.0 reported.1 (sym reported.2 ∙ same))
  fails_again Lost is (inr (Io, same, excuse)) reported = more_after a mid b up excuse
  fails_again Lost is (inr (Corrupt, same, excuse)) reported = more_after a mid b up excuse
  fails_again Lost is (inr (Full, same, excuse)) reported = more_after a mid b up excuse
  fails_again Lost is (inr (Broken, same, excuse)) reported = absurd excuse
  fails_again Lost is (inr (Unstorable, same, excuse)) reported = absurd excuse
  fails_again Refused is (inl none) reported = absurd (none.1 is.0 is.1)
  fails_again Refused is (inr failed) reported = absurd (reported failed.0 failed.1)

fails_each : {A E : Type 0} (r : Result A E) (P Q R : E → Type 0) → ((e : E) → P e → Q e → R e) → IfErr r P → IfErr r Q → IfErr r R
fails_each (Ok a) P Q R f p q = tt
fails_each (Err e) P Q R f p q = f e p q

ok_both : {A E : Type 0} (r : Result A E) (P Q R : A → Type 0) → ((a : A) → P a → Q a → R a) → IfOk r P → IfOk r Q → IfOk r R
ok_both (Ok a) P Q R f p q = f a p q
ok_both (Err e) P Q R f p q = tt

pub returns-in-Ok-clause-shows : goal.returns-in-Ok-clause-shows
returns-in-Ok-clause-shows g c =
    IfOk-weaker c.open_file.result _ _ (λ after opens clean l contents is. let opened = opens clean in shows_own (state g.S.Store after) l contents opened.1 opened.0.is_open is) c.open_file.ensures.opens

pub returns-in-Ok-clause-settled : goal.returns-in-Ok-clause-settled
returns-in-Ok-clause-settled g c =
    ok_both c.open_file.result _ _ _ (λ after trees crash clean db left. crash clean db left ∙ sym (trees clean)) c.open_file.ensures.trees c.open_file.ensures.crash

pub returns-in-Ok-clause-reported : goal.returns-in-Ok-clause-reported
returns-in-Ok-clause-reported g c =
    fails_each c.open_file.result _ _ _ (λ e reported quiet clean.
    let stored : IsClean (g.S.Store.view c.crash_and_reopen.new.self) = omega (arith, quiet.clean, clean) in
    let alone : IsClean (g.S.Store.view c.into_store-store.result) = omega (arith, c.crash_and_reopen.ensures.clean, stored) in
    let up : g.S.Store.faults c.args.conn.store ≤ g.S.Store.faults c.crash_and_reopen.new.self = omega (arith, c.into_store-store.ensures.quiet.counts, c.crash_and_reopen.ensures.counts) in
    let sound = c.into_store-store.ensures.sound alone (g.S.Store.view c.crash_and_reopen.new.self).committed (c.in-Ok.ensures.found stored) in
    let is = subst (λ (db : Trees). (schema : Schema) × IsSound schema db) (sym c.in-Ok.ensures.fresh.clean) sound in
    let why = reported clean in
    fails_again _ _ _ up _ why.0 e.0 is why.1 why.2) c.open_file.ensures.reported c.open_file.ensures.quiet

pub returns-in-Err : goal.returns-in-Err
returns-in-Err g c = search rules
