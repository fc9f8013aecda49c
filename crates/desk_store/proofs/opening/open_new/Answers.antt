use Rattle.std.proofs.Common.{◌≡◌, Err, Result, refl, true}
use Rattle.sqlite.specs.Held.{state}
use Rattle.sqlite.specs.State.{HasCleanDisk}
use Rattle.desk_store.specs.declared.fault.OpenFault.{OpenFault}
use Rattle.desk_store.proofs.Openings.{brings_new, makes, only_no_book, refuses_new, tells_new}
use Rattle.desk_store.proofs.Exits.{reported_is}
use Rattle.desk_store.proofs.opening.open_new.Goals as goal

same_fault : {X : Type 0} (a b : OpenFault) → ◌≡◌ {A = Result X OpenFault} (Err a) (Err b) → a ≡ b
same_fault a b e = cc

pub returns-in_err-make_book-clause-opens : goal.returns-in_err-make_book-clause-opens
returns-in_err-make_book-clause-opens g c =
    let old = c.args.conn.now in
    let new = state g.S.Store c.make_book.new.conn in
    let none = c.requires.bare in
    let failed = c.in_err-make_book.ensures in
    let reported = λ (clean : HasCleanDisk new). tells_new g.S.Store true old none new _ refl (λ there. same_fault _ _ (failed.beside there).0) (failed.reported clean) in
    rw (reported_is _ c.from_residual.ensures.1) (record {
      opens = λ clean. refuses_new g.S.Store true old none new _ (reported clean) (λ refusal. failed.as_before clean);
      crash = brings_new g.S.Store true old none new refl c.make_book.ensures.crash;
      left = λ there. absurd (there none);
      refused = λ clean refusal. failed.refused clean (only_no_book g.S.Store true old none new _ (reported clean) refusal);
      stopped = λ clean there. absurd (there none);
    })

pub returns-clause-opens : goal.returns-clause-opens
returns-clause-opens g c =
    let none = c.requires.bare in
    let new = state g.S.Store c.make_book.new.conn in
    record {
      opens = λ clean.
          let done = c.in_ok-make_book.ensures.made clean in
          makes g.S.Store true c.args.conn.now none new c.in-Ok.book refl c.in-Ok.ensures done.0 done.2 done.1.0;
      crash = brings_new g.S.Store true c.args.conn.now none new refl c.make_book.ensures.crash;
      left = λ there. absurd (there none);
      refused = λ clean. tt;
      stopped = λ clean there. tt;
    }
