use Rattle.std.proofs.Common.{◌≡◌, ◌∙◌, arith, inl, inr, refl, sym}
use Rattle.sqlite.proofs.StateLemmas.{survives_weaker}
use Rattle.sqlite.specs.Held.{state}
use Rattle.sqlite.specs.State.{HasCleanDisk, State, Survives}
use Rattle.sqlite_trees.specs.Tree.{Trees}
use Rattle.desk_parts.specs.Parts.{rows_in}
use Rattle.desk_store.specs.Opened.{filling, rebuilding}
use Rattle.desk_store.proofs.Openings.{completes, fills, leaves_completed, opens, refuses, refuses_damaged, tells_no_refusal}
use Rattle.desk_model.specs.declared.fault.PartsFault.{PartsFault}
use Rattle.desk_model.specs.declared.fault.PartsFault.TheVariants as rebuilt
use Rattle.desk_store.specs.Opening.{IsRefusal, rebuilt_as}
use Rattle.desk_store.specs.declared.fault.OpenFault.TheVariants.{NoMemory}
use Rattle.desk_store.proofs.Exits.{reported_is}
use Rattle.desk_store.proofs.opening.open_book.Goals as goal

-- of what is reported of rows that are read only a failed allocation is no refusal
only_memory : (fault : PartsFault) → (¬ IsRefusal (rebuilt_as fault)) → rebuilt_as fault ≡ NoMemory
only_memory (rebuilt.Damaged table id) none = absurd (none tt)
only_memory rebuilt.NoMemory none = refl

-- where nothing new is left, nothing else is either
leaves_nothing : (old new : State) (P : Trees → Type 0) → Survives old new (λ _. ⊥) → Survives old new P
leaves_nothing old new P = survives_weaker old new _ P (λ clean db none. absurd none)

-- ---- nothing is read

pub returns-in_err-parts-clause-opens : goal.returns-in_err-parts-clause-opens
returns-in_err-parts-clause-opens g c make =
    let read = c.in_err-parts.ensures in
    let new = state g.S.Store c.read_parts.new.conn in
    rw (reported_is _ c.from_residual.ensures.1) (record {
      opens = λ clean. refuses g.S.Store make c.args.conn.now c.requires.there new _ (read.unrefused clean) (read.reported clean)
          (λ refusal is_open. (read.refused clean refusal).now);
      crash = leaves_nothing (state g.S.Store c.args.conn.now) new _ read.survives;
      left = λ there. leaves_nothing (state g.S.Store c.args.conn.now) new _ read.survives;
      refused = λ clean refusal. read.survives;
      stopped = λ clean there. read.stops clean;
    })

-- ---- the rows are damaged

pub returns-in_err-book-clause-opens : goal.returns-in_err-book-clause-opens
returns-in_err-book-clause-opens g c make =
    let quiet = c.read_parts.ensures.survives in
    let new = state g.S.Store c.read_parts.new.conn in
    rw (reported_is _ c.from_residual-in_err-book.ensures.1) (record {
      opens = λ clean. refuses_damaged g.S.Store make c.args.conn.now c.requires.there (c.in_ok-parts.ensures.read clean) _ c.in_err-book.ensures.damaged;
      crash = leaves_nothing (state g.S.Store c.args.conn.now) new _ quiet;
      left = λ there. leaves_nothing (state g.S.Store c.args.conn.now) new _ quiet;
      refused = λ clean refusal. quiet;
      stopped = λ clean there none.
          let read = c.in_ok-parts.ensures.read clean in
          rebuilding (rows_in c.in_ok-parts.parts) read.found read.stays (only_memory c.in_err-book.field-0.0 none);
    })

-- ---- the tables that it lacks aren't made

pub returns-in_err-complete-clause-opens : goal.returns-in_err-complete-clause-opens
returns-in_err-complete-clause-opens g c make =
    let none = c.in_err-complete.ensures.fills.reported in
    let reads = c.read_parts.ensures.survives in
    rw (reported_is _ c.from_residual-in_err-complete.ensures.1) (record {
      opens = λ clean. refuses g.S.Store make c.args.conn.now c.requires.there (state g.S.Store c.complete.new.conn) _ (λ book shows. none)
          (λ l contents those shows. tells_no_refusal l contents _ none) (λ refusal. absurd (none refusal));
      crash = fills g.S.Store make c.args.conn.now c.requires.there c.lacked_by-lacked.ensures c.in_ok-book.ensures.shown
          c.in_ok-parts.ensures.read reads c.complete.ensures.fills.crash;
      left = λ there. leaves_completed g.S.Store c.args.conn.now c.lacked_by-lacked.ensures c.in_ok-book.ensures.shown
          c.in_ok-parts.ensures.read reads c.complete.ensures.fills.left;
      refused = λ clean refusal. absurd (none refusal);
      stopped = λ clean there none.
          let read = c.in_ok-parts.ensures.read (omega (arith, clean, c.complete.ensures.fills.crash.clean)) in
          let stops = c.in_err-complete.ensures.fills.stops clean in
          filling (rows_in c.in_ok-parts.parts) c.in_ok-book.book stops.0 c.read_parts.new.conn read.found
          c.in_ok-book.ensures.shown (sym c.lacked_by-lacked.ensures ∙ stops.1) read.stays stops.2;
    })

-- ---- the book is there

pub returns-clause-opens : goal.returns-clause-opens
returns-clause-opens g c make =
    let reads = c.read_parts.ensures.survives in
    record {
      opens = λ clean.
          let early : HasCleanDisk (state g.S.Store c.read_parts.new.conn) = omega (arith, clean, c.complete.ensures.fills.crash.clean) in
          let read = c.in_ok-parts.ensures.read early in
          let done = c.in_ok-complete.ensures in
          opens g.S.Store make c.args.conn.now c.requires.there read c.in_ok-book.ensures.shown c.lacked_by-lacked.ensures
          (state g.S.Store c.complete.new.conn) (done.fills.filled clean) (done.leaves clean)
          (λ db here. elim (reads.crash early db here) [ inl before ↦ before | inr none ↦ absurd none ])
          (done.open clean read.is_open) (let ran = done.fills.ran clean in (ran.0, completes g.S.Store c.args.conn.now read c.in_ok-book.ensures.shown c.lacked_by-lacked.ensures ran.0 ran.1, ran.2));
      crash = fills g.S.Store make c.args.conn.now c.requires.there c.lacked_by-lacked.ensures c.in_ok-book.ensures.shown
          c.in_ok-parts.ensures.read reads c.complete.ensures.fills.crash;
      left = λ there. leaves_completed g.S.Store c.args.conn.now c.lacked_by-lacked.ensures c.in_ok-book.ensures.shown
          c.in_ok-parts.ensures.read reads c.complete.ensures.fills.left;
      refused = λ clean. tt;
      stopped = λ clean there. tt;
    }
