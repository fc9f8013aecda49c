use Rattle.std.proofs.Common.{◌≡◌, ◌++◌, List, ℕ, length, ap, ◌∙◌, arith, length-append}
use Rattle.std.proofs.lemmas.Bool.{MatchBool-at_true, MatchBool-at_false}
use Rattle.louis_translate.proofs.PiecePlaces.{PartSoFar-start, PartSoFar-next, PartSoFar-all, PartSoFar-cut}
use Rattle.louis_translate.proofs.translation.fill.Goals.{in-None, in-Some+then-not-have_room}
use Rattle.louis_translate.proofs.translation.fill.Goals as goal

pub loop-piece-init : goal.loop-piece-init
loop-piece-init g c =
    let none = c.new-cells.ensures.items in
    record {
      so_far = rw none (PartSoFar-start (g.B.RuleBook.meaning c.args.book.now) c.args.print.now _
          (λ choices tiles. c.into_iter-piece-iterator.ensures.into_iter_gives ∙ c.new-piece-items.ensures choices tiles));
      fits = omega (arith, ap length none);
    }

pub loop-piece-preserved : goal.loop-piece-preserved
loop-piece-preserved g c =
    let inv = c.loop-piece.invariant in
    let piece = c.in-Some.piece in
    let old = c.loop-piece.cells in
    let new = c.extend_from_slice-in-loop-piece.new.self in
    let more : new.items ≡ (old.items ++ piece.sign.now) ++ piece.own.now =
    c.in_ok-extend_from_slice-2.ensures.items ∙ ap (λ (xs : List ℕ). xs ++ piece.own.now) c.in_ok-extend_from_slice.ensures.items in
    record {
      so_far = PartSoFar-next (g.B.RuleBook.meaning c.args.book.now) c.args.print.now _ old.items _ piece _ inv.so_far c.in-Some.ensures.steps new.items more;
      fits = omega (arith, MatchBool-at_true _ _ c.if-not-have_room.false c.have_room.ensures, ap length more, length-append (old.items ++ piece.sign.now) piece.own.now, length-append old.items piece.sign.now, c.len.ensures, old.ok.0, inv.fits);
    }

pub returns-clause-part : goal.returns-clause-part
returns-clause-part g c =
    let meaning = g.B.RuleBook.meaning c.args.book.now in
    let print = c.args.print.now in
    let inv = c.loop-piece.invariant in
    let cells = c.loop-piece.cells.items in
    rw c.from_vec.ensures
    (elim c.match-next.branch [
      | in-None w ↦ PartSoFar-all meaning print c.args.room _ cells c.loop-piece.used inv.so_far c.requires inv.fits w.in-None.ensures.steps.0
      | in-Some+then-not-have_room w ↦
          PartSoFar-cut meaning print c.args.room _ cells c.loop-piece.used inv.so_far c.requires inv.fits w.in-Some.piece _ w.in-Some.ensures.steps
          (omega (arith, MatchBool-at_false _ _ w.if-not-have_room.true w.have_room.ensures, w.len.ensures, c.loop-piece.cells.ok.0))
    ])
