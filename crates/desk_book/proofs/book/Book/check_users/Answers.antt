use Rattle.std.proofs.Common.{ℕ, List, sym, subst, arith}
use Rattle.std.proofs.lemmas.Result.{err_from_is_err_and}
use Rattle.louis_translate.specs.Position.{IsFirstUndefined}
use Rattle.desk_memory.specs.Held.{paragraph_held}
use Rattle.desk_book.proofs.Held.HeldLookups.{count-paragraphs, held-at, held-past}
use Rattle.desk_book.proofs.Plans.Users.{DefinesUser-held, DefinesUsersBelow-all, DefinesUsersBelow-more, IsFirstUser-at}
use Rattle.desk_book.proofs.book.Book.check_users.Goals as goal
use Rattle.desk_book.proofs.book.Book.check_users.Goals.{in-Some+in_ok-check_user, in_default}

pub loop-place-preserved : goal.loop-place-preserved
loop-place-preserved c =
    let book = c.args.self.now in
    DefinesUsersBelow-more c.args.rules.now c.args.name.now book.paragraphs c.loop-place.place c.loop-place.invariant
    (elim c.match-at.branch [
      | in-Some+in_ok-check_user w ↦
          let at = held-at _ _ _ _ book c.self.view_is c.self.invariant c.loop-place.place w.in-Some.id w.in-Some.paragraph.now (sym w.in-Some.ensures) in
          DefinesUser-held c.args.rules.now c.args.name.now book.paragraphs c.loop-place.place w.in-Some.id w.in-Some.paragraph.now at w.in_ok-check_user.ensures.defined
      | in_default w ↦ λ p e. absurd (let none = held-past _ _ _ _ book c.self.view_is c.loop-place.place (sym w.in_default.ensures) in cc)
    ])

pub returns-in_err-check_user : goal.returns-in_err-check_user
returns-in_err-check_user c =
    let book = c.args.self.now in
    let p = err_from_is_err_and c.from_residual.result c.from_residual.ensures.1 in
    let reported = c.in_err-check_user.ensures.undefined in
    let at = held-at _ _ _ _ book c.self.view_is c.self.invariant c.loop-place.place c.in-Some.id c.in-Some.paragraph.now (sym c.in-Some.ensures) in
    let first = subst (λ (t : List ℕ). IsFirstUndefined c.args.rules.now t reported.0) at.1 reported.3 in
    rw (p.1, p.2) (record {
      defined = tt;
      undefined = (c.in-Some.id, reported.0, reported.1, IsFirstUser-at c.args.rules.now c.args.name.now book.paragraphs c.loop-place.place reported.0 (paragraph_held (c.in-Some.id, c.in-Some.paragraph.now)) at.0 c.loop-place.invariant reported.2 first);
    })

pub returns-clause-defined : goal.returns-clause-defined
returns-clause-defined c =
    let count = count-paragraphs _ _ _ _ c.args.self.now c.self.view_is in
    let many = c.len-place-end.ensures in
    DefinesUsersBelow-all c.args.rules.now c.args.name.now c.args.self.now.paragraphs c.loop-place.place (omega arith) c.loop-place.invariant
