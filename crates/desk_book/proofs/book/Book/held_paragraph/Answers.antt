use Rattle.std.proofs.Common.{◌≡◌, Some, None, refl, sym, ap, subst, ◌∙◌}
use Rattle.std.specs.Map.{lookup}
use Rattle.std.specs.Option.{option_copied}
use Rattle.std.specs.Prelude.{nat_eq}
use Rattle.desk_model.specs.Book.{Book, paragraph_of}
use Rattle.desk_memory.specs.Display.{IsShown}
use Rattle.desk_memory.proofs.Callers.{IsShown-found, missing-held, table-held}
use Rattle.desk_book.proofs.Held.HeldLookups.{IfErr-ok_or, IfOk-ok_or, IsHeldFor-lookup}
use Rattle.desk_book.proofs.book.Book.held_paragraph.Goals as goal

pub returns-clause-found : goal.returns-clause-found
returns-clause-found c =
    IfOk-ok_or _ _ _ c.ok_or.ensures.value _
    (λ x e. IsHeldFor-lookup _ _ _ _ c.args.self.now c.self.view_is c.self.invariant c.args.id x.now (sym c.get.ensures ∙ ap option_copied e))

pub returns-clause-shown : goal.returns-clause-shown
returns-clause-shown c =
    let book = c.self.inside in
    IfOk-ok_or _ _ _ c.ok_or.ensures.value _
    (λ held e.
    let there : lookup (nat_eq c.args.id) book.paragraphs ≡ Some held.now = sym c.get.ensures ∙ ap option_copied e in
    let table = table-held book.version book.tables book.paragraphs book.marks c.self.invariant c.args.id held.now there in (
      table.0.rules,
      subst (λ (b : Book). IsShown b c.args.id held.now table.0.rules) c.self.view_is
          (IsShown-found book.version book.tables book.paragraphs book.marks c.self.invariant c.args.id held.now there table.0 table.1),
    ))

pub returns-clause-missing : goal.returns-clause-missing
returns-clause-missing c =
    let book = c.self.inside in
    IfErr-ok_or _ _ _ c.ok_or.ensures.value _
    (λ e. (
      refl,
      subst (λ (b : Book). paragraph_of b c.args.id ≡ None) c.self.view_is
          (missing-held book.version book.tables book.paragraphs book.marks c.self.invariant c.args.id (sym c.get.ensures ∙ ap option_copied e)),
    ))
