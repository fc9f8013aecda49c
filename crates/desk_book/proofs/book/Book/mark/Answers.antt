use Rattle.std.proofs.Common.{◌≡◌, None, Some, refl, sym, ap, subst, ◌∙◌}
use Rattle.std.specs.Option.{option_copied}
use Rattle.std.specs.Prelude.{option_map}
use Rattle.desk_model.specs.Book.{Book, mark_of}
use Rattle.desk_memory.specs.Held.{mark_held}
use Rattle.desk_book.proofs.Held.HeldLookups.{IfErr-ok_or, IfOk-ok_or}
use Rattle.desk_memory.proofs.Callers.{found-mark}
use Rattle.desk_book.proofs.book.Book.mark.Goals as goal

pub returns-clause-found : goal.returns-clause-found
returns-clause-found c =
    IfOk-ok_or _ _ _ c.ok_or.ensures.value _
    (λ x e. subst (λ (b : Book). mark_of b c.args.id ≡ Some (mark_held (c.args.id, x.now))) c.self.view_is
    (found-mark c.args.id c.self.inside.marks ∙ ap (option_map (λ m. mark_held (c.args.id, m))) (sym c.get.ensures ∙ ap option_copied e)))

pub returns-clause-missing : goal.returns-clause-missing
returns-clause-missing c =
    IfErr-ok_or _ _ _ c.ok_or.ensures.value _
    (λ e. (
      refl,
      subst (λ (b : Book). mark_of b c.args.id ≡ None) c.self.view_is
          (found-mark c.args.id c.self.inside.marks ∙ ap (option_map (λ m. mark_held (c.args.id, m))) (sym c.get.ensures ∙ ap option_copied e)),
    ))
