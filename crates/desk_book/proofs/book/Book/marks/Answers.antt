use Rattle.std.proofs.Common.{◌≡◌, ℕ, List, Some, refl, sym, ap, subst, ◌∙◌}
use Rattle.desk_memory.specs.declared.marks.HeldMark.{HeldMark}
use Rattle.std.specs.Map.{lookup}
use Rattle.std.specs.Option.{option_copied}
use Rattle.std.specs.Prelude.{nat_eq, option_map}
use Rattle.desk_memory.specs.declared.paragraphs.Paragraph.{Paragraph as HeldParagraph}
use Rattle.desk_model.specs.Book.{Book, paragraph_of}
use Rattle.desk_memory.specs.Held.{HasMarks, paragraph_held}
use Rattle.desk_memory.specs.ItemsLeft.{AreMarks, marks_at}
use Rattle.desk_model.specs.ParagraphMarks.{marks_on}
use Rattle.desk_memory.proofs.Callers.{All-found, AreMarks-on, found-held, marks-at_all}
use Rattle.desk_book.proofs.Held.HeldLookups.{missing}
use Rattle.desk_book.proofs.book.Book.marks.Goals as goal

pub returns-in_default-clause-missing : goal.returns-in_default-clause-missing
returns-in_default-clause-missing c = (refl, missing _ _ _ _ c.args.self.now c.self.view_is c.args.id c.get.result c.get.ensures c.in_default.is)

pub new-requires : goal.new-requires
new-requires c =
    let book = c.self.inside in
    let found : lookup (nat_eq c.args.id) book.paragraphs ≡ Some c.in-Some.paragraph.now = sym c.get.ensures ∙ ap option_copied c.in-Some.is in
    let indexes = c.as_slice-indexes.ensures ∙ All-found (HasMarks book.marks) c.args.id c.in-Some.paragraph.now book.paragraphs c.self.invariant.marked found in
    subst (λ (marks : List HeldMark). AreMarks marks c.as_slice-indexes.result.now) (sym c.as_slice.ensures)
    (subst (AreMarks book.marks) (sym indexes) (AreMarks-on c.args.id book.marks))

pub returns-clause-found : goal.returns-clause-found
returns-clause-found c =
    let book = c.self.inside in
    let held : HeldParagraph = c.in-Some.paragraph.now in
    let found : lookup (nat_eq c.args.id) book.paragraphs ≡ Some held = sym c.get.ensures ∙ ap option_copied c.in-Some.is in
    let indexes = c.as_slice-indexes.ensures ∙ All-found (HasMarks book.marks) c.args.id held book.paragraphs c.self.invariant.marked found in (
      paragraph_held (c.args.id, held),
      subst (λ (b : Book). paragraph_of b c.args.id ≡ Some (paragraph_held (c.args.id, held))) c.self.view_is
          (found-held c.args.id book.paragraphs ∙ ap (option_map (λ k. paragraph_held (c.args.id, k))) found),
      c.new.ensures
          ∙ (ap (λ (marks : List HeldMark). marks_at 0 c.as_slice-indexes.result.now marks) c.as_slice.ensures
          ∙ (ap (λ (list : List ℕ). marks_at 0 list book.marks) indexes
          ∙ (marks-at_all c.args.id book.marks ∙ ap (λ (b : Book). marks_on c.args.id b.marks) c.self.view_is))),
    )
