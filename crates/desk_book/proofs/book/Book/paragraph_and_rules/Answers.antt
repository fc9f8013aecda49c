use Rattle.std.proofs.Common.{◌≡◌, ℕ, List, Some, None, refl, sym, ap, subst, ◌∙◌}
use Rattle.std.specs.Map.{lookup}
use Rattle.std.specs.Option.{option_copied}
use Rattle.std.specs.Prelude.{nat_eq}
use Rattle.std.specs.Cmp.Lexicographic.{pointwise}
use Rattle.desk_memory.specs.declared.paragraphs.Paragraph.{Paragraph as HeldParagraph}
use Rattle.desk_memory.specs.declared.tables.BookTable.{BookTable}
use Rattle.desk_model.specs.Book.{Book}
use Rattle.desk_memory.specs.Display.{IsShown}
use Rattle.desk_memory.proofs.Callers.{IsShown-found, table-held}
use Rattle.desk_book.proofs.Held.HeldLookups.{missing}
use Rattle.desk_book.proofs.book.Book.paragraph_and_rules.Goals as goal

pub returns-in_default-clause-missing : goal.returns-in_default-clause-missing
returns-in_default-clause-missing c = (refl, missing _ _ _ _ c.args.self.now c.self.view_is c.args.id c.get.result c.get.ensures c.in_default.is)

pub unreachable-requires : goal.unreachable-requires
unreachable-requires c =
    let book = c.self.inside in
    let held : HeldParagraph = c.in-Some.paragraph.now in
    let there : lookup (nat_eq c.args.id) book.paragraphs ≡ Some held = sym c.get.ensures ∙ ap option_copied c.in-Some.is in
    let table = table-held book.version book.tables book.paragraphs book.marks c.self.invariant c.args.id held there in
    let none : lookup (pointwise nat_eq held.table) book.tables ≡ None =
    ap (λ (name : List ℕ). lookup (pointwise nat_eq name) book.tables) (sym c.as_str.ensures) ∙ (sym c.get-2.ensures ∙ ap option_copied c.in_default-get.is) in
    let both : Some table.0 ≡ None = sym table.1 ∙ none in
    cc

pub returns-clause-found : goal.returns-clause-found
returns-clause-found c =
    let book = c.self.inside in
    let held : HeldParagraph = c.in-Some.paragraph.now in
    let table : BookTable = c.in-Some-get.table.now in
    let there : lookup (nat_eq c.args.id) book.paragraphs ≡ Some held = sym c.get.ensures ∙ ap option_copied c.in-Some.is in
    let found : lookup (pointwise nat_eq held.table) book.tables ≡ Some table =
    ap (λ (name : List ℕ). lookup (pointwise nat_eq name) book.tables) (sym c.as_str.ensures) ∙ (sym c.get-2.ensures ∙ ap option_copied c.in-Some-get.is) in
    subst (λ (b : Book). IsShown b c.args.id held table.rules) c.self.view_is (IsShown-found book.version book.tables book.paragraphs book.marks c.self.invariant c.args.id held there table found)
