-- What a change puts makes rows that show its book show the next.
use Rattle.std.proofs.Common.{◌≡◌, ℕ, ◌+◌, List, [], ◌∷◌, length, map, Option, None, Contains, refl, sym, ap, subst, ◌∙◌}
use Rattle.std.specs.List.{insert}
use Rattle.std.specs.List.Sorted.{IsPermutation}
use Rattle.std.specs.Prelude.{option_map, unwrap_or}
use Rattle.desk_book.specs.declared.change.Effect.{Effect}
use Rattle.desk_book.specs.declared.change.Effect.TheVariants as effect
use Rattle.desk_model.specs.declared.command.Command.{Command}
use Rattle.desk_model.specs.declared.command.Command.TheVariants.{TypeIn}
use Rattle.desk_memory.specs.declared.history.HeldEntry.{HeldEntry}
use Rattle.desk_model.specs.Book.{Book, Paragraph, paragraph_of}
use Rattle.desk_model.specs.Loans.{LeadTo}
use Rattle.desk_book.specs.ChangePuts.{cache_put, effect_puts, entry_row, print_put, span_put, version_put}
use Rattle.desk_book.specs.Changes.{Carries, Change, ChangesPrint, Does, IsEffect, change_puts, puts-change_by, has-effect}
use Rattle.desk_memory.specs.Histories.{entries_held, entry_held}
use Rattle.desk_memory.specs.Held.{paragraph_held}
use Rattle.desk_model.specs.Marks.{mark_moved_by}
use Rattle.desk_model.specs.ParagraphMarks.{marks_on}
use Rattle.desk_parts.specs.declared.file_table.FileTable.TheVariants.{NamedCorr}
use Rattle.desk_parts.specs.Puts.{PutRow, RowPut}
use Rattle.desk_model.specs.Named.{paragraph_before}
use Rattle.desk_model.specs.Refusals.{IsAccepted}
use Rattle.desk_model.specs.Sound.{IsSound}
use Rattle.desk_model.specs.NextBook.{Makes, new_paragraph, next_id, next_with_entry, next_with_paragraphs, next_with_table, with_paragraph}
use Rattle.desk_model.specs.BookTexts.{normal_form}
use Rattle.desk_model.proofs.Commands.Accepted.{named_paragraph}
use Rattle.desk_model.proofs.Lists.Members.{Contains-map}
use Rattle.desk_model.proofs.Books.ParagraphLists.{Contains-found, IsPermutation-with_paragraph, id-found, ids_of}
use Rattle.desk_book.proofs.RowPuts.PutAdditions.{mark-lead}
use Rattle.desk_book.proofs.RowPuts.PutCells.{retabled-lead}
use Rattle.desk_book.proofs.RowPuts.PutChanges.{flags-lead, resolved-lead}
use Rattle.desk_book.proofs.RowPuts.PutOrder.{order-lead}
use Rattle.desk_book.proofs.RowPuts.PutParagraph.{paragraph-lead}
use Rattle.desk_book.proofs.RowPuts.PutPrintLead.{print-lead}
use Rattle.desk_book.proofs.RowPuts.PutReplacement.{replaced-lead}
use Rattle.desk_book.proofs.RowPuts.PutTables.{table-lead}
use Rattle.desk_book.proofs.Held.Settled.{IsEffect-carried}
use Rattle.desk_model.proofs.Books.SoundBooks.{paragraphs-apart}
use Rattle.desk_model.proofs.Books.SoundSteps.{IsSound-makes}

no-entries : (history : List HeldEntry) → entries_held history ≡ [] → history ≡ []
no-entries [] e = refl
no-entries (h ∷ hs) e = absurd (cc)

module _ (book next : Book) (command : Command) (sound : IsSound book) (accepted : IsAccepted book None command) (makes : Makes book command next) (after : IsSound next) where
  -- what leads to an equal book
  abbrev Leads : Effect → Book → Type 0
  Leads e b = LeadTo book (version_put b.version ∷ effect_puts book e) b

  pub leads : (e : Effect) → Does book command next e → Leads e next
  leads (effect.AddTable name table room) does =
      let is : next ≡ next_with_table book name table.text = does.0.1 in
      subst (Leads (effect.AddTable name table room)) (sym is) (table-lead book name table.text sound does.1 (subst IsSound is after))
  leads (effect.ReplaceTable name table cells) does =
      let is : next ≡ next_with_table book name table.text = does.0.1 in
      subst (Leads (effect.ReplaceTable name table cells)) (sym is)
      (replaced-lead book name table.text table.rules sound does.2 cells.items does.3 does.4 (subst IsSound is after))
  leads (effect.AddParagraph held room order_room place) does =
      let given = does in
      let new : Paragraph = new_paragraph (next_id book) held.table given.text in
      let ps : List Paragraph = with_paragraph given.anchor new book.paragraphs in
      let is : next ≡ next_with_paragraphs book ps = subst (λ (c : Command). Makes book c next) given.command_is makes in
      let same = given.typed_is.held_is in
      let fresh : held.history ≡ [] = no-entries held.history (ap (λ (q : Paragraph). q.history) same) in
      let original : held.original ≡ normal_form given.text = ap (λ (q : Paragraph). q.original) same in
      let anchored : (id : ℕ) → Contains (paragraph_before given.anchor) id → Contains (ids_of book.paragraphs) id =
      λ id c.
      let p = named_paragraph book None (TypeIn given.anchor held.table given.text) (subst (IsAccepted book None) given.command_is accepted) id c in
      subst (Contains (ids_of book.paragraphs)) (id-found id book.paragraphs p.0 p.1) (Contains-map (λ (q : Paragraph). q.id) book.paragraphs p.0 (Contains-found id book.paragraphs p.0 p.1)) in
      let moved : IsPermutation (paragraph_held (next_id book, held) ∷ book.paragraphs) ps =
      subst (λ (q : Paragraph). IsPermutation (q ∷ book.paragraphs) ps) (sym same) (IsPermutation-with_paragraph given.anchor new book.paragraphs (paragraphs-apart book sound) anchored) in
      let order : insert (ids_of book.paragraphs) place (next_id book) ≡ ids_of ps = given.order ∙ ap (λ (b : Book). ids_of b.paragraphs) is in
      subst (Leads (effect.AddParagraph held room order_room place)) (sym is)
      (paragraph-lead book ps held place given.typed_is.source given.typed_is.meaning sound given.within fresh (given.typed_is.print ∙ sym original) given.typed_is.found given.typed_is.means given.typed_is.cells moved order (subst IsSound is after))
  leads (effect.ChangePrint id change) does =
      let is = does.1.next_is in
      let given : ChangesPrint book (next_with_entry book id (entry_held change.entry) (mark_moved_by change.start change.removed change.added)) id change =
      subst (λ (b : Book). ChangesPrint book b id change) is does.1 in
      let number : length given.paragraph.history + 1 ≡ unwrap_or (option_map (λ (q : Paragraph). length q.history + 1) (paragraph_of book id)) 1 =
      ap (λ (o : Option Paragraph). unwrap_or (option_map (λ (q : Paragraph). length q.history + 1) o) 1) (sym given.there) in
      subst (Leads (effect.ChangePrint id change)) (sym is)
      (subst (λ (n : ℕ). LeadTo book (version_put (book.version + 1) ∷ PutRow NamedCorr (entry_row id n change.entry) ∷ print_put id change.print ∷ cache_put id change.cells
      ∷ map (span_put change.start change.removed change.added) (marks_on id book.marks)) (next_with_entry book id (entry_held change.entry) (mark_moved_by change.start change.removed change.added))) number
      (print-lead book id change sound given (subst IsSound is after)))
  leads (effect.AddMark mark room index_room) does =
      subst (Leads (effect.AddMark mark room index_room)) (sym does.0) (mark-lead book mark sound (subst IsSound does.0 after))
  leads (effect.ResolveMark id) does =
      subst (Leads (effect.ResolveMark id)) (sym does.1) (resolved-lead book id sound (subst IsSound does.1 after))
  leads (effect.SetFlags id style begins struck) does =
      subst (Leads (effect.SetFlags id style begins struck)) (sym does.1) (flags-lead book id style begins struck sound (subst IsSound does.1 after))
  leads (effect.ChangeTable id table cells) does =
      let is = does.0.1 in
      subst (Leads (effect.ChangeTable id table cells)) (sym is) (retabled-lead book id table cells sound does.1 (subst IsSound is after))
  leads (effect.Reorder order) does =
      let ps : List Paragraph = next.paragraphs in
      let is : next ≡ next_with_paragraphs book ps = does.0.2 in
      subst (λ (o : List ℕ). Leads (effect.Reorder o) next) (sym does.1)
      (subst (Leads (effect.Reorder (ids_of ps))) (sym is) (order-lead book ps sound does.0.1 (subst IsSound is after)))

pub puts-lead : (book next : Book) (version : ℕ) (effect : Effect) → IsSound book → IsEffect book version effect next
    → LeadTo book (version_put version ∷ effect_puts book effect) next
puts-lead book next version effect sound is =
    subst (λ (n : ℕ). LeadTo book (version_put n ∷ effect_puts book effect) next) (sym is.at)
    (leads book next is.command sound is.accepted is.makes (IsSound-makes book next None is.command sound is.accepted is.written is.makes) effect is.does)

pub change-leads : (book next : Book) (command : Command) (change : Change) → IsSound book → Carries book command next change
    → LeadTo book (change_puts book change) next
change-leads book next command change sound carries =
    let some = has-effect change in
    let made = IsEffect-carried book command next change.version change.number some.0 some.0 change some.1 refl carries in
    let same = sym (puts-change_by book change.version change.number some.0) ∙ ap (change_puts book) some.1 in
    subst (λ (puts : List RowPut). LeadTo book puts next) same (puts-lead book next change.version some.0 sound made)
