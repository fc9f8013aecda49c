-- What is found in a book as it is held, and in the book that it stands for.
use Rattle.std.proofs.Common.{◌≡◌, ℕ, List, [], ◌∷◌, length, map, Some, None, refl, sym, ap, subst, ◌∙◌, inl, inr, All, find, nat_eq, option_map}
use Rattle.std.specs.Map.{lookup}
use Rattle.std.specs.Cmp.{unsigned_Decides}
use Rattle.std.specs.Cmp.Lexicographic.{pointwise, pointwise_decides}
use Rattle.std.proofs.lemmas.Bool.{cases_Bool, cond-true, cond-false, eqb-true, eq-eqb, ne_eqb, eqb-false}
use Rattle.std.proofs.lemmas.List.Elements.{All-contains, All-nil}
use Rattle.std.proofs.lemmas.Map.Views.{Contains-from_lookup}
use Rattle.louis_table.specs.Meaning.{Meaning}
use Rattle.louis_table.specs.Table.{Means}
use Rattle.louis_table.proofs.OneMeaning.{one_meaning}
use Rattle.louis_translate.specs.Position.{AreDefined}
use Rattle.louis_translate.specs.Tiling.{Tiles}
use Rattle.louis_translate.specs.Braille.{braille}
use Rattle.desk_memory.specs.declared.tables.BookTable.{BookTable}
use Rattle.desk_memory.specs.declared.marks.HeldMark.{HeldMark}
use Rattle.desk_memory.specs.declared.paragraphs.Paragraph.{Paragraph as HeldParagraph}
use Rattle.desk_model.specs.Book.{Book, Paragraph, paragraph_of, text_of}
use Rattle.desk_memory.specs.Held.{HasMarks, HeldTables, HeldParagraphs, paragraph_held, book_held, IsHeldParagraph, IsHeld}
use Rattle.desk_model.specs.Print.{print_of}
use Rattle.desk_model.specs.Sound.{IsSoundParagraph}
use Rattle.desk_memory.specs.Display.{IsShown}
use Rattle.desk_memory.proofs.MarkIndexes.{count-indexes}
use Rattle.desk_model.proofs.Books.SoundSteps.{IsSound-empty}
use Rattle.desk_model.proofs.Lists.Items.{All-from_map, lookup-map}

-- the paragraph that is found is the one that the held one stands for
pub found-held : (id : ℕ) (held : HeldParagraphs) → find (λ p. nat_eq p.id id) (map paragraph_held held) ≡ option_map (λ k. paragraph_held (id, k)) (lookup (nat_eq id) held)
found-held id [] = refl
found-held id ((n, k) ∷ held) =
    let rest = find (λ p. nat_eq p.id id) (map paragraph_held held) in
    elim (cases_Bool (nat_eq n id)) [
      | inl h ↦
          let same : n ≡ id = eqb-true n id h in
          cond-true (nat_eq n id) (Some (paragraph_held (n, k))) rest h
          ∙ (ap (λ (m : ℕ). Some (paragraph_held (m, k))) same
          ∙ ap (option_map (λ k. paragraph_held (id, k))) (sym (cond-true (nat_eq id n) (Some k) (lookup (nat_eq id) held) (eq-eqb id n (sym same)))))
      | inr h ↦
          cond-false (nat_eq n id) (Some (paragraph_held (n, k))) rest h
          ∙ (found-held id held
          ∙ ap (option_map (λ k. paragraph_held (id, k))) (sym (cond-false (nat_eq id n) (Some k) (lookup (nat_eq id) held) (ne_eqb id n (λ same. eqb-false n id h (sym same))))))
    ]

-- what holds of each held paragraph holds of the one that is found
pub All-found : (P : ℕ × HeldParagraph → Type 0) (id : ℕ) (k : HeldParagraph) (held : HeldParagraphs) → All P held → lookup (nat_eq id) held ≡ Some k → P (id, k)
All-found P id k held all e = All-contains P held (id, k) all (Contains-from_lookup (λ x y. eqb-true x y) id k held e)

module _ (version : ℕ) (tables : HeldTables) (paragraphs : HeldParagraphs) (marks : List HeldMark) (is : IsHeld version tables paragraphs marks) where
  -- the text of a table is that of the held one
  pub text_of-held : (name : List ℕ) (table : BookTable) → lookup (pointwise nat_eq name) tables ≡ Some table → text_of (book_held version tables paragraphs marks) name ≡ Some table.text
  text_of-held name table e = lookup-map (pointwise nat_eq name) (λ (t : BookTable). t.text) tables ∙ ap (option_map (λ (t : BookTable). t.text)) e

  pub means-held : (name : List ℕ) (table : BookTable) → lookup (pointwise nat_eq name) tables ≡ Some table → Means table.text table.rules
  means-held name table e =
      All-contains (λ (entry : List ℕ × BookTable). Means entry.1.text entry.1.rules) tables (name, table) is.means
      (Contains-from_lookup (λ x y. (pointwise_decides unsigned_Decides x y).0) name table tables e)

  pub missing-held : (id : ℕ) → lookup (nat_eq id) paragraphs ≡ None → paragraph_of (book_held version tables paragraphs marks) id ≡ None
  missing-held id e = found-held id paragraphs ∙ ap (option_map (λ k. paragraph_held (id, k))) e

  pub IsShown-found : (id : ℕ) (held : HeldParagraph) → lookup (nat_eq id) paragraphs ≡ Some held → (table : BookTable) → lookup (pointwise nat_eq held.table) tables ≡ Some table
      → IsShown (book_held version tables paragraphs marks) id held table.rules
  IsShown-found id held e table at =
      let book : Book = book_held version tables paragraphs marks in
      let p : Paragraph = paragraph_held (id, held) in
      let found : paragraph_of book id ≡ Some p = found-held id paragraphs ∙ ap (option_map (λ k. paragraph_held (id, k))) e in
      let own = All-found (IsHeldParagraph tables) id held paragraphs is.translated e in
      let sound = All-found (λ (entry : ℕ × HeldParagraph). IsSoundParagraph book (paragraph_held entry)) id held paragraphs (All-from_map (IsSoundParagraph book) paragraph_held paragraphs is.sound.paragraphs) e in
      let text = text_of-held held.table table at in
      let means = means-held held.table table at in
      let entry : Some own.table ≡ Some table = sym own.found ∙ at in
      let rules : own.table.rules ≡ table.rules = let same : own.table ≡ table = cc in ap (λ (t : BookTable). t.rules) same in
      let both : Some sound.text ≡ Some table.text = sym sound.found ∙ text in
      let same : sound.text ≡ table.text = cc in
      let one : sound.meaning ≡ table.rules = one_meaning table.text sound.meaning table.rules (subst (λ (t : List ℕ). Means t sound.meaning) same sound.means) means in
      record {
        paragraph = p;
        found = found;
        print = own.print;
        choices = own.choices;
        translated = record {
          text = table.text;
          found = text;
          means = means;
          tiles = subst (λ (m : Meaning). Tiles m (print_of p) own.choices) rules (subst (λ (print : List ℕ). Tiles own.table.rules print own.choices) own.print own.tiles);
        };
        cells = own.cells ∙ (ap (λ (print : List ℕ). braille own.table.rules print own.choices) own.print ∙ ap (λ (m : Meaning). braille m (print_of p) own.choices) rules);
        defined = subst (λ (m : Meaning). AreDefined m (print_of p)) one sound.defined;
        held_is = refl;
        sound = sound;
        taken = own.taken;
        marked = ap length (All-found (HasMarks marks) id held paragraphs is.marked e) ∙ count-indexes id 0 1 marks;
      }

  -- the table of a paragraph that is there is there
  pub table-held : (id : ℕ) (held : HeldParagraph) → lookup (nat_eq id) paragraphs ≡ Some held → (table : BookTable) × (lookup (pointwise nat_eq held.table) tables ≡ Some table)
  table-held id held e = let own = All-found (IsHeldParagraph tables) id held paragraphs is.translated e in (own.table, own.found)

-- nothing is held of an empty book
pub IsHeld-empty : IsHeld 0 [] [] []
IsHeld-empty = record {
  sound = IsSound-empty;
  means = All-nil (λ (entry : List ℕ × BookTable). Means entry.1.text entry.1.rules);
  translated = All-nil (IsHeldParagraph []);
  marked = All-nil (HasMarks []);
}
