-- What an effect makes of a book as it is held.
use Rattle.std.proofs.Common.{◌≡◌, ℕ, ◌+◌, ◌<◌, Bool, true, false, cond, List, [], ◌∷◌, ◌++◌, length, map, Option, Some, None, Ordering, Contains, refl, sym, ap, subst, ◌∙◌, arith}
use Rattle.std.specs.Prelude.{nat_eq, ◌≢◌, ◌==◌, option_map, option_to_list, IsSome, MatchOption}
use Rattle.std.specs.Option.{option_map_or}
use Rattle.std.specs.Cmp.{unsigned_ties, unsigned_Decides}
use Rattle.std.specs.Cmp.Lexicographic.{pointwise, pointwise_decides, slice_cmp, lists_ties}
use Rattle.std.specs.FinMap.Entries.{put, by_order}
use Rattle.std.specs.List.{All, enumerate_from, insert, range_with_len}
use Rattle.std.specs.List.Sorted.{IsPermutation}
use Rattle.std.specs.Map.{lookup}
use Rattle.std.specs.Ordering.{nat_cmp}
use Rattle.std.specs.declared.cmp.Ordering.TheVariants.{Less, Equal, Greater}
use Rattle.std.proofs.lemmas.Bool.{cond-true, cond-false, cond_both, false_from_ne_true, eqb-false, eqb-true, ne_eqb}
use Rattle.std.proofs.lemmas.Cmp.{nat_list_cmp_total}
use Rattle.std.proofs.lemmas.List.{length-append, length-map, map-append}
use Rattle.std.proofs.lemmas.List.Elements.{All-nil, All-cons, All-append, All-push, All-weaker, All-contains, All-map, All-contains_itself}
use Rattle.std.proofs.lemmas.List.Sorted.{Contains-permutation, IsPermutation-sym, IsPermutation-trans, IsPermutation-to_front, length_permutation}
use Rattle.louis_table.specs.Meaning.{Meaning}
use Rattle.louis_table.specs.Table.{Means}
use Rattle.louis_table.proofs.OneMeaning.{one_meaning}
use Rattle.louis_translate.specs.Tiling.{Tiles}
use Rattle.louis_translate.specs.Braille.{braille}
use Rattle.desk_book.specs.declared.change.Effect.{Effect}
use Rattle.desk_memory.specs.declared.paragraphs.PrintChange.{PrintChange}
use Rattle.desk_book.specs.declared.change.Effect.TheVariants.{AddTable}
use Rattle.desk_model.specs.declared.command.Anchor.{Anchor}
use Rattle.desk_model.specs.declared.command.Command.{Command}
use Rattle.desk_model.specs.declared.command.Command.TheVariants.{TypeIn}
use Rattle.desk_memory.specs.declared.marks.HeldMark.{HeldMark}
use Rattle.desk_memory.specs.declared.paragraphs.Paragraph.{Paragraph as HeldParagraph}
use Rattle.desk_model.specs.declared.style.Style.{Style}
use Rattle.desk_memory.specs.declared.tables.BookTable.{BookTable}
use Rattle.desk_model.specs.Book.{Book, Entry, Mark, Paragraph, text_of}
use Rattle.desk_book.specs.Changes.{ChangesPrint, AreRenewed, AreCellsByTable, Carries, Change, IsHeldTyped, IsEffect, IsEffect-change_by, change_by, Does, Does-change_by}
use Rattle.desk_memory.specs.Braille.{AreCellsOf}
use Rattle.desk_memory.specs.Histories.{HaveTaken, TookFrom, entry_held}
use Rattle.desk_memory.specs.HeldMarks.{AreWithin, indexes_on, with_held_moved}
use Rattle.desk_memory.specs.HeldPrints.{HasRoomFor, HasRoomForMark, with_mark, with_print_changed}
use Rattle.desk_model.specs.Limits.{most_entries, most_marks}
use Rattle.desk_model.specs.Marks.{mark_moved_by}
use Rattle.desk_memory.specs.Room.{Suffices}
use Rattle.desk_model.proofs.Lists.Items.{All-from_map, lookup-map}
use Rattle.desk_memory.proofs.Callers.{All-found, AreWithin-sound, HaveTaken-push, count-indexes, few-on, found-held, ids_of-held, indexes-moved, indexes-none, indexes-push_on, indexes-push_other, marks-elsewhere, marks-moved, marks-push, means-held}
use Rattle.desk_model.specs.ParagraphMarks.{marks_on}
use Rattle.desk_memory.specs.Held.{HasMarks, mark_held, HeldTables, HeldParagraphs, with_table, in_order_of, ids, in_order, new_cells, with_new_cells, with_held_change, marks_held, paragraph_held, book_held, IsHeldParagraph, IsHeld}
use Rattle.desk_model.specs.Print.{print_of, with_entry}
use Rattle.desk_model.specs.Named.{paragraph_before}
use Rattle.desk_model.specs.Refusals.{IsAccepted}
use Rattle.desk_model.specs.Sound.{IsSound, IsSoundMark}
use Rattle.desk_model.specs.NextBook.{Makes, new_paragraph, next_id, next_mark, next_with_marks, next_with_paragraphs, next_with_table, with_marks_moved, with_paragraph, with_change}
use Rattle.desk_model.proofs.Commands.Accepted.{named_paragraph}
use Rattle.desk_model.proofs.Lists.Members.{Contains-here, Contains-behind, Contains-map}
use Rattle.desk_model.proofs.Books.ParagraphLists.{ids_of, AreApart, found, AreApart-permutation, id-found, Contains-found, found-own, IsPermutation-with_paragraph}
use Rattle.desk_model.proofs.Books.SoundBooks.{paragraphs-apart}
use Rattle.desk_model.proofs.Books.SoundSteps.{IsSound-makes}
use Rattle.desk_model.proofs.Lists.TableEntries.{All-put, lookup-put, same_name}

-- ---- tables

-- an entry put among others, all with other values
pub map-put : {K X Y : Type 0} (R : K → K → Ordering) (f : X → Y) (k : K) (v : X) (es : List (K × X))
    → map (λ e. (e.0, f e.1)) (put R k v es) ≡ put R k (f v) (map (λ e. (e.0, f e.1)) es)
map-put R f k v [] = refl
map-put {K = K} {X = X} {Y = Y} R f k v (e ∷ es) =
    let to : K × X → K × Y = λ x. (x.0, f x.1) in
    elim (R k e.0) as (λ r. map to (by_order r ((k, v) ∷ e ∷ es) ((e.0, v) ∷ es) (e ∷ put R k v es)) ≡ by_order r ((k, f v) ∷ to e ∷ map to es) ((e.0, f v) ∷ map to es) (to e ∷ put R k (f v) (map to es))) [
      | Less ↦ refl
      | Equal ↦ refl
      | Greater ↦ ap (λ (rest : List (K × Y)). to e ∷ rest) (map-put R f k v es)
    ]

-- the texts of tables by their names
abbrev pub texts : HeldTables → List (List ℕ × List ℕ)
texts tables = map (λ entry. (entry.0, entry.1.text)) tables

pub texts-with_table : (name : List ℕ) (table : BookTable) (tables : HeldTables) → texts (with_table name table tables) ≡ put (slice_cmp nat_cmp) name table.text (texts tables)
texts-with_table name table tables = map-put (slice_cmp nat_cmp) (λ (t : BookTable). t.text) name table tables

found-with_table : (name other : List ℕ) (table : BookTable) (tables : HeldTables)
    → lookup (pointwise nat_eq other) (with_table name table tables) ≡ cond (pointwise nat_eq other name) (Some table) (lookup (pointwise nat_eq other) tables)
found-with_table name other table tables = lookup-put (slice_cmp nat_cmp) (pointwise nat_eq) (lists_ties nat_cmp unsigned_ties) nat_list_cmp_total other name table tables

pub found-new_table : (name other : List ℕ) (table : BookTable) (tables : HeldTables) → other ≡ name → lookup (pointwise nat_eq other) (with_table name table tables) ≡ Some table
found-new_table name other table tables same =
    found-with_table name other table tables
    ∙ cond-true (pointwise nat_eq other name) (Some table) (lookup (pointwise nat_eq other) tables) ((pointwise_decides unsigned_Decides other name).1 same)

pub found-other_table : (name other : List ℕ) (table : BookTable) (tables : HeldTables) → other ≢ name
    → lookup (pointwise nat_eq other) (with_table name table tables) ≡ lookup (pointwise nat_eq other) tables
found-other_table name other table tables apart =
    found-with_table name other table tables
    ∙ cond-false (pointwise nat_eq other name) (Some table) (lookup (pointwise nat_eq other) tables)
    (false_from_ne_true (pointwise nat_eq other name) (λ e. apart ((pointwise_decides unsigned_Decides other name).0 e)))

means-with_table : (name : List ℕ) (table : BookTable) (tables : HeldTables) → Means table.text table.rules
    → All (λ entry. Means entry.1.text entry.1.rules) tables → All (λ entry. Means entry.1.text entry.1.rules) (with_table name table tables)
means-with_table name table tables means all =
    All-put (slice_cmp nat_cmp) same_name (λ (entry : List ℕ × BookTable). Means entry.1.text entry.1.rules) name table tables all means

-- a paragraph that doesn't use the table stays as it is held
IsHeldParagraph-other : (name : List ℕ) (table : BookTable) (tables : HeldTables) (entry : ℕ × HeldParagraph) → entry.1.table ≢ name
    → IsHeldParagraph tables entry → IsHeldParagraph (with_table name table tables) entry
IsHeldParagraph-other name table tables entry apart held = record {
  print = held.print;
  table = held.table;
  found = found-other_table name entry.1.table table tables apart ∙ held.found;
  choices = held.choices;
  tiles = held.tiles;
  cells = held.cells;
  taken = held.taken;
}

-- ---- paragraphs in another order

option_entry : (id : ℕ) (o : Option HeldParagraph)
    → map paragraph_held (option_to_list (option_map (λ k. (id, k)) o)) ≡ option_to_list (option_map (λ k. paragraph_held (id, k)) o)
option_entry id None = refl
option_entry id (Some k) = refl

-- held paragraphs in an order stand for the paragraphs in this order
pub held-arranged : (order : List ℕ) (held : HeldParagraphs) → map paragraph_held (in_order_of order held) ≡ in_order order (map paragraph_held held)
held-arranged [] held = refl
held-arranged (id ∷ order) held =
    let first : HeldParagraphs = option_to_list (option_map (λ k. (id, k)) (lookup (nat_eq id) held)) in
    let here : map paragraph_held first ≡ option_to_list (found id (map paragraph_held held)) =
    option_entry id (lookup (nat_eq id) held) ∙ ap (λ (o : Option Paragraph). option_to_list o) (sym (found-held id held)) in
    map-append paragraph_held first (in_order_of order held)
    ∙ (ap (λ (ps : List Paragraph). ps ++ map paragraph_held (in_order_of order held)) here
    ∙ ap (λ (ps : List Paragraph). option_to_list (found id (map paragraph_held held)) ++ ps) (held-arranged order held))

-- what holds of each held paragraph holds of each in the order
pub All-arranged : (P : ℕ × HeldParagraph → Type 0) (order : List ℕ) (held : HeldParagraphs) → All P held → All P (in_order_of order held)
All-arranged P [] held all = All-nil P
All-arranged P (id ∷ order) held all =
    All-append P (option_to_list (option_map (λ k. (id, k)) (lookup (nat_eq id) held))) (in_order_of order held) (here (lookup (nat_eq id) held) refl) (All-arranged P order held all)
  where
    here : (o : Option HeldParagraph) → lookup (nat_eq id) held ≡ o → All P (option_to_list (option_map (λ k. (id, k)) o))
    here None e = All-nil P
    here (Some k) e = All-cons P (id, k) [] (All-found P id k held all e) (All-nil P)

in_order-found : (qs ps : List Paragraph) → ((q : Paragraph) → Contains qs q → found q.id ps ≡ Some q) → in_order (ids_of qs) ps ≡ qs
in_order-found [] ps own = refl
in_order-found (q ∷ qs) ps own =
    ap (λ (o : Option Paragraph). option_to_list o ++ in_order (ids_of qs) ps) (own q (Contains-here q qs))
    ∙ ap (λ (rest : List Paragraph). q ∷ rest) (in_order-found qs ps (λ p c. own p (Contains-behind q p qs c)))

-- paragraphs in the order of the ids of the same ones are these
pub in_order-permutation : (qs ps : List Paragraph) → AreApart qs → IsPermutation qs ps → in_order (ids_of qs) ps ≡ qs
in_order-permutation qs ps apart moved =
    in_order-found qs ps (λ q c. found-own ps q (AreApart-permutation qs ps moved apart) (Contains-permutation qs ps q moved c))

-- ---- books

-- what a change carries is put by its effect
pub IsEffect-carried : (book : Book) (command : Command) (next : Book) (version : ℕ) (number : Option ℕ) (held effect : Effect) (change : Change)
    → change_by version number held ≡ change → held ≡ effect → Carries book command next change → IsEffect book version effect next
IsEffect-carried book command next version number held effect change shown is carries =
    subst (λ (e : Effect). IsEffect book version e next) is
    (IsEffect-change_by book command next version number held (subst (Carries book command next) (sym shown) carries))

pub Does-carried : (book : Book) (command : Command) (next : Book) (version : ℕ) (number : Option ℕ) (held effect : Effect) (change : Change)
    → change_by version number held ≡ change → held ≡ effect → Carries book command next change → Does book command next effect
Does-carried book command next version number held effect change shown is carries =
    subst (λ (e : Effect). Does book command next e) is
    (Does-change_by book command next version number held (subst (Carries book command next) (sym shown) carries))

pub some_effect : (book : Book) (version : ℕ) (number : Option ℕ) (held effect : Effect) (change : Change)
    → change_by version number held ≡ change → held ≡ effect → (command : Command) × (next : Book) × Carries book command next change
    → (next : Book) × IsEffect book version effect next
some_effect book version number held effect change shown is given =
    (given.1, IsEffect-carried book given.0 given.1 version number held effect change shown is given.2)

-- the tables, the paragraphs and the marks of a book
abbrev pub Parts : Type 0
Parts = HeldTables × HeldParagraphs × List HeldMark

-- the book, at this version, is held in these parts
abbrev pub IsHeldIn : ℕ → Book → Parts → Type 0
IsHeldIn version book (tables, paragraphs, marks) = IsHeld version tables paragraphs marks × (book_held version tables paragraphs marks ≡ book)

abbrev plain : ℕ → List (List ℕ × List ℕ) → List Paragraph → List Mark → Book
plain version tables paragraphs marks = record { version = version; tables = tables; paragraphs = paragraphs; marks = marks }

same_book : (v w : ℕ) (ts us : List (List ℕ × List ℕ)) (ps qs : List Paragraph) (ms ns : List Mark) → v ≡ w → ts ≡ us → ps ≡ qs → ms ≡ ns → plain v ts ps ms ≡ plain w us qs ns
same_book v w ts us ps qs ms ns e f g h = λ i. plain (e i) (f i) (g i) (h i)

module _ (version : ℕ) (tables : HeldTables) (paragraphs : HeldParagraphs) (marks : List HeldMark) where
  abbrev book : Book
  book = book_held version tables paragraphs marks

  abbrev before : List Paragraph
  before = map paragraph_held paragraphs

  -- what is put makes a sound book of a sound one
  pub sound-next : IsHeld version tables paragraphs marks → (next : Book) (w : ℕ) (effect : Effect) → IsEffect book w effect next → IsSound next
  sound-next is next w effect puts = IsSound-makes book next None puts.command is.sound puts.accepted puts.written puts.makes

  -- a book with other tables
  next-with_table : (next : Book) (w : ℕ) (name : List ℕ) (table : BookTable) (held : HeldParagraphs)
      → w ≡ next.version → next ≡ next_with_table book name table.text → map paragraph_held held ≡ before
      → book_held w (with_table name table tables) held marks ≡ next
  next-with_table next w name table held at makes same =
      same_book w (version + 1) (texts (with_table name table tables)) (put (slice_cmp nat_cmp) name table.text (texts tables)) (map paragraph_held held) before (marks_held marks) (marks_held marks)
      (at ∙ ap (λ (b : Book). b.version) makes) (texts-with_table name table tables) same refl
      ∙ sym makes

  -- a book with other paragraphs
  next-with_paragraphs : (next : Book) (w : ℕ) (ps : List Paragraph) (held : HeldParagraphs)
      → w ≡ next.version → next ≡ next_with_paragraphs book ps → map paragraph_held held ≡ ps
      → book_held w tables held marks ≡ next
  next-with_paragraphs next w ps held at makes same =
      same_book w (version + 1) (texts tables) (texts tables) (map paragraph_held held) ps (marks_held marks) (marks_held marks) (at ∙ ap (λ (b : Book). b.version) makes) refl same refl ∙ sym makes

  -- ---- a new table

  module _ (next : Book) (w : ℕ) (name : List ℕ) (table : BookTable) (room : ℕ) (puts : IsEffect book w (AddTable name table room) next) where
    pub new-added : lookup (pointwise nat_eq name) tables ≡ None
    new-added = by (lookup (pointwise nat_eq name) tables) refl
      where
        by : (o : Option BookTable) → lookup (pointwise nat_eq name) tables ≡ o → o ≡ None
        by None e = refl
        by (Some old) e =
            let both : Some old.text ≡ None = sym (lookup-map (pointwise nat_eq name) (λ (t : BookTable). t.text) tables ∙ ap (option_map (λ (t : BookTable). t.text)) e) ∙ puts.does.1 in
            absurd (cc)

    next-added : book_held w (with_table name table tables) paragraphs marks ≡ next
    next-added = next-with_table next w name table paragraphs puts.at puts.does.0.1 refl

    pub IsHeldIn-added : IsHeld version tables paragraphs marks → IsHeldIn w next (with_table name table tables, paragraphs, marks)
    IsHeldIn-added is = (
      record {
        sound = subst IsSound (sym next-added) (sound-next is next w (AddTable name table room) puts);
        means = means-with_table name table tables puts.does.3 is.means;
        translated = All-weaker (IsHeldParagraph tables) (IsHeldParagraph (with_table name table tables))
            (λ entry held. IsHeldParagraph-other name table tables entry
            (λ same. let both : Some held.table ≡ None = sym held.found ∙ (ap (λ (n : List ℕ). lookup (pointwise nat_eq n) tables) same ∙ new-added) in absurd (cc)) held)
            paragraphs is.translated;
        marked = is.marked;
      },
      next-added,
    )

  -- ---- another text of a table

  module _ (next : Book) (w : ℕ) (name : List ℕ) (table : BookTable) (cells : List (Option (List ℕ))) (at : w ≡ next.version)
      (makes : next ≡ next_with_table book name table.text) (means : Means table.text table.rules) (renews : AreRenewed book name table.rules cells) where
    held-renewed : (entry : ℕ × HeldParagraph) → paragraph_held (with_new_cells cells entry) ≡ paragraph_held entry
    held-renewed (id, held) = by (new_cells cells id)
      where
        by : (o : Option (List ℕ)) → paragraph_held (id, option_map_or (λ new. record held { cells = new }) o held) ≡ paragraph_held (id, held)
        by None = refl
        by (Some new) = refl

    marks-renewed : (entry : ℕ × HeldParagraph) → (with_new_cells cells entry).1.marks ≡ entry.1.marks
    marks-renewed (id, held) = by (new_cells cells id)
      where
        by : (o : Option (List ℕ)) → (option_map_or (λ new. record held { cells = new }) o held).marks ≡ held.marks
        by None = refl
        by (Some new) = refl

    all-renewed : (held : HeldParagraphs) → map paragraph_held (map (with_new_cells cells) held) ≡ map paragraph_held held
    all-renewed [] = refl
    all-renewed (entry ∷ held) = λ i. held-renewed entry i ∷ all-renewed held i

    next-replaced : book_held w (with_table name table tables) (map (with_new_cells cells) paragraphs) marks ≡ next
    next-replaced = next-with_table next w name table (map (with_new_cells cells) paragraphs) at makes (all-renewed paragraphs)

    IsHeldParagraph-renewed : (entry : ℕ × HeldParagraph) → IsHeldParagraph tables entry
        → MatchOption (new_cells cells entry.0) (entry.1.table ≢ name) (λ new. (entry.1.table ≡ name) × AreCellsOf table.rules (print_of (paragraph_held entry)) new)
        → IsHeldParagraph (with_table name table tables) (with_new_cells cells entry)
    IsHeldParagraph-renewed (id, held) k m = by (new_cells cells id) m
      where
        by : (o : Option (List ℕ)) → MatchOption o (held.table ≢ name) (λ new. (held.table ≡ name) × AreCellsOf table.rules (print_of (paragraph_held (id, held))) new)
            → IsHeldParagraph (with_table name table tables) (id, option_map_or (λ new. record held { cells = new }) o held)
        by None apart = IsHeldParagraph-other name table tables (id, held) apart k
        by (Some new) made = record {
          print = k.print;
          table = table;
          found = found-new_table name held.table table tables made.0;
          choices = made.1.0;
          tiles = subst (λ (p : List ℕ). Tiles table.rules p made.1.0) (sym k.print) made.1.1;
          cells = made.1.2 ∙ ap (λ (p : List ℕ). braille table.rules p made.1.0) (sym k.print);
          taken = k.taken;
        }

    pub IsHeldIn-replaced : IsHeld version tables paragraphs marks → IsSound next → IsHeldIn w next (with_table name table tables, map (with_new_cells cells) paragraphs, marks)
    IsHeldIn-replaced is sound =
        let Renews : Paragraph → Type 0 = λ p. MatchOption (new_cells cells p.id) (p.table ≢ name) (λ new. (p.table ≡ name) × AreCellsOf table.rules (print_of p) new) in
        let each = All-from_map Renews paragraph_held paragraphs renews in (
          record {
            sound = subst IsSound (sym next-replaced) sound;
            means = means-with_table name table tables means is.means;
            translated = All-map (IsHeldParagraph (with_table name table tables)) (with_new_cells cells) paragraphs
                (All-weaker (Contains paragraphs) (λ entry. IsHeldParagraph (with_table name table tables) (with_new_cells cells entry))
                (λ entry c. IsHeldParagraph-renewed entry (All-contains (IsHeldParagraph tables) paragraphs entry is.translated c) (All-contains (λ e. Renews (paragraph_held e)) paragraphs entry each c))
                paragraphs (All-contains_itself paragraphs));
            marked = All-map (HasMarks marks) (with_new_cells cells) paragraphs (All-weaker (HasMarks marks) (λ entry. HasMarks marks (with_new_cells cells entry)) (λ entry has. marks-renewed entry ∙ has) paragraphs is.marked);
          },
          next-replaced,
        )

  -- the table of a text is there
  table_of-text : (name source : List ℕ) → text_of book name ≡ Some source → (table : BookTable) × (lookup (pointwise nat_eq name) tables ≡ Some table) × (table.text ≡ source)
  table_of-text name source e = by (lookup (pointwise nat_eq name) tables) refl
    where
      by : (o : Option BookTable) → lookup (pointwise nat_eq name) tables ≡ o → (table : BookTable) × (lookup (pointwise nat_eq name) tables ≡ Some table) × (table.text ≡ source)
      by None h =
          let both : Some source ≡ None = sym e ∙ (lookup-map (pointwise nat_eq name) (λ (t : BookTable). t.text) tables ∙ ap (option_map (λ (t : BookTable). t.text)) h) in
          absurd (cc)
      by (Some table) h =
          let both : Some table.text ≡ Some source = sym (lookup-map (pointwise nat_eq name) (λ (t : BookTable). t.text) tables ∙ ap (option_map (λ (t : BookTable). t.text)) h) ∙ e in
          (table, h, (let same : table.text ≡ source = cc in same))

  pub there-replaced : (name : List ℕ) → IsSome (text_of book name) → IsSome (lookup (pointwise nat_eq name) tables)
  there-replaced name some = by (lookup (pointwise nat_eq name) tables) (subst (λ (o : Option (List ℕ)). IsSome o) (lookup-map (pointwise nat_eq name) (λ (t : BookTable). t.text) tables) some)
    where
      by : (o : Option BookTable) → IsSome (option_map (λ (t : BookTable). t.text) o) → IsSome o
      by None h = h
      by (Some table) h = h

  -- a paragraph with the cells of its print by the text of its table is held
  IsHeldParagraph-cells : IsHeld version tables paragraphs marks → (entry : ℕ × HeldParagraph) (source : List ℕ) (meaning : Meaning)
      → entry.1.print ≡ print_of (paragraph_held entry) → text_of book entry.1.table ≡ Some source → Means source meaning → AreCellsOf meaning entry.1.print entry.1.cells
      → HaveTaken entry.1.original entry.1.history → IsHeldParagraph tables entry
  IsHeldParagraph-cells is entry source meaning print there means made taken =
      let table = table_of-text entry.1.table source there in
      let known : Means source table.0.rules = subst (λ (t : List ℕ). Means t table.0.rules) table.2 (means-held version tables paragraphs marks is entry.1.table table.0 table.1) in
      let one : meaning ≡ table.0.rules = one_meaning source meaning table.0.rules means known in
      record {
        print = print;
        table = table.0;
        found = table.1;
        choices = made.0;
        tiles = subst (λ (m : Meaning). Tiles m entry.1.print made.0) one made.1;
        cells = made.2 ∙ ap (λ (m : Meaning). braille m entry.1.print made.0) one;
        taken = taken;
      }

  -- ---- the order of the paragraphs

  module _ (next : Book) (held : HeldParagraphs) (ps : List Paragraph) (order : List ℕ) (same : map paragraph_held held ≡ ps)
      (moved : IsPermutation next.paragraphs ps) (order_is : order ≡ ids_of next.paragraphs) (sound : IsSound next) where
    -- the order has each id once
    order-permuted : IsPermutation (range_with_len 1 (length held)) order
    order-permuted =
        let first : length ps ≡ length next.paragraphs = length_permutation next.paragraphs ps moved in
        let second : length ps ≡ length held = sym (ap length same) ∙ length-map held paragraph_held in
        let count : length next.paragraphs ≡ length held = omega arith in
        subst (λ (n : ℕ). IsPermutation (range_with_len 1 n) order) count
        (subst (IsPermutation (range_with_len 1 (length next.paragraphs))) (sym order_is) sound.ids)

    -- held paragraphs in it stand for those of the next book
    held-ordered : map paragraph_held (in_order_of order held) ≡ next.paragraphs
    held-ordered =
        held-arranged order held
        ∙ (ap (in_order order) same
        ∙ (ap (λ (o : List ℕ). in_order o ps) order_is
        ∙ in_order-permutation next.paragraphs ps (paragraphs-apart next sound) moved))

  -- ---- a new paragraph

  count-before : length before ≡ length paragraphs
  count-before = length-map paragraphs paragraph_held

  -- the order that the change gives, as it is held
  pub order-placed : (next : Book) (place : ℕ) → insert (ids_of before) place (next_id book) ≡ ids_of next.paragraphs
      → insert (ids paragraphs) place (length paragraphs + 1) ≡ ids_of next.paragraphs
  order-placed next place is =
      ap (λ (order : List ℕ). insert order place (length paragraphs + 1)) (sym (ids_of-held paragraphs))
      ∙ (ap (λ (n : ℕ). insert (ids_of before) place (n + 1)) (sym count-before) ∙ is)

  module _ (next : Book) (w : ℕ) (anchor : Anchor) (text order : List ℕ) (held : HeldParagraph) (at : w ≡ next.version)
      (accepted : IsAccepted book None (TypeIn anchor held.table text)) (makes : Makes book (TypeIn anchor held.table text) next)
      (given : IsHeldTyped book held.table text held) (order_is : order ≡ ids_of next.paragraphs)
      (is : IsHeld version tables paragraphs marks) (sound : IsSound next) where
    abbrev new : Paragraph
    new = new_paragraph (next_id book) held.table text

    abbrev all : HeldParagraphs
    all = paragraphs ++ (length paragraphs + 1, held) ∷ []

    moved-typed : IsPermutation next.paragraphs (before ++ new ∷ [])
    moved-typed =
        let put : List Paragraph = with_paragraph anchor new before in
        let there : (id : ℕ) → Contains (paragraph_before anchor) id → Contains (ids_of before) id =
        λ id c. let p = named_paragraph book None (TypeIn anchor held.table text) accepted id c in
        subst (Contains (ids_of before)) (id-found id before p.0 p.1) (Contains-map (λ (q : Paragraph). q.id) before p.0 (Contains-found id before p.0 p.1)) in
        let one = IsPermutation-with_paragraph anchor new before (paragraphs-apart book is.sound) there in
        subst (λ (qs : List Paragraph). IsPermutation qs (before ++ new ∷ [])) (sym (ap (λ (b : Book). b.paragraphs) makes))
        (IsPermutation-trans put (new ∷ before) (before ++ new ∷ []) (IsPermutation-sym (new ∷ before) put one)
        (IsPermutation-sym (before ++ new ∷ []) (new ∷ before) (IsPermutation-to_front before new)))

    held-typed : map paragraph_held all ≡ before ++ new ∷ []
    held-typed =
        let count : length paragraphs + 1 ≡ next_id book = ap (λ (k : ℕ). k + 1) (sym (length-map paragraphs paragraph_held)) in
        map-append paragraph_held paragraphs ((length paragraphs + 1, held) ∷ [])
        ∙ ap (λ (p : Paragraph). before ++ p ∷ []) (ap (λ (id : ℕ). paragraph_held (id, held)) count ∙ given.held_is)

    pub order-typed : IsPermutation (range_with_len 1 (length paragraphs + 1)) order
    order-typed =
        subst (λ (n : ℕ). IsPermutation (range_with_len 1 n) order) (length-append paragraphs ((length paragraphs + 1, held) ∷ []))
        (order-permuted next all (before ++ new ∷ []) order held-typed moved-typed order_is sound)

    next-typed : book_held w tables (in_order_of order all) marks ≡ next
    next-typed =
        next-with_paragraphs next w (with_paragraph anchor new before) (in_order_of order all) at makes
        (held-ordered next all (before ++ new ∷ []) order held-typed moved-typed order_is sound ∙ ap (λ (b : Book). b.paragraphs) makes)

    pub IsHeldIn-typed : IsHeldIn w next (tables, in_order_of order all, marks)
    IsHeldIn-typed =
        let entry : ℕ × HeldParagraph = (length paragraphs + 1, held) in
        let print : held.print ≡ print_of (paragraph_held entry) = given.print ∙ sym (ap (λ (p : Paragraph). print_of p) given.held_is) in
        let count = count-before in
        let none : indexes_on (length paragraphs + 1) marks ≡ [] =
        indexes-none (length paragraphs + 1) 0 marks (marks-elsewhere book (length paragraphs + 1) 1 marks is.sound (omega arith) (All-from_map (IsSoundMark book) mark_held (enumerate_from 1 marks) is.sound.marks)) in (
          record {
            sound = subst IsSound (sym next-typed) sound;
            means = is.means;
            translated = All-arranged (IsHeldParagraph tables) order all
                (All-push (IsHeldParagraph tables) paragraphs entry is.translated
                (IsHeldParagraph-cells is entry given.source given.meaning print given.found given.means given.cells given.taken));
            marked = All-arranged (HasMarks marks) order all (All-push (HasMarks marks) paragraphs entry is.marked (given.unmarked ∙ sym none));
          },
          next-typed,
        )

  -- ---- a change of one paragraph

  module _ (id : ℕ) (change : HeldParagraph → HeldParagraph) (to : Paragraph → Paragraph)
      (same : (n : ℕ) (k : HeldParagraph) → paragraph_held (n, change k) ≡ to (paragraph_held (n, k))) where
    held-changed : (held : HeldParagraphs) → map paragraph_held (with_held_change id change held) ≡ with_change id to (map paragraph_held held)
    held-changed [] = refl
    held-changed ((n, k) ∷ held) = λ i. by (n == id) i ∷ held-changed held i
      where
        by : (b : Bool) → paragraph_held (cond b (n, change k) (n, k)) ≡ cond b (to (paragraph_held (n, k))) (paragraph_held (n, k))
        by true = same n k
        by false = refl

    All-changed : (P : ℕ × HeldParagraph → Type 0) (held : HeldParagraphs)
        → ((n : ℕ) (k : HeldParagraph) → Contains held (n, k) → nat_eq n id ≡ true → P (n, k) → P (n, change k)) → All P held → All P (with_held_change id change held)
    All-changed P held here all =
        All-map P (λ entry. cond (entry.0 == id) (entry.0, change entry.1) entry) held
        (All-weaker (Contains held) (λ entry. P (cond (entry.0 == id) (entry.0, change entry.1) entry))
        (λ entry c. cond_both (entry.0 == id) (entry.0, change entry.1) entry P (λ e. here entry.0 entry.1 c e (All-contains P held entry all c)) (λ e. All-contains P held entry all c))
        held (All-contains_itself held))

  -- ---- a style and flags

  abbrev flagged : Style → Bool → Bool → HeldParagraph → HeldParagraph
  flagged style begins struck k = record k { style = style; begins_volume = begins; struck = struck }

  module _ (next : Book) (w id : ℕ) (style : Style) (begins struck : Bool) (at : w ≡ next.version)
      (makes : next ≡ next_with_paragraphs book (with_change id (λ p. record p { style = style; begins_volume = begins; struck = struck }) book.paragraphs)) where
    next-flagged : book_held w tables (with_held_change id (flagged style begins struck) paragraphs) marks ≡ next
    next-flagged =
        let to : Paragraph → Paragraph = λ p. record p { style = style; begins_volume = begins; struck = struck } in
        next-with_paragraphs next w (with_change id to before) (with_held_change id (flagged style begins struck) paragraphs) at makes
        (held-changed id (flagged style begins struck) to (λ n k. refl) paragraphs)

    pub IsHeldIn-flagged : IsHeld version tables paragraphs marks → IsSound next → IsHeldIn w next (tables, with_held_change id (flagged style begins struck) paragraphs, marks)
    IsHeldIn-flagged is sound = (
      record {
        sound = subst IsSound (sym next-flagged) sound;
        means = is.means;
        translated =
            let to : Paragraph → Paragraph = λ p. record p { style = style; begins_volume = begins; struck = struck } in
            All-changed id (flagged style begins struck) to (λ n k. refl) (IsHeldParagraph tables) paragraphs
            (λ n k c e held. record { print = held.print; table = held.table; found = held.found; choices = held.choices; tiles = held.tiles; cells = held.cells; taken = held.taken }) is.translated;
        marked = All-changed id (flagged style begins struck) (λ p. record p { style = style; begins_volume = begins; struck = struck }) (λ n k. refl) (HasMarks marks) paragraphs (λ n k c e has. has) is.marked;
      },
      next-flagged,
    )

  -- ---- another table of a paragraph

  module _ (next : Book) (w id : ℕ) (name cells : List ℕ) (at : w ≡ next.version)
      (makes : next ≡ next_with_paragraphs book (with_change id (λ p. record p { table = name }) book.paragraphs)) (given : AreCellsByTable book id name cells) where
    abbrev retabled : HeldParagraph → HeldParagraph
    retabled k = record k { table = name; cells = cells }

    next-retabled : book_held w tables (with_held_change id retabled paragraphs) marks ≡ next
    next-retabled =
        let to : Paragraph → Paragraph = λ p. record p { table = name } in
        next-with_paragraphs next w (with_change id to before) (with_held_change id retabled paragraphs) at makes
        (held-changed id retabled to (λ n k. refl) paragraphs)

    pub IsHeldIn-retabled : IsHeld version tables paragraphs marks → IsSound next → IsHeldIn w next (tables, with_held_change id retabled paragraphs, marks)
    IsHeldIn-retabled is sound = (
      record {
        sound = subst IsSound (sym next-retabled) sound;
        means = is.means;
        translated =
            let to : Paragraph → Paragraph = λ p. record p { table = name } in
            All-changed id retabled to (λ n k. refl) (IsHeldParagraph tables) paragraphs
            (λ n k c e held.
            let p : Paragraph = paragraph_held (n, k) in
            let own : found n before ≡ Some p = found-own before p (paragraphs-apart book is.sound) (Contains-map paragraph_held paragraphs (n, k) c) in
            let both : Some p ≡ Some given.paragraph = sym own ∙ (ap (λ (m : ℕ). found m before) (eqb-true n id e) ∙ given.there) in
            let one : given.paragraph ≡ p = cc in
            let print : print_of given.paragraph ≡ k.print = ap (λ (q : Paragraph). print_of q) one ∙ sym held.print in
            IsHeldParagraph-cells is (n, retabled k) given.source given.meaning held.print given.found given.means
            (subst (λ (q : List ℕ). AreCellsOf given.meaning q cells) print given.cells_are) held.taken) is.translated;
        marked = All-changed id retabled (λ p. record p { table = name }) (λ n k. refl) (HasMarks marks) paragraphs (λ n k c e has. has) is.marked;
      },
      next-retabled,
    )

  -- ---- another order

  module _ (next : Book) (w : ℕ) (order : List ℕ) (at : w ≡ next.version)
      (moved : IsPermutation before next.paragraphs) (makes : next ≡ next_with_paragraphs book next.paragraphs)
      (order_is : order ≡ ids_of next.paragraphs) (is : IsHeld version tables paragraphs marks) (sound : IsSound next) where
    moved-reordered : IsPermutation next.paragraphs before
    moved-reordered = IsPermutation-sym before next.paragraphs moved

    pub order-reordered : IsPermutation (range_with_len 1 (length paragraphs)) order
    order-reordered = order-permuted next paragraphs before order refl moved-reordered order_is sound

    next-reordered : book_held w tables (in_order_of order paragraphs) marks ≡ next
    next-reordered =
        next-with_paragraphs next w next.paragraphs (in_order_of order paragraphs) at makes (held-ordered next paragraphs before order refl moved-reordered order_is sound)

    pub IsHeldIn-reordered : IsHeldIn w next (tables, in_order_of order paragraphs, marks)
    IsHeldIn-reordered = (
      record {
        sound = subst IsSound (sym next-reordered) sound;
        means = is.means;
        translated = All-arranged (IsHeldParagraph tables) order paragraphs is.translated;
        marked = All-arranged (HasMarks marks) order paragraphs is.marked;
      },
      next-reordered,
    )

  -- ---- another print of a paragraph

  module _ (next : Book) (w id : ℕ) (change : PrintChange) (at : w ≡ next.version) (given : ChangesPrint book next id change) where
    abbrev more : Paragraph → Paragraph
    more = with_entry (entry_held change.entry)

    one_more : (n : ℕ) (k : HeldParagraph) → paragraph_held (n, with_print_changed change k) ≡ more (paragraph_held (n, k))
    one_more n k = ap (λ (h : List Entry). let p : Paragraph = paragraph_held (n, k) in record p { history = h }) (map-append entry_held k.history (change.entry ∷ []))

    next-print_changed : book_held w tables (with_held_change id (with_print_changed change) paragraphs) (with_held_moved id change.start change.removed change.added marks) ≡ next
    next-print_changed =
        same_book w (version + 1) (texts tables) (texts tables) (map paragraph_held (with_held_change id (with_print_changed change) paragraphs)) (with_change id more before)
        (marks_held (with_held_moved id change.start change.removed change.added marks)) (with_marks_moved id (mark_moved_by change.start change.removed change.added) (marks_held marks))
        (at ∙ ap (λ (b : Book). b.version) given.next_is) refl (held-changed id (with_print_changed change) more one_more paragraphs)
        (marks-moved id change.start change.removed change.added 1 marks)
        ∙ sym given.next_is

    pub IsHeldIn-print_changed : IsHeld version tables paragraphs marks → IsSound next
        → IsHeldIn w next (tables, with_held_change id (with_print_changed change) paragraphs, with_held_moved id change.start change.removed change.added marks)
    IsHeldIn-print_changed is sound = (
      record {
        sound = subst IsSound (sym next-print_changed) sound;
        means = is.means;
        translated =
            All-changed id (with_print_changed change) more one_more (IsHeldParagraph tables) paragraphs
            (λ n k c e held.
            let p : Paragraph = paragraph_held (n, k) in
            let own : found n before ≡ Some p = found-own before p (paragraphs-apart book is.sound) (Contains-map paragraph_held paragraphs (n, k) c) in
            let both : Some p ≡ Some given.paragraph = sym own ∙ (ap (λ (m : ℕ). found m before) (eqb-true n id e) ∙ given.there) in
            let one : given.paragraph ≡ p = cc in
            let print : change.print ≡ print_of (paragraph_held (n, with_print_changed change k)) = given.print ∙ (ap (λ (q : Paragraph). print_of (more q)) one ∙ ap (λ (q : Paragraph). print_of q) (sym (one_more n k))) in
            IsHeldParagraph-cells is (n, with_print_changed change k) given.source given.meaning print (ap (λ (q : Paragraph). text_of book q.table) (sym one) ∙ given.found) given.means given.cells
            (HaveTaken-push k.original k.history change.entry held.taken (subst (λ (q : Paragraph). TookFrom (print_of q) change.entry) one given.taken))) is.translated;
        marked =
            let moved : List HeldMark = with_held_moved id change.start change.removed change.added marks in
            All-changed id (with_print_changed change) more one_more (HasMarks moved) paragraphs (λ n k c e has. has)
            (All-weaker (HasMarks marks) (HasMarks moved) (λ entry has. has ∙ sym (indexes-moved id change.start change.removed change.added entry.0 marks)) paragraphs is.marked);
      },
      next-print_changed,
    )

    pub HasRoomFor-print_changed : HasRoomFor paragraphs id change.room
    HasRoomFor-print_changed = by (lookup (nat_eq id) paragraphs) refl
      where
        by : (o : Option HeldParagraph) → lookup (nat_eq id) paragraphs ≡ o → HasRoomFor paragraphs id change.room
        by None e = let both : Some given.paragraph ≡ None = sym given.there ∙ (found-held id paragraphs ∙ ap (option_map (λ k. paragraph_held (id, k))) e) in absurd (cc)
        by (Some k) e =
            let both : Some given.paragraph ≡ Some (paragraph_held (id, k)) = sym given.there ∙ (found-held id paragraphs ∙ ap (option_map (λ k. paragraph_held (id, k))) e) in
            let one : given.paragraph ≡ paragraph_held (id, k) = cc in
            let count : length given.paragraph.history ≡ length k.history = ap (λ (q : Paragraph). length q.history) one ∙ length-map k.history entry_held in
            record {
              paragraph = k;
              found = e;
              few = subst (λ (n : ℕ). n < most_entries) count given.few;
              room_is = subst (λ (n : ℕ). Suffices n change.room) count given.room;
            }

    pub indexes-print_changed : IsHeld version tables paragraphs marks → (indexes : List ℕ)
        → ((k : HeldParagraph) → lookup (nat_eq id) paragraphs ≡ Some k → indexes ≡ k.marks) → indexes ≡ indexes_on id marks
    indexes-print_changed is indexes given_indexes =
        let here = HasRoomFor-print_changed in
        given_indexes here.paragraph here.found ∙ All-found (HasMarks marks) id here.paragraph paragraphs is.marked here.found

  -- ---- marks

  pub AreWithin-marks : IsHeld version tables paragraphs marks → AreWithin marks
  AreWithin-marks is = AreWithin-sound book marks is.sound is.sound.marks

  -- a book with other marks, of which each paragraph has the same
  module _ (next : Book) (w : ℕ) (ms : List Mark) (held : List HeldMark) (at : w ≡ next.version) (makes : next ≡ next_with_marks book ms) (same : marks_held held ≡ ms) where
    next-marked : book_held w tables paragraphs held ≡ next
    next-marked =
        same_book w (version + 1) (texts tables) (texts tables) before before (marks_held held) ms (at ∙ ap (λ (b : Book). b.version) makes) refl refl same ∙ sym makes

    pub IsHeldIn-marked : IsHeld version tables paragraphs marks → IsSound next → ((id : ℕ) → indexes_on id held ≡ indexes_on id marks) → IsHeldIn w next (tables, paragraphs, held)
    IsHeldIn-marked is sound stay = (
      record {
        sound = subst IsSound (sym next-marked) sound;
        means = is.means;
        translated = is.translated;
        marked = All-weaker (HasMarks marks) (HasMarks held) (λ entry has. has ∙ sym (stay entry.0)) paragraphs is.marked;
      },
      next-marked,
    )

  -- a book with a mark more, of which its paragraph has the index
  module _ (next : Book) (w : ℕ) (m : HeldMark) (at : w ≡ next.version) (makes : next ≡ next_with_marks book (marks_held marks ++ mark_held (next_mark book, m) ∷ [])) where
    abbrev noted : HeldParagraphs
    noted = with_held_change m.paragraph (with_mark (length marks)) paragraphs

    held-noted : (held : HeldParagraphs) → map paragraph_held (with_held_change m.paragraph (with_mark (length marks)) held) ≡ map paragraph_held held
    held-noted [] = refl
    held-noted ((n, k) ∷ held) = λ i. by (n == m.paragraph) i ∷ held-noted held i
      where
        by : (b : Bool) → paragraph_held (cond b (n, with_mark (length marks) k) (n, k)) ≡ paragraph_held (n, k)
        by true = refl
        by false = refl

    next-noted : book_held w tables noted (marks ++ m ∷ []) ≡ next
    next-noted =
        same_book w (version + 1) (texts tables) (texts tables) (map paragraph_held noted) before (marks_held (marks ++ m ∷ [])) (marks_held marks ++ mark_held (next_mark book, m) ∷ [])
        (at ∙ ap (λ (b : Book). b.version) makes) refl (held-noted paragraphs) (marks-push marks m) ∙ sym makes

    pub IsHeldIn-noted : IsHeld version tables paragraphs marks → IsSound next → IsHeldIn w next (tables, noted, marks ++ m ∷ [])
    IsHeldIn-noted is sound = (
      record {
        sound = subst IsSound (sym next-noted) sound;
        means = is.means;
        translated = All-changed m.paragraph (with_mark (length marks)) (λ p. p) (λ n k. refl) (IsHeldParagraph tables) paragraphs
            (λ n k c e held. record { print = held.print; table = held.table; found = held.found; choices = held.choices; tiles = held.tiles; cells = held.cells; taken = held.taken }) is.translated;
        marked =
            All-map (HasMarks (marks ++ m ∷ [])) (λ entry. cond (entry.0 == m.paragraph) (entry.0, with_mark (length marks) entry.1) entry) paragraphs
            (All-weaker (HasMarks marks) (λ entry. HasMarks (marks ++ m ∷ []) (cond (entry.0 == m.paragraph) (entry.0, with_mark (length marks) entry.1) entry))
            (λ entry has. cond_both (entry.0 == m.paragraph) (entry.0, with_mark (length marks) entry.1) entry (HasMarks (marks ++ m ∷ []))
            (λ e.
            let same : entry.0 ≡ m.paragraph = eqb-true entry.0 m.paragraph e in
            ap (λ (t : List ℕ). t ++ length marks ∷ []) (has ∙ ap (λ (n : ℕ). indexes_on n marks) same)
            ∙ (sym (indexes-push_on marks m) ∙ ap (λ (n : ℕ). indexes_on n (marks ++ m ∷ [])) (sym same)))
            (λ e. has ∙ sym (indexes-push_other entry.0 marks m (ne_eqb m.paragraph entry.0 (λ same. eqb-false entry.0 m.paragraph e (sym same))))))
            paragraphs is.marked);
      },
      next-noted,
    )

    pub HasRoomForMark-noted : IsHeld version tables paragraphs marks → (room : Option ℕ) → length book.marks < most_marks
        → Suffices (length (marks_on m.paragraph book.marks)) room → HasRoomForMark paragraphs m.paragraph room
    HasRoomForMark-noted is room few enough k found =
        let has : k.marks ≡ indexes_on m.paragraph marks = All-found (HasMarks marks) m.paragraph k paragraphs is.marked found in
        let count : length k.marks ≡ length (marks_on m.paragraph book.marks) = ap length has ∙ count-indexes m.paragraph 0 1 marks in
        let fewer = few-on m.paragraph (marks_held marks) in
        (omega arith, subst (λ (n : ℕ). Suffices n room) (sym count) enough)
