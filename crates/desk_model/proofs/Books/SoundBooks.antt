-- What is found in a sound book.
use Rattle.std.proofs.Common.{◌≡◌, ℕ, ◌≤◌, List, length, Some, Contains, subst, ◌∙◌, arith}
use Rattle.std.proofs.lemmas.List.Elements.{All-contains}
use Rattle.std.proofs.Math.Seq.{take-length}
use Rattle.desk_model.specs.Book.{Book, Entry, Paragraph, paragraph_of, text_of}
use Rattle.desk_model.specs.Sound.{IsSound, IsSoundTable, IsSoundParagraph}
use Rattle.desk_model.proofs.Lists.Members.{Contains-map}
use Rattle.desk_model.proofs.Lists.Numbering.{IsDistinct-numbers, Contains-numbers, within-numbers}
use Rattle.desk_model.proofs.Books.ParagraphLists.{AreApart, ids_of, id-found, Contains-found, found-some, found-own}
use Rattle.desk_model.proofs.Lists.TableEntries.{Contains-text}
use Rattle.desk_model.specs.Limits.{most_print}
use Rattle.desk_model.specs.Print.{corrected_print, print_of}

module _ (book : Book) (sound : IsSound book) where
  -- no two paragraphs have one id
  pub paragraphs-apart : AreApart book.paragraphs
  paragraphs-apart = IsDistinct-numbers (length book.paragraphs) (ids_of book.paragraphs) sound.ids

  -- the ids of the paragraphs are those from 1 up to their number
  pub paragraph_of-some : (id : ℕ) → 1 ≤ id → id ≤ length book.paragraphs → (paragraph : Paragraph) × (paragraph_of book id ≡ Some paragraph)
  paragraph_of-some id from to = found-some id book.paragraphs (Contains-numbers (length book.paragraphs) (ids_of book.paragraphs) sound.ids id from to)

  pub paragraph_of-within : (id : ℕ) (paragraph : Paragraph) → paragraph_of book id ≡ Some paragraph → (1 ≤ id) × (id ≤ length book.paragraphs)
  paragraph_of-within id paragraph e =
      within-numbers (length book.paragraphs) (ids_of book.paragraphs) sound.ids id
      (subst (Contains (ids_of book.paragraphs)) (id-found id book.paragraphs paragraph e)
      (Contains-map (λ p. p.id) book.paragraphs paragraph (Contains-found id book.paragraphs paragraph e)))

  -- each paragraph is found by its id
  pub paragraph_of-own : (paragraph : Paragraph) → Contains book.paragraphs paragraph → paragraph_of book paragraph.id ≡ Some paragraph
  paragraph_of-own paragraph = found-own book.paragraphs paragraph paragraphs-apart

  -- what is found is sound
  pub IsSoundParagraph-found : (id : ℕ) (paragraph : Paragraph) → paragraph_of book id ≡ Some paragraph → IsSoundParagraph book paragraph
  IsSoundParagraph-found id paragraph e = All-contains (IsSoundParagraph book) book.paragraphs paragraph sound.paragraphs (Contains-found id book.paragraphs paragraph e)

  pub IsSoundTable-found : (name text : List ℕ) → text_of book name ≡ Some text → IsSoundTable (name, text)
  IsSoundTable-found name text e = All-contains IsSoundTable book.tables (name, text) sound.tables (Contains-text name text book.tables e)

-- a print of a sound paragraph is short
pub short-sound : (book : Book) (p : Paragraph) → IsSoundParagraph book p → length (print_of p) ≤ most_print
short-sound book p s = subst (λ (t : List Entry). length (corrected_print p.original t) ≤ most_print) (take-length p.history) (s.history.short (length p.history) (omega arith))

-- a sound paragraph is sound in a book whose tables have the same texts
pub IsSoundParagraph-same_texts : (book other : Book) → ((name : List ℕ) → text_of other name ≡ text_of book name) → (p : Paragraph) → IsSoundParagraph book p → IsSoundParagraph other p
IsSoundParagraph-same_texts book other same p s = record {
  clean = s.clean;
  history = s.history;
  text = s.text;
  meaning = s.meaning;
  found = same p.table ∙ s.found;
  means = s.means;
  defined = s.defined;
}
