-- Sound books after a change of their paragraphs.
use Rattle.std.proofs.Common.{◌≡◌, ℕ, ◌+◌, ◌<◌, ◌≤◌, List, ◌∷◌, length, Some, Contains, refl, sym, ap, subst, ◌∙◌, arith, IsPermutation, nat_eq, option_map}
use Rattle.std.specs.List.{All, range_with_len}
use Rattle.std.proofs.lemmas.Bool.{cond-false, cond_both, eqb-true, ne_eqb}
use Rattle.std.proofs.lemmas.List.{length-map}
use Rattle.std.proofs.lemmas.List.Elements.{All-cons, All-weaker}
use Rattle.std.proofs.lemmas.List.Sorted.{All-permutation, IsPermutation-map, IsPermutation-trans, length_permutation}
use Rattle.louis_translate.specs.Position.{AreDefined}
use Rattle.desk_model.specs.declared.command.Anchor.{Anchor}
use Rattle.desk_model.specs.Book.{Book, Paragraph, Mark, text_of, paragraph_of}
use Rattle.desk_model.specs.Print.{corrected_print, print_of}
use Rattle.desk_model.specs.Named.{paragraph_before}
use Rattle.desk_model.specs.Limits.{most_version, most_paragraphs}
use Rattle.desk_model.specs.Sound.{IsSoundHistory, IsSoundParagraph, IsSoundMark, IsSound}
use Rattle.desk_model.specs.NextBook.{with_paragraph, with_change, next_id, next_with_paragraphs}
use Rattle.desk_model.specs.BookTexts.{IsClean}
use Rattle.desk_model.proofs.Lists.Numbering.{next-number, IsDistinct-numbers}
use Rattle.desk_model.proofs.Books.ParagraphLists.{ids_of, AreApart, found, changed, id-found, found-permutation, ids-with_change, found-with_change, All-with_change, IsPermutation-with_paragraph}
use Rattle.desk_model.proofs.Books.SoundBooks.{IsSoundParagraph-same_texts, paragraphs-apart, paragraph_of-within, paragraph_of-own, IsSoundParagraph-found}

-- a mark stays sound where its paragraph keeps its print
pub IsSoundMark-kept : (book other : Book) → ((id : ℕ) (p : Paragraph) → paragraph_of book id ≡ Some p → (q : Paragraph) × (paragraph_of other id ≡ Some q) × (print_of q ≡ print_of p)) → (mark : Mark) → IsSoundMark book mark → IsSoundMark other mark
IsSoundMark-kept book other kept mark sound =
    let now = kept mark.paragraph sound.paragraph sound.found in
    record {
      paragraph = now.0;
      found = now.1;
      ordered = sound.ordered;
      within = subst (λ (print : List ℕ). mark.end ≤ length print) (sym now.2) sound.within;
      clean = sound.clean;
      short = sound.short;
    }

-- each paragraph of the book is among these, with its print
abbrev pub KeepsPrints : Book → List Paragraph → Type 0
KeepsPrints book paragraphs =
    (id : ℕ) (p : Paragraph) → paragraph_of book id ≡ Some p → (q : Paragraph) × (found id paragraphs ≡ Some q) × (print_of q ≡ print_of p)

pub IsSound-with_paragraphs : (book : Book) (paragraphs : List Paragraph) → IsSound book → book.version < most_version → length paragraphs ≤ most_paragraphs
    → IsPermutation (range_with_len 1 (length paragraphs)) (ids_of paragraphs) → All (IsSoundParagraph book) paragraphs → KeepsPrints book paragraphs
    → IsSound (next_with_paragraphs book paragraphs)
IsSound-with_paragraphs book paragraphs sound room few ids all kept =
    let next : Book = next_with_paragraphs book paragraphs in
    let version : next.version ≤ most_version = omega arith in
    let paragraphs_sound = All-weaker (IsSoundParagraph book) (IsSoundParagraph next) (IsSoundParagraph-same_texts book next (λ name. refl)) paragraphs all in
    let marks = All-weaker (IsSoundMark book) (IsSoundMark next) (IsSoundMark-kept book next kept) book.marks sound.marks in
    assumption

-- ---- a change of one paragraph

pub IsSound-changed : (book : Book) (id : ℕ) (change : Paragraph → Paragraph) → IsSound book → book.version < most_version → ((p : Paragraph) → (change p).id ≡ p.id)
    → ((p : Paragraph) → paragraph_of book id ≡ Some p → IsSoundParagraph book (change p) × (print_of (change p) ≡ print_of p))
    → IsSound (next_with_paragraphs book (with_change id change book.paragraphs))
IsSound-changed book id change sound room keeps here =
    let ps : List Paragraph = with_change id change book.paragraphs in
    let long : length ps ≡ length book.paragraphs = length-map book.paragraphs (changed id change) in
    IsSound-with_paragraphs book ps sound room (subst (λ (n : ℕ). n ≤ most_paragraphs) (sym long) sound.few_paragraphs)
    (subst (λ (n : ℕ). IsPermutation (range_with_len 1 n) (ids_of ps)) (sym long)
    (subst (IsPermutation (range_with_len 1 (length book.paragraphs))) (sym (ids-with_change id change keeps book.paragraphs)) sound.ids))
    (All-with_change (IsSoundParagraph book) id change book.paragraphs sound.paragraphs
    (λ p c same s. (here p (ap (λ (n : ℕ). paragraph_of book n) (sym same) ∙ paragraph_of-own book sound p c)).0)) (λ other p e.
    let same : (p.id ≡ id) → paragraph_of book id ≡ Some p = λ h. ap (λ (n : ℕ). paragraph_of book n) (sym h ∙ id-found other book.paragraphs p e) ∙ e in (
      changed id change p,
      found-with_change id change keeps book.paragraphs other ∙ ap (option_map (changed id change)) e,
      cond_both (nat_eq p.id id) (change p) p (λ q. print_of q ≡ print_of p) (λ h. (here p (same (eqb-true p.id id h))).1) (λ _. refl),
    ))

-- the change leaves a paragraph its id and its print, and the table by which it is shown
pub record KeepsText (change : Paragraph → Paragraph) : Type 0 where
  pub id : (p : Paragraph) → (change p).id ≡ p.id
  pub table : (p : Paragraph) → (change p).table ≡ p.table
  pub original : (p : Paragraph) → (change p).original ≡ p.original
  pub history : (p : Paragraph) → (change p).history ≡ p.history

pub IsSound-kept_text : (book : Book) (id : ℕ) (change : Paragraph → Paragraph) → IsSound book → book.version < most_version → KeepsText change → IsSound (next_with_paragraphs book (with_change id change book.paragraphs))
IsSound-kept_text book id change sound room keeps =
    IsSound-changed book id change sound room keeps.id (λ p e.
    let s = IsSoundParagraph-found book sound id p e in
    let print : print_of (change p) ≡ print_of p = λ i. corrected_print (keeps.original p i) (keeps.history p i) in (
      record {
        clean = subst IsClean (sym (keeps.original p)) s.clean;
        history = subst (λ (text : List ℕ). IsSoundHistory text (change p).history) (sym (keeps.original p)) (subst (IsSoundHistory p.original) (sym (keeps.history p)) s.history);
        text = s.text;
        meaning = s.meaning;
        found = ap (text_of book) (keeps.table p) ∙ s.found;
        means = s.means;
        defined = subst (AreDefined s.meaning) (sym print) s.defined;
      },
      print,
    ))

-- ---- the order of the paragraphs

pub IsSound-reordered : (book : Book) (ps : List Paragraph) → IsSound book → book.version < most_version → IsPermutation book.paragraphs ps → IsSound (next_with_paragraphs book ps)
IsSound-reordered book ps sound room moved =
    let long : length ps ≡ length book.paragraphs = length_permutation _ _ moved in
    IsSound-with_paragraphs book ps sound room (subst (λ (n : ℕ). n ≤ most_paragraphs) (sym long) sound.few_paragraphs)
    (subst (λ (n : ℕ). IsPermutation (range_with_len 1 n) (ids_of ps)) (sym long)
    (IsPermutation-trans _ _ _ sound.ids (IsPermutation-map (λ (p : Paragraph). p.id) _ _ moved)))
    (All-permutation (IsSoundParagraph book) _ _ moved sound.paragraphs)
    (λ id p e. (p, found-permutation id book.paragraphs ps moved (paragraphs-apart book sound) ∙ e, refl))

-- ---- a new paragraph

-- a paragraph more, with the next id
pub IsSound-with_paragraph : (book : Book) (anchor : Anchor) (new : Paragraph) → IsSound book → book.version < most_version → length book.paragraphs < most_paragraphs
    → new.id ≡ next_id book → IsSoundParagraph book new → ((other : ℕ) → Contains (paragraph_before anchor) other → Contains (ids_of book.paragraphs) other)
    → IsSound (next_with_paragraphs book (with_paragraph anchor new book.paragraphs))
IsSound-with_paragraph book anchor new sound room more numbered new_sound there =
    let old : List Paragraph = book.paragraphs in
    let ps : List Paragraph = with_paragraph anchor new old in
    let moved = IsPermutation-with_paragraph anchor new old (paragraphs-apart book sound) there in
    let front : IsPermutation (range_with_len 1 (length old + 1)) (ids_of (new ∷ old)) =
    subst (λ (n : ℕ). IsPermutation (range_with_len 1 (length old + 1)) (n ∷ ids_of old)) (sym numbered) (next-number (length old) (ids_of old) sound.ids) in
    let apart : AreApart (new ∷ old) = IsDistinct-numbers (length old + 1) (ids_of (new ∷ old)) front in
    let long : length ps ≡ length old + 1 = omega (arith, length_permutation _ _ moved) in
    IsSound-with_paragraphs book ps sound room (omega (arith, long, more))
    (subst (λ (n : ℕ). IsPermutation (range_with_len 1 n) (ids_of ps)) (sym long)
    (IsPermutation-trans _ _ _ front (IsPermutation-map (λ (p : Paragraph). p.id) _ _ moved)))
    (All-permutation (IsSoundParagraph book) _ _ moved (All-cons (IsSoundParagraph book) new old new_sound sound.paragraphs)) (λ id p e.
    let within = paragraph_of-within book sound id p e in (
      p,
      found-permutation id (new ∷ old) ps moved apart
          ∙ (cond-false (nat_eq new.id id) (Some new) (found id old) (ne_eqb new.id id (λ same. omega (arith, within.1, numbered, same))) ∙ e),
      refl,
    ))
