-- The print that cells of a paragraph stand for: it is there where the cells are, and is one.
use Rattle.std.proofs.Common.{◌≡◌, ◌≢◌, ℕ, ◌+◌, ◌-◌, ◌<◌, ◌≤◌, List, [], ◌∷◌, ◌++◌, length, Some, refl, sym, ap, subst, ◌∙◌, arith, inl, inr, length-append}
use Rattle.louis_table.proofs.OneMeaning.{one_meaning}
use Rattle.louis_table.specs.Meaning.{Meaning}
use Rattle.louis_table.specs.Table.{Means}
use Rattle.louis_translate.specs.declared.choices.Choice.{Choice}
use Rattle.louis_translate.specs.Braille.{braille, cells_of, IsPrintEnd, IsPrintPlace, MakesCell}
use Rattle.louis_translate.specs.Position.{AreDefined}
use Rattle.louis_translate.specs.Tiling.{Tiles}
use Rattle.louis_translate.proofs.PlaceLists.{inputs_of, outputs_from, IsTranslation-lists}
use Rattle.louis_translate.proofs.Tilings.{one_cover, one_tiling}
use Rattle.desk_model.specs.Book.{Book, Paragraph, paragraph_of, text_of}
use Rattle.desk_model.specs.Print.{print_of}
use Rattle.desk_model.specs.Translation.{AreMarked, IsTranslatedBy, LacksCells}
use Rattle.std.proofs.lemmas.Option.{same_Some}

-- ---- the choice that made a cell

module _ (meaning : Meaning) (print : List ℕ) where
  -- of two choices of a list that made the cell with this number after n others, each is the other
  one_maker : (n cell : ℕ) (xs : List Choice) (c : Choice) (us ys : List Choice) (d : Choice) (vs : List Choice) → xs ++ c ∷ us ≡ ys ++ d ∷ vs
      → n + length (braille meaning print xs) ≤ cell → cell < n + length (braille meaning print xs) + length (cells_of meaning print c)
      → n + length (braille meaning print ys) ≤ cell → cell < n + length (braille meaning print ys) + length (cells_of meaning print d)
      → c ≡ d
  one_maker n cell [] c us [] d vs e f g h k = cc e
  one_maker n cell [] c us (y ∷ ys) d vs e f g h k =
      let same : c ≡ y = cc e in
      let its = ap (λ (x : Choice). length (cells_of meaning print x)) same in
      absurd (omega (arith, length-append (cells_of meaning print y) (braille meaning print ys)))
  one_maker n cell (x ∷ xs) c us [] d vs e f g h k =
      let same : x ≡ d = cc e in
      let its = ap (λ (z : Choice). length (cells_of meaning print z)) same in
      absurd (omega (arith, length-append (cells_of meaning print x) (braille meaning print xs)))
  one_maker n cell (x ∷ xs) c us (y ∷ ys) d vs e f g h k =
      let same : x ≡ y = cc e in
      let its = ap (λ (z : Choice). length (cells_of meaning print z)) same in
      let first = length-append (cells_of meaning print x) (braille meaning print xs) in
      let second = length-append (cells_of meaning print y) (braille meaning print ys) in
      one_maker (n + length (cells_of meaning print x)) cell xs c us ys d vs (cc e) (omega arith) (omega arith) (omega arith) (omega arith)

  one_choice : (choices : List Choice) (cell : ℕ) (c d : Choice) → MakesCell meaning print choices c cell → MakesCell meaning print choices d cell → c ≡ d
  one_choice choices cell c d a b =
      let one = a.among in
      let other = b.among in
      let from = a.from in
      let to = a.to in
      let begins = b.from in
      let ends = b.to in
      one_maker 0 cell a.before c one.after b.before d other.after (sym one.parts ∙ other.parts) (omega arith) (omega arith) (omega arith) (omega arith)

  one_start : (choices : List Choice) (cell p q : ℕ) → IsPrintPlace meaning print choices cell p → IsPrintPlace meaning print choices cell q → p ≡ q
  one_start choices cell p q (c, made, is) (d, makes, at) = is ∙ (ap (λ (x : Choice). x.start) (one_choice choices cell c d made makes) ∙ sym at)

  one_end : (choices : List Choice) (cell p q : ℕ) → IsPrintEnd meaning print choices cell p → IsPrintEnd meaning print choices cell q → p ≡ q
  one_end choices cell p q (c, made, is) (d, makes, at) = is ∙ (ap (λ (x : Choice). x.end) (one_choice choices cell c d made makes) ∙ sym at)

-- ---- how a paragraph is translated

-- a paragraph, the meaning of its table, and choices
pub record View : Type 0 where
  pub paragraph : Paragraph
  pub meaning : Meaning
  pub choices : List Choice

abbrev pub cells_seen : View → List ℕ
cells_seen view = braille view.meaning (print_of view.paragraph) view.choices

module _ (book : Book) (id : ℕ) where
  abbrev Sees : View → Type 0
  Sees view = (paragraph_of book id ≡ Some view.paragraph) × IsTranslatedBy book view.paragraph view.meaning view.choices

  one_view : (a b : View) → Sees a → Sees b → a ≡ b
  one_view a b (found, shown) (finds, shows) =
      let paragraphs = same_Some b.paragraph a.paragraph (sym finds ∙ found) in
      let texts = same_Some shows.text shown.text (sym shows.found ∙ (ap (λ (p : Paragraph). text_of book p.table) paragraphs ∙ shown.found)) in
      let meanings = one_meaning shown.text b.meaning a.meaning (subst (λ (t : List ℕ). Means t b.meaning) texts shows.means) shown.means in
      let tiles = subst (λ (m : Meaning). Tiles m (print_of a.paragraph) b.choices) meanings (subst (λ (p : Paragraph). Tiles b.meaning (print_of p) b.choices) paragraphs shows.tiles) in
      let choices = one_cover a.meaning (print_of a.paragraph) 0 a.choices b.choices shown.tiles tiles in
      λ i. record { paragraph = sym paragraphs i; meaning = sym meanings i; choices = choices i }

  module _ (cell count : ℕ) where
    -- the cells stand for one part of the print
    pub one_span : (start end first last : ℕ) → AreMarked book id cell count start end → AreMarked book id cell count first last → (start ≡ first) × (end ≡ last)
    one_span start end first last a b =
        let v : View = record { paragraph = a.paragraph; meaning = a.meaning; choices = a.choices } in
        let w : View = record { paragraph = b.paragraph; meaning = b.meaning; choices = b.choices } in
        let same : w ≡ v = one_view w v (b.found, b.translated) (a.found, a.translated) in
        let starts = subst (λ (x : View). IsPrintPlace x.meaning (print_of x.paragraph) x.choices cell first) same b.starts in
        let ends = subst (λ (x : View). IsPrintEnd x.meaning (print_of x.paragraph) x.choices (cell + count - 1) last) same b.ends in (
          one_start a.meaning (print_of a.paragraph) a.choices cell start first a.starts starts,
          one_end a.meaning (print_of a.paragraph) a.choices (cell + count - 1) end last a.ends ends,
        )

    -- where a paragraph is translated, its cells are lacking or not by their number alone
    pub has_cells : (view : View) → Sees view → count ≢ 0 → cell + count ≤ length (cells_seen view) → ¬ LacksCells book id cell count
    has_cells view sees some within l =
        let other : View = record { paragraph = l.paragraph; meaning = l.meaning; choices = l.choices } in
        let many = ap (λ (v : View). length (cells_seen v)) (one_view other view (l.found, l.translated) sees) in
        elim l.lacks [
          | inl none ↦ absurd (some none)
          | inr past ↦ absurd (omega arith)
        ]

    -- cells that are there stand for some part of the print
    pub some_span : (p : Paragraph) (text : List ℕ) (meaning : Meaning) → paragraph_of book id ≡ Some p → text_of book p.table ≡ Some text → Means text meaning → AreDefined meaning (print_of p)
        → ¬ LacksCells book id cell count → (start : ℕ) × (end : ℕ) × AreMarked book id cell count start end
    some_span p text meaning found there means defined enough =
        let print = print_of p in
        let t = one_tiling meaning print in
        let cells = braille meaning print t.0 in
        let lists = IsTranslation-lists meaning print t.0 cells (outputs_from meaning print 0 t.0) (inputs_of meaning print t.0) defined t.1 (refl {a = braille meaning print t.0}) (refl {a = outputs_from meaning print 0 t.0}) (refl {a = inputs_of meaning print t.0}) in
        let shown : IsTranslatedBy book p meaning lists.choices = record { text = text; found = there; means = means; tiles = lists.tiles } in
        let many = ap length lists.cells_are in
        let some : count ≢ 0 = λ none. enough (record { paragraph = p; found = found; meaning = meaning; choices = lists.choices; translated = shown; lacks = inl none }) in
        let short : ¬ (length cells < cell + count) = λ past. enough (record { paragraph = p; found = found; meaning = meaning; choices = lists.choices; translated = shown; lacks = inr (omega arith) }) in
        let first = lists.inputs_are cell (omega arith) in
        let last = lists.inputs_are (cell + count - 1) (omega arith) in
        (_, last.0.end, record { paragraph = p; found = found; meaning = meaning; choices = lists.choices; translated = shown; starts = first; ends = (last.0, last.1, refl {a = last.0.end}) })
