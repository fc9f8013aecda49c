-- How many cells the braille of a paragraph may have.
use Rattle.std.proofs.Common.{ℕ, zero, suc, ◌+◌, ◌*◌, ◌≤◌, Bool, true, false, cond, List, [], ◌∷◌, length, Option, Some, None, Contains, ap, length-append, arith}
use Rattle.std.specs.Prelude.{◌==◌, ◌&&◌, nat_eq, nat_lt, slice_get, All, IfSome}
use Rattle.std.specs.Option.{option_and_then, option_map_or}
use Rattle.std.proofs.lemmas.List.Elements.{All-head, All-tail, All-contains}
use Rattle.std.proofs.lemmas.Map.Entries.{All-lookup}
use Rattle.louis_table.specs.declared.definition.Definition.{Definition}
use Rattle.louis_table.specs.declared.rule.Rule.{Rule}
use Rattle.louis_table.specs.declared.sign.Sign.TheVariants.{Number, Capital, CapitalWord, NoContraction}
use Rattle.louis_table.specs.Meaning.{Meaning, definition_of, sign_cells}
use Rattle.louis_table.specs.Profile.{WithNumericMode}
use Rattle.louis_table.proofs.CellLimits.{HasFewCells, few_cells}
use Rattle.louis_translate.specs.declared.choices.Choice.{Choice}
use Rattle.louis_translate.specs.Braille.{own_cells, chosen_cells, cells_of, braille}
use Rattle.louis_translate.specs.Sign.{capital_sign, run_start, sign_at, takes_one_sign, is_digit_at, is_capital_at, follows_number, ends_number}
use Rattle.louis_translate.specs.Tiling.{Covers}
use Rattle.louis_translate.proofs.Spans.{span-positive}
use Rattle.desk_model.specs.Book.{Book, Paragraph}
use Rattle.desk_model.specs.Print.{print_of}
use Rattle.desk_model.specs.Sound.{IsSound, IsSoundParagraph}
use Rattle.desk_model.specs.Translation.{IsBraille}
use Rattle.desk_model.proofs.Callers.{short-sound}

abbrev FewOfRule : Rule → Type 0
FewOfRule rule = length rule.cells ≤ 1000000

choice-few : (most : ℕ) (b : Bool) (x y : List ℕ) → length x ≤ most → length y ≤ most → length (cond b x y) ≤ most
choice-few most true x y h k = h
choice-few most false x y h k = k

module _ (meaning : Meaning) (few : HasFewCells meaning) (print : List ℕ) where
  capital-few : (i : ℕ) → length (capital_sign meaning print i) ≤ 20000000
  capital-few i =
      let before_word = sign_cells meaning CapitalWord in
      choice-few 20000000 (nat_lt 0 (length before_word) && takes_one_sign meaning print i) (cond (run_start meaning print i == i) before_word []) (sign_cells meaning Capital)
      (choice-few 20000000 (run_start meaning print i == i) before_word [] (few.signs CapitalWord) (omega arith)) (few.signs Capital)

  sign_at-few : (i : ℕ) → length (sign_at meaning print i) ≤ 20000000
  sign_at-few i =
      let number = cond (follows_number meaning print i) [] (sign_cells meaning Number) in
      let other = cond (ends_number meaning print i) (sign_cells meaning NoContraction) [] in
      let letter = cond (is_capital_at meaning print i) (capital_sign meaning print i) other in
      choice-few 20000000 (is_digit_at meaning print i) number letter
      (choice-few 20000000 (follows_number meaning print i) [] (sign_cells meaning Number) (omega arith) (few.signs Number))
      (choice-few 20000000 (is_capital_at meaning print i) (capital_sign meaning print i) other (capital-few i)
      (choice-few 20000000 (ends_number meaning print i) (sign_cells meaning NoContraction) [] (few.signs NoContraction) (omega arith)))

  rule_at-few : (rules : List Rule) (k : ℕ) → All FewOfRule rules → length (option_map_or (λ (r : Rule). r.cells) (slice_get rules k) []) ≤ 1000000
  rule_at-few [] k all = omega arith
  rule_at-few (rule ∷ rules) zero all = All-head FewOfRule rule rules all
  rule_at-few (rule ∷ rules) (suc k) all = rule_at-few rules k (All-tail FewOfRule rule rules all)

  own-few : (character : Option ℕ) (rule : Option ℕ) → length (own_cells meaning (option_and_then (definition_of meaning) character) rule) ≤ 1000000
  own-few None None = omega arith
  own-few (Some c) None = by (definition_of meaning c) (All-lookup (λ (d : Definition). length d.cells ≤ 1000) (nat_eq c) meaning.definitions few.definitions)
    where
      by : (o : Option Definition) → IfSome o (λ (d : Definition). length d.cells ≤ 1000) → length (option_map_or (λ (d : Definition). d.cells) o []) ≤ 1000000
      by None h = omega arith
      by (Some d) h = omega (arith, h)
  own-few character (Some k) = rule_at-few meaning.rules k few.rules

  choice_cells-few : (choice : Choice) → length (cells_of meaning print choice) ≤ 21000000
  choice_cells-few choice =
      let own = own-few (slice_get print choice.start) choice.rule in
      omega (arith, sign_at-few choice.start, own, length-append (sign_at meaning print choice.start) (chosen_cells meaning print choice.start choice.rule))

  covers-few : (i j : ℕ) (t : List Choice) → Covers meaning print i t j → length (braille meaning print t) + i * 21000000 ≤ j * 21000000
  covers-few i j [] e = omega (arith, e)
  covers-few i j (choice ∷ t) h =
      let both = length-append (cells_of meaning print choice) (braille meaning print t) in
      omega (arith, choice_cells-few choice, covers-few choice.end j t h.2, both, h.1.end, span-positive meaning print i choice.rule h.1.chosen)

-- a paragraph of a sound book has few cells
pub braille-few : (book : Book) (paragraph : Paragraph) (cells : List ℕ) → IsSound book → Contains book.paragraphs paragraph → IsBraille book paragraph cells → length cells ≤ 84000000000
braille-few book paragraph cells sound there (meaning, choices, by, is) =
    let few = covers-few meaning (few_cells WithNumericMode by.text meaning by.means) (print_of paragraph) 0 (length (print_of paragraph)) choices by.tiles in
    omega (arith, short-sound book paragraph (All-contains (IsSoundParagraph book) book.paragraphs paragraph sound.paragraphs there), few, ap length is)
