-- Lone cells: no sign stands before them at a free place, and the next place is free too.
use Rattle.std.proofs.Common.{◌≡◌, ℕ, ◌+◌, ◌<◌, List, [], ◌∷◌, length, Bool, true, false, Option, Some, None, refl, sym, ap, ◌∙◌, inl, inr, MatchOption, if◌then◌else◌, map, option_map, slice_get}
use Rattle.std.specs.Option.{option_and_then, option_map_or}
use Rattle.std.proofs.lemmas.Option.{slice_get_within}
use Rattle.louis_table.specs.declared.definition.Definition.{Definition}
use Rattle.louis_table.specs.declared.sign.Sign.TheVariants.{NoContraction}
use Rattle.louis_table.specs.Meaning.{Meaning, definition_of, sign_cells}
use Rattle.louis_translate.specs.declared.choices.Choice.{Choice}
use Rattle.louis_translate.specs.Position.{class_of, is_digit}
use Rattle.louis_translate.specs.Sign.{ends_number, is_capital, is_capital_at, is_digit_at, sign_at}
use Rattle.louis_translate.specs.Braille.{chosen_cells, own_cells}
use Rattle.louis_translate.specs.Choice.{IsChosen}
use Rattle.louis_translate.specs.Items.{PieceItem, made_by}
use Rattle.louis_translate.specs.Left.{choices_from}
use Rattle.louis_translate.specs.Piece.{IsFree, IsLoneAt, IsLoneCell, one_character}
use Rattle.louis_translate.proofs.Numbers.{ends_number-never, follows_number-never}
use Rattle.louis_translate.proofs.Tilings.{choices_from-next}

none_either : (b : Bool) (xs : List ℕ) → xs ≡ [] → (if b then xs else []) ≡ []
none_either true xs e = e
none_either false xs e = refl

-- what a choice makes, by its sign and its cells
pub made_is : (meaning : Meaning) (print : List ℕ) (choice : Choice) (sign own : List ℕ) → sign ≡ sign_at meaning print choice.start → own ≡ chosen_cells meaning print choice.start choice.rule
    → made_by meaning print choice ≡ (let made : PieceItem = record { choice = choice; sign = sign; own = own } in made)
made_is meaning print choice sign own e f = rw (e, f) refl

module _ (meaning : Meaning) (print : List ℕ) (i character cell : ℕ) (there : slice_get print i ≡ Some character) (lone : IsLoneCell meaning character cell) where
  within : i < length print
  within = slice_get_within print i character there

  no_digit : is_digit_at meaning print i ≡ false
  no_digit =
      ap (λ (o : Option ℕ). is_digit (option_and_then (class_of meaning) o)) there
      ∙ (ap (λ (o : Option Definition). is_digit (option_map (λ (d : Definition). d.class) o)) lone.definition ∙ lone.no_digit)

  no_capital : is_capital_at meaning print i ≡ false
  no_capital = ap (λ (o : Option ℕ). option_map_or (is_capital meaning) o false) there ∙ lone.no_capital

  pub own : chosen_cells meaning print i None ≡ cell ∷ []
  own =
      ap (λ (o : Option ℕ). option_map_or (λ (d : Definition). d.cells) (option_and_then (definition_of meaning) o) []) there
      ∙ (ap (λ (o : Option Definition). option_map_or (λ (d : Definition). d.cells) o []) lone.definition ∙ lone.alone)

  pub no_sign : IsFree meaning print i → sign_at meaning print i ≡ []
  no_sign free = rw (no_digit, no_capital) (elim free [
    | inl none ↦ none_either (ends_number meaning print i) (sign_cells meaning NoContraction) none
    | inr off ↦ rw (ends_number-never meaning print i within no_digit off) refl
  ])

  next : IsFree meaning print i → IsFree meaning print (i + 1)
  next free = elim free [ inl none ↦ inl none | inr off ↦ inr (follows_number-never meaning print i within no_digit off) ]

  pub IsLoneAt-from : IsChosen meaning print i None → IsFree meaning print i → IsLoneAt meaning print i cell
  IsLoneAt-from chosen free = record { within = within; chosen = chosen; no_sign = no_sign free; own = own; next = next free }

-- a lone cell is all that is made first of what is left
pub lone_first : (meaning : Meaning) (print : List ℕ) (i cell : ℕ) (own : List ℕ) → own ≡ cell ∷ [] → IsLoneAt meaning print i cell
    → map (made_by meaning print) (choices_from meaning print i)
    ≡ (let made : PieceItem = record { choice = one_character i; sign = []; own = own } in made) ∷ map (made_by meaning print) (choices_from meaning print (i + 1))
lone_first meaning print i cell own e h =
    ap (map (made_by meaning print)) (choices_from-next meaning print i (one_character i) h.within (record { start = refl; end = refl; chosen = h.chosen }))
    ∙ ap (λ (m : PieceItem). m ∷ map (made_by meaning print) (choices_from meaning print (i + 1))) (made_is meaning print (one_character i) [] own (sym h.no_sign) (e ∙ sym h.own))

-- the cells of a rule, or a lone cell, are those of the choice
pub own_or_lone : (meaning table : Meaning) (print : List ℕ) (i cell : ℕ) (rule : Option ℕ) (own : List ℕ) → table ≡ meaning → chosen_cells meaning print i None ≡ cell ∷ []
    → MatchOption rule (own ≡ cell ∷ []) (λ k. own ≡ own_cells table None (Some k)) → own ≡ chosen_cells meaning print i rule
own_or_lone meaning table print i cell None own e lone h = h ∙ sym lone
own_or_lone meaning table print i cell (Some k) own e lone h = h ∙ ap (λ (m : Meaning). own_cells m None (Some k)) e
