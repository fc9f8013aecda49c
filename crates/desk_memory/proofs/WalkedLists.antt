-- What a walk along a list, or along the paragraphs in their order, finds at a place.
use Rattle.std.proofs.Common.{◌≡◌, ℕ, ◌+◌, ◌<◌, List, [], ◌∷◌, length, drop, Option, Some, None, sym, ap, ◌∙◌, option_copied, option_map, slice_get}
use Rattle.std.specs.Borrow.{Bor}
use Rattle.std.specs.Slice.{IsItemAt}
use Rattle.desk_memory.specs.declared.paragraphs.Paragraph.{Paragraph as HeldParagraph}
use Rattle.desk_memory.specs.Held.{HeldParagraphs}
use Rattle.desk_model.proofs.Lists.Items.{drop-past, drop-there, option_copied-item}

-- what a list lends at an index
module _ {X : Type 0} (xs : List X) (i : ℕ) (lent : Option (Bor X)) (is : IsItemAt xs i lent) where
  pub lent-there : (x : Bor X) → lent ≡ Some x → slice_get xs i ≡ Some x.now
  lent-there x some = sym (option_copied-item xs i lent is) ∙ ap option_copied some

  pub lent-past : lent ≡ None → slice_get xs i ≡ None
  lent-past none = sym (option_copied-item xs i lent is) ∙ ap option_copied none

abbrev as_entry : ℕ × Bor HeldParagraph → ℕ × HeldParagraph
as_entry found = (found.0, found.1.now)

-- what stands at a place of the order
module _ (held : HeldParagraphs) (place : ℕ) (found : Option (ℕ × Bor HeldParagraph)) (is : option_map as_entry found ≡ slice_get held place) where
  pub walk-past : found ≡ None → drop place held ≡ []
  walk-past none = drop-past held place (sym is ∙ ap (option_map as_entry) none)

  module _ (id : ℕ) (paragraph : Bor HeldParagraph) (some : found ≡ Some (id, paragraph)) where
    pub walk-at : slice_get held place ≡ Some (id, paragraph.now)
    walk-at = sym is ∙ ap (option_map as_entry) some

    pub walk-there : (drop place held ≡ (id, paragraph.now) ∷ drop (place + 1) held) × (place < length held)
    walk-there = drop-there held place (id, paragraph.now) walk-at
