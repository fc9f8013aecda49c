-- A paragraph that is lent, and what a change of it makes of the book's paragraphs.
use Rattle.std.proofs.Common.{◌≡◌, ℕ, ◌+◌, ◌<◌, List, length, slice_get, Option, Some, None, set, sym, ap, ◌∙◌, arith, IsPermutation, nat_eq, MatchOption}
use Rattle.std.specs.List.{flat_map, range_with_len}
use Rattle.std.specs.Map.{lookup}
use Rattle.std.specs.Borrow.{MutBor}
use Rattle.std.specs.Option.{option_copied_mut}
use Rattle.desk_memory.specs.declared.paragraphs.Paragraph.{Paragraph as HeldParagraph}
use Rattle.desk_memory.specs.Held.{HeldParagraphs, paragraph_with_id, with_held_change}
use Rattle.desk_memory.proofs.Arranging.{length-in_order, lookup_index-in_order, with_held_change-in_order}
use Rattle.desk_model.proofs.Lists.Items.{slice_get-there}

module _ (items : List HeldParagraph) (order : List ℕ) (value : HeldParagraphs) (permutes : IsPermutation (range_with_len 1 (length items)) order)
    (view_is : flat_map (paragraph_with_id items) order ≡ value) (id index : ℕ)
    (found : (index + 1 ≡ id) × (index < length (flat_map (paragraph_with_id items) order))) where
  -- a change of the paragraph at the index is one of the paragraph with the id
  changed : (held : HeldParagraph) → slice_get items index ≡ Some held → (change : HeldParagraph → HeldParagraph)
      → flat_map (paragraph_with_id (set items index (change held))) order ≡ with_held_change id change value
  changed held at change = sym (with_held_change-in_order items order permutes id index held change found.0 at) ∙ ap (with_held_change id change) view_is

  there : (held : HeldParagraph) × (slice_get items index ≡ Some held)
  there = let count = length-in_order items order permutes in slice_get-there items index (omega (arith, count, found.1))

  -- what is left in its place
  pub written : (new : HeldParagraph) → flat_map (paragraph_with_id (set items index new)) order ≡ with_held_change id (λ _. new) value
  written new = changed there.0 there.1 (λ _. new)

  pub looked-up : lookup (nat_eq id) value ≡ slice_get items index
  looked-up = sym (ap (lookup (nat_eq id)) view_is) ∙ lookup_index-in_order items order permutes index id found.0

  -- a change is one of the paragraph that is lent alone
  pub alone : (lent : Option (MutBor HeldParagraph)) → option_copied_mut lent ≡ slice_get items index
      → MatchOption lent ((change : HeldParagraph → HeldParagraph) → value ≡ with_held_change id change value)
      (λ lent. (change : HeldParagraph → HeldParagraph) → with_held_change id (λ _. change lent.now) value ≡ with_held_change id change value)
  alone None at = λ change. absurd (let none = sym there.1 ∙ sym at in cc)
  alone (Some lent) at = λ change. sym (written (change lent.now)) ∙ changed lent.now (sym at) change
