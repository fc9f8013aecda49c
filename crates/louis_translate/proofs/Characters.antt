-- The characters of a text, one after another.
use Rattle.std.proofs.Common.{◌≡◌, ℕ, ◌<◌, true, false, List, length, get_or, sym, ap, ◌∙◌, refl, Option, Some, None, IsSome, is_some, option_copied}
use Rattle.std.proofs.lemmas.List.{get_or_default}
use Rattle.louis_table.specs.Meaning.{Meaning, definition_of}
use Rattle.louis_table.specs.declared.definition.Definition.{Definition}
use denote.Bor.{Bor}

is_some-option_copied : (o : Option (Bor Definition)) → is_some (option_copied o) ≡ is_some o
is_some-option_copied None = refl
is_some-option_copied (Some d) = refl

is_some-none : (o : Option Definition) → is_some o ≡ false → o ≡ None
is_some-none None e = refl
is_some-none (Some d) e = cc

module _ (meaning : Meaning) (print : List ℕ) (i n c : ℕ) (o : Option (Bor Definition)) (found : option_copied o ≡ definition_of meaning c) (place : i ≡ n) (there : (n < length print) × (c ≡ get_or print n c)) where
  at_place : definition_of meaning (get_or print i 0) ≡ option_copied o
  at_place =
      ap (λ (k : ℕ). definition_of meaning (get_or print k 0)) place
      ∙ (ap (definition_of meaning) (get_or_default print n 0 c there.0 ∙ sym there.1) ∙ sym found)

  -- the answer of the table's look-up at a place of the print
  pub definition_of-none : is_some o ≡ false → definition_of meaning (get_or print i 0) ≡ None
  definition_of-none none = at_place ∙ is_some-none (option_copied o) (is_some-option_copied o ∙ none)

  pub definition_of-some : is_some o ≡ true → IsSome (definition_of meaning (get_or print i 0))
  definition_of-some some = ap is_some at_place ∙ (is_some-option_copied o ∙ some)
