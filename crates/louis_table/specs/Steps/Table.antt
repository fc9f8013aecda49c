-- A table that grows entry by entry.
use Rattle.std.specs.Prelude.{◌≡◌, ◌≢◌, ℕ, Bool, List, [], ◌∷◌, ◌++◌, map}
use Rattle.std.specs.Prelude.{slice_index_or, slice_set, Option, Some, None, is_some}
use Rattle.louis_table.specs.declared.definition.Definition.{Definition}
use Rattle.louis_table.specs.Meaning.{Meaning, every_sign, sign_place, every_set, set_place}
use Rattle.louis_table.specs.Meaning.{definition_of, partner_of, sign_cells, set_characters}
use Rattle.louis_table.specs.Table.{Entry, Defines, Pairs, Replaces, Announces, Collects, definitions_in, partners_in}

-- the meaning defines the character
abbrev pub is_known : Meaning → ℕ → Bool
is_known meaning character = is_some (definition_of meaning character)

-- ---- what entries add

-- the meaning that no entries give
abbrev pub no_meaning : Meaning
no_meaning =
    record {
      definitions = [];
      partners = [];
      rules = [];
      signs = map (λ sign. []) every_sign;
      sets = map (λ set. []) every_set;
    }

-- the meaning with one more definition
abbrev pub with_definition : Meaning → ℕ → Definition → Meaning
with_definition meaning character definition =
    record meaning { definitions = meaning.definitions ++ (character, definition) ∷ [] }

-- the meaning with one more capital and its lower character
abbrev pub with_partner : Meaning → ℕ → ℕ → Meaning
with_partner meaning upper lower = record meaning { partners = meaning.partners ++ (upper, lower) ∷ [] }

-- the lists, with more at the end of the one at a place
abbrev pub with_more : List (List ℕ) → ℕ → List ℕ → List (List ℕ)
with_more lists place more = slice_set lists place (slice_index_or lists place [] ++ more)

-- the cells of the signs, with those that an entry gives
abbrev pub signs_with : List (List ℕ) → Entry → List (List ℕ)
signs_with old (Defines character definition) = old
signs_with old (Pairs upper upper_cells lower lower_cells) = old
signs_with old (Replaces kind text cells) = old
signs_with old (Announces sign cells) = with_more old (sign_place sign) cells
signs_with old (Collects set text) = old

-- the characters of the sets, with those that an entry gives
abbrev pub sets_with : List (List ℕ) → Entry → List (List ℕ)
sets_with old (Defines character definition) = old
sets_with old (Pairs upper upper_cells lower lower_cells) = old
sets_with old (Replaces kind text cells) = old
sets_with old (Announces sign cells) = old
sets_with old (Collects set text) = with_more old (set_place set) text

-- the meaning with what an entry gives to it, without rules
abbrev pub with_entry : Meaning → Entry → Meaning
with_entry meaning entry = record {
  definitions = meaning.definitions ++ definitions_in entry;
  partners = meaning.partners ++ partners_in entry;
  rules = meaning.rules;
  signs = signs_with meaning.signs entry;
  sets = sets_with meaning.sets entry;
}

-- the same for what a line gives
abbrev pub with_given : Meaning → Option Entry → Meaning
with_given meaning None = meaning
with_given meaning (Some entry) = with_entry meaning entry

-- ---- what may be added

-- what the entry gives isn't in the meaning yet
abbrev pub IsNewFor : Meaning → Entry → Type 0
IsNewFor meaning (Defines character definition) = definition_of meaning character ≡ None
IsNewFor meaning (Pairs upper upper_cells lower lower_cells) =
    (definition_of meaning upper ≡ None) × (definition_of meaning lower ≡ None) × (upper ≢ lower)
    × (partner_of meaning upper ≡ None)
IsNewFor meaning (Replaces kind text cells) = Unit {0}
IsNewFor meaning (Announces sign cells) = sign_cells meaning sign ≡ []
IsNewFor meaning (Collects set text) = set_characters meaning set ≡ []

-- what the line gives, if it gives an entry, is new for the meaning
abbrev pub CanTake : Meaning → Option Entry → Type 0
CanTake meaning None = Unit {0}
CanTake meaning (Some entry) = IsNewFor meaning entry

-- each capital is defined
abbrev pub HasDefinedPartners : Meaning → Type 0
HasDefinedPartners meaning = (character : ℕ) → definition_of meaning character ≡ None
    → partner_of meaning character ≡ None
