-- Lists of what is known of characters.
use Rattle.std.proofs.Common.{◌≡◌, ℕ, Bool, false, true, List, Option, Some, None, ap, rules, is_some, replicate, slice_set}
use Rattle.std.specs.Option.{option_map_or}
use Rattle.louis_table.specs.Meaning.{Meaning, definition_of}
use Rattle.louis_translate.specs.Known.{AreKnown}
use Rattle.louis_translate.proofs.CodeLists.{get_replicate, get_set}

-- what an entry says
abbrev says : Option Bool → Bool
says entry = option_map_or (λ said. said) entry false

says_yes : (entry : Option Bool) → says entry ≡ true → entry ≡ Some true
says_yes None e = absurd cc
says_yes (Some said) e = ap Some e

pub AreKnown-none : (meaning : Meaning) (n : ℕ) → AreKnown meaning (replicate n false)
AreKnown-none meaning n = λ character e. let no : false ≡ true = get_replicate n false character true (says_yes _ e) in absurd cc

pub AreKnown-set : (meaning : Meaning) (known : List Bool) (code : ℕ) (found : Bool) → AreKnown meaning known
    → found ≡ is_some (definition_of meaning code) → AreKnown meaning (slice_set known code found)
AreKnown-set meaning known code found are is = search (rules, get_set, says_yes)
