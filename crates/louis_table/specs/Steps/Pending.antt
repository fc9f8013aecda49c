-- Rules and sets as they are written, and the rules that they become once all definitions are
-- known.
use Rattle.std.specs.Prelude.{◌≡◌, ℕ, Bool, true, false, if◌then◌else◌, List, [], ◌∷◌, ◌++◌, map, Option, Some, None}
use Rattle.std.specs.Prelude.{Result, Ok, Err, Vec, flat_map}
use Rattle.std.specs.declared.alloc.Global.{Global}
use Rattle.louis_table.specs.declared.rule.Rule.{Rule}
use Rattle.louis_table.specs.declared.pending.PendingEntry.{PendingEntry}
use Rattle.louis_table.specs.declared.pending.PendingEntry.TheVariants as pending
use Rattle.louis_table.specs.declared.pending.PendingRule.{PendingRule}
use Rattle.louis_table.specs.declared.pending.PendingSet.{PendingSet}
use Rattle.louis_table.specs.declared.fault.ReadFault.{ReadFault}
use Rattle.louis_table.specs.declared.fault.ReadFault.TheVariants as faults
use Rattle.louis_table.specs.Meaning.{Meaning, fold_of}
use Rattle.louis_table.specs.Table.{rule_cells}
use Rattle.louis_table.specs.Steps.Table.{is_known}

-- ---- what they become

-- the meaning defines each of the characters
abbrev pub are_defined : Meaning → List ℕ → Bool
are_defined meaning [] = true
are_defined meaning (character ∷ characters) =
    if is_known meaning character then are_defined meaning characters else false

-- the meaning defines each folded character of the rule
abbrev pub is_complete_rule : Meaning → PendingRule → Bool
is_complete_rule meaning rule = are_defined meaning (map (fold_of meaning) rule.characters)

-- the meaning defines each character that the entry has to have defined
abbrev pub is_complete : Meaning → PendingEntry → Bool
is_complete meaning (pending.Rule rule) = is_complete_rule meaning rule
is_complete meaning (pending.Set set) = are_defined meaning set.characters

-- the number of the entry's line
abbrev pub line_of : PendingEntry → ℕ
line_of (pending.Rule rule) = rule.line
line_of (pending.Set set) = set.line

-- the rule with folded characters and all its cells
abbrev pub complete_rule : Meaning → PendingRule → Rule
complete_rule meaning rule = record {
  line = rule.line;
  kind = rule.kind;
  chars = map (fold_of meaning) rule.characters;
  cells = rule_cells meaning (map (fold_of meaning) rule.characters) rule.cells;
}

-- the rule that the entry becomes, unless it is a set
abbrev pub complete_rules : Meaning → PendingEntry → List Rule
complete_rules meaning (pending.Rule rule) = complete_rule meaning rule ∷ []
complete_rules meaning (pending.Set set) = []

-- the line of the first entry with a character that is not defined
abbrev pub first_lacking : Meaning → List PendingEntry → Option ℕ
first_lacking meaning [] = None
first_lacking meaning (one ∷ more) = if is_complete meaning one then first_lacking meaning more else Some (line_of one)

-- ---- what contracts say

-- a rule was finished, or has a character that is not defined
abbrev pub FinishesRule : Result Rule ReadFault → Meaning → PendingRule → Type 0
FinishesRule (Ok rule) meaning from = (is_complete_rule meaning from ≡ true) × (rule ≡ complete_rule meaning from)
FinishesRule (Err (faults.Table fault)) meaning from =
    (is_complete_rule meaning from ≡ false) × (fault.line ≡ from.line) × (fault.cause ≡ 7)
FinishesRule (Err faults.NoMemory) meaning from = Unit {0}

-- each character of a set is defined, or one is not and the set's line is reported
abbrev pub ChecksSet : Result (Unit {0}) ReadFault → Meaning → PendingSet → Type 0
ChecksSet (Ok _) meaning set = are_defined meaning set.characters ≡ true
ChecksSet (Err (faults.Table fault)) meaning set =
    (are_defined meaning set.characters ≡ false) × (fault.line ≡ set.line) × (fault.cause ≡ 7)
ChecksSet (Err faults.NoMemory) meaning set = ⊥

-- the entry was finished and its rule added after the others, or it has a character that is not
-- defined
abbrev pub Finishes : Result (Unit {0}) ReadFault → Meaning → PendingEntry → List Rule → List Rule → Type 0
Finishes (Ok _) meaning one old new = (is_complete meaning one ≡ true) × (new ≡ old ++ complete_rules meaning one)
Finishes (Err (faults.Table fault)) meaning one old new =
    (is_complete meaning one ≡ false) × (fault.line ≡ line_of one) × (fault.cause ≡ 7)
Finishes (Err faults.NoMemory) meaning one old new = Unit {0}

-- all entries were finished, or one has a character that is not defined; rules and sets
-- stand in one list, by their lines, so that the smallest line is reported
abbrev pub FinishesAll : Result (Vec Rule Global) ReadFault → Meaning → List PendingEntry → Type 0
FinishesAll (Ok rules) meaning all =
    (first_lacking meaning all ≡ None) × (rules.items ≡ flat_map (complete_rules meaning) all)
FinishesAll (Err (faults.Table fault)) meaning all = (first_lacking meaning all ≡ Some fault.line) × (fault.cause ≡ 7)
FinishesAll (Err faults.NoMemory) meaning all = Unit {0}
