-- Where a walk begins, by the two characters there.
use Rattle.std.specs.Prelude.{◌≡◌, ◌*◌, ◌/◌, ◌%◌, ◌+◌, ◌<◌, ◌⊎◌, ℕ, List, [], length, slice_get, Some, None}
use Rattle.louis_table.specs.Meaning.{Meaning, fold_of}
use Rattle.louis_translate.specs.declared.rule_tree.RuleTree.{RuleTree}
use Rattle.louis_translate.specs.declared.start.Start.{Start}
use Rattle.louis_translate.specs.declared.start.Start.TheVariants.{Nowhere, Group, Child}
use Rattle.louis_translate.specs.declared.indexed_table.IndexedTable.{IndexedTable}
use Rattle.louis_translate.specs.Choice.{IsChosen}
use Rattle.louis_translate.specs.Search.{IsBestBelow, IsOnWay}
use Rattle.louis_translate.specs.Tree.{leads, rules_at}

-- a walk may begin there, by two folded characters: nowhere, if no rule begins with them or is the
-- first alone; at the group of the first; or where both lead, if no rule is the first alone
abbrev pub IsStart : RuleTree → ℕ → ℕ → Start → Type 0
IsStart tree a b Nowhere = (n : ℕ) → leads tree None a ≡ Some n
    → (rules_at tree.nodes.items n ≡ []) × (leads tree (Some n) b ≡ None)
IsStart tree a b Group = Unit {0}
IsStart tree a b (Child m) =
    (n : ℕ) × (leads tree None a ≡ Some n) × (rules_at tree.nodes.items n ≡ []) × (leads tree (Some n) b ≡ Some m)

-- the starts of pairs of characters as they are written, row by row
pub record AreStarts (meaning : Meaning) (tree : RuleTree) (starts : List Start) : Type 0 where
  pub each : (i : ℕ) (start : Start) → slice_get starts i ≡ Some start
      → IsStart tree (fold_of meaning (i / 128)) (fold_of meaning (i % 128)) start

-- a table with rules has the starts of all pairs
abbrev pub AreAll : Meaning → List Start → Type 0
AreAll meaning starts = 0 < length meaning.rules → length starts ≡ 128 * 128

-- a start that stands for two characters, or the group
abbrev pub StandsAt : List Start → ℕ → ℕ → Start → Type 0
StandsAt starts a b start = (start ≡ Group) ⊎ ((b < 128) × (slice_get starts (128 * a + b) ≡ Some start))

-- a walk may begin there at place i of a print
abbrev pub MayStart : IndexedTable → List ℕ → ℕ → Start → Type 0
MayStart index print i Nowhere = IsChosen index.table print i None
MayStart index print i Group = Unit {0}
MayStart index print i (Child n) = IsOnWay index print i (i + 2) n × IsBestBelow index.table print i 2 None
