-- How the chosen rule is found in a tree, along the characters of a print.
use Rattle.std.specs.Prelude.{◌≡◌, ℕ, ◌-◌, ◌<◌, ◌≤◌, List, length, map, take, drop, Option, Some, None}
use Rattle.louis_table.specs.Meaning.{Meaning, fold_of}
use Rattle.louis_translate.specs.declared.indexed_table.IndexedTable.{IndexedTable}
use Rattle.louis_translate.specs.Choice.{IsCandidate, YieldsTo, span}
use Rattle.louis_translate.specs.Tree.{AreAscending, HasCharacters, IsAt, IsTree, LeadTo}

-- the tree holds all rules of the table
abbrev pub IsWhole : IndexedTable → Type 0
IsWhole index = IsTree index.table.rules (length index.table.rules) index.tree

-- the folded characters from a place on
abbrev pub folded_from : Meaning → List ℕ → ℕ → List ℕ
folded_from meaning print i = map (fold_of meaning) (drop i print)

-- the best among the definition and the rules of fewer than d characters
pub record IsBestBelow (meaning : Meaning) (print : List ℕ) (i d : ℕ) (found : Option ℕ) : Type 0 where
  pub candidate : IsCandidate meaning print i found
  pub definition : YieldsTo meaning None found
  pub best : (j : ℕ) → IsCandidate meaning print i (Some j) → span meaning (Some j) < d
      → YieldsTo meaning (Some j) found

-- the first rule of a list that may be used, if there is one
abbrev pub IsFirstOf : Meaning → List ℕ → ℕ → List ℕ → Option ℕ → Type 0
IsFirstOf meaning print i here None = (j : ℕ) → IsAt here j → ¬ IsCandidate meaning print i (Some j)
IsFirstOf meaning print i here (Some k) =
    IsAt here k × IsCandidate meaning print i (Some k)
    × ((j : ℕ) → IsAt here j → IsCandidate meaning print i (Some j) → k ≤ j)

-- these rules, in their order, have the d characters from place i on, and all candidates of d
-- characters are among them
pub record AreThose (meaning : Meaning) (print : List ℕ) (i d : ℕ) (here : List ℕ) : Type 0 where
  pub right : (j : ℕ) → IsAt here j → HasCharacters meaning.rules j (take d (folded_from meaning print i))
  pub ascending : AreAscending here
  pub all : (j : ℕ) → IsCandidate meaning print i (Some j) → span meaning (Some j) ≡ d → IsAt here j

-- the characters from place i up to but not including j lead to a node
pub record IsOnWay (index : IndexedTable) (print : List ℕ) (i j node : ℕ) : Type 0 where
  pub order : i < j
  pub within : j ≤ length print
  pub way : LeadTo index.tree None (take (j - i) (folded_from index.table print i)) (Some node)
