-- Lists of lone cells.
use Rattle.std.proofs.Common.{◌≡◌, ℕ, List, Option, Some, None, rules, IfSome, replicate, slice_set}
use Rattle.louis_table.specs.Meaning.{Meaning}
use Rattle.louis_translate.specs.Piece.{AreLoneCells, IsLoneCell}
use Rattle.louis_translate.proofs.CodeLists.{get_replicate, get_set}

abbrev nothing : Option ℕ
nothing = None

pub AreLoneCells-none : (meaning : Meaning) (n : ℕ) → AreLoneCells meaning (replicate n nothing)
AreLoneCells-none meaning n = λ character cell e. let none : nothing ≡ Some cell = get_replicate n nothing character (Some cell) e in absurd cc

pub AreLoneCells-set : (meaning : Meaning) (cells : List (Option ℕ)) (code : ℕ) (found : Option ℕ) → AreLoneCells meaning cells
    → IfSome found (IsLoneCell meaning code) → AreLoneCells meaning (slice_set cells code found)
AreLoneCells-set meaning cells code found are is = search (rules, get_set)
