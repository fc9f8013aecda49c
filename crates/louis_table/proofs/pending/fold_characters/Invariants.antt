use Rattle.std.proofs.Common.{◌≡◌, ◌++◌, map, take, drop}
use Rattle.louis_table.specs.Meaning.{fold_of}
use Rattle.louis_table.proofs.pending.fold_characters.Given as goal

-- the characters so far are folded
abbrev pub invariant-loop-character : goal.invariant-loop-character
invariant-loop-character l = l.characters ≡ map (fold_of l.table) (take l.character-index l.fn.characters) ++ drop l.character-index l.fn.characters
