use Rattle.std.proofs.Common.{◌≡◌, drop, map, take}
use Rattle.louis_table.specs.Meaning.{fold_of}
use Rattle.louis_translate.proofs.plain_rules.has_characters.Given as goal

abbrev pub invariant-loop-i : goal.invariant-loop-i
invariant-loop-i l = map (fold_of l.table) (take l.i (drop l.at l.print)) ≡ take l.i l.wanted
