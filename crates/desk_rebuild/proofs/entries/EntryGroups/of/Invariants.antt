use Rattle.std.proofs.Common.{All, map}
use Rattle.desk_rebuild.specs.Entries.{AreGrouped, IsFirstStray}
use Rattle.desk_parts.specs.declared.file_table.FileTable.TheVariants as tables
use Rattle.desk_parts.specs.FileRows.{HasUtf8Texts}
use Rattle.desk_rebuild.proofs.entries.EntryGroups.of.Given as goal

abbrev pub invariant-loop-row : goal.invariant-loop-row
invariant-loop-row l =
    AreGrouped l.count l.yielded (map (λ group. group.items) l.groups.items)
    × IsFirstStray l.count l.yielded l.stray
    × All (HasUtf8Texts tables.NamedCorr) l.yielded
