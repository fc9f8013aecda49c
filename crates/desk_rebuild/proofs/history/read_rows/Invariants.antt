use Rattle.std.proofs.Common.{◌≡◌, length, take, chars}
use Rattle.desk_rebuild.specs.History.{IsRead}
use Rattle.desk_rebuild.proofs.ReadRows.{AreSoundTo}
use Rattle.desk_rebuild.proofs.history.read_rows.Given as goal

abbrev pub invariant-loop-row : goal.invariant-loop-row
invariant-loop-row l =
    IsRead (chars l.original) l.yielded l.reading
    × (l.yielded ≡ take (length l.yielded) l.fn.rows.items)
    × AreSoundTo (chars l.original) l.fn.rows.items (length l.yielded)
