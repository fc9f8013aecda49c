use Rattle.std.proofs.Common.{◌+◌, ◌-◌, length}
use Rattle.std.specs.Io.KnownBytes.{Consumes}
use Rattle.desk_program.specs.Shelf.{most_file_bytes}
use Rattle.desk_program.proofs.table_file.read_all.Given as goal

abbrev pub invariant-loop-chunk : goal.invariant-loop-chunk
invariant-loop-chunk g l = Consumes (g.S.Source.remaining l.fn.source) (g.S.Source.remaining l.source) l.bytes.items

abbrev pub decreases-loop-chunk : goal.decreases-loop-chunk
decreases-loop-chunk g l = most_file_bytes + 65537 - length l.bytes.items
