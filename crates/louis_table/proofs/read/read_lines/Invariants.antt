use Rattle.std.proofs.Common.{length}
use denote.Text.{Utf8}
use denote.Shadow.{shadow}
use Rattle.louis_table.proofs.ReadingLaws.{ReadsOn}
use Rattle.louis_table.proofs.read.read_lines.Given as goal

-- each line so far was taken into the draft
abbrev pub invariant-loop-rest : goal.invariant-loop-rest
invariant-loop-rest l = shadow (Utf8 l.rest) × ReadsOn l.text l.before l.rest l.draft.table l.draft.written.items

abbrev pub decreases-loop-rest : goal.decreases-loop-rest
decreases-loop-rest l = length l.rest
