use Rattle.desk_session.proofs.Blocks.{IsFilling}
use Rattle.desk_session.proofs.reader.read_block.Given as goal

abbrev pub invariant-loop-left : goal.invariant-loop-left
invariant-loop-left g l = IsFilling (g.S.Source.remaining l.fn.source) (g.S.Source.remaining l.source) l.fn.input l.input l.text l.left l.count

abbrev pub decreases-loop-left : goal.decreases-loop-left
decreases-loop-left g l = l.left
