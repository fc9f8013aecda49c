use Rattle.std.proofs.Common.{rules}
use Rattle.louis_translate.proofs.LoneCells.{AreLoneCells-none, AreLoneCells-set}
use Rattle.louis_translate.proofs.lone_cells.LoneCells.new.Goals as goal

pub loop-code-init : goal.loop-code-init
loop-code-init c = AreLoneCells-none c.args.table.now 256

pub loop-code-preserved : goal.loop-code-preserved
loop-code-preserved c = search (rules, AreLoneCells-set)
