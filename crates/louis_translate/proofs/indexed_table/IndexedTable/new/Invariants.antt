use Rattle.louis_translate.specs.Tree.{IsTree}
use Rattle.louis_translate.proofs.indexed_table.IndexedTable.new.Given as goal

abbrev pub invariant-loop-index : goal.invariant-loop-index
invariant-loop-index l = IsTree l.table.rules l.index l.tree
