use Rattle.louis_translate.proofs.Searches.{NoneBefore}
use Rattle.louis_translate.proofs.tree_search.first_of.Given as goal

abbrev pub invariant-loop-index : goal.invariant-loop-index
invariant-loop-index l = NoneBefore l.table l.print l.at l.rules l.index-index
