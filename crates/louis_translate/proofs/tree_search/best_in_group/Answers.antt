use Rattle.std.proofs.Common.{None, length, refl, ap, sym, ◌∙◌}
use Rattle.std.proofs.lemmas.Option.{slice_get_read}
use Rattle.louis_translate.specs.Tree.{leads}
use Rattle.louis_translate.proofs.Searches.{chosen_nowhere}
use Rattle.louis_translate.proofs.tree_search.best_in_group.Goals as goal

pub returns-in_err-node : goal.returns-in_err-node
returns-in_err-node c =
    let here = slice_get_read c.args.print.now (length c.args.print.now) c.args.at c.index-print-at.result refl c.requires.within c.index-print-at.is in
    rw c.from_residual.ensures (chosen_nowhere c.args.index.now c.args.print.now c.args.at c.requires.whole c.index-print-at.result here
    (ap (leads c.args.index.now.tree None) (sym c.fold.ensures) ∙ (sym c.group.ensures ∙ c.in_err-node.was)))
