use Rattle.std.proofs.Common.{nat_eq, sym, ap, slice_get, ◌∙◌}
use Rattle.std.specs.Map.{lookup}
use Rattle.desk_memory.proofs.Arranging.{lookup_index-in_order}
use Rattle.desk_model.proofs.Lists.Items.{option_copied-item}
use Rattle.desk_memory.proofs.paragraphs.Paragraphs.get.Goals as goal

pub returns-in_err-index : goal.returns-in_err-index
returns-in_err-index c = rw c.from_residual.ensures (sym c.in_err-index.ensures.none)

pub returns : goal.returns
returns c =
    let index = c.in_ok-index.index in
    option_copied-item c.as_slice.result.now index c.get.result c.get.ensures.lookup
    ∙ (ap (λ list. slice_get list index) c.as_slice.ensures
    ∙ (sym (lookup_index-in_order c.self.inside.items c.self.inside.order c.self.invariant index c.args.id c.in_ok-index.ensures.found.0)
    ∙ ap (lookup (nat_eq c.args.id)) c.self.view_is))
