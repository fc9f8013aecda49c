use Rattle.std.proofs.Common.{inr, nat_eq, sym, ap, ◌∙◌}
use Rattle.std.specs.Map.{lookup}
use Rattle.std.specs.Option.{ghost_name_of}
use borrow.Follows.Closed.{read_of}
use Rattle.desk_memory.proofs.Arranging.{with_held_change-missing}
use Rattle.desk_memory.proofs.ReadParagraphs.{alone, looked-up, written}
use Rattle.desk_memory.proofs.paragraphs.Paragraphs.get_mut.Goals as goal

pub returns-in_err-index : goal.returns-in_err-index
returns-in_err-index c =
    let none = sym (ap (lookup (nat_eq c.args.id)) c.self.view_is) ∙ c.in_err-index.ensures.none in
    rw c.from_residual.ensures (
      ap inr c.self.view_is,
      record { lends = tt; value = sym none; alone = λ change. sym (with_held_change-missing c.args.id change c.args.self.now none) },
    )

pub returns : goal.returns
returns c =
    let inside = c.self.inside in
    let found = c.in_ok-index.ensures.found in (
      λ i. read_of (ghost_name_of c.item_mut.result) (λ new. written inside.items inside.order c.args.self.now c.self.invariant c.self.view_is c.args.id c.in_ok-index.index found new i) (c.self.view_is i),
      record {
        lends = tt;
        value = c.item_mut.ensures.value ∙ sym (looked-up inside.items inside.order c.args.self.now c.self.invariant c.self.view_is c.args.id c.in_ok-index.index found);
        alone = alone inside.items inside.order c.args.self.now c.self.invariant c.self.view_is c.args.id c.in_ok-index.index found c.item_mut.result c.item_mut.ensures.value;
      },
    )
