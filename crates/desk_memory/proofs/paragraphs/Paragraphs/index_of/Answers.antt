use Rattle.std.proofs.Common.{◌≡◌, nat_eq, length, sym, ap, ◌∙◌, arith}
use Rattle.std.specs.Map.{lookup}
use Rattle.std.proofs.lemmas.Option.{slice_get_past}
use Rattle.desk_memory.proofs.Arranging.{length-in_order, lookup_index-in_order, lookup_zero-in_order}
use Rattle.desk_memory.proofs.paragraphs.Paragraphs.index_of.Goals as goal

pub returns-in_err-index-clause-none : goal.returns-in_err-index-clause-none
returns-in_err-index-clause-none c =
    let zero : c.args.id ≡ 0 = omega (arith, c.in_err-index.ensures) in
    rw c.from_residual.ensures (ap (λ id. lookup (nat_eq id) c.args.self.now) zero
    ∙ (sym (ap (lookup (nat_eq 0)) c.self.view_is) ∙ lookup_zero-in_order c.self.inside.items c.self.inside.order c.self.invariant))

pub returns-then-index-count-clause-found : goal.returns-then-index-count-clause-found
returns-then-index-count-clause-found c =
    let count = sym (ap length c.self.view_is) ∙ length-in_order c.self.inside.items c.self.inside.order c.self.invariant in
    (omega (arith, c.in_ok-index.ensures), omega (arith, count, c.len-count.ensures))

pub returns-else-index-count-clause-none : goal.returns-else-index-count-clause-none
returns-else-index-count-clause-none c =
    let permutes = c.self.invariant in
    sym (ap (lookup (nat_eq c.args.id)) c.self.view_is)
    ∙ (lookup_index-in_order c.self.inside.items c.self.inside.order permutes c.in_ok-index.index c.args.id (omega (arith, c.in_ok-index.ensures))
    ∙ slice_get_past c.self.inside.items c.in_ok-index.index (omega (arith, c.len-count.ensures)))
