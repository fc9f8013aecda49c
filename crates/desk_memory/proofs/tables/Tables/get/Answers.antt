use Rattle.std.proofs.Common.{chars, nat_eq, sym, ap, ◌∙◌}
use Rattle.std.specs.Cmp.Lexicographic.{pointwise}
use Rattle.std.specs.Map.{lookup}
use Rattle.desk_memory.proofs.ByName.{lookup-by_name}
use Rattle.desk_memory.proofs.tables.Tables.get.Goals as goal

pub returns : goal.returns
returns c =
    rw c.table.ensures (c.in_ok-get.ensures.value
    ∙ (sym (lookup-by_name c.args.name.now c.self.inside.entries.entries c.utf8.name c.self.invariant)
    ∙ ap (lookup (pointwise nat_eq (chars c.args.name.now))) c.self.view_is))

pub returns-in_err-get : goal.returns-in_err-get
returns-in_err-get c =
    rw c.from_residual.ensures (c.in_err-get.ensures.value
    ∙ (sym (lookup-by_name c.args.name.now c.self.inside.entries.entries c.utf8.name c.self.invariant)
    ∙ ap (lookup (pointwise nat_eq (chars c.args.name.now))) c.self.view_is))
