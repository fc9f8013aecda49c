use Rattle.std.proofs.Common.{IsSome, chars, is_some, nat_eq, string_eq, sym, ap, subst, true≢false, ◌∙◌}
use Rattle.std.specs.Cmp.Lexicographic.{pointwise}
use Rattle.std.specs.List.{IsDistinct}
use Rattle.std.specs.Map.{keys_of, lookup}
use Rattle.desk_memory.specs.Held.{by_name, with_table}
use Rattle.desk_memory.proofs.ByName.{by_name-set_value, lookup-by_name}
use Rattle.desk_memory.proofs.tables.Tables.replace.Goals as goal

pub unreachable-requires : goal.unreachable-requires
unreachable-requires c =
    let same = sym (ap (lookup (pointwise nat_eq (chars c.args.name.now))) c.self.view_is)
    ∙ lookup-by_name c.args.name.now c.self.inside.entries.entries c.utf8.name c.self.invariant in
    true≢false (sym (subst IsSome same c.requires) ∙ sym (ap is_some c.in_default.ensures.value))

pub returns : goal.returns
returns c =
    let same = sym (ap (lookup (pointwise nat_eq (chars c.args.name.now))) c.self.view_is)
    ∙ lookup-by_name c.args.name.now c.self.inside.entries.entries c.utf8.name c.self.invariant in
    let written = c.get_mut.follows.holds c.args.table in
    ap by_name written.0
    ∙ (by_name-set_value c.args.name.now c.args.table c.self.inside.entries.entries c.utf8.name (subst IsSome same c.requires) c.self.invariant
    (subst (λ entries. IsDistinct string_eq (keys_of entries)) written.0 written.4)
    ∙ ap (with_table (chars c.args.name.now) c.args.table) c.self.view_is)
