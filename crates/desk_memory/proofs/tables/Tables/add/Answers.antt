use Rattle.std.proofs.Common.{length, string_eq, sym, ap, ◌∙◌, arith}
use Rattle.indexmap.specs.IndexMap.{insert_all}
use Rattle.desk_memory.proofs.ByName.{by_name-joined, length-by_name}
use Rattle.desk_memory.proofs.tables.Tables.add.Goals as goal

pub unwrap-requires : goal.unwrap-requires
unwrap-requires c =
    let count = sym (ap length c.self.view_is) ∙ length-by_name c.self.inside.entries.entries c.self.invariant in
    c.append.ensures.succeeds (omega (arith, count, c.room.view_is, c.requires.room))

pub unwrap-requires-2 : goal.unwrap-requires-2
unwrap-requires-2 c =
    let count = sym (ap length c.self.view_is) ∙ length-by_name c.self.inside.entries.entries c.self.invariant in
    c.insert.ensures.succeeds (omega (arith, count, c.room.view_is, c.requires.room, c.append.ensures.room.0))

pub returns : goal.returns
returns c =
    let moved = rw c.unwrap.ensures at c.append.ensures.entries in
    let inserted = rw c.unwrap-2.ensures at c.insert.ensures.entries in
    by_name-joined c.self.inside.entries.entries c.append.new.self.entries c.insert.new.self.entries c.into_string.result c.args.name c.args.table c.args.self.now
    c.self.invariant c.self.view_is c.into_string.ensures c.requires.new
    (moved ∙ ap (λ start. insert_all string_eq start c.self.inside.entries.entries) c.room.invariant) inserted
