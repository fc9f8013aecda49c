use Rattle.std.proofs.Common.{[], sym, refl, string_eq, chars}
use Rattle.std.specs.String.{string_bytes, string_eq_equiv}
use Rattle.desk_memory.proofs.ByName.{by_name-joined, insert_all-distinct}
use Rattle.desk_memory.proofs.tables.Tables.insert.Goals as goal

pub returns : goal.returns
returns c =
    let old = c.self.inside.entries.entries in
    by_name-joined old old c.insert.new.self.entries c.args.name (chars (string_bytes c.args.name)) c.args.table c.args.self.now
    c.self.invariant c.self.view_is refl c.requires.new (sym (insert_all-distinct string_eq string_eq_equiv [] old c.self.invariant)) c.in_ok-insert.ensures.entries
