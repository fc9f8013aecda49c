use Rattle.std.proofs.Common.{rules}
use Rattle.indexmap.proofs.CallerLemmas.{insert_entry-new}
use Rattle.louis_table.proofs.PlaceLaws.{AreIn-push_first, AreIn-push_later}
use Rattle.louis_table.proofs.char_map.CharMap.insert.Goals as goal

pub returns-then-code-lt-DIRECT-clause-ok : goal.returns-then-code-lt-DIRECT-clause-ok
returns-then-code-lt-DIRECT-clause-ok g c = search (rules, insert_entry-new)

pub returns-else-code-lt-DIRECT-clause-ok : goal.returns-else-code-lt-DIRECT-clause-ok
returns-else-code-lt-DIRECT-clause-ok g c = search (rules, insert_entry-new)

pub invariant_of-self-then-code-lt-DIRECT : goal.invariant_of-self-then-code-lt-DIRECT
invariant_of-self-then-code-lt-DIRECT g c = search (rules, AreIn-push_first, insert_entry-new)

pub invariant_of-self-else-code-lt-DIRECT : goal.invariant_of-self-else-code-lt-DIRECT
invariant_of-self-else-code-lt-DIRECT g c = search (rules, AreIn-push_later, insert_entry-new)
