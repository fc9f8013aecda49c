use Rattle.std.proofs.Common.{◌≡◌, ◌+◌, ◌≤◌, [], ◌∷◌, length, refl, sym, ◌∙◌, arith, rules}
use Rattle.desk_memory.specs.Histories.{entry_held}
use Rattle.desk_memory.specs.ItemsLeft.{entries_from}
use Rattle.desk_memory.proofs.WalkedLists.{lent-past, lent-there}
use Rattle.desk_memory.proofs.ReportedEntries.{entries-past, entries-there}
use Rattle.desk_memory.proofs.history_items.HistoryIterator.next.Goals as goal

pub returns-in_err-entry-clause-steps : goal.returns-in_err-entry-clause-steps
returns-in_err-entry-clause-steps c =
    let entries = c.self.inside.entries.now in
    let none = lent-past entries c.self.inside.at c.get.result c.get.ensures.lookup c.in_err-entry.was in
    let left : c.args.self.now ≡ [] = sym c.self.view_is ∙ entries-past entries c.self.inside.at none in
    rw c.from_residual.ensures (left, left)

pub overflow_add-self : goal.overflow_add-self
overflow_add-self c =
    let entries = c.self.inside.entries.now in
    let there = lent-there entries c.self.inside.at c.get.result c.get.ensures.lookup c.in_ok-entry.entry c.in_ok-entry.was in
    let within = (entries-there entries c.self.inside.at c.in_ok-entry.entry.now there).1 in
    let few : length entries ≤ 10000 = c.self.invariant in
    omega arith

pub returns-clause-steps : goal.returns-clause-steps
returns-clause-steps c =
    let entries = c.self.inside.entries.now in
    let there = lent-there entries c.self.inside.at c.get.result c.get.ensures.lookup c.in_ok-entry.entry c.in_ok-entry.was in
    ((c.self.inside.at + 1, entry_held c.in_ok-entry.entry.now), sym c.self.view_is ∙ (entries-there entries c.self.inside.at c.in_ok-entry.entry.now there).0, refl, c.reported_of.ensures)

pub returns-clause-goes : goal.returns-clause-goes
returns-clause-goes c =
    let entries = c.self.inside.entries.now in
    let there = lent-there entries c.self.inside.at c.get.result c.get.ensures.lookup c.in_ok-entry.entry c.in_ok-entry.was in
    let left : c.args.self.now ≡ (c.self.inside.at + 1, entry_held c.in_ok-entry.entry.now) ∷ entries_from (c.self.inside.at + 1) entries =
    sym c.self.view_is ∙ (entries-there entries c.self.inside.at c.in_ok-entry.entry.now there).0 in
    rw left (search rules)
