use Rattle.std.proofs.Common.{sym, ◌∙◌}
use Rattle.desk_book.proofs.Held.HeldLookups.{ids_of-book}
use Rattle.desk_book.proofs.book.Book.order.Goals as goal

pub returns-clause-order : goal.returns-clause-order
returns-clause-order c = c.ids.ensures ∙ sym (ids_of-book _ _ _ _ c.args.self.now c.self.view_is)
