use Rattle.std.proofs.Common.{◌≡◌, length}
use Rattle.desk_book.proofs.Plans.Users.{RenewsEach}
use Rattle.desk_book.proofs.book.Book.cells_by.Given as goal

-- the paragraphs so far have their new cells
abbrev pub invariant-loop-index : goal.invariant-loop-index
invariant-loop-index l = record {
  count : l.index ≡ length l.all.items;
  renewed : RenewsEach l.self l.rules l.name l.all.items;
}
