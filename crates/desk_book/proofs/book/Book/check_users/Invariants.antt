use Rattle.desk_book.proofs.Plans.Users.{DefinesUsersBelow}
use Rattle.desk_book.proofs.book.Book.check_users.Given as goal

-- the rules define the prints of the users so far
abbrev pub invariant-loop-place : goal.invariant-loop-place
invariant-loop-place l = DefinesUsersBelow l.rules l.name l.self.paragraphs l.place
