use Rattle.std.proofs.Common.{rules}
use Rattle.desk_store.proofs.book_file.judge_book.Goals as goal

pub returns-in-len1-2-clause-reported : goal.returns-in-len1-2-clause-reported
returns-in-len1-2-clause-reported c = search rules
