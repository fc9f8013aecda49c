use Rattle.desk_store.proofs.laws.puts_of_the_book.Goals as goal
use Rattle.desk_store.proofs.BookPuts.{all_put}

pub returns : goal.returns
returns c l contents = all_put l contents
