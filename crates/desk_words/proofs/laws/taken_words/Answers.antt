use Rattle.desk_words.proofs.Taken.{whole_named}
use Rattle.desk_words.proofs.laws.taken_words.Goals as goal

pub returns : goal.returns
returns c = whole_named
