use Rattle.std.proofs.Common.{rules}
use Rattle.desk_words.proofs.Taken.{named_by_words, whole_named}
use Rattle.desk_words.proofs.action.action_of.Goals as goal

pub returns-in_err-name-clause-named : goal.returns-in_err-name-clause-named
returns-in_err-name-clause-named c = search (rules, named_by_words, whole_named)

pub returns-clause-named : goal.returns-clause-named
returns-clause-named c = search (rules, named_by_words, whole_named)
