use Rattle.std.proofs.Common.{rules, slice_get}
use Rattle.std.proofs.lemmas.Bool.{both_ways, cases_order}
use Rattle.louis_translate.proofs.Runs.{first_folded}
use Rattle.louis_translate.proofs.plain_rules.matches.Goals as goal

pub returns-then-not-begins_with-clause-no : goal.returns-then-not-begins_with-clause-no
returns-then-not-begins_with-clause-no c = search (rules, cases_order, first_folded, both_ways, slice_get)
