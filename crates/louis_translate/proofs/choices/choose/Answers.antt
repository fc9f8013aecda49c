use Rattle.std.proofs.Common.{rules}
use Rattle.louis_translate.proofs.Best.{candidate_below}
use Rattle.louis_translate.proofs.Spans.{span-positive}
use Rattle.louis_translate.proofs.choices.choose.Goals as goal

pub span-requires : goal.span-requires
span-requires g c = search (rules, candidate_below)

pub returns-clause-some : goal.returns-clause-some
returns-clause-some g c = search (rules, span-positive)
