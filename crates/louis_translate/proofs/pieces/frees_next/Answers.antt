use Rattle.std.proofs.Common.{rules, slice_get}
use Rattle.std.proofs.lemmas.Bool.{OnTrue_from, not-true}
use Rattle.louis_translate.proofs.Numbers.{follows_number-off}
use Rattle.louis_translate.proofs.pieces.frees_next.Goals as goal

pub returns-then-not-is_digit : goal.returns-then-not-is_digit
returns-then-not-is_digit c = search (rules, OnTrue_from, slice_get, not-true, follows_number-off)
