use Rattle.std.proofs.Common.{◌≤◌, subst}
use Rattle.std.proofs.lemmas.List.Elements.{All-tail}
use Rattle.desk_model.specs.Book.{Mark}
use Rattle.desk_book.specs.ChangePuts.{AreSpans}
use Rattle.desk_model.specs.Limits.{most_print}
use Rattle.desk_book.proofs.puts.SpanPuts.next.Goals as goal

pub invariant_of-self-2 : goal.invariant_of-self-2
invariant_of-self-2 c =
    let tells = c.in_ok-mark.ensures.steps in
    (All-tail (λ (mark : Mark). (mark.start ≤ mark.end) × (mark.end ≤ most_print)) tells.0 c.next.new.self (subst AreSpans tells.1 c.self.invariant.0), c.self.invariant.1, c.self.invariant.2)
