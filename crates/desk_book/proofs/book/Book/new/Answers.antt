use Rattle.std.proofs.Common.{List, [], sym, subst}
use Rattle.desk_memory.specs.declared.marks.HeldMark.{HeldMark}
use Rattle.desk_memory.specs.Held.{HeldTables, HeldParagraphs, IsHeld}
use Rattle.desk_memory.proofs.Callers.{IsHeld-empty}
use Rattle.desk_book.proofs.book.Book.new.Goals as goal

pub invariant_of-result : goal.invariant_of-result
invariant_of-result c =
    subst (λ (marks : List HeldMark). IsHeld 0 c.new.result c.new-2.result marks) (sym c.new-3.ensures)
    (subst (λ (paragraphs : HeldParagraphs). IsHeld 0 c.new.result paragraphs []) (sym c.new-2.ensures)
    (subst (λ (tables : HeldTables). IsHeld 0 tables [] []) (sym c.new.ensures) IsHeld-empty))
