use Rattle.std.proofs.Common.{◌≡◌, ◌+◌, [], ◌∷◌, map, sym, ap, ◌∙◌, arith}
use Rattle.desk_book.specs.Filling.{braille_from, braille_put}
use Rattle.desk_parts.specs.Puts.{RowPut}
use Rattle.desk_memory.proofs.Callers.{walk-past, walk-there}
use Rattle.desk_book.proofs.filling.BraillePuts.next.Goals as goal

pub returns-in_err-id : goal.returns-in_err-id
returns-in_err-id c =
    let left : c.args.self.now ≡ [] = sym c.self.view_is ∙ ap (map braille_put) (walk-past c.self.inside.paragraphs.now c.self.inside.at c.at.result c.at.ensures c.in_err-id.was) in
    rw c.from_residual.ensures (left, left)

pub overflow_add-self : goal.overflow_add-self
overflow_add-self c =
    let within = (walk-there c.self.inside.paragraphs.now c.self.inside.at c.at.result c.at.ensures c.in_ok-id.id c.in_ok-id.paragraph c.in_ok-id.was).1 in
    let few = c.self.invariant in
    omega arith

pub returns : goal.returns
returns c =
    sym c.self.view_is ∙ (ap (map braille_put) (walk-there c.self.inside.paragraphs.now c.self.inside.at c.at.result c.at.ensures c.in_ok-id.id c.in_ok-id.paragraph c.in_ok-id.was).0
    ∙ ap (λ (put : RowPut). put ∷ braille_from (c.self.inside.at + 1) c.self.inside.paragraphs.now) (sym c.cache.ensures))
