use Rattle.std.proofs.Common.{◌≡◌, drop}
use Rattle.std.specs.Vec.Iter.{into_iter_items}
use Rattle.desk_memory.specs.Held.{renewed_items}
use Rattle.desk_memory.proofs.Renewing.{reached}
use Rattle.desk_memory.proofs.paragraphs.renew_paragraphs.Given as goal

abbrev pub invariant-loop-paragraph : goal.invariant-loop-paragraph
invariant-loop-paragraph l =
    (into_iter_items l.cells ≡ drop l.paragraph-index l.fn.cells.items)
    × (l.paragraphs ≡ reached l.paragraph-index (renewed_items l.fn.cells.items l.initial.paragraphs) l.initial.paragraphs)
