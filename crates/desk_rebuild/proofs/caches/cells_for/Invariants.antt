use Rattle.std.proofs.Common.{◌≡◌, ◌<◌, ℕ, List, Some, length, slice_get}
use Rattle.desk_memory.specs.declared.paragraphs.Paragraph.{Paragraph as HeldParagraph}
use Rattle.desk_rebuild.specs.Caches.{IsItsBraille}
use Rattle.desk_rebuild.proofs.caches.cells_for.Given as goal

-- each paragraph so far has its cells
abbrev pub invariant-loop-paragraph : goal.invariant-loop-paragraph
invariant-loop-paragraph l =
    (length l.all.items ≡ l.paragraph-index)
    × ((index : ℕ) (held : HeldParagraph) → index < l.paragraph-index → slice_get l.paragraphs index ≡ Some held
    → (own : List ℕ) × (slice_get l.all.items index ≡ Some (Some own)) × IsItsBraille l.tables held own)
