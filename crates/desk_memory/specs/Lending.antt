-- What ends as what, once an item or a paragraph that was lent has been changed.
use Rattle.std.specs.Borrow.{Fml, LendsIf, MutBor, RattleType}
use Rattle.std.specs.Prelude.{ℕ, List, Option, slice_set}
use Rattle.desk_memory.specs.Held.{HeldParagraphs, with_held_change}
use Rattle.desk_memory.specs.contracts.items.Items.{the_row as items_row}
use Rattle.desk_memory.specs.contracts.paragraphs.Paragraph.{the_row as paragraph_row}
use Rattle.desk_memory.specs.contracts.paragraphs.Paragraphs.{the_row as paragraphs_row}
use Rattle.desk_memory.specs.declared.paragraphs.Paragraph.{Paragraph as HeldParagraph}

-- the list has what is left behind the reference in the place of the item with this index
abbrev pub lends_item : (T : RattleType) → MutBor (List T.Denot) → ℕ → Option (MutBor T.Denot) → Fml
lends_item T list index lent = LendsIf (items_row T) T list lent (slice_set list.now index) list.now

-- the paragraph with this id is what is left behind the reference
abbrev pub lends_paragraph : MutBor HeldParagraphs → ℕ → Option (MutBor HeldParagraph) → Fml
lends_paragraph held id lent =
    LendsIf paragraphs_row paragraph_row held lent (λ new. with_held_change id (λ _. new) held.now) held.now
