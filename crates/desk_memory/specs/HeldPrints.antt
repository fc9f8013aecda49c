-- Held paragraphs that get another print or a mark.
use Rattle.std.specs.Prelude.{◌≡◌, ℕ, ◌+◌, ◌<◌, ◌^◌, [], ◌∷◌, ◌++◌, length, nat_eq, Option, Some}
use Rattle.std.specs.Map.{lookup}
use Rattle.desk_memory.specs.declared.paragraphs.PrintChange.{PrintChange}
use Rattle.desk_memory.specs.declared.paragraphs.Paragraph.{Paragraph as HeldParagraph}
use Rattle.desk_memory.specs.Held.{HeldParagraphs}
use Rattle.desk_model.specs.Limits.{most_entries}
use Rattle.desk_memory.specs.Room.{Suffices}

-- the held paragraph with another print, its cells, and one entry more
abbrev pub with_print_changed : PrintChange → HeldParagraph → HeldParagraph
with_print_changed change held =
    record held { history = held.history ++ change.entry ∷ []; print = change.print; cells = change.cells }

-- the held paragraph with one mark more
abbrev pub with_mark : ℕ → HeldParagraph → HeldParagraph
with_mark index held = record held { marks = held.marks ++ index ∷ [] }

-- if the paragraph with this id is there, this is room for one more of its marks
abbrev pub HasRoomForMark : HeldParagraphs → ℕ → Option ℕ → Type 0
HasRoomForMark held id room =
    (paragraph : HeldParagraph) → lookup (nat_eq id) held ≡ Some paragraph
    → (length paragraph.marks + 1 < 2 ^ 32) × Suffices (length paragraph.marks) room

-- the paragraph with this id is there, and this is room for one more entry of its history
pub record HasRoomFor (held : HeldParagraphs) (id : ℕ) (room : Option ℕ) : Type 0 where
  pub paragraph : HeldParagraph
  pub found : lookup (nat_eq id) held ≡ Some paragraph
  pub few : length paragraph.history < most_entries
  pub room_is : Suffices (length paragraph.history) room
