-- What is said of the rows of all histories while they are read.
use Rattle.std.specs.Prelude.{◌≡◌, ℕ, ◌+◌, ◌<◌, ℤ, pos, ◌≤ℤ◌, List, Option, Some, None, filter, length, slice_get}
use Rattle.std.specs.List.{Contains}
use Rattle.std.specs.Ordering.{int_eq}
use Rattle.desk_memory.specs.declared.paragraphs.Paragraph.{Paragraph as HeldParagraph}
use Rattle.desk_rebuild.specs.declared.damage.RowsFault.{RowsFault}
use Rattle.desk_rebuild.specs.declared.damage.RowsFault.TheVariants.{Damaged}
use Rattle.desk_model.specs.Damage.{IsWithin}
use Rattle.desk_rebuild.specs.History.{CanBeRead, HasRead}
use Rattle.desk_parts.specs.Rows.{NamedCorr}

-- the rows of the paragraph with this id
abbrev pub rows_of : List NamedCorr → ℤ → List NamedCorr
rows_of rows id = filter (λ row. int_eq row.entry.para id) rows

-- each of so many paragraphs has its rows in the group at its index, from 0
pub record AreGrouped (count : ℕ) (rows : List NamedCorr) (groups : List (List NamedCorr)) : Type 0 where
  pub many : length groups ≡ count
  pub each : (index : ℕ) (group : List NamedCorr) → slice_get groups index ≡ Some group
      → group ≡ rows_of rows (pos (index + 1))

-- a row has this id, which none of so many paragraphs has
abbrev pub IsStray : ℕ → List NamedCorr → ℤ → Type 0
IsStray count rows id = ((row : NamedCorr) × Contains rows row × (row.entry.para ≡ id)) × ¬ IsWithin 1 count id

-- the smallest of such ids, if there is one
abbrev pub IsFirstStray : ℕ → List NamedCorr → Option ℤ → Type 0
IsFirstStray count rows None = (id : ℤ) → ¬ IsStray count rows id
IsFirstStray count rows (Some first) = IsStray count rows first × ((id : ℤ) → IsStray count rows id → first ≤ℤ id)

-- each paragraph has the history of the rows in its group
abbrev pub HaveRead : List (List NamedCorr) → List HeldParagraph → Type 0
HaveRead groups items =
    (index : ℕ) (rows : List NamedCorr) (held : HeldParagraph) → slice_get groups index ≡ Some rows
    → slice_get items index ≡ Some held
    → HasRead rows held

-- the rows of the paragraph at this index can't be read, and those of each before it can
pub record IsUnread (groups : List (List NamedCorr)) (items : List HeldParagraph) (index : ℕ) : Type 0 where
  pub rows : List NamedCorr
  pub held : HeldParagraph
  pub group : slice_get groups index ≡ Some rows
  pub item : slice_get items index ≡ Some held
  pub unsound : ¬ CanBeRead rows held.original held.print
  pub before : (k : ℕ) (others : List NamedCorr) (other : HeldParagraph) → k < index → slice_get groups k ≡ Some others
      → slice_get items k ≡ Some other
      → CanBeRead others other.original other.print

-- the first paragraph whose rows can't be read is reported
abbrev pub IsFirstUnread : List (List NamedCorr) → List HeldParagraph → RowsFault → Type 0
IsFirstUnread groups items fault = (index : ℕ) × (fault ≡ Damaged (pos (index + 1))) × IsUnread groups items index
