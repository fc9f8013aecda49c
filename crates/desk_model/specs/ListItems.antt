-- The line of a paragraph in the list of a book.
use Rattle.std.specs.Prelude.{◌≡◌, List, [], ◌∷◌, length, Option, MatchOption, chars}
use Rattle.desk_model.specs.declared.list_item.ListItem.{ListItem}
use Rattle.desk_model.specs.Book.{Paragraph}
use Rattle.desk_model.specs.Print.{print_of}

-- the item shows this paragraph
pub record IsListed (paragraph : Paragraph) (item : ListItem) : Type 0 where
  pub id : item.id ≡ paragraph.id
  pub table : chars item.table.now ≡ paragraph.table
  pub style : item.style ≡ paragraph.style
  pub begins_volume : item.begins_volume ≡ paragraph.begins_volume
  pub struck : item.struck ≡ paragraph.struck
  pub length_is : item.length ≡ length (print_of paragraph)

-- the item shows the first of the paragraphs, and the others are left; or there is none, and no
-- item
abbrev pub ListsFirst : List Paragraph → Option ListItem → List Paragraph → Type 0
ListsFirst paragraphs item left =
    MatchOption item ((paragraphs ≡ []) × (left ≡ []))
    (λ shown. (first : Paragraph) × (paragraphs ≡ first ∷ left) × IsListed first shown)
