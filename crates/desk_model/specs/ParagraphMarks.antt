-- The lines of a paragraph's marks.
use Rattle.std.specs.Prelude.{◌≡◌, ℕ, ◌==◌, List, [], ◌∷◌, Option, MatchOption, filter, chars}
use Rattle.desk_model.specs.declared.mark_item.MarkItem.{MarkItem}
use Rattle.desk_model.specs.Book.{Mark}

-- the marks of the paragraph with this id, in the order of their ids
abbrev pub marks_on : ℕ → List Mark → List Mark
marks_on id marks = filter (λ mark. mark.paragraph == id) marks

-- the item shows this mark
pub record TellsOf (mark : Mark) (item : MarkItem) : Type 0 where
  pub id : item.id ≡ mark.id
  pub start : item.start ≡ mark.start
  pub end : item.end ≡ mark.end
  pub resolved : item.resolved ≡ mark.resolved
  pub touched : item.touched ≡ mark.touched
  pub note : chars item.note.now ≡ mark.note

-- the item shows the first of the marks, and the others are left; or there is none, and no item
abbrev pub TellsFirst : List Mark → Option MarkItem → List Mark → Type 0
TellsFirst marks item left =
    MatchOption item ((marks ≡ []) × (left ≡ []))
    (λ shown. (first : Mark) × (marks ≡ first ∷ left) × TellsOf first shown)
