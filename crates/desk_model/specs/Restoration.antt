-- What an undo brings back.
use Rattle.std.specs.Prelude.{◌≡◌, ℕ, ◌-◌, List, [], ◌∷◌, ◌++◌, take, slice_get, Some}
use Rattle.desk_model.specs.Book.{Book, Corrects, Undoes, Paragraph, Replacement, paragraph_of}
use Rattle.desk_model.specs.Print.{corrected_print, newest, print_of}

-- the newest correction in force of the paragraph with this id is an entry of its history; in the
-- next book the history has one entry more, which names that correction, and the paragraph the
-- print that stood just before it
pub record RestoresPrint (book next : Book) (id : ℕ) : Type 0 where
  pub paragraph : Paragraph
  pub found : paragraph_of book id ≡ Some paragraph
  pub number : ℕ
  pub correction : Replacement
  pub who : List ℕ
  pub newest_is : newest paragraph.history ≡ Some (number, correction)
  pub at : slice_get paragraph.history (number - 1) ≡ Some (Corrects correction who)
  pub later : Paragraph
  pub found_later : paragraph_of next id ≡ Some later
  pub entry : later.history ≡ paragraph.history ++ Undoes number ∷ []
  pub print : print_of later ≡ corrected_print paragraph.original (take (number - 1) paragraph.history)
