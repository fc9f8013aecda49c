-- Volumes counted along the paragraphs of a book, one after another. Only private functions and
-- proofs need these words.
use Rattle.std.specs.Prelude.{ℕ, ◌+◌, ◌==◌, ◌||◌, if◌then◌else◌, Bool, List, [], ◌∷◌}
use Rattle.desk_model.specs.Book.{Paragraph}

-- how many volumes have begun with one paragraph more that isn't struck
abbrev pub count_after : ℕ → Bool → ℕ
count_after count begins = if (count == 0) || begins then count + 1 else count

-- the paragraphs of the volume with a number, where so many have begun before
abbrev pub in_volume : ℕ → ℕ → List Paragraph → List Paragraph
in_volume number count [] = []
in_volume number count (paragraph ∷ others) =
    if paragraph.struck then in_volume number count others
    else (if count_after count paragraph.begins_volume == number
    then paragraph ∷ in_volume number (count_after count paragraph.begins_volume) others
    else in_volume number (count_after count paragraph.begins_volume) others)
