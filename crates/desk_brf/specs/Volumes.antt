-- Which paragraphs a volume has.
use Rattle.std.specs.Prelude.{ℕ, ◌+◌, ◌==◌, ◌||◌, Bool, List, map, filter, take, count_by, not}
use Rattle.std.specs.List.{enumerate_from}
use Rattle.desk_model.specs.Book.{Book, Paragraph}

-- the paragraphs that are not struck, each with its place among them, from 0
abbrev pub remaining : Book → List (ℕ × Paragraph)
remaining book = enumerate_from 0 (filter (λ paragraph. not paragraph.struck) book.paragraphs)

-- the first of them begins a volume, and so does each later one whose flag is on
abbrev pub opens_volume : ℕ × Paragraph → Bool
opens_volume (place, paragraph) = (place == 0) || paragraph.begins_volume

-- the number of the volume in which the paragraph at a place stands: how many begin one up to there
abbrev pub volume_number : Book → ℕ → ℕ
volume_number book place = count_by opens_volume (take (place + 1) (remaining book))

-- the paragraphs of the volume with a number, in order; if there are none there is no such volume
abbrev pub volume_of : Book → ℕ → List Paragraph
volume_of book number = map (λ e. e.1) (filter (λ e. volume_number book e.0 == number) (remaining book))
