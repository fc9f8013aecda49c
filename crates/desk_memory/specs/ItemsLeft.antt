-- What is left of the entries of a history, and of the marks of a paragraph, while they are shown
-- one by one.
use Rattle.std.specs.Prelude.{ℕ, ◌+◌, ◌<◌, List, length, drop, option_map, option_to_list, slice_get}
use Rattle.std.specs.List.{All, enumerate_from, flat_map}
use Rattle.desk_memory.specs.declared.history.HeldEntry.{HeldEntry}
use Rattle.desk_memory.specs.declared.marks.HeldMark.{HeldMark}
use Rattle.desk_model.specs.Book.{Entry, Mark}
use Rattle.desk_memory.specs.Histories.{entries_held}
use Rattle.desk_memory.specs.Held.{mark_held}

-- what held entries from an index on stand for, with their numbers from 1
abbrev pub entries_from : ℕ → List HeldEntry → List (ℕ × Entry)
entries_from index entries = drop index (enumerate_from 1 (entries_held entries))

-- the mark that the held one with an index stands for, if there is one
abbrev pub mark_at : List HeldMark → ℕ → List Mark
mark_at marks index = option_to_list (option_map (λ held. mark_held (index + 1, held)) (slice_get marks index))

-- the marks with the indexes from a place of a list of them on
abbrev pub marks_at : (place : ℕ) → List ℕ → List HeldMark → List Mark
marks_at place indexes marks = flat_map (mark_at marks) (drop place indexes)

-- there is a mark with each of these indexes
abbrev pub AreMarks : List HeldMark → List ℕ → Type 0
AreMarks marks indexes = All (λ index. index < length marks) indexes
