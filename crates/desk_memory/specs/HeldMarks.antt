-- Marks as they are held in memory.
use Rattle.std.specs.Prelude.{ℕ, ◌+◌, ◌≤◌, ◌==◌, true, if◌then◌else◌, zero, suc, List, [], ◌∷◌, map, Option, None}
use Rattle.std.specs.Prelude.{slice_get, slice_set, All}
use Rattle.std.specs.Option.{option_map_or}
use Rattle.desk_memory.specs.declared.marks.HeldMark.{HeldMark}
use Rattle.desk_model.specs.declared.span.Span.{Span}
use Rattle.desk_model.specs.Limits.{most_print}
use Rattle.desk_model.specs.Marks.{moved_span}

-- it stands within a print
abbrev pub IsWithin : HeldMark → Type 0
IsWithin mark = (mark.start ≤ mark.end) × (mark.end ≤ most_print)

-- each of them stands within a print
abbrev pub AreWithin : List HeldMark → Type 0
AreWithin marks = All IsWithin marks

-- the places that it covers, and whether a correction or an undo has touched what it covered
abbrev pub span_held : HeldMark → Span
span_held mark = record { start = mark.start; end = mark.end; touched = mark.touched }

-- the held mark after so many characters from a place on gave way to others
abbrev pub moved_held : (start removed added : ℕ) → HeldMark → HeldMark
moved_held start removed added mark =
    let span = moved_span start removed added (span_held mark) in
    record mark { start = span.start; end = span.end; touched = span.touched }

-- the held mark, moved if it is of the paragraph with this id
abbrev pub moved_held_of : (id start removed added : ℕ) → HeldMark → HeldMark
moved_held_of id start removed added mark = if mark.paragraph == id then moved_held start removed added mark else mark

-- the held marks, those of the paragraph with this id moved
abbrev pub with_held_moved : (id start removed added : ℕ) → List HeldMark → List HeldMark
with_held_moved id start removed added marks = map (moved_held_of id start removed added) marks

-- of held marks that have the indexes from one on, the indexes of those on the paragraph with this
-- id
abbrev pub indexes_from : (id index : ℕ) → List HeldMark → List ℕ
indexes_from id index [] = []
indexes_from id index (mark ∷ marks) =
    if mark.paragraph == id then index ∷ indexes_from id (index + 1) marks else indexes_from id (index + 1) marks

-- the indexes of the marks on the paragraph with this id
abbrev pub indexes_on : ℕ → List HeldMark → List ℕ
indexes_on id marks = indexes_from id 0 marks

-- the held mark with an id, from 1, if there is one
abbrev pub held_mark : ℕ → List HeldMark → Option HeldMark
held_mark zero marks = None
held_mark (suc index) marks = slice_get marks index

-- the held marks with the one with an id resolved
abbrev pub with_held_resolved : ℕ → List HeldMark → List HeldMark
with_held_resolved zero marks = marks
with_held_resolved (suc index) marks =
    option_map_or (λ mark. slice_set marks index (record mark { resolved = true })) (slice_get marks index) marks
