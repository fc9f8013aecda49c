-- How marks move with the print that they stand on.
use Rattle.std.specs.Prelude.{ℕ, ◌+◌, ◌-◌, nat_le, true, if◌then◌else◌, length, min, max}
use Rattle.desk_model.specs.declared.span.Span.{Span}
use Rattle.desk_model.specs.Book.{Replacement, Mark}

-- The span after so many characters from a place on were replaced by others. The first of these
-- rules that applies decides: a span that ends at their start or before it stays; one that begins
-- at their end or after it moves with the print; any other then covers what is left of what it
-- covered, and all that is new, and is touched for good.
abbrev pub moved_span : (start removed added : ℕ) → Span → Span
moved_span start removed added span =
    if nat_le span.end start then span
    else (if nat_le (start + removed) span.start
    then record span { start = span.start - removed + added; end = span.end - removed + added }
    else record {
      start = min span.start start;
      end = max span.end (start + removed) - removed + added;
      touched = true;
    })

-- the mark after so many characters from a place on were replaced by others
abbrev pub mark_moved_by : (start removed added : ℕ) → Mark → Mark
mark_moved_by start removed added mark =
    let span = moved_span start removed added (record { start = mark.start; end = mark.end; touched = mark.touched }) in
    record mark { start = span.start; end = span.end; touched = span.touched }

-- the mark after a replacement
abbrev pub mark_moved : Replacement → Mark → Mark
mark_moved r = mark_moved_by r.start r.count (length r.text)

-- The mark after the replacement was taken back: it moves as by the replacement that restores
-- what stood there, so one that was touched may then be longer than it was at first.
abbrev pub mark_moved_back : Replacement → Mark → Mark
mark_moved_back r = mark_moved_by r.start (length r.text) r.count
