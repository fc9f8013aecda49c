use Rattle.std.proofs.Common.{◌≡◌, ◌<◌, ◌≤◌, ℕ, [], ◌∷◌, ◌++◌, length, refl, sym, ap, subst, ◌∙◌, arith}
use Rattle.desk_model.specs.Book.{Book, Mark, new_mark}
use Rattle.desk_model.specs.ParagraphMarks.{marks_on}
use Rattle.desk_model.specs.NextBook.{next_mark, next_with_marks}
use Rattle.desk_memory.specs.Room.{Suffices}
use Rattle.desk_model.specs.BookTexts.{AreCharacters}
use Rattle.desk_memory.proofs.Callers.{count-marks, few-on}
use Rattle.desk_book.proofs.Plans.MarkPlanning.{accepted_mark, full_marks, full_of_versions, has_cells, long_note, marked_here, no_memory_here}
use Rattle.desk_book.proofs.Plans.Planning.{exit}
use Rattle.desk_model.specs.Limits.{most_marks, most_note}
use Rattle.desk_book.proofs.book.Book.plan_mark.Goals as goal
use Rattle.desk_book.proofs.book.Book.plan_mark.Goals.{In_ok-check_length, In_ok-check_limit}

-- the note is short, and one more mark may come
short_note : (c : In_ok-check_length) → length c.args.note.now ≤ most_note
short_note c =
    let counted : c.count_of.result ≡ length c.args.note.now = c.count_of.ensures ∙ ap length c.as_str.ensures in
    let short = c.in_ok-check_length.ensures.short in
    omega arith

room_left : (c : In_ok-check_limit) → length c.args.self.now.marks < most_marks
room_left c =
    let count = count-marks c.self.inside.marks in
    let is = ap (λ (b : Book). length b.marks) c.self.view_is in
    let left = c.in_ok-check_limit.ensures.left in
    omega arith

pub span_of_cells-requires-clause-cells : goal.span_of_cells-requires-clause-cells
span_of_cells-requires-clause-cells c = has_cells c.args.self.now c.args.id c.args.cell c.args.count c.args.note.now c.in_ok-check_text.ensures.unbarred _ _ c.in_ok-paragraph.ensures.found.0 c.in_ok-paragraph.ensures.found.1 c.as_slice-print.result.now c.as_slice-cells.result.now c.as_slice-print.ensures c.as_slice-cells.ensures

pub returns-in_err-check_length-clause-refused : goal.returns-in_err-check_length-clause-refused
returns-in_err-check_length-clause-refused c =
    exit _ _ _ c.from_residual-in_err-check_length.ensures.1
    (long_note c.args.self.now c.args.id c.args.cell c.args.count c.args.note.now c.in_ok-check_text.ensures.unbarred _ _ c.in_ok-paragraph.ensures.found.0 c.in_ok-paragraph.ensures.found.1 _ _ c.as_slice-print.result.now c.as_slice-print.ensures c.in_ok-start.ensures.there _ (c.in_err-check_length.ensures.long.0, let counted : c.count_of.result ≡ length c.args.note.now = c.count_of.ensures ∙ ap length c.as_str.ensures in let long = c.in_err-check_length.ensures.long.1 in omega arith))

pub returns-in_err-check_limit-clause-refused : goal.returns-in_err-check_limit-clause-refused
returns-in_err-check_limit-clause-refused c =
    let at = goal.at.returns-in_err-check_limit-clause-refused c in
    exit _ _ _ c.from_residual-in_err-check_limit.ensures.1
    (full_marks c.args.self.now c.args.id c.args.cell c.args.count c.args.note.now c.in_ok-check_text.ensures.unbarred _ _ c.in_ok-paragraph.ensures.found.0 c.in_ok-paragraph.ensures.found.1 _ _ c.as_slice-print.result.now c.as_slice-print.ensures c.in_ok-start.ensures.there (short_note at.In_ok-check_length) _ (c.in_err-check_limit.ensures.full.0, let count = count-marks c.self.inside.marks in let is = ap (λ (b : Book). length b.marks) c.self.view_is in let full = c.in_err-check_limit.ensures.full.1 in omega arith))

pub returns-in_err-check_version-clause-refused : goal.returns-in_err-check_version-clause-refused
returns-in_err-check_version-clause-refused c =
    let at = goal.at.returns-in_err-check_version-clause-refused c in
    exit _ _ _ c.from_residual-in_err-check_version.ensures.1
    (full_of_versions c.args.self.now c.args.id c.args.cell c.args.count c.args.note.now c.in_ok-check_text.ensures.unbarred _ _ c.in_ok-paragraph.ensures.found.0 c.in_ok-paragraph.ensures.found.1 _ _ c.as_slice-print.result.now c.as_slice-print.ensures c.in_ok-start.ensures.there (short_note at.In_ok-check_length) (room_left at.In_ok-check_limit) _ c.in_err-check_version.ensures.full)

pub room-requires : goal.room-requires
room-requires c =
    let at = goal.at.room-requires c in
    let count = count-marks c.self.inside.marks in
    let is = ap (λ (b : Book). length b.marks) c.self.view_is in
    let left = (room_left at.In_ok-check_limit) in
    omega arith

pub room-requires-2 : goal.room-requires-2
room-requires-2 c =
    let at = goal.at.room-requires-2 c in
    let count = c.in_ok-paragraph.ensures.found.0.marked in
    let few = few-on c.args.id c.args.self.now.marks in
    let left = (room_left at.In_ok-check_limit) in
    omega arith

pub returns-clause-planned : goal.returns-clause-planned
returns-clause-planned c =
    let at = goal.at.returns-clause-planned c in
    let book = c.args.self.now in
    let count : length c.self.inside.marks ≡ length book.marks = sym (count-marks c.self.inside.marks) ∙ ap (λ (b : Book). length b.marks) c.self.view_is in
    let noted = c.in_ok-copy.ensures.text ∙ c.as_str-2.ensures in
    let held = c.new-mark.ensures (next_mark book) in
    let is = held ∙ ap (new_mark (next_mark book) c.args.id _ _) noted in
    let on = ap (λ (m : Mark). m.paragraph) held in
    let marked = marked_here c.args.self.now c.args.id c.args.cell c.args.count c.args.note.now c.in_ok-check_text.ensures.unbarred _ _ c.in_ok-paragraph.ensures.found.0 c.in_ok-paragraph.ensures.found.1 _ _ c.as_slice-print.result.now c.as_slice-print.ensures c.in_ok-start.ensures.there in
    let characters = subst AreCharacters noted c.in_ok-copy.ensures.characters in
    let few = subst (λ (n : ℕ). Suffices n c.in_ok-room-2.field-0) c.in_ok-paragraph.ensures.found.0.marked c.in_ok-room-2.ensures in (
      accepted_mark c.args.self.now c.args.id c.args.cell c.args.count c.args.note.now c.in_ok-check_text.ensures.unbarred _ _ c.in_ok-paragraph.ensures.found.0 c.in_ok-paragraph.ensures.found.1 _ _ c.as_slice-print.result.now c.as_slice-print.ensures c.in_ok-start.ensures.there (short_note at.In_ok-check_length) (room_left at.In_ok-check_limit) c.in_ok-check_version.ensures.left,
      (
        _,
        (_, _, marked, refl),
        (
          ap (λ (m : Mark). next_with_marks book (book.marks ++ m ∷ [])) (sym is),
          subst (λ (n : ℕ). Suffices n c.in_ok-room.field-0) count c.in_ok-room.ensures,
          (room_left at.In_ok-check_limit),
          subst (λ (id : ℕ). Suffices (length (marks_on id book.marks)) c.in_ok-room-2.field-0) (sym on) few,
        ),
      ),
      (tt, tt, characters),
    )

pub returns-in_err-copy-clause-refused : goal.returns-in_err-copy-clause-refused
returns-in_err-copy-clause-refused c =
    let at = goal.at.returns-in_err-copy-clause-refused c in
    exit _ _ _ c.from_residual-in_err-copy.ensures.1
    (no_memory_here c.args.self.now c.args.id c.args.cell c.args.count c.args.note.now c.in_ok-check_text.ensures.unbarred _ _ c.in_ok-paragraph.ensures.found.0 c.in_ok-paragraph.ensures.found.1 _ _ c.as_slice-print.result.now c.as_slice-print.ensures c.in_ok-start.ensures.there (short_note at.In_ok-check_length) (room_left at.In_ok-check_limit) c.in_ok-check_version.ensures.left _ refl)

pub returns-in_err-room-clause-refused : goal.returns-in_err-room-clause-refused
returns-in_err-room-clause-refused c =
    let at = goal.at.returns-in_err-room-clause-refused c in
    exit _ _ _ c.from_residual-in_err-room.ensures.1
    (no_memory_here c.args.self.now c.args.id c.args.cell c.args.count c.args.note.now c.in_ok-check_text.ensures.unbarred _ _ c.in_ok-paragraph.ensures.found.0 c.in_ok-paragraph.ensures.found.1 _ _ c.as_slice-print.result.now c.as_slice-print.ensures c.in_ok-start.ensures.there (short_note at.In_ok-check_length) (room_left at.In_ok-check_limit) c.in_ok-check_version.ensures.left _ refl)

pub returns-in_err-room-2-clause-refused : goal.returns-in_err-room-2-clause-refused
returns-in_err-room-2-clause-refused c =
    let at = goal.at.returns-in_err-room-2-clause-refused c in
    exit _ _ _ c.from_residual-in_err-room-2.ensures.1
    (no_memory_here c.args.self.now c.args.id c.args.cell c.args.count c.args.note.now c.in_ok-check_text.ensures.unbarred _ _ c.in_ok-paragraph.ensures.found.0 c.in_ok-paragraph.ensures.found.1 _ _ c.as_slice-print.result.now c.as_slice-print.ensures c.in_ok-start.ensures.there (short_note at.In_ok-check_length) (room_left at.In_ok-check_limit) c.in_ok-check_version.ensures.left _ refl)
