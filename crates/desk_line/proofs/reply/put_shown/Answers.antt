use Rattle.std.proofs.Common.{[], ◌∷◌, List, ℕ, ap, refl, true}
use Rattle.std.specs.Prelude.{decimal, map}
use Rattle.std.specs.List.{enumerate_from, flat_map}
use Rattle.std.proofs.lemmas.Result.{err_from_is_err_and}
use Rattle.desk_ends.specs.Cells.{text_of}
use Rattle.desk_ends.proofs.Sending.{Sending-done, Sending-none, Transmits-same}
use Rattle.desk_model.specs.Book.{Entry, Mark, Paragraph}
use Rattle.desk_model.specs.ParagraphMarks.{marks_on}
use Rattle.desk_line.specs.ReplyLines.{braille, entry_line, history, list, list_line, mark_line, marks, paragraph_asked, print, shown_line, shown_text, version, where_is, whence}
use Rattle.desk_line.proofs.Replying.{cell-refused, no-paragraph-asked, place-refused, shown-one}
use Rattle.desk_line.proofs.reply.put_shown.Goals as goal

pub returns-in_err-print-in-Print : goal.returns-in_err-print-in-Print
returns-in_err-print-in-Print g c =
    let p = err_from_is_err_and c.from_residual.result c.from_residual.ensures.1 in
    rw (p.1, p.2) ((no-paragraph-asked c.args.book.now c.args.query c.in-Print.paragraph c.in_err-print-in-Print.field-0.0 (ap paragraph_asked c.in-Print.is) c.in_err-print-in-Print.ensures.missing), refl, refl)

pub returns-in_err-cells-in-Braille : goal.returns-in_err-cells-in-Braille
returns-in_err-cells-in-Braille g c =
    let p = err_from_is_err_and c.from_residual-in_err-cells-in-Braille.result c.from_residual-in_err-cells-in-Braille.ensures.1 in
    rw (p.1, p.2) ((no-paragraph-asked c.args.book.now c.args.query c.in-Braille.paragraph c.in_err-cells-in-Braille.field-0.0 (ap paragraph_asked c.in-Braille.is) c.in_err-cells-in-Braille.ensures.missing), refl, refl)

pub returns-in_err-history-in-History : goal.returns-in_err-history-in-History
returns-in_err-history-in-History g c =
    let p = err_from_is_err_and c.from_residual-in_err-history-in-History.result c.from_residual-in_err-history-in-History.ensures.1 in
    rw (p.1, p.2) ((no-paragraph-asked c.args.book.now c.args.query c.in-History.paragraph c.in_err-history-in-History.field-0.0 (ap paragraph_asked c.in-History.is) c.in_err-history-in-History.ensures.missing), refl, refl)

pub returns-in_err-marks-in-Marks : goal.returns-in_err-marks-in-Marks
returns-in_err-marks-in-Marks g c =
    let p = err_from_is_err_and c.from_residual-in_err-marks-in-Marks.result c.from_residual-in_err-marks-in-Marks.ensures.1 in
    rw (p.1, p.2) ((no-paragraph-asked c.args.book.now c.args.query c.in-Marks.paragraph c.in_err-marks-in-Marks.field-0.0 (ap paragraph_asked c.in-Marks.is) c.in_err-marks-in-Marks.ensures.missing), refl, refl)

pub returns-in_err-where_is-in-WhereIs : goal.returns-in_err-where_is-in-WhereIs
returns-in_err-where_is-in-WhereIs g c =
    let p = err_from_is_err_and c.from_residual-in_err-where_is-in-WhereIs.result c.from_residual-in_err-where_is-in-WhereIs.ensures.1 in
    rw (p.1, p.2) ((place-refused c.args.book.now c.in-WhereIs.paragraph c.in-WhereIs.place c.args.query c.in_err-where_is-in-WhereIs.field-0.0 c.in-WhereIs.is c.in_err-where_is-in-WhereIs.ensures.refused), refl, refl)

pub returns-in_err-whence-in-Whence : goal.returns-in_err-whence-in-Whence
returns-in_err-whence-in-Whence g c =
    let p = err_from_is_err_and c.from_residual-in_err-whence-in-Whence.result c.from_residual-in_err-whence-in-Whence.ensures.1 in
    rw (p.1, p.2) ((cell-refused c.args.book.now c.in-Whence.paragraph c.in-Whence.cell c.args.query c.in_err-whence-in-Whence.field-0.0 c.in-Whence.is c.in_err-whence-in-Whence.ensures.refused), refl, refl)

pub returns-in_ok-print-in-Print : goal.returns-in_ok-print-in-Print
returns-in_ok-print-in-Print g c =
    let found = c.in_ok-print-in-Print.ensures.found in
    shown-one c.args.block.now c.args.book.now c.args.query
    (shown_text c.in_ok-print-in-Print.field-0.now) (print c.in-Print.paragraph found.0 c.in-Print.is found.1 (ap (λ (l : List ℕ). shown_text l ∷ []) found.2)) c.put_print.ensures

pub returns-in_ok-cells-in-Braille : goal.returns-in_ok-cells-in-Braille
returns-in_ok-cells-in-Braille g c =
    let found = c.in_ok-cells-in-Braille.ensures.found in
    shown-one c.args.block.now c.args.book.now c.args.query
    (text_of c.in_ok-cells-in-Braille.field-0.now) (braille c.in-Braille.paragraph found.0 c.in_ok-cells-in-Braille.field-0.now c.in-Braille.is found.1 found.2 refl) c.put_braille.ensures

pub returns-in_ok-where_is-in-WhereIs : goal.returns-in_ok-where_is-in-WhereIs
returns-in_ok-where_is-in-WhereIs g c =
    let found = c.in_ok-where_is-in-WhereIs.ensures.found in
    shown-one c.args.block.now c.args.book.now c.args.query
    (decimal c.in_ok-where_is-in-WhereIs.field-0) (where_is c.in-WhereIs.paragraph c.in-WhereIs.place c.in_ok-where_is-in-WhereIs.field-0 found.0 c.in-WhereIs.is found.1 found.2 refl) c.put_place.ensures

pub returns-in_ok-whence-in-Whence : goal.returns-in_ok-whence-in-Whence
returns-in_ok-whence-in-Whence g c =
    let found = c.in_ok-whence-in-Whence.ensures.found in
    shown-one c.args.block.now c.args.book.now c.args.query
    (decimal c.in_ok-whence-in-Whence.field-0) (whence c.in-Whence.paragraph c.in-Whence.cell c.in_ok-whence-in-Whence.field-0 found.0 c.in-Whence.is found.1 found.2 refl) c.put_place-in-Whence.ensures

pub returns-in_ok-history-in-History : goal.returns-in_ok-history-in-History
returns-in_ok-history-in-History g c =
    let found = c.in_ok-history-in-History.ensures.found in (
      map entry_line (enumerate_from 1 found.0.history),
      history c.in-History.paragraph found.0 c.in-History.is found.1 refl,
      Transmits-same c.args.block.now (ap (λ (xs : List (ℕ × Entry)). flat_map shown_line (map entry_line xs)) found.2) c.put_history.ensures,
    )

pub returns-in_ok-marks-in-Marks : goal.returns-in_ok-marks-in-Marks
returns-in_ok-marks-in-Marks g c =
    let found = c.in_ok-marks-in-Marks.ensures.found in (
      map mark_line (marks_on c.in-Marks.paragraph c.args.book.now.marks),
      marks c.in-Marks.paragraph found.0 c.in-Marks.is found.1 refl,
      Transmits-same c.args.block.now (ap (λ (xs : List Mark). flat_map shown_line (map mark_line xs)) found.2) c.put_marks.ensures,
    )

pub returns-in-List : goal.returns-in-List
returns-in-List g c = (
  map list_line c.args.book.now.paragraphs,
  list c.in-List.is refl,
  Transmits-same c.args.block.now (ap (λ (xs : List Paragraph). flat_map shown_line (map list_line xs)) c.list.ensures) c.put_list.ensures,
)

pub returns-in-Version : goal.returns-in-Version
returns-in-Version g c =
    ([], version c.in-Version.is refl, Sending-done g.K.Sink.can_fail _ _ c.args.block.now _ true (Sending-none _ c.args.block.now [] _ refl) refl)
