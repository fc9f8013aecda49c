use Rattle.std.proofs.Common.{arith, rules, w64, SFits, refl, sym, subst, true≢false, ◌∙◌}
use Rattle.std.proofs.lemmas.Int.{to_z-of_z}
use Rattle.sqlite.proofs.StateLemmas.{survives_then}
use Rattle.sqlite.specs.Held.{state}
use Rattle.desk_parts.specs.declared.file_table.FileTable.TheVariants as tables
use Rattle.desk_store.specs.Formats.{Format, IsOfFormat, named}
use Rattle.desk_store.specs.Found.{CanAllAnswer, format_kept}
use Rattle.desk_store.specs.Opened.{reading}
use Rattle.desk_store.specs.Opening.{CanAllBeRead}
use Rattle.desk_store.specs.ReadingSteps.{ShowsReadable}
use Rattle.desk_store.proofs.AnyFile.{can_all_still, readable_still}
use Rattle.desk_store.proofs.JudgedTables.{file_rows, has_books, has_its_tables, judged, kept_by_row, lacks_readable, lacks_tables, of_the_row, read_reported, read_whole, refusal_is, row_is_sound, row_refuses, row_reported, tables_there}
use Rattle.desk_store.proofs.Opened.{as_it_was, as_listed, shows_still, stays_then}
use Rattle.desk_store.proofs.TablesRead.{book_stops, read_in_both, reads_table, rest_stops, table_fails}
use Rattle.desk_store.proofs.Exits.{reported_is}
use Rattle.desk_store.proofs.book_file.read_parts.Goals as goal

-- ---- `book` isn't read

pub returns-in_err-books-clause-unrefused : goal.returns-in_err-books-clause-unrefused
returns-in_err-books-clause-unrefused g c clean book shows =
    let f = format_kept shows.rows.entries in
    let fails = table_fails g.S.Store f tables.Book c.args.conn.now (read_in_both f tables.Book _ refl tt) (c.in_err-books.ensures.answers clean) in
    rw (reported_is _ c.from_residual.ensures.1) (λ is. fails.answered (refusal_is _ is) c.requires.unlimited shows.answer)

pub returns-in_err-books-clause-stops : goal.returns-in_err-books-clause-stops
returns-in_err-books-clause-stops g c clean =
    let stops = book_stops g.S.Store c.args.conn.now (c.in_err-books.ensures.answers clean) in
    rw (reported_is _ c.from_residual.ensures.1) (λ none. reading _ stops refl)

-- ---- its row is refused

pub returns-in_err-book-clause-unrefused : goal.returns-in_err-book-clause-unrefused
returns-in_err-book-clause-unrefused g c clean book shows =
    let are = (reads_table named tables.Book tt (c.in_ok-books.ensures.answers clean)).given in
    let reported = rw c.deref.ensures.value at c.in_err-book.ensures.reported in
    rw (reported_is _ c.from_residual-in_err-book.ensures.1) (λ is. row_is_sound _ book shows _ are c.in_err-book.field-0.0 reported)

pub returns-in_err-book-clause-reported : goal.returns-in_err-book-clause-reported
returns-in_err-book-clause-reported g c clean l file those was =
    let there = has_books l file _ those was (sym c.has_table.ensures ∙ c.if-not-has_table.false) in
    let same = as_listed _ _ ((c.in_ok-books.ensures.answers clean).shows l file there was) in
    let reported = rw c.deref.ensures.value at c.in_err-book.ensures.reported in
    rw (reported_is _ c.from_residual-in_err-book.ensures.1) (row_reported l file _ there same c.in_err-book.field-0.0 reported)

pub returns-in_err-book-clause-stops : goal.returns-in_err-book-clause-stops
returns-in_err-book-clause-stops g c clean =
    rw (reported_is _ c.from_residual-in_err-book.ensures.1)
    (λ none. absurd (none (row_refuses c.deref.result.now c.in_err-book.field-0.0 c.in_err-book.ensures.reported)))

-- ---- a table of its format isn't there

pub returns-then-not-has_tables-clause-unrefused : goal.returns-then-not-has_tables-clause-unrefused
returns-then-not-has_tables-clause-unrefused g c clean book shows =
    let it = judged c.has_table.ensures c.if-not-has_table.false (c.in_ok-books.ensures.answers clean) c.deref.ensures.value c.in_ok-book.ensures.book in
    let none = tables_there it c.has_tables.ensures c.format_of-format.ensures c.if-not-has_tables.true in
    let all = has_its_tables _ book shows _ it.are _ it.is in
    λ refusal. true≢false (sym all ∙ none)

pub returns-then-not-has_tables-clause-reported : goal.returns-then-not-has_tables-clause-reported
returns-then-not-has_tables-clause-reported g c clean l file those was =
    let it = judged c.has_table.ensures c.if-not-has_table.false (c.in_ok-books.ensures.answers clean) c.deref.ensures.value c.in_ok-book.ensures.book in
    lacks_tables it l file those was (tables_there it c.has_tables.ensures c.format_of-format.ensures c.if-not-has_tables.true)

-- ---- another table isn't read

pub returns-in_err-read_rest-clause-unrefused : goal.returns-in_err-read_rest-clause-unrefused
returns-in_err-read_rest-clause-unrefused g c clean book shows =
    let answers = c.in_ok-books.ensures.answers (omega (arith, clean, c.read_rest.ensures.survives.clean)) in
    let it = judged c.has_table.ensures c.if-not-has_table.false answers c.deref.ensures.value c.in_ok-book.ensures.book in
    let kept = kept_by_row _ book shows _ it.are _ it.is ∙ sym c.format_of-format.ensures in
    let all = subst (λ (f : Format). CanAllAnswer f (state g.S.Store c.args.conn.now)) kept shows.answer in
    rw (reported_is _ c.from_residual-in_err-read_rest.ensures.1)
    (λ refusal. (c.in_err-read_rest.ensures.fails clean).answered (refusal_is _ refusal)
    (c.read_rows.ensures.survives.limit ∙ c.requires.unlimited) (can_all_still _ _ it.so_far _ all))

pub returns-in_err-read_rest-clause-reported : goal.returns-in_err-read_rest-clause-reported
returns-in_err-read_rest-clause-reported g c clean l file those was =
    let answers = c.in_ok-books.ensures.answers (omega (arith, clean, c.read_rest.ensures.survives.clean)) in
    let it = judged c.has_table.ensures c.if-not-has_table.false answers c.deref.ensures.value c.in_ok-book.ensures.book in
    rw (reported_is _ c.from_residual-in_err-read_rest.ensures.1)
    (read_reported l file c.in_err-read_rest.field-0.0 (λ refused.
    lacks_readable it l file those was c.requires.unlimited (λ can.
    let asked = subst (λ (f : Format). ShowsReadable f (state g.S.Store c.args.conn.now)) (sym c.format_of-format.ensures) can in
    ((c.in_err-read_rest.ensures.fails clean).refused refused).1 (readable_still _ _ it.so_far _ c.read_rows.ensures.survives.limit asked))))

pub returns-in_err-read_rest-clause-refused : goal.returns-in_err-read_rest-clause-refused
returns-in_err-read_rest-clause-refused g c clean =
    let answers = c.in_ok-books.ensures.answers (omega (arith, clean, c.read_rest.ensures.survives.clean)) in
    rw (reported_is _ c.from_residual-in_err-read_rest.ensures.1)
    (λ refusal. stays_then _ _ _ (as_it_was _ _ answers.unchanged) ((c.in_err-read_rest.ensures.fails clean).refused (refusal_is _ refusal)).0)

pub returns-in_err-read_rest-clause-stops : goal.returns-in_err-read_rest-clause-stops
returns-in_err-read_rest-clause-stops g c clean =
    let answers = c.in_ok-books.ensures.answers (omega (arith, clean, c.read_rest.ensures.survives.clean)) in
    let it = judged c.has_table.ensures c.if-not-has_table.false answers c.deref.ensures.value c.in_ok-book.ensures.book in
    let stops = rest_stops g.S.Store c.args.conn.now c.read_rows.new.conn _ _ it.so_far it.are it.is c.format_of-format.ensures (c.in_err-read_rest.ensures.fails clean) in
    rw (reported_is _ c.from_residual-in_err-read_rest.ensures.1) (λ none. reading _ stops refl)

-- ---- all of it is read

pub returns-clause-read : goal.returns-clause-read
returns-clause-read g c clean =
    let answers = c.in_ok-books.ensures.answers (omega (arith, clean, c.read_rest.ensures.survives.clean)) in
    let it = judged c.has_table.ensures c.if-not-has_table.false answers c.deref.ensures.value c.in_ok-book.ensures.book in
    let all = tables_there it c.has_tables.ensures c.format_of-format.ensures c.if-not-has_tables.false in
    let kept = c.in_ok-read_rest.ensures.kept in
    let fits : SFits w64 c.in_ok-book.book.version = search rules in
    let version = kept.0 ∙ to_z-of_z w64 c.in_ok-book.book.version fits in
    let rest = c.in_ok-read_rest.ensures.read clean in
    record {
      found = file_rows it c.in_ok-read_rest.field-0 version (kept.1 ∙ c.format_of-format.ensures) all rest.given;
      stays = stays_then _ _ _ it.so_far rest.stays;
      is_open = rest.stays.is_open ∙ answers.unchanged.0.is_open;
      read = λ format l file of was.
          let its = of_the_row it format l file was all of in
          let asked = subst (λ (f : Format). IsOfFormat f l) (sym c.format_of-format.ensures) its in
          let read = rest.of l file asked (shows_still _ _ it.so_far l file was) in
          let can = subst (λ (f : Format). CanAllBeRead f l file) c.format_of-format.ensures read.1 in
          read_whole it c.in_ok-read_rest.field-0 version (kept.1 ∙ c.format_of-format.ensures) l file was its can read.0;
    }

pub returns-clause-survives : goal.returns-clause-survives
returns-clause-survives g c =
    survives_then _ _ _ _ _ _ (λ _ db none. none) (λ _ db none. none) c.read_rows.ensures.survives c.read_rest.ensures.survives
