-- When a file shows a book, and that at most one refusal is reported of any other.
use Rattle.std.proofs.Common.{◌≡◌, ◌⊎◌, ◌∙◌, ℤ, pos, ◌≤ℤ◌, List, [], ◌∷◌, inl, inr, arith, refl, sym, subst, ap, ap₂, true≢false}
use Rattle.std.specs.List.{AllByRecursion}
use Rattle.std.proofs.lemmas.Int.{ints}
use Rattle.std.proofs.lemmas.List.Elements.{All-from_recursion}
use Rattle.desk_model.specs.Damage.{HasItsTables, IsDamagedBook}
use Rattle.desk_model.proofs.Callers.{book-undamaged as sound-book, one_damage, shown-undamaged as shown, undamaged as sound}
use Rattle.desk_parts.specs.declared.file_table.FileTable.{FileTable}
use Rattle.desk_parts.specs.declared.file_table.FileTable.TheVariants as tables
use Rattle.desk_parts.specs.FileRows.{AreTexts, HasUtf8Texts, Unnamed, entries_in}
use Rattle.desk_parts.specs.Rows.{Corr}
use Rattle.desk_parts.specs.declared.rows.BookRow.{BookRow}
use Rattle.desk_rows.specs.Contents.{Contents}
use Rattle.desk_rows.specs.Layout.{Layout}
use Rattle.desk_store.specs.BookFile.{rows_of}
use Rattle.desk_store.specs.Formats.{Format, IsExact, IsOfEither, IsOfFormat, Presence, named, presence, unnamed}
use Rattle.desk_store.specs.Opened.{TellsOf}
use Rattle.desk_store.specs.Opening.{CanAllBeRead, CanBeRead, IsBookRow, IsNewer, IsRefusal, format_in}
use Rattle.desk_store.specs.Undamaged.{HasBook, IsUndamaged}
use Rattle.desk_store.specs.declared.fault.OpenFault.{OpenFault}
use Rattle.desk_store.specs.declared.fault.OpenFault.TheVariants.{NotABook, Damaged, NewerFormat, Lost, NoMemory}
use Rattle.desk_store.proofs.JudgedTables.{number_of as row_number, of_read, same_head}
use Rattle.desk_store.proofs.Opened.{in_both}
use Rattle.desk_store.proofs.StandingBooks.{AreTextsIf, can_be_read, entries_are, low_format, never_refused, row_is}

-- ---- the row of `book`

not_newer : (rows : List BookRow) (row : BookRow) → IsBookRow rows row → ¬ IsNewer rows
not_newer rows row is (other, alone, later) =
    let low : row.format ≤ℤ pos 2 = is.format in
    let same : row.format ≡ other.format = ap (λ (r : BookRow). r.format) (same_head row other (sym is.alone ∙ alone)) in
    omega (arith, ints, low, same, later)

not_damaged : (rows : List BookRow) (row : BookRow) (id : ℤ) → IsBookRow rows row → ¬ IsDamagedBook rows id
not_damaged rows row id is damaged = damaged.1 (row, is.alone, is.sound)

-- ---- a file that shows a book has no damage

pub undamaged : (l : Layout) (c : Contents) → HasBook l c → IsUndamaged l c
undamaged l c ((f, of), (book, shows)) =
    let head = sound-book (c.rows tables.Book) (λ id. sound (rows_of l c) book shows tables.Book id) in
    record {
      row = head.0;
      book = record { alone = head.1; sound = head.2; format = low_format l c book shows head.0 head.1 };
      readable = subst (λ (g : Format). CanAllBeRead g l c) (sym (row_is l c book shows f of head.0 head.1)) (can_be_read l c book shows f of);
      none = sound (rows_of l c) book shows;
    }

pub unrefused : (l : Layout) (c : Contents) (fault : OpenFault) → HasBook l c → TellsOf l c fault → ¬ IsRefusal fault
unrefused l c fault ((f, of), (book, shows)) = never_refused l c book shows f of fault

-- ---- and one without damage shows a book

module _ (l : Layout) (c : Contents) where
  readable_in_both : (f : Format) (t : FileTable) → CanAllBeRead f l c → presence unnamed t ≡ presence named t
      → CanBeRead (presence named t) (l.has t) (AllByRecursion (HasUtf8Texts t) (c.rows t))
  readable_in_both f t can alike = subst (λ (p : Presence). CanBeRead p (l.has t) (AllByRecursion (HasUtf8Texts t) (c.rows t))) (in_both f t alike) (can t)

  unnamed_texts : (rows : List Corr) → AllByRecursion (HasUtf8Texts tables.Corr) rows → AllByRecursion (HasUtf8Texts tables.NamedCorr) (entries_in (Unnamed rows))
  unnamed_texts [] all = tt
  unnamed_texts (row ∷ rows) all = ((all.0, ([], (refl, refl))), unnamed_texts rows all.1)

  entry_texts : (f : Format) → IsOfFormat f l → CanAllBeRead f l c → AllByRecursion (HasUtf8Texts tables.NamedCorr) (entries_in (rows_of l c).entries)
  entry_texts unnamed of can = subst (AreTextsIf c) (sym (of tables.NamedCorr).1) (unnamed_texts (c.rows tables.Corr) (can tables.Corr).1)
  entry_texts named of can = subst (AreTextsIf c) (sym (of tables.NamedCorr).1) (can tables.NamedCorr).1

  texts : (f : Format) → IsOfFormat f l → CanAllBeRead f l c → AreTexts (rows_of l c)
  texts f of can = record {
    tabs = All-from_recursion _ _ (readable_in_both f tables.Tab can refl).1;
    paras = All-from_recursion _ _ (readable_in_both f tables.Para can refl).1;
    entries = All-from_recursion _ _ (entry_texts f of can);
    marks = All-from_recursion _ _ (readable_in_both f tables.Mark can refl).1;
  }

  pub has_book : (IsExact l ⊎ IsOfEither l) → IsUndamaged l c → HasBook l c
  has_book those u =
      let f = format_in u.row.format in
      let of = of_read f l c those u.readable in
      let its : HasItsTables (rows_of l c) = λ row alone low.
      let same : row ≡ u.row = same_head row u.row (sym alone ∙ u.book.alone) in
      ap (λ (r : BookRow). r.format) same ∙ sym (row_number u.row.format u.book.sound.format u.book.format (rows_of l c).entries (entries_are l c f of)) in
      ((f, of), shown (rows_of l c) (texts f of u.readable) its u.none)

  -- ---- at most one refusal is reported

  lacks_damaged : (table : FileTable) (id : ℤ) → TellsOf l c NotABook → ¬ TellsOf l c (Damaged table id)
  lacks_damaged table id (inl none) (inl (has, is_book, damaged, known)) = true≢false (sym has ∙ none)
  lacks_damaged table id (inl none) (inr at) = true≢false (sym (readable_in_both (format_in at.row.format) tables.Book at.readable refl).0 ∙ none)
  lacks_damaged table id (inr (row, there, is, not)) (inl (has, is_book, damaged, known)) = not_damaged (c.rows tables.Book) row id is damaged
  lacks_damaged table id (inr (row, there, is, not)) (inr at) =
      not (subst (λ (r : BookRow). CanAllBeRead (format_in r.format) l c) (same_head at.row row (sym at.book.alone ∙ is.alone)) at.readable)

  lacks_newer : TellsOf l c NotABook → ¬ TellsOf l c NewerFormat
  lacks_newer (inl none) (has, newer) = true≢false (sym has ∙ none)
  lacks_newer (inr (row, there, is, not)) (has, newer) = not_newer (c.rows tables.Book) row is newer

  damaged_newer : (table : FileTable) (id : ℤ) → TellsOf l c (Damaged table id) → ¬ TellsOf l c NewerFormat
  damaged_newer table id (inl (has, is_book, damaged, known)) (there, newer) = known newer
  damaged_newer table id (inr at) (there, newer) = not_newer (c.rows tables.Book) at.row at.book newer

  one_place : (table other : FileTable) (id n : ℤ) → TellsOf l c (Damaged table id) → TellsOf l c (Damaged other n) → Damaged table id ≡ Damaged other n
  one_place table other id n (inl (has, is_book, damaged, known)) (inl (has', is_book', damaged', known')) =
      ap₂ Damaged (is_book ∙ sym is_book') (damaged.0 ∙ sym damaged'.0)
  one_place table other id n (inl (has, is_book, damaged, known)) (inr at) = absurd (not_damaged (c.rows tables.Book) at.row id at.book damaged)
  one_place table other id n (inr at) (inl (has, is_book, damaged, known)) = absurd (not_damaged (c.rows tables.Book) at.row n at.book damaged)
  one_place table other id n (inr at) (inr too) =
      let same = one_damage (rows_of l c) table other id n at.first too.first in ap₂ Damaged same.0 same.1

  pub one_refusal : (fault other : OpenFault) → IsRefusal fault → IsRefusal other → TellsOf l c fault → TellsOf l c other → fault ≡ other
  one_refusal Lost other is is' reported reported' = absurd is
  one_refusal NoMemory other is is' reported reported' = absurd is
  one_refusal fault Lost is is' reported reported' = absurd is'
  one_refusal fault NoMemory is is' reported reported' = absurd is'
  one_refusal NotABook NotABook is is' reported reported' = refl
  one_refusal NotABook (Damaged other n) is is' reported reported' = absurd (lacks_damaged other n reported reported')
  one_refusal NotABook NewerFormat is is' reported reported' = absurd (lacks_newer reported reported')
  one_refusal (Damaged table id) NotABook is is' reported reported' = absurd (lacks_damaged table id reported' reported)
  one_refusal (Damaged table id) (Damaged other n) is is' reported reported' = one_place table other id n reported reported'
  one_refusal (Damaged table id) NewerFormat is is' reported reported' = absurd (damaged_newer table id reported reported')
  one_refusal NewerFormat NotABook is is' reported reported' = absurd (lacks_newer reported' reported)
  one_refusal NewerFormat (Damaged other n) is is' reported reported' = absurd (damaged_newer other n reported' reported)
  one_refusal NewerFormat NewerFormat is is' reported reported' = refl
