-- Damage of rows, worked by the definitions alone: they say what these rows say, and not only what the code does.
use Rattle.std.proofs.Common.{◌≡◌, ◌⊎◌, ℕ, ◌+◌, ℤ, pos, ◌≤◌, ◌+ℤ◌, ◌≤ℤ◌, false, List, [], ◌∷◌, length, Some, Contains, refl, sym, ap, subst, ◌∙◌, arith, inl, inr, chars}
use Rattle.std.proofs.lemmas.List.Elements.{All-nil}
use Rattle.std.proofs.lemmas.List.Sorted.{IsPermutation-refl, length_permutation}
use Rattle.std.proofs.lemmas.Option.{slice_get_within, same_Some}
use Rattle.std.proofs.lemmas.Str.{chars-nil}
use Rattle.louis_table.specs.Meaning.{Meaning}
use Rattle.louis_table.specs.Table.{Means}
use Rattle.desk_parts.specs.declared.file_table.FileTable.TheVariants as file
use Rattle.desk_parts.specs.declared.rows.BookRow.{BookRow}
use Rattle.desk_model.specs.Damage.{IsDamagedBook, IsDamagedCache, IsDamagedEntries, IsDamagedMark, IsDamagedPara, IsDamagedTab, IsFirstDamage, IsNumber, IsPrintText, IsSoundMarkRow, IsSoundParaRow, IsSpanned}
use Rattle.desk_parts.specs.FileRows.{FileRows, Named}
use Rattle.desk_model.specs.Limits.{most_marks, most_note, most_paragraphs, most_version}
use Rattle.desk_model.specs.ValidNames.{IsTableName}
use Rattle.desk_parts.specs.Rows.{Mark, NamedCorr, Para, ParaCells, Tab}
use Rattle.desk_model.specs.Shows.{book_row_of, mark_row_of}
use Rattle.desk_model.specs.Book.{new_mark}
use Rattle.desk_model.specs.BookTexts.{IsUnbarred, is_barred}
use Rattle.desk_model.proofs.Damage.FirstDamage.{IsWholeBefore, before-book, before-cache, before-entries, before-mark, before-para, before-tab}
use Rattle.desk_model.proofs.Lists.Members.{Contains-behind, Contains-cases, Contains-here, Contains-none}
use Rattle.desk_model.proofs.Lists.RowNumbers.{pos_le, same_number}
use Rattle.desk_model.proofs.Lists.Stable.{le_from}

only : {X : Type 0} (x y : X) → Contains (x ∷ []) y → x ≡ y
only x y c = elim (Contains-cases x y [] c) [ inl same ↦ same | inr later ↦ absurd (Contains-none y later) ]

no-characters : length (chars []) ≡ 0
no-characters = ap length chars-nil

unbarred-empty : IsUnbarred (chars [])
unbarred-empty = subst IsUnbarred (sym chars-nil) (All-nil (λ c. is_barred c ≡ false))

-- ---- every table damaged at once, and mended one after the other: 1 1, 2 1, 3 2, 7 9, 5 1, 6 9

abbrev sound_books : List BookRow
sound_books = book_row_of 2 0 ∷ []

-- a table without a name
abbrev nameless : Tab
nameless = record { name = []; body = [] }

abbrev para_at : (id place : ℤ) → List ℕ → Para
para_at id place tab = record { id = id; place = place; tab = tab; original = []; print = []; style = pos 0; volume = pos 0; struck = pos 0 }

-- the second paragraph, where the first is missing
abbrev second_alone : Para
second_alone = para_at (pos 2) (pos 1) []

-- an entry, a mark and braille of a paragraph that isn't there
abbrev stray_entry : NamedCorr
stray_entry = record { entry = record { para = pos 9; seq = pos 1; kind = pos 0; start = pos 0; len = pos 0; body = [] }; who = [] }

-- an empty mark before the first character, with an empty note
abbrev mark_on : (id paragraph : ℕ) → Mark
mark_on id paragraph = mark_row_of (new_mark id paragraph 0 0 [])

abbrev stray_mark : Mark
stray_mark = mark_on 1 9

abbrev stray_cells : ParaCells
stray_cells = record { para = pos 9; cells = [] }

abbrev file_with : List BookRow → List Tab → List Para → List NamedCorr → List Mark → FileRows
file_with books tabs paras entries marks = record {
  books = books;
  tabs = tabs;
  paras = paras;
  entries = Named entries;
  marks = marks;
  caches = Some (stray_cells ∷ []);
}

abbrev all_wrong : List BookRow → FileRows
all_wrong books = file_with books (nameless ∷ []) (second_alone ∷ []) (stray_entry ∷ []) (stray_mark ∷ [])

abbrev paras_wrong : FileRows
paras_wrong = file_with sound_books [] (second_alone ∷ []) (stray_entry ∷ []) (stray_mark ∷ [])

abbrev entries_wrong : FileRows
entries_wrong = file_with sound_books [] [] (stray_entry ∷ []) (stray_mark ∷ [])

abbrev marks_wrong : FileRows
marks_wrong = file_with sound_books [] [] [] (stray_mark ∷ [])

abbrev cells_wrong : FileRows
cells_wrong = file_with sound_books [] [] [] []

sound-books : (id : ℤ) → ¬ IsDamagedBook sound_books id
sound-books id (at, unsound) = unsound (
  book_row_of 2 0,
  refl,
  record { id = refl; format = pos_le 1 2 (omega arith); version = (pos_le 0 0 (omega arith), pos_le 0 most_version (omega arith)) },
)

no-tabs : (id : ℤ) → ¬ IsDamagedTab [] id
no-tabs id (sorted, moved, ordered, (index, row, at, reported, unsound)) =
    omega (arith, length_permutation _ _ moved, slice_get_within sorted index row at)

no-paras : (tabs : List Tab) (id : ℤ) → ¬ IsDamagedPara tabs [] id
no-paras tabs id (row, c, named, unsound) = Contains-none row c

no-entries : (id : ℤ) → ¬ IsDamagedEntries [] [] id
no-entries id (inl (para, c, named, unsound)) = Contains-none para c
no-entries id (inr (row, c, named, none)) = Contains-none row c

no-marks : (paras : List Para) (id : ℤ) → ¬ IsDamagedMark paras [] id
no-marks paras id (row, c, named, unsound) = Contains-none row c

-- no damage before `para`, where one row is in `book` and none in `tab`
before-paras : (paras : List Para) (entries : List NamedCorr) (marks : List Mark) → IsWholeBefore (file_with sound_books [] paras entries marks) file.Para
before-paras paras entries marks =
    let rows = file_with sound_books [] paras entries marks in
    before-para rows (before-tab rows sound-books) no-tabs

-- no row in `book`: before all others
book-first : IsFirstDamage (all_wrong []) file.Book (pos 1)
book-first = record {
  damaged = (refl, λ (row, is, sound). cc is);
  tables = before-book (all_wrong []);
  ids = λ id damaged. subst (λ z. pos 1 ≤ℤ z) (sym damaged.0) (pos_le 1 1 (omega arith));
}

nameless-is : ¬ IsTableName (chars [])
nameless-is named = let some = named.nonempty in omega (arith, some, no-characters)

-- then the table without a name
tab-first : IsFirstDamage (all_wrong sound_books) file.Tab (pos 1)
tab-first = record {
  damaged = (nameless ∷ [], IsPermutation-refl (nameless ∷ []), λ k d low less. absurd (omega (arith, less)), (0, nameless, refl, refl, λ sound. nameless-is sound.named));
  tables = before-tab (all_wrong sound_books) sound-books;
  ids = λ id (sorted, moved, ordered, (index, row, at, reported, unsound)). subst (λ z. pos 1 ≤ℤ z) (sym reported) (pos_le 1 (index + 1) (omega arith));
}

alone-unsound : ¬ IsSoundParaRow [] (second_alone ∷ []) second_alone
alone-unsound sound =
    elim sound.number.next [
      | inl first ↦ let same = same_number 2 1 first in omega (arith, same)
      | inr (row, c, next) ↦
          let up : pos 3 ≡ pos 2 = ap (λ (p : Para). p.id +ℤ pos 1) (only second_alone row c) ∙ next in
          omega (arith, same_number 3 2 up)
    ]

-- then the paragraph after the gap
para-first : IsFirstDamage paras_wrong file.Para (pos 2)
para-first = record {
  damaged = (second_alone, Contains-here second_alone [], refl, alone-unsound);
  tables = before-paras (second_alone ∷ []) (stray_entry ∷ []) (stray_mark ∷ []);
  ids = λ id (row, c, named, unsound). subst (λ z. pos 2 ≤ℤ z) (ap (λ (p : Para). p.id) (only second_alone row c) ∙ named) (pos_le 2 2 (omega arith));
}

entries-ids : (id : ℤ) → IsDamagedEntries [] (stray_entry ∷ []) id → pos 9 ≤ℤ id
entries-ids id (inl (para, c, named, unsound)) = absurd (Contains-none para c)
entries-ids id (inr (row, c, named, none)) =
    subst (λ z. pos 9 ≤ℤ z) (ap (λ (e : NamedCorr). e.entry.para) (only stray_entry row c) ∙ named) (pos_le 9 9 (omega arith))

-- then the entry, at its paragraph's id
entries-first : IsFirstDamage entries_wrong file.NamedCorr (pos 9)
entries-first = record {
  damaged = (refl, inr (stray_entry, Contains-here stray_entry [], refl, λ (para, c, named). Contains-none para c));
  tables = before-entries entries_wrong (before-paras [] (stray_entry ∷ []) (stray_mark ∷ [])) (no-paras []);
  ids = λ id damaged. entries-ids id damaged.1;
}

-- then the mark, at its own id
marks-first : IsFirstDamage marks_wrong file.Mark (pos 1)
marks-first = record {
  damaged = (stray_mark, Contains-here stray_mark [], refl, λ sound. Contains-none sound.span.paragraph sound.span.there);
  tables = before-mark marks_wrong (before-entries marks_wrong (before-paras [] [] (stray_mark ∷ [])) (no-paras [])) no-entries;
  ids = λ id (row, c, named, unsound). subst (λ z. pos 1 ≤ℤ z) (ap (λ (m : Mark). m.id) (only stray_mark row c) ∙ named) (pos_le 1 1 (omega arith));
}

cells-ids : (caches : List ParaCells) (id : ℤ) → Some (stray_cells ∷ []) ≡ Some caches → IsDamagedCache [] [] caches id → pos 9 ≤ℤ id
cells-ids caches id is (inl (row, c, named, unsound)) =
    let own : stray_cells ∷ [] ≡ caches = same_Some _ _ is in
    let same = only stray_cells row (subst (λ (rows : List ParaCells). Contains rows row) (sym own) c) in
    subst (λ z. pos 9 ≤ℤ z) (ap (λ (r : ParaCells). r.para) same ∙ named) (pos_le 9 9 (omega arith))
cells-ids caches id is (inr ((para, c, named), none)) = absurd (Contains-none para c)

-- and the braille last
cells-first : IsFirstDamage cells_wrong file.Cache (pos 9)
cells-first = record {
  damaged = (stray_cells ∷ [], refl, inl (stray_cells, Contains-here stray_cells [], refl, λ sound. Contains-none sound.paragraph sound.there));
  tables = before-cache cells_wrong (before-mark cells_wrong (before-entries cells_wrong (before-paras [] [] []) (no-paras [])) no-entries) (no-marks []);
  ids = λ id (caches, is, damaged). cells-ids caches id is damaged;
}

-- ---- numbers of marks: a gap, and a number that two rows have

abbrev one_para : List Para
one_para = para_at (pos 1) (pos 1) [] ∷ []

abbrev mark_at : ℕ → Mark
mark_at id = mark_on id 1

sound-at : (marks : List Mark) (id : ℕ) → IsNumber (λ (m : Mark). m.id) most_marks marks (pos id) → IsSoundMarkRow one_para marks (mark_at id)
sound-at marks id number =
    let span : IsSpanned one_para (mark_at id) = record {
      paragraph = para_at (pos 1) (pos 1) [];
      there = Contains-here (para_at (pos 1) (pos 1) []) [];
      named = refl;
      start = pos_le 0 0 (omega arith);
      ordered = pos_le 0 0 (omega arith);
      stop = pos_le 0 (length (chars [])) (omega arith);
    } in
    let short : length (chars []) ≤ most_note = omega (arith, no-characters) in
    search (inl, number, span, short, unbarred-empty)

abbrev gap : List Mark
gap = mark_at 1 ∷ mark_at 3 ∷ []

abbrev twice : List Mark
twice = mark_at 1 ∷ mark_at 2 ∷ mark_at 2 ∷ []

gap-unsound : ¬ IsSoundMarkRow one_para gap (mark_at 3)
gap-unsound sound =
    elim sound.number.next [
      | inl first ↦ let same = same_number 3 1 first in omega (arith, same)
      | inr (row, c, next) ↦ elim (Contains-cases (mark_at 1) row (mark_at 3 ∷ []) c) [
        | inl one ↦ let up : pos 2 ≡ pos 3 = ap (λ (m : Mark). m.id +ℤ pos 1) one ∙ next in let same = same_number 2 3 up in omega (arith, same)
        | inr later ↦ let up : pos 4 ≡ pos 3 = ap (λ (m : Mark). m.id +ℤ pos 1) (only (mark_at 3) row later) ∙ next in let same = same_number 4 3 up in omega (arith, same)
      ]
    ]

-- a gap is reported at the row after it
gap-reported : IsDamagedMark one_para gap (pos 3)
gap-reported = (mark_at 3, Contains-behind (mark_at 1) (mark_at 3) (mark_at 3 ∷ []) (Contains-here (mark_at 3) []), refl, gap-unsound)

-- and only there
gap-only : (id : ℤ) → IsDamagedMark one_para gap id → id ≡ pos 3
gap-only id (row, c, named, unsound) =
    elim (Contains-cases (mark_at 1) row (mark_at 3 ∷ []) c) [
      | inl same ↦ absurd (unsound (subst (IsSoundMarkRow one_para gap) same (sound-at gap 1 (record { within = (pos_le 1 1 (omega arith), pos_le 1 most_marks (omega arith)); once = refl; next = inl refl }))))
      | inr later ↦ sym named ∙ ap (λ (m : Mark). m.id) (sym (only (mark_at 3) row later))
    ]

-- a number that two rows have is reported
twice-reported : IsDamagedMark one_para twice (pos 2)
twice-reported = (
  mark_at 2,
  Contains-behind (mark_at 1) (mark_at 2) (mark_at 2 ∷ mark_at 2 ∷ []) (Contains-here (mark_at 2) (mark_at 2 ∷ [])),
  refl,
  λ sound. let one : 2 ≡ 1 = sound.number.once in omega (arith, one),
)

-- and no other
twice-only : (id : ℤ) → IsDamagedMark one_para twice id → id ≡ pos 2
twice-only id (row, c, named, unsound) =
    elim (Contains-cases (mark_at 1) row (mark_at 2 ∷ mark_at 2 ∷ []) c) [
      | inl same ↦ absurd (unsound (subst (IsSoundMarkRow one_para twice) same (sound-at twice 1 (record { within = (pos_le 1 1 (omega arith), pos_le 1 most_marks (omega arith)); once = refl; next = inl refl }))))
      | inr later ↦ sym named ∙ ap (λ (m : Mark). m.id) (sym (elim (Contains-cases (mark_at 2) row (mark_at 2 ∷ []) later) [ inl same ↦ same | inr last ↦ only (mark_at 2) row last ]))
    ]

-- ---- a place that two paragraphs have: the smaller id keeps it, and it is reported at the greater; whatever
-- table they name

module _ (tab : Tab) (meaning : Meaning) (means : Means tab.body meaning) where
  abbrev one_place : List Para
  one_place = para_at (pos 2) (pos 1) tab.name ∷ para_at (pos 1) (pos 1) tab.name ∷ []

  either-id : (row : Para) → Contains one_place row → (para_at (pos 2) (pos 1) tab.name ≡ row) ⊎ (para_at (pos 1) (pos 1) tab.name ≡ row)
  either-id row c =
      elim (Contains-cases (para_at (pos 2) (pos 1) tab.name) row (para_at (pos 1) (pos 1) tab.name ∷ []) c) [
        | inl same ↦ inl same
        | inr later ↦ inr (only (para_at (pos 1) (pos 1) tab.name) row later)
      ]

  empty-text : IsPrintText (chars [])
  empty-text = (omega (arith, no-characters), unbarred-empty)

  -- the smaller id's row is sound
  place-kept : IsSoundParaRow (tab ∷ []) one_place (para_at (pos 1) (pos 1) tab.name)
  place-kept = record {
    number = record { within = (pos_le 1 1 (omega arith), pos_le 1 most_paragraphs (omega arith)); once = refl; next = inl refl };
    place = (pos_le 1 1 (omega arith), pos_le 1 2 (omega arith));
    own = λ other c same. elim (either-id other c) [
      | inl second ↦ subst (λ (p : Para). pos 1 ≤ℤ p.id) second (pos_le 1 2 (omega arith))
      | inr first ↦ subst (λ (p : Para). pos 1 ≤ℤ p.id) first (pos_le 1 1 (omega arith))
    ];
    original = empty-text;
    print = empty-text;
    meaning = meaning;
    table = record { table = tab; there = Contains-here tab []; named = refl; means = means };
    defined = λ i within. absurd (omega (arith, within, no-characters));
    style = inl refl;
    volume = inl refl;
    struck = inl refl;
  }

  place-reported : IsDamagedPara (tab ∷ []) one_place (pos 2)
  place-reported = (
    para_at (pos 2) (pos 1) tab.name,
    Contains-here (para_at (pos 2) (pos 1) tab.name) (para_at (pos 1) (pos 1) tab.name ∷ []),
    refl,
    λ sound.
        let first = Contains-behind (para_at (pos 2) (pos 1) tab.name) (para_at (pos 1) (pos 1) tab.name) (para_at (pos 1) (pos 1) tab.name ∷ []) (Contains-here (para_at (pos 1) (pos 1) tab.name) []) in
        let smaller = le_from 2 1 (sound.own (para_at (pos 1) (pos 1) tab.name) first refl) in
        omega (arith, smaller),
  )

  place-only : (id : ℤ) → IsDamagedPara (tab ∷ []) one_place id → id ≡ pos 2
  place-only id (row, c, named, unsound) =
      elim (either-id row c) [
        | inl second ↦ sym named ∙ ap (λ (p : Para). p.id) (sym second)
        | inr first ↦ absurd (unsound (subst (IsSoundParaRow (tab ∷ []) one_place) first place-kept))
      ]
