-- What is reported of the parts of a book's file, and the book that is made of them.
use Rattle.std.proofs.Common.{◌≡◌, ℕ, ◌≤◌, ℤ, pos, List, [], ◌∷◌, get_or, map, SFits, to_z, of_z, w64, refl, sym, ap, subst, ◌∙◌, arith, All, flat_map}
use Rattle.std.proofs.lemmas.Int.{to_z-of_z}
use Rattle.std.proofs.lemmas.List.Elements.{All-contains}
use Rattle.std.proofs.lemmas.Option.{slice_get-get_or}
use Rattle.desk_memory.specs.declared.marks.HeldMark.{HeldMark}
use Rattle.desk_memory.specs.declared.paragraphs.Paragraph.{Paragraph as HeldParagraph}
use Rattle.desk_parts.specs.declared.file_table.FileTable.{FileTable}
use Rattle.desk_parts.specs.declared.file_table.FileTable.TheVariants.{Book, Tab, Para, Mark, Cache}
use Rattle.desk_parts.specs.declared.parts.Parts.{Parts}
use Rattle.desk_model.specs.declared.fault.PartsFault.{PartsFault}
use Rattle.desk_parts.specs.declared.rows.BookRow.{BookRow}
use Rattle.desk_model.specs.Damage.{HasItsTables, IsDamaged, IsDamagedEntries, IsDamagedMark, IsDamagedPara, IsDamagedTab, IsWithin}
use Rattle.desk_parts.specs.declared.file_table.FileTable.TheVariants as file
use Rattle.desk_parts.specs.FileRows.{AreTexts, EntryRows, FileRows, HasUtf8Texts, Named, Unnamed, entries_in, format_of, table_of}
use Rattle.desk_rebuild.specs.Faults.{IsDamagedBraille, TellsDamageOf}
use Rattle.desk_rebuild.specs.Rows.{AreInPlaces, AreMarksOf, AreOf, AreTables, HasCells, HasHistory, HaveMarks, IsWhole, without_cells, without_history, without_marks}
use Rattle.desk_memory.specs.Held.{HeldTables, IsHeld, book_held, paragraph_with_id}
use Rattle.desk_model.specs.Limits.{most_version}
use Rattle.desk_model.specs.Rebuilding.{IsFaultOf}
use Rattle.desk_parts.specs.Parts.{rows_in}
use Rattle.desk_parts.specs.Rows.{Para as ParaRow}
use Rattle.desk_model.specs.Shows.{Shows}
use Rattle.desk_model.proofs.Damage.FirstDamage.{IsWholeBefore, before-cache, before-entries, before-mark, before-para, before-tab, no-damage}
use Rattle.desk_rebuild.proofs.FirstTables.{entries-damaged, first-fault}
use Rattle.desk_rebuild.proofs.JoinedBook.{is_held, shown}
use Rattle.desk_model.proofs.Lists.Items.{Contains-there}
use Rattle.desk_rebuild.proofs.HeldRows.{AreOf-same, HaveMarks-same, histories-same, less-same, plain, same-at, reported}
use Rattle.desk_model.proofs.Lists.RowNumbers.{pos_le}

-- ---- held paragraphs, while histories, marks and braille are read of them

pub of-with_history : (paras : List ParaRow) (items others : List HeldParagraph) → map without_history others ≡ map without_history items → AreOf paras items → AreOf paras others
of-with_history paras items others same = AreOf-same items others (less-same without_history plain plain (λ x. refl) items others (sym same)) paras

pub of-with_marks : (paras : List ParaRow) (items others : List HeldParagraph) → map without_marks others ≡ map without_marks items → AreOf paras items → AreOf paras others
of-with_marks paras items others same = AreOf-same items others (less-same without_marks plain plain (λ x. refl) items others (sym same)) paras

pub of-with_cells : (paras : List ParaRow) (items others : List HeldParagraph) → map without_cells others ≡ map without_cells items → AreOf paras items → AreOf paras others
of-with_cells paras items others same = AreOf-same items others (less-same without_cells plain plain (λ x. refl) items others (sym same)) paras

-- no marks are there after the histories were read, where none were before
pub unmarked-with_history : (items others : List HeldParagraph) → map without_history others ≡ map without_history items
    → All (λ held. held.marks ≡ []) items → All (λ held. held.marks ≡ []) others
unmarked-with_history items others same none k d within =
    let other = same-at without_history others items same k (get_or others k d) (slice_get-get_or others k d within) in
    ap (λ (held : HeldParagraph). held.marks) other.2
    ∙ All-contains (λ (held : HeldParagraph). held.marks ≡ []) items other.0 none (Contains-there items k other.0 other.1)

-- ---- what is reported

-- the version that is read, as the row has it
pub version-read : (parts : Parts) → SFits w64 parts.version → (version : ℕ)
    → IsWithin 0 most_version (to_z w64 (of_z w64 parts.version)) × (pos version ≡ to_z w64 (of_z w64 parts.version))
    → IsWithin 0 most_version parts.version × (pos version ≡ parts.version)
version-read parts fits version = subst (λ z. IsWithin 0 most_version z × (pos version ≡ z)) (to_z-of_z w64 parts.version fits)

format-low : (entries : EntryRows) → 1 ≤ format_of entries
format-low (Unnamed corrs) = omega arith
format-low (Named corrs) = omega arith

module _ (parts : Parts) (within : IsWithin 0 most_version parts.version) where
  abbrev rows : FileRows
  rows = rows_in parts

  no-book : IsWhole (IsDamaged rows Book)
  no-book id (one, unsound) =
      let row : BookRow = record { id = pos 1; format = pos (format_of rows.entries); version = parts.version } in
      unsound (row, refl, record { id = refl; format = pos_le 1 (format_of rows.entries) (format-low rows.entries); version = within })

  its-tables : HasItsTables rows
  its-tables row is format =
      let own : BookRow = record { id = pos 1; format = pos (format_of rows.entries); version = parts.version } in
      let same : own ≡ row = cc in
      ap (λ (r : BookRow). r.format) (sym same)

  pub tab-fault : (fault : PartsFault) → TellsDamageOf Tab (IsDamagedTab rows.tabs) fault → IsFaultOf rows fault
  tab-fault = first-fault rows Tab (before-tab rows no-book)

  module _ (no_tab : IsWhole (IsDamagedTab rows.tabs)) where
    before_para : IsWholeBefore rows Para
    before_para = before-para rows (before-tab rows no-book) no_tab

    pub para-fault : (fault : PartsFault) → TellsDamageOf Para (IsDamagedPara rows.tabs rows.paras) fault → IsFaultOf rows fault
    para-fault = first-fault rows Para before_para

    module _ (no_para : IsWhole (IsDamagedPara rows.tabs rows.paras)) where
      before_entries : IsWholeBefore rows (table_of rows.entries)
      before_entries = before-entries rows before_para no_para

      pub entry-fault : (fault : PartsFault) → TellsDamageOf (table_of rows.entries) (IsDamagedEntries rows.paras (entries_in rows.entries)) fault → IsFaultOf rows fault
      entry-fault fault reported = first-fault rows (table_of rows.entries) before_entries fault (entries-damaged rows fault reported)

      module _ (no_entry : IsWhole (IsDamagedEntries rows.paras (entries_in rows.entries))) where
        before_mark : IsWholeBefore rows Mark
        before_mark = before-mark rows before_entries no_entry

        pub mark-fault : (fault : PartsFault) → TellsDamageOf Mark (IsDamagedMark rows.paras rows.marks) fault → IsFaultOf rows fault
        mark-fault = first-fault rows Mark before_mark

        module _ (no_mark : IsWhole (IsDamagedMark rows.paras rows.marks)) where
          before_cache : IsWholeBefore rows Cache
          before_cache = before-cache rows before_mark no_mark

          pub cache-fault : (fault : PartsFault) → TellsDamageOf Cache (IsDamagedBraille rows.tabs rows.paras rows.caches) fault → IsFaultOf rows fault
          cache-fault = first-fault rows Cache before_cache

          module _ (no_cache : IsWhole (IsDamagedBraille rows.tabs rows.paras rows.caches)) where
            none : (table : FileTable) (id : ℤ) → ¬ IsDamaged rows table id
            none = no-damage rows before_cache no_cache

            -- ---- what is made

            module _ (version : ℕ) (is_version : pos version ≡ parts.version) (tables : HeldTables) (are_tables : AreTables rows.tabs tables)
                (read with_history with_marks items : List HeldParagraph) (order : List ℕ) (of : AreOf rows.paras read) (places : AreInPlaces rows.paras order)
                (entry_texts : All (HasUtf8Texts file.NamedCorr) (entries_in rows.entries)) (histories : All (HasHistory (entries_in rows.entries) with_history) rows.paras)
                (same_history : map without_history with_history ≡ map without_history read)
                (mark_texts : All (HasUtf8Texts file.Mark) rows.marks) (marks : List HeldMark) (are_marks : AreMarksOf rows.marks marks) (have_marks : HaveMarks marks with_marks)
                (same_marks : map without_marks with_marks ≡ map without_marks with_history)
                (cells : All (HasCells rows.tabs items) rows.paras) (same_cells : map without_cells items ≡ map without_cells with_marks) where
              texts : AreTexts rows
              texts = record { tabs = are_tables.texts; paras = of.texts; entries = entry_texts; marks = mark_texts }

              versioned : (row : BookRow) → rows.books ≡ row ∷ [] → row.version ≡ pos version
              versioned row is =
                  let own : BookRow = record { id = pos 1; format = pos (format_of rows.entries); version = parts.version } in
                  let same : own ≡ row = cc in
                  ap (λ (r : BookRow). r.version) (sym same) ∙ sym is_version

              are_of : AreOf rows.paras items
              are_of = of-with_cells rows.paras with_marks items same_cells (of-with_marks rows.paras with_history with_marks same_marks (of-with_history rows.paras read with_history same_history of))

              have_histories : All (HasHistory (entries_in rows.entries) items) rows.paras
              have_histories =
                  histories-same with_marks items (less-same without_cells reported reported (λ x. refl) with_marks items (sym same_cells)) (entries_in rows.entries) rows.paras
                  (histories-same with_history with_marks (less-same without_marks reported reported (λ x. refl) with_history with_marks (sym same_marks)) (entries_in rows.entries) rows.paras histories)

              have_all_marks : HaveMarks marks items
              have_all_marks = HaveMarks-same marks with_marks items (sym same_cells) have_marks

              pub made : IsHeld version tables (flat_map (paragraph_with_id items) order) marks
                  × Shows rows (book_held version tables (flat_map (paragraph_with_id items) order) marks)
              made = (
                is_held rows texts its-tables none version versioned tables are_tables items order are_of places have_histories cells marks are_marks have_all_marks,
                shown rows texts its-tables none version versioned tables are_tables items order are_of places have_histories cells marks are_marks have_all_marks,
              )
