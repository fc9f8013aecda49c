-- The book of a new file, and a file that has all tables of one.
use Rattle.std.proofs.Common.{◌≡◌, Bool, not, true, false, cond, if◌then◌else◌, List, [], ◌∷◌, Option, Some, None, refl, sym, subst, ◌∙◌}
use Rattle.sqlite_schema.specs.declared.schema.Schema.{Schema}
use Rattle.sqlite_trees.specs.Tree.{Trees}
use Rattle.sqlite.specs.State.{State}
use Rattle.desk_model.specs.Book.{empty_book}
use Rattle.desk_parts.specs.declared.file_table.FileTable.{FileTable}
use Rattle.desk_parts.specs.declared.file_table.FileTable.TheVariants as tables
use Rattle.desk_parts.specs.FileRows.{EntryRows, FileRows, Named, Unnamed}
use Rattle.desk_parts.specs.Rows.{ParaCells}
use Rattle.desk_model.specs.SameRows.{AreSameRows, AreSameCaches, AreSameEntries}
use Rattle.desk_model.proofs.Callers.{new-shown}
use Rattle.desk_store.specs.BookFile.{rows_of}
use Rattle.desk_store.specs.Keeping.{HasNewTables, HoldsBook, ShowsBook}
use Rattle.desk_rows.specs.Contents.{Contents}
use Rattle.desk_store.specs.Formats.{Format, IsOfFormat, IsPresent, Presence, named, needed, presence, unnamed}
use Rattle.desk_rows.specs.Layout.{Layout}
use Rattle.desk_rows.specs.Making.{IsMade, IsNew, is_among, new_layout}
use Rattle.desk_rows.proofs.Schema.MadeTables.{first_contents}
use Rattle.desk_store.proofs.Exact.{stays_there}
use Rattle.desk_store.proofs.Opened.{in_both}
use Rattle.desk_store.specs.FillingSteps.{which_lacked}
use Rattle.desk_store.specs.Completing.{lacking, missing_tables, with_missing_tables}
use Rattle.desk_rows.specs.States.{ShowsContents}
use Rattle.desk_rows.specs.Tables.{is_there}

-- ---- a new file

pub new_tables_there : (s : Schema) → HasNewTables (new_layout s)
new_tables_there s = (refl, (refl, (refl, (refl, (refl, (refl, tt))))))

pub new_shows : (old new : State) → IsNew old.now.schema old.now.trees (λ c. ShowsContents (new_layout old.now.schema) c new) → ShowsBook (new_layout old.now.schema) empty_book new
new_shows old new is = (first_contents is.0, is.4, new-shown)

pub made_holds : (s : State) (db : Trees) → IsMade s db → HoldsBook (new_layout s.now.schema) empty_book db
made_holds s db is = (first_contents is.1.0, is.1.4, new-shown)

-- ---- a file with all tables of a new one

-- those that it lacks, by whether it has a table for entries with names and one for cells
abbrev missing : (names cells : Bool) → List FileTable
missing names cells = cond (not cells) (tables.Cache ∷ cond (not names) (tables.NamedCorr ∷ []) []) (cond (not names) (tables.NamedCorr ∷ []) [])

gains : (names cells : Bool) → ((if is_among (missing names cells) tables.Cache then true else cells) ≡ true)
    × ((if is_among (missing names cells) tables.NamedCorr then true else names) ≡ true)
gains false false = (refl, refl)
gains false true = (refl, refl)
gains true false = (refl, refl)
gains true true = (refl, refl)

pub completed_tables : (f : Format) (l : Layout) → IsOfFormat f l → HasNewTables (with_missing_tables l)
completed_tables f l of =
    let has : (t : FileTable) → presence unnamed t ≡ needed → presence named t ≡ needed → (with_missing_tables l).has t ≡ true = λ t first second.
    let is = in_both f t (first ∙ sym second) ∙ second in
    stays_there (is_among (missing_tables l) t) (l.has t) (subst (λ (p : Presence). IsPresent p (l.has t) (is_there l.schema t)) is (of t)).1 in
    let gained = gains (l.has tables.NamedCorr) (l.has tables.Cache) in
    (has tables.Book refl refl, (has tables.Tab refl refl, (has tables.Para refl refl, (has tables.Mark refl refl, (gained.0, (gained.1, tt))))))

-- ---- what the rows say of it

pub lacked_rows : (l : Layout) (c : Contents) → which_lacked (lacking (rows_of l c).entries (rows_of l c).caches) ≡ missing_tables l
lacked_rows l c = by_tables (l.has tables.NamedCorr) (l.has tables.Cache)
  where
    by_tables : (names cells : Bool)
        → which_lacked (lacking (if names then Named (c.rows tables.NamedCorr) else Unnamed (c.rows tables.Corr)) (if cells then Some (c.rows tables.Cache) else None)) ≡ missing names cells
    by_tables false false = refl
    by_tables false true = refl
    by_tables true false = refl
    by_tables true true = refl

same_entries : (x y : EntryRows) (p : Option (List ParaCells)) → AreSameEntries x y → lacking x p ≡ lacking y p
same_entries (Unnamed x) (Unnamed y) None same = refl
same_entries (Unnamed x) (Unnamed y) (Some p) same = refl
same_entries (Named x) (Named y) None same = refl
same_entries (Named x) (Named y) (Some p) same = refl
same_entries x y p same = absurd same

same_cells : (x : EntryRows) (p q : Option (List ParaCells)) → AreSameCaches p q → lacking x p ≡ lacking x q
same_cells x None None same = refl
same_cells (Unnamed x) (Some p) (Some q) same = refl
same_cells (Named x) (Some p) (Some q) same = refl
same_cells x p q same = absurd same

pub lacked_same : (a b : FileRows) → AreSameRows a b → lacking a.entries a.caches ≡ lacking b.entries b.caches
lacked_same a b same =
    same_entries a.entries b.entries a.caches same.entries ∙ same_cells b.entries a.caches b.caches same.caches
