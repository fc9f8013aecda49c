-- What the statement that puts a braille table by its name does to `tab`, whose rowid is hidden.
use Rattle.std.proofs.Common.{◌≡◌, inl, inr, ℕ, ℤ, ◌<◌, ◌≤◌, false, ◌==◌, List, [], ◌∷◌, ◌++◌, Option, filter, drop, length, bytes_eq, not, Some, Ok, refl, sym, ap, subst, ◌∙◌}
use Rattle.sqlite_value.specs.declared.keys.Collation.TheVariants.{Binary}
use Rattle.sqlite_value.specs.declared.value.Value.TheVariants.{Null, Int, Text, Blob}
use Rattle.sqlite_value.specs.Order.{Row, column}
use Rattle.sqlite_trees.specs.Tree.{Trees, rowid, without_rowid}
use Rattle.sqlite_ast.specs.declared.Rows.{Rows}
use Rattle.sqlite_ast.specs.declared.Upsert.{Upsert}
use Rattle.sqlite_sql.specs.Term.{Term, lit, col, eval_all}
use Rattle.sqlite_schema.specs.declared.command.Command.TheVariants.{InsertOr}
use Rattle.sqlite_schema.specs.declared.command.Conflict.TheVariants.{Abort}
use Rattle.sqlite_schema.specs.declared.command.Source.TheVariants.{Values}
use Rattle.sqlite_schema.specs.declared.schema.Index.{Index}
use Rattle.sqlite_schema.specs.declared.schema.Schema.{Schema}
use Rattle.sqlite_resolve.specs.Given.{key_meant, key_at}
use Rattle.sqlite_resolve.specs.Terms.{equal}
use Rattle.sqlite_resolve.specs.Write.{places}
use Rattle.sqlite_rules.specs.Cast.{cast_row}
use Rattle.sqlite_rules.specs.Edit.{id_in, next_rowid}
use Rattle.sqlite_rules.specs.Lists.{Has}
use Rattle.sqlite_rules.proofs.ListLemmas.{all_has}
use Rattle.sqlite_rules.proofs.TableLemmas.{int_is}
use Rattle.sqlite.specs.Rows.{Written, Updates, shown}
use Rattle.sqlite_tied.specs.Compute.{everything}
use Rattle.desk_parts.specs.declared.file_table.FileTable.TheVariants as tables
use Rattle.desk_parts.specs.Puts.{put_by_key}
use Rattle.desk_parts.specs.Rows.{Tab}
use Rattle.sql_tables.specs.Rows.{HaveRowids, Lists}
use Rattle.sql_tables.specs.Tables.{IsDeclared}
use Rattle.desk_rows.specs.Descriptions.{description_of}
use Rattle.sql_tables.proofs.Declaring.{classes_are, uncovered}
use Rattle.sql_tables.proofs.Meaning.{parse_of, rows_in, clause_in, upsert_is, one_upsert}
use Rattle.desk_rows.proofs.RowPuts.Named.{tab, tab_row, tab_columns, is_its_index, key_index, gets_in_the_way, in_the_way, row_of, name_of, named, lists_put, unnamed_rows, named_rows}
use Rattle.sql_tables.proofs.Numbered.{all_find}
use Rattle.sql_tables.proofs.OneTable.{Parts, draft_of, program_on, program_is}
use Rattle.sql_tables.proofs.Parents.{AreKept}
use Rattle.sql_tables.proofs.RowLists.{only_row, rowids_stay}
use Rattle.sql_tables.proofs.Running.{Means}
use Rattle.sql_tables.proofs.ByRowid.{cast_int}
use Rattle.sql_tables.proofs.Writing.{IsPut, Ends, Spares, task, finds, puts, updates_one}

abbrev pub text : List ℕ
text = (description_of tables.Tab).put

abbrev rows : Rows
rows = rows_in (parse_of text).statement

abbrev clause : Upsert
clause = clause_in (parse_of text).statement

abbrev pub terms : List Term
terms = lit Null ∷ col 0 0 ∷ col 0 1 ∷ []

abbrev pub project : List Term
project = col 1 0 ∷ col 1 0 ∷ col 1 1 ∷ col 0 1 ∷ []

abbrev pub parts : Parts
parts = record { tests = equal Binary (col 1 0) (col 0 2) ∷ []; project = project; order = [] }

target_is : (tree : ℕ) → ((length clause.target == 0) ≡ false) × (places (tab tree) clause.target ≡ Ok (1 ∷ []))
unfolding everything
target_is tree = (refl, refl)

module _ (schema : Schema) (tree : ℕ) (d : IsDeclared schema (tab tree)) where
  key_is : key_meant schema (tab tree) clause.target ≡ Ok (Some (1 ∷ []))
  unfolding key_meant key_at
  key_is = rw ((target_is tree).0, (target_is tree).1, key_index schema tree d)

  pub means : tree < 65536 → Means schema text (InsertOr d.at Abort (Values terms 3) (record { target = Some (1 ∷ []); update = Some (program_on tree parts) } ∷ []))
  unfolding everything
  means low =
      upsert_is schema d.at (tab tree) d.named d.there refl text rows (clause ∷ []) 2 _ _
      (record { parsed = refl; statement = refl; timeless = refl }) refl refl refl
      (one_upsert schema d.at (tab tree) 2 clause (Some (1 ∷ [])) (draft_of tree parts) (program_on tree parts) refl refl key_is refl
      (program_is schema (tab tree) (classes_are schema (tab tree) d low) parts refl))

-- a row as its tree keeps it
abbrev pub stored : ℤ → Tab → Row
stored id t = Int id ∷ Text t.name ∷ Blob t.body ∷ []

cast : (id : ℤ) (t : Tab) (tree : ℕ) → cast_row (tab tree) (stored id t) ≡ stored id t
cast id t tree = rw (cast_int id)

module _ (schema : Schema) (tree : ℕ) (d : IsDeclared schema (tab tree)) (low : tree < 65536) (limit : Option ℕ) (t : Tab) (tabs : List Tab) (db after : Trees)
    (lists : Lists tab_row tab_columns tabs (db tree)) (few : length (filter (λ s. bytes_eq s.name t.name) tabs) ≤ 1) (keyed : HaveRowids (db tree)) where
  -- the rows show the table that is put in place of the one with its name, their rowids differ, and other tables have their rows
  abbrev IsTabPut : Type 0
  IsTabPut = Lists tab_row tab_columns (put_by_key (λ s. bytes_eq s.name t.name) t tabs) (after tree) × HaveRowids (after tree) × Spares schema tree db after

  concluded : (id : ℤ) → IsPut schema (tab tree) (stored id t) id db after → without_rowid id (db tree) ≡ filter (λ r. not (named t.name (tab_columns r))) (db tree) → IsTabPut
  concluded id put same =
      let listed = lists_put t tabs (db tree) lists few (stored id t) id refl refl same in
      (rw put.rows listed, rw put.rows (rowids_stay id (stored id t) refl (db tree) keyed), put.others)

  updated : (r : Row) (id : ℤ) → Has (db tree) r → rowid r ≡ Int id → column r 1 ≡ Text t.name → (w : Written) (given : Row) → given ≡ tab_row t ++ Int id ∷ shown (tab tree) (stored (next_rowid (db tree)) t)
      → Updates (task limit schema (tab tree) (tab_row t)) (program_on tree parts) given db (Ok w) → after ≡ w.trees → IsTabPut
  updated r id has number name w given is h trees =
      let there = only_row (db tree) keyed r id has number in
      let only : filter (finds parts.tests given) (db tree) ≡ r ∷ [] = all_find given 2 id (ap (λ g. column g 2) is) (db tree) keyed.integers ∙ there in
      let made : cast_row (tab tree) (drop 1 (eval_all project (given ∷ r ∷ []))) ≡ stored id t = rw (is, number, name) (cast id t tree) in
      let next : id_in (rowid (eval_all project (given ∷ r ∷ []))) ≡ id = rw number in
      let put = updates_one limit schema (tab tree) (tab_row t) d.alone parts given db r (stored id t) id w (uncovered schema (tab tree) d low db) only there made next (sym number)
      (λ i has unique on. subst (λ (i : Index). AreKept r (stored id t) i.columns) (sym (is_its_index schema tree d i has unique on)) (sym name, tt)) h in
      concluded id (subst (IsPut schema (tab tree) (stored id t) id db) (sym trees) put) (named_rows t tabs (db tree) lists few keyed r id has number name)

  pub puts_tab : Ends limit schema (tab tree) (tab_row t) (Some (1 ∷ [])) (program_on tree parts) (stored (next_rowid (db tree)) t) db after → IsTabPut
  puts_tab (inl (free, w, h, trees)) =
      let id = next_rowid (db tree) in
      let put = puts limit schema (tab tree) (tab_row t) (stored id t) (cast id t tree) id refl db w h in
      concluded id (subst (IsPut schema (tab tree) (stored id t) id db) (sym trees) put.0)
      (unnamed_rows t tabs (db tree) lists few id put.1 (λ r has name. free r has (gets_in_the_way schema tree d r (stored id t) t.name name refl)))
  puts_tab (inr (r, has, meets, w, h, trees)) =
      let new = stored (next_rowid (db tree)) t in
      let u = row_of tabs (db tree) lists r has in
      let name : column r 1 ≡ Text t.name = name_of u.0 r u.1 ∙ ap Text (in_the_way schema tree d r new u.0.name t.name (name_of u.0 r u.1) refl meets) in
      let id = id_in (rowid r) in
      let number : rowid r ≡ Int id = int_is (rowid r) (all_has _ (db tree) r keyed.integers has) in
      updated r id has number name w (tab_row t ++ rowid r ∷ shown (tab tree) new) (ap (λ v. tab_row t ++ v ∷ shown (tab tree) new) number) h trees
