-- What a statement that puts rows does to the contents.
use Rattle.std.proofs.Common.{◌≡◌, ◌++◌, inl, inr, true, false, List, [], ◌∷◌, map, Ok, Err, IfErr, OnOk, refl, sym, subst, ◌∙◌, bytes_eq, Result}
use Rattle.sqlite_trees.specs.Tree.{Trees}
use Rattle.sqlite_trees.specs.declared.store.Store.{Ghosts}
use Rattle.sqlite_trees.proofs.ListLemmas.{all_both}
use Rattle.sqlite_rules.specs.Lists.{Has}
use Rattle.sqlite_rules.proofs.ListLemmas.{all_from, all_has, has_left, has_right}
use Rattle.std.proofs.lemmas.List.Sums.{fold_push}
use Rattle.sqlite_catalog.specs.Listing.{IsSound}
use Rattle.sqlite.specs.declared.error.Error.{Error}
use Rattle.sqlite.specs.Effect.{Database}
use Rattle.sqlite.specs.Held.{Held, state}
use Rattle.sqlite.specs.State.{State}
use Rattle.sqlite.proofs.InsideLemmas.{inside_keeps}
use Rattle.desk_parts.specs.declared.file_table.FileTable.{FileTable}
use Rattle.desk_parts.specs.declared.file_table.FileTable.TheVariants as tables
use Rattle.desk_parts.specs.declared.rows.BookRow.{BookRow}
use Rattle.desk_parts.specs.Puts.{PutRow, RowPut, change_of, table_put}
use Rattle.sql_tables.specs.Rows.{HaveRowids, Lists, columns_at}
use Rattle.sql_tables.proofs.Declaring.{has_table}
use Rattle.sql_tables.proofs.PutLists.{apart, differ}
use Rattle.sql_tables.proofs.Running.{Wrote}
use Rattle.sql_tables.proofs.Writing.{Spares}
use Rattle.desk_rows.specs.Descriptions.{description_of, table_of}
use Rattle.desk_rows.specs.Layout.{Layout}
use Rattle.desk_rows.specs.Contents.{Contents}
use Rattle.desk_rows.specs.Puts.{IsPut, PutsAll, RunsTo, put_into, puts_into, statement}
use Rattle.desk_rows.specs.Statements.{FailsWith, Ran, RunInTurn}
use Rattle.desk_rows.specs.Rows.{columns_of, set_at}
use Rattle.desk_parts.specs.Rows.{RowOf}
use Rattle.desk_rows.specs.States.{IsFile, IsUnder}
use Rattle.desk_rows.proofs.RowPuts.PutTables.{does}

-- ---- each table

-- What holds of the rows of one table once they are changed, and of the rows of the others, holds of all.
pub each_set : (P : (v : FileTable) → List (RowOf v) → Type 0) (t : FileTable) (f : List (RowOf t) → List (RowOf t))
    (rows : (v : FileTable) → List (RowOf v)) → P t (f (rows t))
    → (v : FileTable) → (bytes_eq (description_of v).name (description_of t).name ≡ false → P v (rows v)) → P v (set_at t f rows v)
each_set P tables.Book f rows own tables.Book other = own
each_set P tables.Tab f rows own tables.Tab other = own
each_set P tables.Para f rows own tables.Para other = own
each_set P tables.Corr f rows own tables.Corr other = own
each_set P tables.Mark f rows own tables.Mark other = own
each_set P tables.Cache f rows own tables.Cache other = own
each_set P tables.NamedCorr f rows own tables.NamedCorr other = own
each_set P t f rows own v other = other refl

-- ---- all tables

module _ (l : Layout) (c : Contents) (old new : Trees) (h : IsFile l c old) where
  -- the rows of one table change, and others stay
  pub holds : (table : FileTable) (f : List (RowOf table) → List (RowOf table)) → l.has table ≡ true → IsSound l.schema new → Spares l.schema (l.tree table) old new → Lists (columns_of table) (columns_at (description_of table).own) (f (c.rows table)) (new (l.tree table)) → ((description_of table).is_changed ≡ true → HaveRowids (new (l.tree table)))
      → IsFile l (record c { rows = set_at table f c.rows }) new
  holds table f there sound spares lists ids =
      let stays = λ (v : FileTable) (is : l.has v ≡ true) (other : bytes_eq (description_of v).name (description_of table).name ≡ false).
      all_has _ l.schema.tables (table_of v (l.tree v)) spares.tables (has_table l.schema (table_of v (l.tree v)) (h.declared v is))
      (apart l.schema (table_of v (l.tree v)) (table_of table (l.tree table)) (h.declared v is) (h.declared table there) (differ (description_of v).name (description_of table).name other)) in record {
        declared = h.declared;
        sound = sound;
        tables = λ v. each_set (λ v xs. l.has v ≡ true → Lists (columns_of v) (columns_at (description_of v).own) xs (new (l.tree v))) table f c.rows (λ _. lists) v
            (λ other has. rw (stays v has other) (h.tables v has));
        ids = λ v. each_set (λ v _. l.has v ≡ true → (description_of v).is_changed ≡ true → HaveRowids (new (l.tree v))) table f c.rows (λ _. ids) v
            (λ other has. rw (stays v has other) (h.ids v has));
        others = all_both _ _ _ (λ t had spared other. spared (other table there) ∙ had other) l.schema.tables h.others spares.tables;
        aside = λ t other none. spares.aside t (other table there) none ∙ h.aside t other none;
      }

goes_on : (old new : State) (l : Layout) (c next : Contents) (committed : _) → IsUnder committed l c old → Wrote old new → IsFile l next new.now.trees → IsUnder committed l next new
goes_on old new l c next committed was wrote all = record {
  shows = record {
    schema = wrote.schema ∙ was.shows.schema;
    is = all;
  };
  inside = wrote.shown.mode ∙ was.inside;
  over = (rw was.inside at wrote.shown.committed_is) ∙ was.over;
}

module _ (it : RowPut) (old new : State) where
  -- its statement ran, or failed
  pub put_ran : (r : Result (Unit {0}) Error) → RunsTo r (statement it).text (statement it).params old new → IsPut r it old new
  put_ran (Ok v) (count, h) = record {
    put = λ committed l c there was.
        let t = table_put it in
        let file = was.shows.is in
        let did = does it l.schema (l.tree t) (file.declared t there) old new count (c.rows t) was.shows.schema file.sound (file.ids t there) (file.tables t there) h.0 in
        let sound = subst (λ s. IsSound s new.now.trees) (did.wrote.schema ∙ was.shows.schema) did.wrote.sound in
        goes_on old new l c (put_into c it) committed was did.wrote (holds l c old.now.trees new.now.trees file t (change_of it) there sound did.spares did.lists did.ids);
    ran = (count, h);
    is_open = h.1.was_open;
    inside = h.1.mode;
    kept = inside_keeps old new 0 false (statement it).text (statement it).params (Ok count) h;
    reported = λ was. tt;
  }
  put_ran (Err e) ran = record { put = λ committed l c there was. tt; ran = tt; is_open = tt; inside = tt; kept = ran.0; reported = λ was. inl (ran.1 was) }

module _ (x : BookRow) (old new : State) where
  pub puts_row : (r : Result (Unit {0}) Error) → IsPut r (PutRow tables.Book x) old new → OnOk r (PutsAll (PutRow tables.Book x ∷ []) old new × Ran (statement (PutRow tables.Book x)) old new)
  puts_row (Ok v) it = (λ committed l c there was. it.put committed l c there.0 was, it.ran)
  puts_row (Err e) it = tt

  -- it allocates nothing of its own
  pub row_reported : (r : Result (Unit {0}) Error) → IsPut r (PutRow tables.Book x) old new → old.in_transaction ≡ true → IfErr r (FailsWith (statement (PutRow tables.Book x)) old new)
  row_reported (Ok v) it was = tt
  row_reported (Err e) it was = elim (it.reported was) [ inl failed ↦ failed | inr none ↦ absurd none.0 ]

-- ---- puts in turn

-- all of these were put by their statements
abbrev pub ArePut : {S : Type 0} → Ghosts S → List RowPut → Held S → Held S → Type 0
ArePut g puts old new = PutsAll puts (state g old) (state g new) × RunInTurn g (map statement puts) old new

-- one is put after others
pub puts_more : (xs : List RowPut) (x : RowPut) (old mid new : State) → PutsAll xs old mid
    → ((committed : Database) (l : Layout) (c : Contents) → l.has (table_put x) ≡ true → IsUnder committed l c mid → IsUnder committed l (put_into c x) new) → PutsAll (xs ++ x ∷ []) old new
puts_more xs x old mid new first last committed l c there was =
    let has : (it : RowPut) → Has (xs ++ x ∷ []) it → l.has (table_put it) ≡ true = λ it. all_has _ (xs ++ x ∷ []) it there in
    subst (λ d. IsUnder committed l d new) (sym (fold_push put_into c xs x))
    (last committed l (puts_into xs c) (has x (has_right xs (x ∷ []) x (inl refl)))
    (first committed l c (all_from _ xs (λ it among. has it (has_left xs (x ∷ []) it among))) was))
