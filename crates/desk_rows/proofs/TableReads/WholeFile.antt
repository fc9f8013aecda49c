-- A file has one contents, which are the rows that were read of it.
use Rattle.std.proofs.Common.{◌≡◌, ◌≤◌, List, map, true, refl, sym, subst, subst₂, ◌∙◌, ◌↔◌, IsPermutation}
use Rattle.std.specs.Ordering.{int_eq}
use Rattle.std.proofs.lemmas.Bool.Decides.{Decides-int_eq}
use Rattle.std.proofs.lemmas.List.Sorted.{IsPermutation-map}
use Rattle.sqlite_trees.proofs.ListLemmas.{all_both, all_of}
use Rattle.sqlite_value.specs.Order.{Row}
use Rattle.sqlite_trees.specs.Tree.{Trees}
use Rattle.sqlite_catalog.specs.Listing.{IsSound}
use Rattle.desk_parts.specs.declared.file_table.FileTable.{FileTable}
use Rattle.desk_parts.specs.declared.file_table.FileTable.TheVariants as tables
use Rattle.desk_parts.specs.Rows.{StoredTab}
use Rattle.sql_tables.specs.Rows.{HaveRowids, Lists, columns_at}
use Rattle.sql_tables.specs.Tables.{IsDeclared}
use Rattle.sql_tables.proofs.Apart.{apart, as_many, have_rowids}
use Rattle.sql_tables.proofs.RowLists.{other_order}
use Rattle.desk_rows.specs.Contents.{Contents}
use Rattle.desk_rows.specs.Descriptions.{description_of, table_of}
use Rattle.desk_rows.specs.Layout.{Layout}
use Rattle.desk_rows.specs.Rows.{ShownOf, columns_of, own, shown_columns}
use Rattle.desk_rows.specs.States.{IsFile}
use Rattle.desk_rows.specs.Whole.{HaveSameRows, Rows, AreRows, AreApart, DifferBy, DifferIn, contents_of}
use Rattle.desk_rows.proofs.TableReads.Answering.{maps_own, maps_shown, own_of}
use Rattle.desk_rows.proofs.TableReads.OneList.{one_list}

same_rows : (l : Layout) (c d : Contents) (db : Trees) → IsFile l c db → IsFile l d db → HaveSameRows l c d
same_rows l c d db p q = record {
  tables = λ t is. one_list t (columns_at (description_of t).own) _ _ _ (p.tables t is) (q.tables t is);
  others = all_both _ _ _ (λ t had has other. sym (had other) ∙ has other) l.schema.tables p.others q.others;
  aside = λ tree other none. sym (p.aside tree other none) ∙ q.aside tree other none;
}

file_too : (l : Layout) (c d : Contents) (db : Trees) → IsFile l c db → HaveSameRows l c d → IsFile l d db
file_too l c d db p same = record {
  declared = p.declared;
  sound = p.sound;
  tables = λ t is. other_order (columns_of t) (columns_at (description_of t).own) _ _ _ (same.tables t is) (p.tables t is);
  ids = p.ids;
  others = all_both _ _ _ (λ t had is other. had other ∙ is other) l.schema.tables p.others same.others;
  aside = λ tree other none. p.aside tree other none ∙ same.aside tree other none;
}

pub one_contents : (l : Layout) (c d : Contents) (db : Trees) → IsFile l c db → (IsFile l d db ↔ HaveSameRows l c d)
one_contents l c d db is = (
  (λ other. same_rows l c d db is other),
  (λ same. file_too l c d db is same),
)

-- ---- what was read

-- the rows that the query shows, without the rowid if it isn't the row's own
pub own_listed : (t : FileTable) (xs : List (ShownOf t)) (rows : List Row) → Lists (shown_columns t) (columns_at (description_of t).shown) xs rows → Lists (columns_of t) (columns_at (description_of t).own) (map (own t) xs) rows
own_listed t xs rows lists = subst₂ IsPermutation (maps_shown t (λ x. x) xs) (maps_own t rows) (IsPermutation-map (own_of t) _ _ lists)

ids_of : (t : FileTable) (xs : List (ShownOf t)) (rows : List Row) → Lists (shown_columns t) (columns_at (description_of t).shown) xs rows → DifferIn t xs → (description_of t).is_changed ≡ true → HaveRowids rows
ids_of tables.Corr xs rows lists apart changed = absurd (cc)
ids_of tables.NamedCorr xs rows lists apart changed = absurd (cc)
ids_of t xs rows lists apart changed = have_rowids (shown_columns t) (columns_at (description_of t).shown) _ (λ x. refl) (λ r. refl) xs rows lists apart

pub is_file : (l : Layout) (rows : Rows) (db : Trees) → ((t : FileTable) → l.has t ≡ true → IsDeclared l.schema (table_of t (l.tree t))) → IsSound l.schema db → AreRows l rows db → AreApart rows
    → IsFile l (contents_of rows db) db
is_file l rows db declared sound are apart = record {
  declared = declared;
  sound = sound;
  tables = λ t is. own_listed t (rows t) (db (l.tree t)) (are t is);
  ids = λ t is. ids_of t (rows t) (db (l.tree t)) (are t is) (apart t);
  others = all_of _ (λ t other. refl) l.schema.tables;
  aside = λ tree other none. refl;
}

-- the rowids of the braille tables of a file differ
pub tabs_apart : (l : Layout) (c : Contents) (db : Trees) → IsFile l c db → l.has tables.Tab ≡ true → (xs : List StoredTab) → Lists (shown_columns tables.Tab) (columns_at (description_of tables.Tab).shown) xs (db (l.tree tables.Tab)) → DifferBy (λ (s : StoredTab). s.rowid) xs
tabs_apart l c db is there xs lists =
    apart int_eq Decides-int_eq (λ (t : StoredTab). t.rowid) xs (λ id.
    subst (λ n. n ≤ 1) (as_many (shown_columns tables.Tab) (columns_at (description_of tables.Tab).shown) (λ (t : StoredTab). t.rowid) (λ t. refl) (λ r. refl) id xs _ lists) ((is.ids tables.Tab there refl).once id))
