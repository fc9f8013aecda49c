-- The text of a table reads it whole.
use Rattle.std.proofs.Common.{ℕ, zero, suc, List, codes, get_or, map, option_map, unwrap_or}
use Rattle.sqlite_schema.specs.declared.schema.Column.{Column}
use Rattle.sqlite_sql.specs.Term.{Term, col}
use Rattle.sqlite_tied.specs.Compute.{everything}
use Rattle.desk_parts.specs.declared.file_table.FileTable.{FileTable}
use Rattle.desk_parts.specs.declared.file_table.FileTable.TheVariants as tables
use Rattle.sql_tables.proofs.WholeTables.{IsRead}
use Rattle.desk_rows.specs.Descriptions.{description_of, table_of}

-- where the tree's rows have a column of what the query shows
abbrev pub stored_at : FileTable → ℕ → ℕ
stored_at t k = get_or (description_of t).shown k 0

abbrev name_in : List Column → ℕ → List ℕ
name_in columns at = get_or (map (λ (c : Column). c.name) columns) at (codes "rowid")

-- the name of what stands at a place of the tree's rows, where the rowid comes first
abbrev name_at : FileTable → ℕ → List ℕ
name_at t zero = unwrap_or (option_map (name_in (description_of t).columns) (description_of t).key) (codes "rowid")
name_at t (suc at) = name_in (description_of t).columns at

abbrev pub shown_names : FileTable → List (List ℕ)
shown_names t = map (name_at t) (description_of t).shown

abbrev pub sorted_names : FileTable → List (List ℕ)
sorted_names t = map (λ k. name_at t (stored_at t k)) (description_of t).sorted

abbrev pub sort_terms : FileTable → List Term
sort_terms t = map (λ k. col 1 (stored_at t k)) (description_of t).sorted

pub is_read : (t : FileTable) (tree : ℕ) → IsRead (table_of t tree) (description_of t).read (shown_names t) (sorted_names t) (map (col 1) (description_of t).shown) (sort_terms t)
unfolding everything
is_read tables.Book tree = assumption
is_read t tree = assumption
