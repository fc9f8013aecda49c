-- Which tables are there once some are made.
use Rattle.std.proofs.Common.{◌≡◌, ℕ, Bool, ◌||◌, List, [], ◌∷◌, true, false, cond, if◌then◌else◌, bytes_eq, is_some, None, Some, refl, ap, sym, ◌∙◌}
use Rattle.sqlite.specs.Does.{lacks_sequence}
use Rattle.sqlite_catalog.specs.Change.{created, next_tree}
use Rattle.sqlite_schema.specs.Names.{same_name}
use Rattle.sqlite_schema.specs.declared.schema.Schema.{Schema}
use Rattle.sqlite_schema.specs.declared.schema.Table.{Table}
use Rattle.desk_parts.specs.declared.file_table.FileTable.{FileTable}
use Rattle.desk_parts.specs.declared.file_table.FileTable.TheVariants as tables
use Rattle.sql_tables.proofs.Creating.{is_in_both}
use Rattle.sql_tables.specs.Making.{first_created}
use Rattle.sql_tables.specs.Tables.{counter}
use Rattle.desk_rows.specs.Descriptions.{description_of, table_of}
use Rattle.desk_store.specs.Formats.{IsExact}
use Rattle.desk_rows.specs.Layout.{Layout}
use Rattle.desk_rows.specs.Making.{after, is_among, with_tables}
use Rattle.desk_rows.specs.Tables.{is_there}

-- our names are the same only where they are equal, and none is that of the counter
same_as_equal : (t other : FileTable) → same_name (description_of t).name (description_of other).name ≡ bytes_eq (description_of t).name (description_of other).name
unfolding same_name
same_as_equal tables.Book tables.Book = refl
same_as_equal t tables.Book = refl
same_as_equal t other = refl

no_counter : (other : FileTable) → same_name (counter 0).name (description_of other).name ≡ false
unfolding same_name
no_counter tables.Book = refl
no_counter other = refl

-- the test of the last one, put before that of the others
lasts : (a b c d : Bool) (i : ℕ) → a ≡ (b || is_some (cond c (Some i) None)) → (a || d) ≡ (c || (b || d))
lasts a true true d i is = ap (λ x. x || d) is
lasts a b true d i is = ap (λ x. x || d) is
lasts a b c d i is = ap (λ x. x || d) is

there_created : (s : Schema) (table : Table) (other : FileTable) → is_there (created s table) other ≡ (same_name table.name (description_of other).name || is_there s other)
there_created s table other =
    lasts _ _ (same_name table.name (description_of other).name) _ _
    (is_in_both (λ (t : Table). same_name t.name (description_of other).name) s.tables (record table { tree = next_tree s } ∷ []) 0)

there_made : (s : Schema) (t other : FileTable) → is_there (created s (table_of t 0)) other ≡ (bytes_eq (description_of t).name (description_of other).name || is_there s other)
there_made s t other = there_created s (table_of t 0) other ∙ ap (λ b. b || is_there s other) (same_as_equal t other)

there_counted : (s : Schema) (other : FileTable) → is_there (created s (counter 0)) other ≡ is_there s other
there_counted s other = there_created s (counter 0) other ∙ ap (λ b. b || is_there s other) (no_counter other)

there_first : (s : Schema) (t other : FileTable) → is_there (first_created s (table_of t 0)) other ≡ (bytes_eq (description_of t).name (description_of other).name || is_there s other)
there_first s t other = go (lacks_sequence s)
  where
    go : (b : Bool) → is_there (if b then created (created s (table_of t 0)) (counter 0) else created s (table_of t 0)) other ≡ (bytes_eq (description_of t).name (description_of other).name || is_there s other)
    go false = there_made s t other
    go true = there_counted (created s (table_of t 0)) other ∙ there_made s t other

turned : (a b c : Bool) → (a || (b || c)) ≡ ((b || a) || c)
turned true true c = refl
turned a true c = refl
turned a b c = refl

pub there_after : (tables : List FileTable) (s : Schema) (other : FileTable) → is_there (after tables s) other ≡ (is_among tables other || is_there s other)
there_after [] s other = refl
there_after (t ∷ tables) s other =
    there_after tables (first_created s (table_of t 0)) other ∙ ap (λ b. is_among tables other || b) (there_first s t other) ∙ turned (is_among tables other) (bytes_eq (description_of t).name (description_of other).name) (is_there s other)

either : (a b c : Bool) → b ≡ c → (if a then true else b) ≡ (a || c)
either true b c is = refl
either false b c is = is

-- a table that the layout has as it is there, it has so once others are made
pub has_as_there : (tables : List FileTable) (l : Layout) (t : FileTable) → l.has t ≡ is_there l.schema t
    → (with_tables tables l).has t ≡ is_there (after tables l.schema) t
has_as_there tables l t same =
    either (is_among tables t) (l.has t) (is_there l.schema t) same ∙ sym (there_after tables l.schema t)

-- one that it has stays
pub stays_there : (made has : Bool) → has ≡ true → (if made then true else has) ≡ true
stays_there true has is = refl
stays_there false has is = is

-- an exact layout is exact with tables that are made
pub exact_with : (tables : List FileTable) (l : Layout) → IsExact l → IsExact (with_tables tables l)
exact_with tables l is t = has_as_there tables l t (is t)
