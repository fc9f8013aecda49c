-- Tables as they are declared, and when a schema declares one so, whatever stands beside it. Names
-- are compared as written: a table named `Book` isn't `book`. A table that has a trigger, or an
-- index that the database can't read, isn't among the schema's tables, so it isn't declared.
use Rattle.std.specs.Prelude.{◌≡◌, true, false, List, [], ◌∷◌, map, Option, Some, None, codes, ℕ, filter, slice_get}
use Rattle.sqlite_value.specs.declared.keys.Collation.TheVariants.{Binary}
use Rattle.sqlite_value.specs.declared.keys.Order.{Order}
use Rattle.sqlite_value.specs.declared.value.Value.TheVariants.{Null}
use Rattle.sqlite_schema.specs.declared.schema.Kind.{Kind}
use Rattle.sqlite_schema.specs.declared.schema.Kind.TheVariants.{Any}
use Rattle.sqlite_schema.specs.declared.schema.Column.{Column}
use Rattle.sqlite_schema.specs.declared.schema.Table.{Table}
use Rattle.sqlite_schema.specs.declared.schema.Schema.{Schema}
use Rattle.sqlite_schema.specs.Names.{table_named}
use Rattle.sqlite_schema.specs.Rules.{guards}
use Rattle.sqlite_rules.specs.Lists.{Has}
use Rattle.sqlite_catalog.specs.Change.{automatics}

-- a column of this kind, which takes no NULL
abbrev pub needed : List ℕ → Kind → Column
needed name kind = record {
  name = name;
  kind = kind;
  is_strict = true;
  not_null = true;
  default = Null;
  collation = Binary;
}

-- a table with no rule but its columns' kinds and its key
abbrev pub plain_table : List ℕ → List Column → Option ℕ → List ℕ → List (List ℕ) → List Order → ℕ → Table
plain_table name columns key primary uniques orders tree = record {
  name = name;
  tree = tree;
  columns = columns;
  key = key;
  primary = primary;
  uniques = uniques;
  orders = orders;
  checks = [];
  references = [];
  computed = [];
  stamps = record { places = []; terms = []; formats = [] };
  is_counted = false;
}

-- one whose key is its first column, which is the rowid
abbrev pub numbered_table : List ℕ → List Column → ℕ → Table
numbered_table name columns = plain_table name columns (Some 0) (0 ∷ []) [] []

-- the table in which the database counts the rowids of those that are declared with AUTOINCREMENT,
-- in two columns with no type and no rule
abbrev pub counter : ℕ → Table
counter =
    plain_table (codes "sqlite_sequence")
    (map (λ name. record (needed name Any) { is_strict = false; not_null = false }) (codes "name" ∷ codes "seq" ∷ []))
    None [] [] []

-- The schema has this table under its name, in a tree that is no other table's, and no unique index
-- on it except those of its key.
pub record IsDeclared (schema : Schema) (table : Table) : Type 0 where
  pub at : ℕ
  pub named : table_named schema table.name ≡ Some at
  pub there : slice_get schema.tables at ≡ Some table
  pub alone : (other : Table) → Has schema.tables other → other.tree ≡ table.tree → other ≡ table
  pub first : ℕ
  pub indexed : filter (λ i. guards i table) schema.indexes ≡ automatics table 0 first table.uniques
