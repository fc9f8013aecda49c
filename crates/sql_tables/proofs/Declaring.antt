-- What follows if a table is declared.
use Rattle.std.proofs.Common.{◌≡◌, inl, inr, ◌^◌, ◌<◌, true, false, nat_le, nat_lt, ◌==◌, List, [], ◌∷◌, find, Some, refl, arith}
use Rattle.std.proofs.lemmas.Bool.{lt-leb, lt-ltb}
use Rattle.std.proofs.lemmas.Bool.Decides.{nat_tests}
use Rattle.sqlite_trees.specs.Tree.{Trees}
use Rattle.sqlite_schema.specs.declared.schema.Table.{Table}
use Rattle.sqlite_schema.specs.declared.schema.Schema.{Schema}
use Rattle.sqlite_rules.specs.Lists.{Has}
use Rattle.sqlite_rules.proofs.ListLemmas.{has_got}
use Rattle.sqlite_catalog.specs.Listing.{IsSound, IsTableRow}
use Rattle.sqlite_catalog.proofs.LayoutLemmas.{zipped_left}
use Rattle.sqlite_typing.specs.Types.{table_classes, row_classes}
use Rattle.sqlite_sql.specs.Program.{overlay}
use Rattle.sql_tables.specs.Tables.{IsDeclared}

found_by_tree : (tables : List Table) (table : Table) → Has tables table → ((other : Table) → Has tables other → other.tree ≡ table.tree → other ≡ table) → find (λ t. t.tree == table.tree) tables ≡ Some table
found_by_tree [] table has alone = absurd has
found_by_tree (t ∷ ts) table has alone =
    let rest : Has ts table → find (λ t. t.tree == table.tree) ts ≡ Some table = λ later. found_by_tree ts table later (λ other has. alone other (inr has)) in
    grind (arith, nat_tests, alone t (inl refl), rest)

module _ (schema : Schema) (table : Table) (d : IsDeclared schema table) where
  pub has_table : Has schema.tables table
  has_table = has_got schema.tables d.at table d.there

  pub low_tree : (db : Trees) → IsSound schema db → table.tree < 65536
  low_tree db sound = (zipped_left IsTableRow _ schema.tables table sound.lists.listed.tables has_table).2.described.low

  below : table.tree < 65536 → nat_le (2 ^ 31) table.tree ≡ false
  below low = lt-leb (2 ^ 31) table.tree (omega arith)

  pub under : table.tree < 65536 → nat_lt table.tree (2 ^ 31) ≡ true
  under low = lt-ltb table.tree (2 ^ 31) (omega arith)

  pub classes_are : table.tree < 65536 → table_classes schema [] table.tree ≡ Some (row_classes table)
  classes_are low = rw (below low, found_by_tree schema.tables table has_table d.alone)

  -- no table of a query stands in its place
  pub uncovered : table.tree < 65536 → (db : Trees) → overlay db [] table.tree ≡ db table.tree
  uncovered low db = rw (below low)
