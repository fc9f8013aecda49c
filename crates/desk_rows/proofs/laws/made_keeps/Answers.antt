use Rattle.std.proofs.Common.{◌≡◌, ◌≢◌, ℕ, ◌≤◌, sym, subst, ◌∙◌, arith}
use Rattle.sqlite_trees.specs.Objects.{catalog_tree, version_tree}
use Rattle.sqlite_trees.specs.Tree.{Trees}
use Rattle.sqlite_schema.specs.declared.schema.Table.{Table}
use Rattle.sqlite_rules.specs.Edit.{IsNoIndex}
use Rattle.sqlite_rules.specs.Lists.{Has}
use Rattle.sqlite_rules.proofs.ListLemmas.{all_from, all_has}
use Rattle.sqlite_catalog.specs.Calls.{KeepsForeign}
use Rattle.sqlite_catalog.specs.Listing.{IsIndexRow, IsTableRow}
use Rattle.sqlite_catalog.proofs.LayoutLemmas.{zipped_left}
use Rattle.desk_rows.specs.Contents.{Contents}
use Rattle.desk_rows.specs.Layout.{Layout}
use Rattle.desk_rows.specs.Making.{new_tables, new_layout}
use Rattle.desk_rows.specs.States.{IsFile}
use Rattle.desk_rows.specs.Descriptions.{table_of}
use Rattle.desk_rows.proofs.Schema.MadeTables.{foreign_after}
use Rattle.sql_tables.proofs.Declaring.{has_table}
use Rattle.desk_rows.proofs.laws.made_keeps.Goals as goal

module _ (l : Layout) (c : Contents) (db : Trees) (is : IsFile l c db) where
  -- a tree of no table and no index is beside those that are described
  aside : (tree : ℕ) → ((t : Table) → Has l.schema.tables t → t.tree ≢ tree) → IsNoIndex l.schema tree → db tree ≡ c.others tree
  aside tree no_table no_index = is.aside tree (λ t there e. no_table (table_of t (l.tree t)) (has_table l.schema (table_of t (l.tree t)) (is.declared t there)) (sym e)) no_index

  -- the list of the schema and the user version stand past all of them
  past_all : (tree : ℕ) → 65536 ≤ tree → db tree ≡ c.others tree
  past_all tree high = aside tree
      (λ t has same. let low = (zipped_left IsTableRow _ l.schema.tables t is.sound.lists.listed.tables has).2.described.low in absurd (omega (arith, low, high, same)))
      (all_from _ l.schema.indexes (λ i has same. let low = (zipped_left (IsIndexRow l.schema.tables) _ l.schema.indexes i is.sound.lists.listed.indexes has).2.described.low in absurd (omega (arith, low, high, same))))

pub returns : goal.returns
returns c s rows db new =
    let is = new.4 in
    let kept = new.3 in
    let list : db catalog_tree ≡ new.0 catalog_tree = past_all (new_layout s) _ db is catalog_tree (omega arith) in
    record {
      rows = λ tree foreign.
          let stays = foreign_after new_tables s rows tree foreign in
          aside (new_layout s) _ db is tree (λ t has. all_has _ (new_layout s).schema.tables t stays.no_table has) stays.no_index ∙ kept.rows tree foreign;
      texts = subst (KeepsForeign (rows catalog_tree)) (sym list) kept.texts;
      version = past_all (new_layout s) _ db is version_tree (omega arith) ∙ kept.version;
    }
