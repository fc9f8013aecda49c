-- Trees are a database of one schema at most.
use Rattle.std.proofs.Common.{◌≡◌}
use Rattle.sqlite_trees.specs.Objects.{catalog_tree}
use Rattle.sqlite_trees.specs.Tree.{Trees}
use Rattle.sqlite_schema.specs.declared.schema.Schema.{Schema}
use Rattle.sqlite_catalog.specs.Listing.{IsSound}
use Rattle.sqlite_catalog.proofs.ReadLemmas.{lists_once}

-- whatever tables, automatic indexes, indexes and views they have
pub one_schema : {a b : Schema} {db : Trees} → IsSound a db → IsSound b db → a ≡ b
one_schema {a} {b} {db} p q = lists_once (db catalog_tree) a b p.lists q.lists
