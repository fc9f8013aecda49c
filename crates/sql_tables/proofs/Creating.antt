-- What a schema declares once a table is made in it, with the database's counter of rowids where that is missing.
use Rattle.std.proofs.Common.{◌≡◌, ◌≢◌, inl, ℕ, ◌+◌, Bool, true, false, ◌==◌, ◌&&◌, ◌||◌, List, [], ◌∷◌, ◌++◌, filter, length, is_some, refl, sym, ap, ◌∙◌, append-nil, arith, ◌<◌, if◌then◌else◌, codes, subst}
use Rattle.std.specs.List.{position_from}
use Rattle.std.specs.Option.{option_or}
use Rattle.std.proofs.lemmas.Bool.{cond_both}
use Rattle.std.proofs.lemmas.Bool.Decides.{nat_tests}
use Rattle.std.proofs.lemmas.List.Elements.{filter-append}
use Rattle.std.proofs.lemmas.List.Folds.{list_any-append}
use Rattle.sqlite_trees.specs.Tree.{Trees}
use Rattle.sqlite_trees.proofs.ListLemmas.{filter_none}
use Rattle.sqlite_schema.specs.declared.schema.Index.{Index}
use Rattle.sqlite_schema.specs.declared.schema.Schema.{Schema}
use Rattle.sqlite_schema.specs.declared.schema.Table.{Table}
use Rattle.sqlite_schema.specs.Names.{same_name, table_named}
use Rattle.sqlite_rules.specs.Lists.{Has}
use Rattle.sqlite_rules.proofs.ActionLemmas.{got_last, got_still}
use Rattle.sqlite_rules.proofs.ListLemmas.{all_from, has_right, has_either, has_left}
use Rattle.sqlite_catalog.specs.Change.{automatics, created, next_tree, is_used}
use Rattle.sqlite_catalog.specs.Listing.{IsSound, IsIndexRow}
use Rattle.sqlite_catalog.proofs.LayoutLemmas.{index_owner, zipped_left}
use Rattle.sqlite_catalog.proofs.StepLemmas.{no_table, same_itself, table_below}
use Rattle.sql_tables.specs.Tables.{IsDeclared, counter}
use Rattle.sql_tables.specs.Making.{IndexesLow, IsForeignTree, first_created}
use Rattle.sql_tables.proofs.Declaring.{has_table}
use Rattle.std.proofs.lemmas.Option.{slice_get-get_or}
use Rattle.sqlite_rules.proofs.RowLemmas.{position_within}
use Rattle.sqlite.specs.Does.{lacks_sequence}
use Rattle.sqlite.specs.Rows.{sequence}
use Rattle.sql_tables.proofs.Frozen.{all_automatic, foreign_still}

-- a search in two lists finds the first, or else goes on in the second
placed_in_both : {X : Type 0} (p : X → Bool) (xs ys : List X) (from : ℕ) → position_from p from (xs ++ ys) ≡ option_or (position_from p from xs) (position_from p (from + length xs) ys)
placed_in_both p [] ys from = let same : from + 0 ≡ from = omega arith in rw same
placed_in_both p (x ∷ xs) ys from = grind (arith, placed_in_both p xs ys (from + 1))

pub is_in_both : {X : Type 0} (p : X → Bool) (xs ys : List X) (from : ℕ) → is_some (position_from p from (xs ++ ys)) ≡ (is_some (position_from p from xs) || is_some (position_from p (from + length xs) ys))
is_in_both p xs ys from = grind (arith, placed_in_both p xs ys from)

pub sound_is_low : (s : Schema) (db : Trees) → IsSound s db → IndexesLow s
sound_is_low s db sound i has =
    let row = (zipped_left (IsIndexRow s.tables) _ s.indexes i sound.lists.listed.indexes has).2 in
    let low = table_below s row.table row.listed in
    let is = index_owner row.table i _ row.defined in
    omega (arith, low, is)

pub low_still : (s : Schema) (table : Table) → IndexesLow s → IndexesLow (created s table)
low_still s table low i has =
    let new : Table = record table { tree = next_tree s } in
    let above = table_below (created s table) new (has_right s.tables (new ∷ []) new (inl refl)) in
    let indexes = automatics new 0 (next_tree s + 1) table.uniques in
    grind (arith, above, has_either s.indexes indexes i has, low i, all_automatic new 0 (next_tree s + 1) table.uniques i)

module _ (before : Schema) (table : Table) where
  abbrev made : Table
  made = record table { tree = next_tree before }

  abbrev after : Schema
  after = created before table

  -- the new table is declared
  pub declares : IndexesLow before → is_used before table.name ≡ false
      → ((tree : ℕ) → filter (λ i. i.is_unique && (i.table == tree)) (automatics (record table { tree = tree }) 0 (tree + 1) table.uniques) ≡ automatics (record table { tree = tree }) 0 (tree + 1) table.uniques) → IsDeclared after made
  declares index_low free keys = record {
    at = length before.tables;
    named = grind (arith, placed_in_both (λ t. same_name t.name table.name) before.tables (made ∷ []) 0, no_table before table.name free, same_itself table.name);
    there = got_last before.tables made;
    alone = λ other has same. grind (arith, same, has_either before.tables (made ∷ []) other has, table_below before other);
    first = next_tree before + 1;
    indexed =
        let own = λ (i : Index). i.is_unique && (i.table == next_tree before) in
        let none = filter_none own before.indexes (all_from (λ i. own i ≡ false) before.indexes (λ i has. grind (arith, nat_tests, index_low i has))) in
        filter-append own before.indexes (automatics made 0 (next_tree before + 1) table.uniques) ∙ rw none (keys (next_tree before));
  }

  -- and those that were declared stay so
  pub declared_stays : (a : Table) → IsDeclared before a → ((tree : ℕ) → tree ≢ a.tree → filter (λ i. i.is_unique && (i.table == a.tree)) (automatics (record table { tree = tree }) 0 (tree + 1) table.uniques) ≡ []) → IsDeclared after a
  declared_stays a d others =
      let low = table_below before a (has_table before a d) in
      record {
        at = d.at;
        named = placed_in_both (λ t. same_name t.name a.name) before.tables (made ∷ []) 0 ∙ ap (λ at. option_or at (position_from (λ t. same_name t.name a.name) (0 + length before.tables) (made ∷ []))) d.named;
        there = got_still before.tables (made ∷ []) after.tables d.at a refl d.there;
        alone = λ other has same. grind (arith, low, same, has_either before.tables (made ∷ []) other has, d.alone other);
        first = d.first;
        indexed = filter-append (λ i. i.is_unique && (i.table == a.tree)) before.indexes (automatics made 0 (next_tree before + 1) table.uniques)
            ∙ rw (others (next_tree before) (λ same. absurd (omega (arith, low, same)))) (append-nil _ ∙ d.indexed);
      }

-- ---- what a making needs, once more

-- a name that was free is still free, if the table and its indexes have others
pub free_still : (s : Schema) (table : Table) (name : List ℕ) → is_used s name ≡ false → same_name table.name name ≡ false
    → ((tree from : ℕ) → is_some (position_from (λ i. same_name i.name name) from (automatics (record table { tree = tree }) 0 (tree + 1) table.uniques)) ≡ false) → is_used (created s table) name ≡ false
free_still s table name free other indexes =
    let new : Table = record table { tree = next_tree s } in
    let tables = is_in_both (λ t. same_name t.name name) s.tables (new ∷ []) 0 in
    let keys = is_in_both (λ i. same_name i.name name) s.indexes (automatics new 0 (next_tree s + 1) table.uniques) 0 in
    grind (arith, free, other, tables, keys, indexes (next_tree s) (0 + length s.indexes))

-- ---- the counter of rowids, which a first table brings if it is missing

-- the counter is there exactly if a table has its name
named_counter : (s : Schema) → is_some (sequence s) ≡ is_some (table_named s (codes "sqlite_sequence"))
named_counter s =
    let within = position_within (λ (t : Table). same_name t.name (codes "sqlite_sequence")) s.tables 0 in
    grind (arith, within, λ (at : ℕ). slice_get-get_or s.tables at (counter 0))

-- a table that doesn't count and isn't the counter changes nothing of whether the counter is missing
pub lacks_as_before : (s : Schema) (table : Table) → table.is_counted ≡ false → same_name table.name (codes "sqlite_sequence") ≡ false → lacks_sequence (created s table) ≡ lacks_sequence s
lacks_as_before s table plain other =
    let new : Table = record table { tree = next_tree s } in
    let named = is_in_both (λ (t : Table). same_name t.name (codes "sqlite_sequence")) s.tables (new ∷ []) 0 in
    let counted = list_any-append (λ (t : Table). t.is_counted) s.tables (new ∷ []) in
    grind (arith, plain, other, counted, named, named_counter (created s table), named_counter s)

module _ (s : Schema) (table : Table) where
  -- what holds with and without the counter
  by_counter : (P : Schema → Type 0) → P (created s table) → P (created (created s table) (counter 0)) → P (first_created s table)
  by_counter P plain more = cond_both (lacks_sequence s) (created (created s table) (counter 0)) (created s table) P (λ lacks. more) (λ has. plain)

  pub free_first : (name : List ℕ) → is_used s name ≡ false → same_name table.name name ≡ false → same_name (codes "sqlite_sequence") name ≡ false
      → ((tree from : ℕ) → is_some (position_from (λ i. same_name i.name name) from (automatics (record table { tree = tree }) 0 (tree + 1) table.uniques)) ≡ false) → is_used (first_created s table) name ≡ false
  free_first name free other own indexes =
      let free_then = free_still s table name free other indexes in
      by_counter (λ after. is_used after name ≡ false) free_then (free_still (created s table) (counter 0) name free_then own (λ tree from. refl))

  pub low_first : IndexesLow s → IndexesLow (first_created s table)
  low_first low = by_counter IndexesLow (low_still s table low) (low_still (created s table) (counter 0) (low_still s table low))

  pub declared_first : (a : Table) → IsDeclared (created s table) a → IsDeclared (first_created s table) a
  declared_first a d = by_counter (λ after. IsDeclared after a) d (declared_stays (created s table) (counter 0) a d (λ tree other. refl))

  pub foreign_first : (db : Trees) (tree : ℕ) → IsForeignTree s db tree → IsForeignTree (first_created s table) db tree
  foreign_first db tree is = let still = foreign_still s table db tree is in by_counter (λ after. IsForeignTree after db tree) still (foreign_still (created s table) (counter 0) db tree still)

  -- no table is a view
  pub views_first : (first_created s table).views ≡ s.views
  views_first = by_counter (λ after. after.views ≡ s.views) refl refl

  pub has_first : (t : Table) → Has s.tables t → Has (first_created s table).tables t
  has_first t has = let there = has_left s.tables _ t has in by_counter (λ after. Has after.tables t) there (has_left (created s table).tables _ t there)

  -- the counter that comes with the table
  pub has_counter : lacks_sequence s ≡ true → Has (first_created s table).tables (counter (next_tree (created s table)))
  has_counter lacks =
      let with_counter = has_right (created s table).tables (counter (next_tree (created s table)) ∷ []) (counter (next_tree (created s table))) (inl refl) in
      subst (λ b. Has (if b then created (created s table) (counter 0) else created s table).tables (counter (next_tree (created s table)))) (sym lacks) with_counter

pub rising : (s : Schema) (table : Table) → next_tree s < next_tree (created s table)
rising s table = let new : Table = record table { tree = next_tree s } in table_below (created s table) new (has_right s.tables (new ∷ []) new (inl refl))

pub rising_first : (s : Schema) (table : Table) → next_tree s < next_tree (first_created s table)
rising_first s table = let one = rising s table in let two = rising (created s table) (counter 0) in by_counter s table (λ after. next_tree s < next_tree after) one (omega (arith, one, two))
