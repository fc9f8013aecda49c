-- The trees that the database keeps as they are stay such while tables are made.
use Rattle.std.proofs.Common.{◌≡◌, inl, inr, true, false, List, [], ◌∷◌, ◌++◌, map, refl, sym, ap, ◌∙◌, true≢false, ℕ, ◌+◌, ◌<◌, ◌≤◌, ◌%◌, ◌==◌, ◌||◌, pos, Bool, find, Some, subst, arith, unwrap_or}
use Rattle.std.specs.Char.{to_ascii_lowercase}
use Rattle.std.proofs.lemmas.Bool.{and_parts, cond_both, not-true}
use Rattle.std.proofs.lemmas.Slice.Eq.{bytes_eq-Decides}
use Rattle.sqlite_value.specs.Order.{Row, bytes, column}
use Rattle.sqlite_trees.specs.Sound.{Head, are_in_order, head_at, is_sound_list, may_follow, same_name}
use Rattle.sqlite_rules.specs.Lists.{Has}
use Rattle.sqlite_rules.proofs.ListLemmas.{has_left, has_right, all_from, all_has, has_either, has_filtered, has_kept}
use Rattle.sqlite_catalog.proofs.SoundLemmas.{list_parts}
use Rattle.sql_tables.proofs.RowLists.{none_has}
use Rattle.std.proofs.lemmas.Bool.Decides.{nat_tests}
use Rattle.sqlite_trees.specs.Objects.{catalog_tree, number_in, row_for}
use Rattle.sqlite_value.specs.declared.value.Value.TheVariants.{Int}
use Rattle.sqlite_trees.specs.Tree.{Trees, rowid, has_rowid}
use Rattle.sqlite_schema.specs.declared.schema.Index.{Index}
use Rattle.sqlite_schema.specs.declared.schema.Schema.{Schema}
use Rattle.sqlite_schema.specs.declared.schema.Table.{Table}
use Rattle.sqlite_schema.specs.declared.schema.View.{View as Stored}
use Rattle.sqlite_catalog.specs.Calls.{KeepsForeign}
use Rattle.sqlite_catalog.specs.Change.{automatics, created, next_tree}
use Rattle.sqlite_catalog.specs.Listing.{IsIndexRow, IsSound, IsTableRow, IsViewRow, is_index_row, is_table_row, is_view_row}
use Rattle.sqlite_catalog.proofs.LayoutLemmas.{aside_code, row_kind, same_rowid, has_own_rowid, zipped_left, zipped_right}
use Rattle.sqlite_catalog.proofs.StepLemmas.{view_below}
use Rattle.sql_tables.specs.Making.{IsForeignTree}

-- ---- no two rows of sqlite_schema have one name

-- no row has the name of an earlier one
no_earlier : (earlier : List Head) (rows : List Row) → are_in_order earlier (map (head_at 1) rows) ≡ true → (e : Head) → Has earlier e → (row : Row) → Has rows row → same_name (bytes e.1) (bytes (column row 2)) ≡ false
unfolding may_follow
no_earlier earlier [] up e there row has = absurd has
no_earlier earlier (r ∷ rows) up e there row (inl same) =
    let fresh = not-true _ (and_parts _ _ (and_parts _ _ up).0).0 in
    rw same (none_has (λ (other : Head). same_name (bytes other.1) (bytes (column r 2))) earlier e fresh there)
no_earlier earlier (r ∷ rows) up e there row (inr later) = no_earlier (earlier ++ head_at 1 r ∷ []) rows (and_parts _ _ up).1 e (has_left earlier _ e there) row later

not_both : (earlier : List Head) (a : Row) (rows : List Row) (b : Row) → are_in_order (earlier ++ head_at 1 a ∷ []) (map (head_at 1) rows) ≡ true → Has rows b → column a 2 ≡ column b 2 → ⊥
unfolding same_name
not_both earlier a rows b up has same =
    let apart = no_earlier (earlier ++ head_at 1 a ∷ []) rows up (head_at 1 a) (has_right earlier (head_at 1 a ∷ []) (head_at 1 a) (inl refl)) b has in
    true≢false (sym ((bytes_eq-Decides _ _).1 (ap (λ v. map to_ascii_lowercase (bytes v)) same)) ∙ apart)

one_in_order : (earlier : List Head) (rows : List Row) → are_in_order earlier (map (head_at 1) rows) ≡ true → (a b : Row) → Has rows a → Has rows b → column a 2 ≡ column b 2 → a ≡ b
one_in_order earlier [] up a b has has' same = absurd has
one_in_order earlier (r ∷ rows) up a b has has' same =
    let clash = λ (x : Row). not_both earlier r rows x (and_parts _ _ up).1 in
    let rest = λ (later : Has rows a) (later' : Has rows b). one_in_order (earlier ++ head_at 1 r ∷ []) rows (and_parts _ _ up).1 a b later later' same in
    grind (arith, has, has', same, clash a, clash b, rest)

pub one_of_name : (objects : List Row) → is_sound_list objects ≡ true → (a b : Row) → Has objects a → Has objects b → column a 2 ≡ column b 2 → a ≡ b
one_of_name objects sound = one_in_order [] objects (list_parts objects sound).1

-- ---- trees that are kept as they are

-- the indexes for a table's keys are on it, in this tree and those after it
pub all_automatic : (table : Table) (at tree : ℕ) (keys : List (List ℕ)) (i : Index) → Has (automatics table at tree keys) i → (i.table ≡ table.tree) × (tree ≤ i.tree)
all_automatic table at tree [] i has = absurd has
all_automatic table at tree (key ∷ keys) i (inl same) = (ap (λ (x : Index). x.table) same, omega (arith, ap (λ (x : Index). x.tree) same))
all_automatic table at tree (key ∷ keys) i (inr later) = let own = all_automatic table (at + 1) (tree + 1) keys i later in (own.0, omega (arith, own.1))

-- a new table and its indexes have other trees
pub foreign_still : (s : Schema) (table : Table) (db : Trees) (tree : ℕ) → IsForeignTree s db tree → IsForeignTree (created s table) db tree
foreign_still s table db tree f =
    let low = view_below s f.view f.listed in
    let there = f.there in
    let new : Table = record table { tree = next_tree s } in
    record {
      view = f.view;
      listed = f.listed;
      there = there;
      frozen = f.frozen;
      no_table = all_from _ (created s table).tables (λ t has same.
          grind (arith, low, there, same, has_either s.tables (new ∷ []) t has, all_has _ s.tables t f.no_table));
      no_index = all_from _ (created s table).indexes (λ i has same.
          let own = automatics new 0 (next_tree s + 1) table.uniques in
          grind (arith, low, there, same, has_either s.indexes own i has, all_has _ s.indexes i f.no_index, all_automatic new 0 (next_tree s + 1) table.uniques i));
    }

found_so : (P : Row → Type 0) (p : Row → Bool) (rows : List Row) (row : Row) → Has rows row → p row ≡ true → ((r : Row) → Has rows r → p r ≡ true → P r) → P (unwrap_or (find p rows) [])
found_so P p [] row has own each = absurd has
found_so P p (r ∷ rs) row has own each = cond_both (p r) (Some r) (find p rs) (λ found. P (unwrap_or found [])) (each r (inl refl)) (λ other. elim has [
  | inl same ↦ absurd (true≢false (sym own ∙ ap p same ∙ other))
  | inr later ↦ found_so P p rs row later own (λ s there. each s (inr there))
])

same_tree : (row : Row) (n tree : ℕ) → rowid row ≡ Int (pos (n + 1)) → has_rowid (pos (tree + 1)) row ≡ true → n ≡ tree
same_tree row n tree id own = let same = same_rowid row (n + 1) (tree + 1) id own in omega (arith, same)

-- sqlite_schema lists the tree as one that is kept as it is
pub is_frozen : (s : Schema) (db : Trees) → IsSound s db → (tree : ℕ) → IsForeignTree s db tree → (tree < 65536) × (4 ≤ number_in (column (row_for (db catalog_tree) tree) 5) % 8)
is_frozen s db sound tree f =
    let objects = db catalog_tree in
    let z = zipped_left IsViewRow _ s.views f.view sound.lists.listed.views f.listed in
    let low = z.2.described.low in
    let there = f.there in
    let own = has_own_rowid z.0 (tree + 1) (z.2.described.id ∙ ap (λ n. Int (pos (n + 1))) there) in (
      omega (arith, low, there),
      found_so (λ row. 4 ≤ number_in (column row 5) % 8) (has_rowid (pos (tree + 1))) objects z.0 (has_filtered is_view_row objects z.0 z.1).0 own (λ row has. all_has _ objects row f.frozen has),
    )

-- the code of a frozen tree among the views is that of a row that stays
frozen_stays : (code : ℕ) (is_trigger : Bool) → code ≤ 5 → 4 ≤ code % 8 → ((code == 4) || (code == 5) || is_trigger) ≡ true
frozen_stays code is_trigger low frozen = grind (arith, nat_tests)

module _ (s after : Schema) (old new : Trees) (same : after.views ≡ s.views) (sound : IsSound s old) (still : IsSound after new) (texts : KeepsForeign (old catalog_tree) (new catalog_tree)) where
  -- a row that lists such a tree is the one that listed it
  listed_so : (tree : ℕ) → IsForeignTree after old tree → (row : Row) → Has (new catalog_tree) row → has_rowid (pos (tree + 1)) row ≡ true → (w : Stored) → Has s.views w → IsViewRow row w → 4 ≤ number_in (column row 5) % 8
  listed_so tree f row has own w listed is =
      let was = zipped_left IsViewRow _ s.views w sound.lists.listed.views listed in
      let there = (has_filtered is_view_row (old catalog_tree) was.0 was.1).0 in
      let at = same_tree row w.tree tree is.described.id own in
      let frozen = all_has _ (old catalog_tree) was.0 f.frozen there (has_own_rowid was.0 (tree + 1) (was.2.described.id ∙ ap (λ n. Int (pos (n + 1))) at)) in
      let code = aside_code was.0 w was.2.kind was.2.owner was.2.code w.foreign was.2.aside in
      let shape = was.2.described.shape_is in
      let kept = texts was.0 there (frozen_stays (number_in (column was.0 5)) _ (omega (arith, code, shape)) frozen) in
      let one = one_of_name (new catalog_tree) still.lists.listed.loads row was.0 has kept (is.described.name_is ∙ sym was.2.described.name_is) in
      subst (λ (r : Row). 4 ≤ number_in (column r 5) % 8) (sym one) frozen

  -- such a tree is still listed as frozen
  pub still_frozen : (tree : ℕ) → IsForeignTree after old tree → IsForeignTree after new tree
  still_frozen tree f = record {
    view = f.view;
    listed = f.listed;
    there = f.there;
    frozen = all_from _ (new catalog_tree) (λ row has own. elim (row_kind row) [
      | inl table ↦ (
          let z = zipped_right IsTableRow _ after.tables row still.lists.listed.tables (has_kept is_table_row (new catalog_tree) row has table) in
          absurd (all_has _ after.tables z.0 f.no_table z.1 (same_tree row z.0.tree tree z.2.described.id own))
          )
      | inr (inl index) ↦ (
          let z = zipped_right (IsIndexRow after.tables) _ after.indexes row still.lists.listed.indexes (has_kept is_index_row (new catalog_tree) row has index) in
          absurd (all_has _ after.indexes z.0 f.no_index z.1 (same_tree row z.0.tree tree z.2.described.id own))
          )
      | inr (inr view) ↦ (
          let z = zipped_right IsViewRow _ after.views row still.lists.listed.views (has_kept is_view_row (new catalog_tree) row has view) in
          listed_so tree f row has own z.0 (subst (λ (ws : List Stored). Has ws z.0) same z.1) z.2
          )
    ]);
    no_table = f.no_table;
    no_index = f.no_index;
  }
