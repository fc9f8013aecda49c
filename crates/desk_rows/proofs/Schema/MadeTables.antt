-- The file once tables are made.
use Rattle.std.proofs.Common.{ap, Bool, ◌≡◌, ◌⊎◌, ◌||◌, true≢false, ◌≢◌, ℕ, ◌&&◌, ◌+◌, ◌<◌, ◌≤◌, true, false, ◌==◌, List, [], ◌∷◌, ◌++◌, map, filter, codes, is_some, refl, sym, subst, ◌∙◌, arith, nat_lt, eq-eqb, inl, inr, bytes_eq}
use Rattle.std.specs.List.{AllByRecursion, position_from}
use Rattle.std.specs.Fmt.{digits}
use Rattle.std.proofs.lemmas.Bool.Decides.{nat_tests}
use Rattle.std.proofs.lemmas.List.{map-append}
use Rattle.std.proofs.lemmas.List.Sorted.{IsPermutation-refl}
use Rattle.sqlite_trees.proofs.ListLemmas.{all-append, all_both, all_of}
use Rattle.std.proofs.lemmas.Slice.Eq.{bytes_eq-Decides}
use Rattle.sqlite_trees.specs.Tree.{Trees}
use Rattle.sqlite_schema.specs.declared.schema.Schema.{Schema}
use Rattle.sqlite_schema.specs.declared.schema.Table.{Table}
use Rattle.sqlite_schema.specs.Names.{same_name}
use Rattle.sqlite_catalog.specs.Change.{automatics, created, is_used, next_tree, KeepsRows}
use Rattle.sqlite_catalog.proofs.StepLemmas.{table_below}
use Rattle.sqlite_rules.specs.Lists.{Has}
use Rattle.sqlite_rules.proofs.ListLemmas.{all_from, all_has}
use Rattle.sqlite_trees.specs.declared.store.Store.{Ghosts}
use Rattle.sqlite.specs.Does.{lacks_sequence}
use Rattle.sqlite.specs.Held.{Held, state}
use Rattle.sqlite.specs.Effect.{Database}
use Rattle.sqlite.specs.State.{State, IsLive}
use Rattle.desk_parts.specs.declared.file_table.FileTable.{FileTable}
use Rattle.desk_parts.specs.declared.file_table.FileTable.TheVariants as tables
use Rattle.desk_parts.specs.Puts.{PutRow}
use Rattle.desk_parts.specs.Rows.{RowOf}
use Rattle.sqlite_catalog.specs.Listing.{IsSound}
use Rattle.sql_tables.specs.Making.{AreFree, IndexesLow, IsForeignTree, IsMaking, KeepsAside, first_created}
use Rattle.sql_tables.specs.Rows.{HaveRowids, Lists, columns_at}
use Rattle.sql_tables.specs.Tables.{IsDeclared, counter}
use Rattle.sql_tables.proofs.Creating.{declared_first, foreign_first, free_first, has_counter, has_first, low_first, rising, rising_first, declares, declared_stays, sound_is_low}
use Rattle.sql_tables.proofs.Declaring.{has_table}
use Rattle.sql_tables.proofs.Makes.{none_below}
use Rattle.desk_rows.specs.Descriptions.{description_of, table_of}
use Rattle.desk_rows.specs.Commits.{making_file}
use Rattle.desk_rows.specs.Contents.{Contents}
use Rattle.desk_rows.specs.Making.{AreFreeIn, Differ, MakesTables, after, creation, first_row, is_among, making, new_tables, new_layout, tree_in}
use Rattle.desk_rows.specs.Puts.{put_into, statement}
use Rattle.desk_rows.specs.Rows.{columns_of}
use Rattle.desk_rows.specs.States.{IsUnder}
use Rattle.desk_rows.specs.Statements.{with_transaction}
use Rattle.desk_rows.proofs.Transactions.Committing.{shows_on}
use Rattle.desk_rows.proofs.Transactions.Turns.{is_left, one_ran, run_then}

pub is_below : (m n : ℕ) → m < n → nat_lt m n ≡ true
is_below m n low = grind (arith, nat_tests)

other_tree : (m n : ℕ) → m ≢ n → (m == n) ≡ false
other_tree m n other = grind (arith, nat_tests)

abbrev name : FileTable → List ℕ
name t = (description_of t).name

abbrev made_in : FileTable → ℕ → Table
made_in t tree = record (table_of t 0) { tree = tree }

-- ---- each table

-- the automatic index of a table is on it
keys_of : (t : FileTable) (tree : ℕ) → filter (λ i. i.is_unique && (i.table == tree)) (automatics (made_in t tree) 0 (tree + 1) (table_of t 0).uniques) ≡ automatics (made_in t tree) 0 (tree + 1) (table_of t 0).uniques
keys_of tables.Tab tree = rw (eq-eqb tree tree refl)
keys_of tables.Corr tree = rw (eq-eqb tree tree refl)
keys_of tables.NamedCorr tree = rw (eq-eqb tree tree refl)
keys_of t tree = refl

-- and on no other
no_key : (t : FileTable) (a tree : ℕ) → tree ≢ a → filter (λ i. i.is_unique && (i.table == a)) (automatics (made_in t tree) 0 (tree + 1) (table_of t 0).uniques) ≡ []
no_key tables.Tab a tree other = rw (other_tree tree a other)
no_key tables.Corr a tree other = rw (other_tree tree a other)
no_key tables.NamedCorr a tree other = rw (other_tree tree a other)
no_key t a tree other = refl

no_counter : (t : FileTable) → same_name (codes "sqlite_sequence") (name t) ≡ false
unfolding same_name
no_counter tables.Book = refl
no_counter t = refl

-- a name that differs is free, also of the other's index
abbrev Leaves : FileTable → FileTable → Type 0
Leaves v t = (same_name (name v) (name t) ≡ false) × ((tree from : ℕ) → is_some (position_from (λ i. same_name i.name (name t)) from (automatics (made_in v tree) 0 (tree + 1) (table_of v 0).uniques)) ≡ false)

abbrev AreApart : FileTable → FileTable → Type 0
AreApart v t = bytes_eq (name v) (name t) ≡ false

-- two tables are one, or leave each other's names free
same : (v t : FileTable) → (v ≡ t) ⊎ (AreApart v t × Leaves v t)
unfolding same_name digits
same tables.Book tables.Book = inl refl
same tables.Tab tables.Tab = inl refl
same tables.Para tables.Para = inl refl
same tables.Corr tables.Corr = inl refl
same tables.Mark tables.Mark = inl refl
same tables.Cache tables.Cache = inl refl
same tables.NamedCorr tables.NamedCorr = inl refl
same v t = inr (refl, (refl, λ tree from. refl))

-- ---- tables made in turn

itself_named : (t : FileTable) → bytes_eq (name t) (name t) ≡ true
itself_named t = (bytes_eq-Decides (name t) (name t)).1 refl

leaves : (v t : FileTable) → AreApart v t → Leaves v t
leaves v t other = elim (same v t) [
  | inl is ↦ absurd (true≢false (sym (subst (λ (u : FileTable). bytes_eq (name v) (name u) ≡ true) is (itself_named v)) ∙ other))
  | inr apart ↦ apart.1
]

-- a table among these is one of them
among_has : (tables : List FileTable) (v : FileTable) → is_among tables v ≡ true → Has tables v
among_has [] v is = absurd (true≢false (sym is))
among_has (t ∷ tables) v is = elim (same t v) [
  | inl one ↦ inl (sym one)
  | inr other ↦ inr (among_has tables v (ap (λ b. b || is_among tables v) (sym other.0) ∙ is))
]

free_after : (t : FileTable) (tables : List FileTable) (s : Schema) → AllByRecursion (λ v. AreApart v t) tables → is_used s (name t) ≡ false → is_used (after tables s) (name t) ≡ false
free_after t [] s apart free = free
free_after t (v ∷ tables) s apart free =
    let it = leaves v t apart.0 in free_after t tables (first_created s (table_of v 0)) apart.1 (free_first s (table_of v 0) (name t) free it.0 (no_counter t) it.1)

after_more : (tables : List FileTable) (t : FileTable) (s : Schema) → after (tables ++ t ∷ []) s ≡ first_created (after tables s) (table_of t 0)
after_more [] t s = refl
after_more (v ∷ tables) t s = after_more tables t (first_created s (table_of v 0))

front : (P : FileTable → Type 0) (tables : List FileTable) (t : FileTable) → AllByRecursion P (tables ++ t ∷ []) → AllByRecursion P tables × P t
front P [] t all = (tt, all.0)
front P (v ∷ tables) t all = let more = front P tables t all.1 in ((all.0, more.0), more.1)

-- where all differ, so do those before the last, and each of these from it
front_differs : (tables : List FileTable) (t : FileTable) → Differ (tables ++ t ∷ []) → Differ tables × AllByRecursion (λ v. AreApart v t) tables
front_differs [] t all = (tt, tt)
front_differs (v ∷ tables) t all =
    let here = front (AreApart v) tables t all.0 in
    let more = front_differs tables t all.1 in
    ((here.0, more.0), (here.1, more.1))

-- some tables, and then one more
pub makes_more : (tables : List FileTable) (t : FileTable) (old mid new : State) → MakesTables tables old mid → MakesTables (t ∷ []) mid new → MakesTables (tables ++ t ∷ []) old new
makes_more tables t old mid new first later = record {
  taken = (
    subst (λ names. AreFree names old) (sym (map-append name tables (t ∷ []))) (all-append _ (map name tables) (name t ∷ []) first.taken.0 (first.taken.1 (name t) later.taken.0.0, tt)),
    λ n free. first.taken.1 n (later.taken.1 n free),
  );
  made = λ committed start rows before differ was free.
      let both = front _ tables t free in
      let parts = front_differs tables t differ in
      subst (λ s. IsMaking committed start rows s new) (sym (after_more tables t before))
      (later.made committed start rows (after tables before) (tt, tt) (first.made committed start rows before parts.0 was both.0) (free_after t tables before parts.1 both.1, tt));
}

pub through : (tables : List FileTable) (s : Schema) (a : Table) → IsDeclared s a → IsDeclared (after tables s) a
through [] s a d = d
through (v ∷ tables) s a d = through tables (first_created s (table_of v 0)) a (declared_first s (table_of v 0) a (declared_stays s (table_of v 0) a d (no_key v a.tree)))

pub has_after : (tables : List FileTable) (s : Schema) (t : Table) → Has s.tables t → Has (after tables s).tables t
has_after [] s t has = has
has_after (v ∷ tables) s t has = has_after tables (first_created s (table_of v 0)) t (has_first s (table_of v 0) t has)

pub foreign_after : (tables : List FileTable) (s : Schema) (db : Trees) (tree : ℕ) → IsForeignTree s db tree → IsForeignTree (after tables s) db tree
foreign_after [] s db tree is = is
foreign_after (v ∷ tables) s db tree is = foreign_after tables (first_created s (table_of v 0)) db tree (foreign_first s (table_of v 0) db tree is)

-- a table that is made is declared, in a tree that no table had
abbrev IsMadeIn : List FileTable → Schema → FileTable → Type 0
IsMadeIn tables s t = IsDeclared (after tables s) (table_of t (tree_in tables s t)) × (next_tree s ≤ tree_in tables s t)

declared_after : (tables : List FileTable) (s : Schema) → Differ tables → IndexesLow s → AllByRecursion (λ t. is_used s (name t) ≡ false) tables
    → (t : FileTable) → Has tables t → IsMadeIn tables s t
declared_after [] s apart low free t has = absurd has
declared_after (v ∷ tables) s apart low free t (inl is) =
    let next = first_created s (table_of v 0) in
    let here = declared_first s (table_of v 0) (table_of v (next_tree s)) (declares s (table_of v 0) low free.0 (keys_of v)) in
    subst (IsMadeIn (v ∷ tables) s) (sym is) (rw (itself_named v) (through tables next (table_of v (next_tree s)) here, omega arith))
declared_after (v ∷ tables) s apart low free t (inr later) =
    let next = first_created s (table_of v 0) in
    let other : AreApart v t = all_has (AreApart v) tables t apart.0 later in
    let more = declared_after tables next apart.1 (low_first s (table_of v 0) low) (all_both _ _ _ (λ u other unused. free_after u (v ∷ []) s (other, tt) unused) tables apart.0 free.1) t later in
    let above = rising_first s (table_of v 0) in
    let high = more.1 in
    rw other (more.0, omega (arith, above, high))

-- ---- what is there once tables are made

no_rowids : HaveRowids []
no_rowids = record { integers = tt; once = λ id. omega arith }

-- the table is declared in this tree, which has these rows, and rowids that differ if its rows may be changed
abbrev pub IsHeld : Schema → Trees → (t : FileTable) → ℕ → List (RowOf t) → Type 0
IsHeld s db t tree xs =
    IsDeclared s (table_of t tree) × Lists (columns_of t) (columns_at (description_of t).own) xs (db tree)
    × ((description_of t).is_changed ≡ true → HaveRowids (db tree))

module _ (tables : List FileTable) (s : Schema) (committed : Database) (rows : Trees) (now : State) (m : IsMaking committed s rows (after tables s) now) where
  -- a table that was there has its rows
  pub keeps_row : (t : Table) → Has s.tables t → now.now.trees t.tree ≡ rows t.tree
  keeps_row t has = all_has _ (after tables s).tables t m.kept (has_after tables s t has) ∙ rw (is_below t.tree (next_tree s) (table_below s t has)) refl

  -- one that is made has none
  pub made_empty : Differ tables → IndexesLow s → AllByRecursion (λ t. is_used s (name t) ≡ false) tables
      → (t : FileTable) → is_among tables t ≡ true → IsHeld (after tables s) now.now.trees t (tree_in tables s t) []
  made_empty apart low free t is =
      let at = tree_in tables s t in
      let it = declared_after tables s apart low free t (among_has tables t is) in
      let none : now.now.trees at ≡ [] =
      all_has _ (after tables s).tables (table_of t at) m.kept (has_table (after tables s) (table_of t at) it.0) ∙ rw (none_below at (next_tree s) it.1) refl in
      (it.0, rw none (IsPermutation-refl []), λ changed. rw none no_rowids)

  -- what is held is shown, beside all else that is there
  pub shows_held : (has : FileTable → Bool) (tree : FileTable → ℕ) (held : (t : FileTable) → List (RowOf t))
      → ((t : FileTable) → has t ≡ true → IsHeld (after tables s) now.now.trees t (tree t) (held t))
      → IsUnder committed (record { schema = after tables s; has = has; tree = tree }) (record { rows = held; others = now.now.trees }) now
  shows_held has tree held each = record {
    shows = record {
      schema = m.schema;
      is = record {
        declared = λ t is. (each t is).0;
        sound = m.sound;
        tables = λ t is. (each t is).1;
        ids = λ t is. (each t is).2;
        others = all_of _ (λ t other. refl) (after tables s).tables;
        aside = λ tree other none. refl;
      };
    };
    inside = m.inside;
    over = m.over;
  }

-- ---- the tables of a new file

-- the contents with no rows in the tables, and with the row of a new book alone
abbrev no_contents : Trees → Contents
no_contents others = record { rows = λ t. []; others = others }

abbrev pub first_contents : Trees → Contents
first_contents others = put_into (no_contents others) (PutRow tables.Book first_row)

-- the counter, if it was missing and is made, has no rows
abbrev CountsNone : Schema → Trees → Type 0
CountsNone s db = lacks_sequence s ≡ true → db (next_tree (created s (table_of tables.Book 0))) ≡ []

differ : Differ new_tables
differ = ((refl, (refl, (refl, (refl, (refl, tt))))), ((refl, (refl, (refl, (refl, tt)))), ((refl, (refl, (refl, tt))), ((refl, (refl, tt)), ((refl, tt), (tt, tt))))))

module _ (s : Schema) (none : AreFreeIn s new_tables) (low : IndexesLow s) (committed : Database) (rows : Trees) (now : State) (m : IsMaking committed s rows (after new_tables s) now) where
  -- the counter has no rows
  counts_none : CountsNone s now.now.trees
  counts_none lacks =
      let at = next_tree (created s (table_of tables.Book 0)) in
      let above = rising s (table_of tables.Book 0) in
      let rest = tables.Tab ∷ tables.Para ∷ tables.Mark ∷ tables.Cache ∷ tables.NamedCorr ∷ [] in
      all_has _ (after new_tables s).tables (counter at) m.kept (has_after rest (first_created s (table_of tables.Book 0)) (counter at) (has_counter s (table_of tables.Book 0) lacks)) ∙ rw (none_below at (next_tree s) (omega (arith, above)))

  finished : IsUnder committed (new_layout s) (no_contents now.now.trees) now × KeepsRows s.tables rows now.now.trees × CountsNone s now.now.trees × KeepsAside s rows now.now.trees
  finished = (
    shows_held new_tables s committed rows now m (is_among new_tables) (tree_in new_tables s) (λ t. [])
        (made_empty new_tables s committed rows now m differ low none),
    all_from _ s.tables (keeps_row new_tables s committed rows now m),
    counts_none,
    m.aside,
  )

-- a transaction begins with what is there
pub begins_making : (committed : Database) (s : Schema) (old : State) → old.now.schema ≡ s → IsSound s old.now.trees → old.in_transaction ≡ true → old.committed ≡ committed → IsMaking committed s old.now.trees s old
begins_making committed s old same sound inside over = record {
  schema = same;
  sound = sound;
  kept = all_from _ s.tables (λ t has. rw (is_below t.tree (next_tree s) (table_below s t has)));
  foreign = λ tree is. is;
  aside = record { rows = λ tree is. refl; texts = λ row has foreign. has; version = refl };
  later = omega arith;
  inside = inside;
  over = over;
}

module _ {S : Type 0} (g : Ghosts S) (old last : Held S) (live : IsLive (state g old)) where
  -- what making the tables, and putting the row of a new book, did to what was there is shown once it is committed, and left by a crash
  pub shows_made : (new : State) → new.now ≡ (state g last).now → (making_file g).putting.puts (with_transaction old) last → (making_file g).Shown old new
  shows_made new same put =
      let mid = put.0 in
      let makes = put.2.0 in
      let sound = (live put.2.1.1.1.1.was_open).0 in
      let rows = (state g old).now.trees in
      let committed = (state g old).committed in
      let made = makes.made committed old.schema rows old.schema differ (begins_making committed old.schema (state g (with_transaction old)) refl sound refl refl) makes.taken.0 in
      let done = finished old.schema makes.taken.0 (sound_is_low old.schema rows sound) committed rows (state g mid) made in
      let others = (state g mid).now.trees in
      let shown = (put.4.0 committed (new_layout old.schema) (no_contents others) (refl, tt) done.0).shows in (
        makes.taken.0,
        (others, done.1, done.2, done.3, shows_on (state g last) new (new_layout old.schema) (first_contents others) same shown),
        (last, run_then g (map creation new_tables) (statement (PutRow tables.Book first_row) ∷ []) (with_transaction old) mid last put.2.1 (one_ran g (statement (PutRow tables.Book first_row)) mid last put.4.1 put.3), same),
      )

  pub left_made : (new : State) → (making_file g).Shown old new → (making_file g).Left old new.now.trees
  left_made new shown = let file = shown.1 in ((shown.0, (file.0, file.1, file.2, file.3, file.4.is)), is_left g making old new shown.2)
