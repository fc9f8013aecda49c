-- The file of a layout once more tables are made in it.
use Rattle.std.proofs.Common.{◌≡◌, inl, inr, true, List, map, Option, subst}
use Rattle.std.proofs.lemmas.Bool.{cases_Bool}
use Rattle.sqlite_schema.specs.declared.schema.Schema.{Schema}
use Rattle.sqlite_catalog.specs.Change.{KeepsRows}
use Rattle.sqlite_rules.proofs.ListLemmas.{all_from}
use Rattle.sqlite_trees.proofs.ListLemmas.{all_from_map}
use Rattle.sqlite_trees.specs.declared.store.Store.{Ghosts}
use Rattle.sqlite.specs.Effect.{Database}
use Rattle.sqlite.specs.Held.{Held, state}
use Rattle.sqlite.specs.State.{State}
use Rattle.desk_parts.specs.declared.file_table.FileTable.{FileTable}
use Rattle.desk_parts.specs.declared.put.Put.{Put}
use Rattle.desk_parts.specs.Puts.{put_of}
use Rattle.sql_tables.specs.Making.{IndexesLow, IsMaking, KeepsAside}
use Rattle.sql_tables.proofs.Creating.{sound_is_low}
use Rattle.sql_tables.proofs.Declaring.{has_table}
use Rattle.desk_rows.specs.Commits.{making_tables}
use Rattle.desk_rows.specs.Contents.{Contents}
use Rattle.desk_rows.specs.Descriptions.{description_of, table_of}
use Rattle.desk_rows.specs.Layout.{Layout}
use Rattle.desk_rows.specs.Making.{AreFreeIn, Differ, MakesTables, after, creation, is_among, with_none, with_tables}
use Rattle.desk_rows.specs.Puts.{puts_into, statement}
use Rattle.desk_rows.specs.States.{IsUnder}
use Rattle.desk_rows.specs.Statements.{with_transaction}
use Rattle.desk_rows.proofs.Transactions.Turns.{is_left, run_then}
use Rattle.desk_rows.proofs.Transactions.Committing.{begins, shows_on}
use Rattle.desk_rows.proofs.Schema.MadeTables.{begins_making, keeps_row, made_empty, shows_held, through}

module _ (l : Layout) (c : Contents) (tables : List FileTable) (differ : Differ tables) (committed : Database) (old new : State) (was : IsUnder committed l c old) (makes : MakesTables tables old new) where
  abbrev s : Schema
  s = l.schema

  free : AreFreeIn s tables
  free = subst (λ s. AreFreeIn s tables) was.shows.schema (all_from_map _ (λ t. (description_of t).name) tables makes.taken.0)

  making : IsMaking committed s old.now.trees (after tables s) new
  making = makes.made committed s old.now.trees s differ (begins_making committed s old was.shows.schema was.shows.is.sound was.inside was.over) free

  low : IndexesLow s
  low = sound_is_low s old.now.trees was.shows.is.sound

  old_row : (v : FileTable) → l.has v ≡ true → new.now.trees (l.tree v) ≡ old.now.trees (l.tree v)
  old_row v there = keeps_row tables s committed old.now.trees new making (table_of v (l.tree v)) (has_table s (table_of v (l.tree v)) (was.shows.is.declared v there))

  pub more_made : IsUnder committed (with_tables tables l) (with_none tables new.now.trees c) new × KeepsRows s.tables old.now.trees new.now.trees × KeepsAside s old.now.trees new.now.trees
  more_made = (
    shows_held tables s committed old.now.trees new making (with_tables tables l).has (with_tables tables l).tree (with_none tables new.now.trees c).rows
        (λ v. elim (cases_Bool (is_among tables v)) [
          | inl is ↦ rw is (λ there. made_empty tables s committed old.now.trees new making differ low free v is)
          | inr is ↦ rw is (λ there.
              let held = was.shows.is in
              let declared = through tables s (table_of v (l.tree v)) (was.shows.is.declared v there) in
              (declared, rw (old_row v there) (held.tables v there), λ changed. rw (old_row v there) (held.ids v there changed)))
        ]),
    all_from _ s.tables (keeps_row tables s committed old.now.trees new making),
    making.aside,
  )

-- ---- as one transaction

-- tables that were made and rows that were put then are shown once they are committed, and left by a crash
module _ {S I : Type 0} (g : Ghosts S) (tables : List FileTable) (gives : I → Option Put → I → Type 0) (it : I) (old last : Held S) where
  pub shows_grown : (new : State) → new.now ≡ (state g last).now → (making_tables g tables gives it).putting.puts (with_transaction old) last → (making_tables g tables gives it).Shown old new
  shows_grown new same put = (
    put.4.0,
    put.4.1,
    (
      (λ l c differ there was.
          let committed = (state g old).committed in
          let others = (state g put.0).now.trees in
          let after = with_tables tables l in
          let next = with_none tables others c in
          let more = more_made l c tables differ committed (state g (with_transaction old)) (state g put.0) (begins g old l c was) put.2.0 in
          (others, more.1, more.2, shows_on (state g last) new after (puts_into (map put_of put.4.0) next) same (put.4.2.0 committed after next there more.0).shows)),
      (last, run_then g (map creation tables) (map statement (map put_of put.4.0)) (with_transaction old) put.0 last put.2.1 put.4.2.1, same),
    ),
  )

  pub left_grown : (new : State) → (making_tables g tables gives it).Shown old new → (making_tables g tables gives it).Left old new.now.trees
  left_grown new shown = (
    shown.0,
    shown.1,
    ((λ l c differ there was. let it = shown.2.0 l c differ there was in (it.0, it.1, it.2, it.3.is)), is_left g _ old new shown.2.1),
  )
