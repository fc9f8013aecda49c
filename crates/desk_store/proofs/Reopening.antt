-- What opening finds of what a crash left.
use Rattle.std.proofs.Common.{◌≡◌, ◌⊎◌, ◌∙◌, Bool, true, [], ◌∷◌, Ok, Err, inl, inr, refl, sym, subst}
use Rattle.std.specs.Prelude.{IfErr, IfOk, Result}
use Rattle.sqlite_trees.specs.Tree.{Trees}
use Rattle.sqlite_trees.specs.declared.store.Store.{Ghosts}
use Rattle.sqlite_catalog.specs.Listing.{IsSound}
use Rattle.sqlite.specs.Effect.{Database}
use Rattle.sqlite.specs.Held.{Held, state}
use Rattle.sqlite.specs.State.{IsLive, State}
use Rattle.sqlite.specs.State.{Opens as IsOpenedAnew}
use Rattle.desk_parts.specs.declared.file_table.FileTable.{FileTable}
use Rattle.desk_parts.specs.declared.file_table.FileTable.TheVariants as tables
use Rattle.sql_tables.specs.States.{IsSettled}
use Rattle.sql_tables.proofs.OneSchema.{one_schema}
use Rattle.desk_model.specs.Book.{Book, empty_book}
use Rattle.desk_model.proofs.Callers.{Contains-behind, Contains-here}
use Rattle.desk_store.specs.Keeping.{HasNewTables, HoldsBook}
use Rattle.desk_rows.specs.Contents.{Contents}
use Rattle.desk_rows.specs.Layout.{Layout}
use Rattle.desk_rows.specs.States.{IsFile}
use Rattle.desk_rows.specs.Tables.{is_there}
use Rattle.desk_rows.proofs.Schema.Schemas.{shows_committed}
use Rattle.desk_store.specs.Formats.{Format, IsOfFormat, IsPresent, named, needed}
use Rattle.desk_store.specs.Found.{HasNone}
use Rattle.desk_store.specs.Completing.{with_missing_tables}
use Rattle.desk_store.specs.Opened.{FindsBook, HoldsEither, HoldsEmpty, HoldsNone, OpensBook, Stands}
use Rattle.desk_store.specs.Opening.{IsRefusal}
use Rattle.desk_store.specs.Reopened.{HoldsOneOf, HoldsStanding, IsKeptThere}
use Rattle.desk_store.specs.declared.fault.OpenFault.{OpenFault}
use Rattle.desk_store.specs.declared.fault.OpenFault.TheVariants.{NotABook}
use Rattle.desk_store.proofs.BookKeeps.{has_new, leaves_shown}
use Rattle.desk_store.proofs.Completed.{completed_tables}
use Rattle.desk_store.proofs.Openings.{only_no_book}
use Rattle.desk_store.proofs.StandingBooks.{found_there}

-- ---- a file with the tables of a new one is of the second format

second_table : (l : Layout) (c : Contents) (db : Trees) → IsFile l c db → (t : FileTable) → l.has t ≡ true
    → IsPresent needed (l.has t) (is_there l.schema t)
second_table l c db is t has =
    let there : is_there l.schema t ≡ true = rw (is.declared t has).named refl in (has ∙ sym there, has)

pub second_format : (l : Layout) (c : Contents) (db : Trees) → HasNewTables l → IsFile l c db → IsOfFormat named l
second_format l c db new is tables.Corr = tt
second_format l c db new is tables.Cache = (second_table l c db is tables.Cache (has_new l new tables.Cache refl)).0
second_format l c db new is t = second_table l c db is t (has_new l new t refl)

-- ---- what a crash leaves

pub holds_new : (l : Layout) (book : Book) (db : Trees) → HasNewTables l → HoldsBook l book db → HoldsStanding book db
holds_new l book db new holds = (l, (named, second_format l holds.0 db new holds.1), holds)

pub holds_either : (format : Format) (l : Layout) (book : Book) (db : Trees) → IsOfFormat format l → HoldsEither l book db → HoldsStanding book db
holds_either format l book db of (inl old) = (l, (format, of), old)
holds_either format l book db of (inr new) = holds_new (with_missing_tables l) book db (completed_tables format l of) new

pub holds_empty : (db : Trees) → HoldsEmpty db → HoldsStanding empty_book db
holds_empty db (l, new, holds) = holds_new l empty_book db new holds

pub the_one : (book : Book) (db : Trees) → HoldsStanding book db → HoldsOneOf (book ∷ []) db
the_one book db holds = (book, Contains-here book [], holds)

pub first_or_next : (book next : Book) (db : Trees) → HoldsStanding book db ⊎ HoldsStanding next db → HoldsOneOf (book ∷ next ∷ []) db
first_or_next book next db (inl holds) = (book, Contains-here book (next ∷ []), holds)
first_or_next book next db (inr holds) = (next, Contains-behind book next (next ∷ []) (Contains-here next []), holds)

-- ---- a connection that opened at that

module _ {S : Type 0} (g : Ghosts S) (make : Bool) (next : Held S) (after : State) (anew : IsOpenedAnew (state g next)) (live : IsLive (state g next)) where
  abbrev s : State
  s = state g next

  stands_there : (book : Book) → HoldsStanding book s.committed.trees → (l : Layout) × Stands l book s
  stands_there book (l, of, (c, is, shows)) = (l, (of, (c, shows_committed s anew live l c is, shows)))

  -- what stands there is found
  pub finds : (book : Book) → HoldsStanding book s.committed.trees → (result : Result Book OpenFault) → OpensBook g make next after result
      → FindsBook (λ found. found ≡ book) result
  finds book holds result opens = let there = stands_there book holds in found_there g make next after result opens there.0 book there.1

  pub finds_such : (P : Book → Type 0) (book : Book) → P book → HoldsStanding book s.committed.trees → (result : Result Book OpenFault) → OpensBook g make next after result
      → FindsBook P result
  finds_such P book p holds (Ok found) opens = (subst P (sym (finds book holds (Ok found) opens).0) p, tt)
  finds_such P book p holds (Err fault) opens = (tt, (finds book holds (Err fault) opens).1)

  -- and is then kept, if a crash left just what the connection showed
  pub keeps : (book found : Book) → HoldsStanding book s.committed.trees → IsSettled s → OpensBook g make next after (Ok found) → IsKeptThere found after
  keeps book found holds settled opens =
      let there = stands_there book holds in
      let l = there.0 in
      let stands = there.1.1 in
      let opened = opens.stands.opened l stands.0 there.1.0 stands.1 in
      let was = leaves_shown l found s (stands.0, stands.1, opened.rows) settled in
      (with_missing_tables l, record { tables = opened.tables; shows = (opened.shows.0, opened.shows.1.0, opened.shows.2); leaves = opened.leaves (λ db left. inl (was db left)) })

  -- ---- where no book was left, or the empty one

  none_there : HoldsNone s.committed.trees → HasNone s.now.schema
  none_there (schema, sound, none) =
      let here : IsSound schema s.now.trees = subst (λ (d : Database). IsSound schema d.trees) (sym anew.clean) sound in
      subst HasNone (one_schema here (live anew.is_open).0) none

  abbrev FindsNone : Result Book OpenFault → Type 0
  FindsNone result = IfOk result (λ found. found ≡ empty_book) × IfErr result (λ fault. IsRefusal fault → (fault ≡ NotABook) × HasNone s.now.schema)

  finds_none : HasNone s.now.schema → (result : Result Book OpenFault) → OpensBook g make next after result → FindsNone result
  finds_none none (Ok found) opens = ((opens.stands.made none).empty, tt)
  finds_none none (Err fault) opens = (tt, λ refusal. (only_no_book g make next none after fault (opens.reports.bare none) refusal, none))

  finds_empty : HoldsStanding empty_book s.committed.trees → (result : Result Book OpenFault) → OpensBook g make next after result → FindsNone result
  finds_empty holds (Ok found) opens = ((finds empty_book holds (Ok found) opens).0, tt)
  finds_empty holds (Err fault) opens = (tt, λ refusal. absurd ((finds empty_book holds (Err fault) opens).1 refusal))

  pub finds_no_other : HoldsNone s.committed.trees ⊎ HoldsEmpty s.committed.trees → (result : Result Book OpenFault) → OpensBook g make next after result → FindsNone result
  finds_no_other (inl none) = finds_none (none_there none)
  finds_no_other (inr empty) = finds_empty (holds_empty s.committed.trees empty)
