-- What opening reports and leaves at each of its exits.
use Rattle.std.proofs.Common.{◌≡◌, ◌⊎◌, Bool, true, false, IsTrue, List, [], Option, Ok, Err, arith, refl, sym, ap, ◌∙◌, subst, inl, inr, true≢false}
use Rattle.std.proofs.lemmas.Bool.{cases_Bool, or_parts}
use Rattle.std.specs.Prelude.{MatchOption}
use Rattle.sqlite_schema.specs.declared.schema.Schema.{Schema}
use Rattle.sqlite_trees.specs.Tree.{Trees}
use Rattle.sqlite_trees.specs.declared.store.Store.{Ghosts}
use Rattle.sqlite.specs.declared.error.Error.{Error}
use Rattle.sqlite.specs.Effect.{Database}
use Rattle.sqlite.specs.Held.{Held, state}
use Rattle.sqlite.specs.State.{HasCleanDisk, State, Survives}
use Rattle.sqlite.proofs.StateLemmas.{survives_then, survives_weaker}
use Rattle.sql_tables.specs.States.{IsSettled, Leaves, ShowsAsBefore}
use Rattle.desk_model.specs.Book.{Book, empty_book}
use Rattle.desk_parts.specs.declared.file_table.FileTable.{FileTable}
use Rattle.desk_parts.specs.declared.file_table.FileTable.TheVariants as tables
use Rattle.desk_parts.specs.FileRows.{FileRows}
use Rattle.desk_model.specs.FilledRows.{Fills}
use Rattle.desk_model.specs.Rebuilding.{IsFaultOf}
use Rattle.desk_model.specs.Shows.{Shows as RowsShow}
use Rattle.desk_model.specs.declared.new_tables.NewTables.{NewTables}
use Rattle.desk_model.specs.declared.fault.PartsFault.{PartsFault}
use Rattle.desk_model.specs.declared.fault.PartsFault.TheVariants as rebuilt
use Rattle.desk_model.proofs.Callers.{first-damage, one_book, shown-same as shown, symmetric-same as symmetric, undamaged as sound}
use Rattle.desk_store.specs.BookFile.{rows_of}
use Rattle.desk_store.specs.Keeping.{LeavesBook, MayServe}
use Rattle.desk_rows.specs.Contents.{Contents}
use Rattle.desk_rows.specs.Failing.{FailsToChange, of_first_row}
use Rattle.desk_store.specs.Formats.{IsExact, IsOfEither}
use Rattle.desk_store.specs.Found.{HasNone, RowsShowIn}
use Rattle.desk_rows.specs.Layout.{Layout}
use Rattle.desk_rows.specs.Making.{IsMade, IsNew, new_layout, new_tables, with_tables}
use Rattle.desk_store.specs.FillingSteps.{FillsLacked, HoldsEitherWith, HoldsWith, which_lacked}
use Rattle.desk_store.specs.Completing.{Completes, HasGained, lacking, missing_tables, which_new}
use Rattle.desk_store.specs.Opened.{HoldsEither, HoldsEmpty, HoldsNone, IsMadeNew, MayBring, OpensBook, Stands, TellsOf, TellsOfNone}
use Rattle.desk_store.specs.ReadingSteps.{ReadsFile}
use Rattle.desk_store.specs.Opening.{IsOpenedAs, IsRefusal, opened_as, rebuilt_as}
use Rattle.desk_rows.specs.States.{IsFile, ShowsContents}
use Rattle.desk_rows.specs.Tables.{is_there}
use Rattle.desk_rows.specs.Statements.{with_transaction}
use Rattle.desk_rows.specs.declared.fault.DatabaseFault.{DatabaseFault}
use Rattle.desk_rows.specs.declared.fault.DatabaseFault.TheVariants as fault
use Rattle.desk_store.specs.declared.fault.OpenFault.{OpenFault}
use Rattle.desk_store.specs.declared.fault.OpenFault.TheVariants.{NotABook, Lost, NoMemory}
use Rattle.desk_store.proofs.BookKeeps.{serves_shown}
use Rattle.desk_store.proofs.Completed.{completed_tables, lacked_rows, lacked_same, made_holds, new_shows, new_tables_there}
use Rattle.desk_store.proofs.FoundFormats.{books_there, of_format}
use Rattle.desk_store.proofs.Opened.{shows_still}

-- ---- what a crash leaves

-- the book in one of its two forms
pub leaves_either : (make : Bool) (old new : State) → Survives old new (MayBring make old) → HasCleanDisk new → (l : Layout) (book : Book) → Stands l book old
    → Leaves (HoldsEither l book) old → Leaves (HoldsEither l book) new
leaves_either make old new survives clean l book stands leaves db left = elim (survives.crash clean db left) [
  | inl before ↦ leaves db before
  | inr brought ↦ let gained = brought.old l book stands in inr (gained.0, gained.1.0, gained.2)
]

-- no book, or the empty one
pub leaves_none : (make : Bool) (old new : State) → Survives old new (MayBring make old) → HasCleanDisk new → HasNone old.now.schema
    → Leaves HoldsNone old → Leaves (λ db. HoldsNone db ⊎ HoldsEmpty db) new
leaves_none make old new survives clean none leaves db left = elim (survives.crash clean db left) [
  | inl before ↦ inl (leaves db before)
  | inr brought ↦ inr (new_layout old.now.schema, new_tables_there old.now.schema, made_holds old db (brought.new none).1)
]

-- ---- where a table of a book is there

pub tells_no_refusal : (l : Layout) (c : Contents) (fault : OpenFault) → ¬ IsRefusal fault → TellsOf l c fault
tells_no_refusal l c Lost none = tt
tells_no_refusal l c NoMemory none = tt
tells_no_refusal l c fault none = absurd (none tt)

gained_same : (tables others : List FileTable) (l : Layout) (c : Contents) (a b : Book) (x y : Database) (P : Layout → Contents → Type 0) → tables ≡ others → a ≡ b → x ≡ y
    → HasGained tables l c a x.trees P → HasGained others l c b y.trees P
gained_same tables others l c a b x y P same_tables same_book same_rows gained =
    rw (← same_tables, ← same_book, ← same_rows) gained

module _ {S : Type 0} (g : Ghosts S) (make : Bool) (old : Held S) (there : ¬ HasNone (state g old).now.schema) where
  abbrev s : State
  s = state g old

  pub refuses : (new : State) (fault : OpenFault) → ((book : Book) → RowsShowIn s book → ¬ IsRefusal fault)
      → ((l : Layout) (c : Contents) → (IsExact l ⊎ IsOfEither l) → ShowsContents l c s → TellsOf l c fault) → (IsRefusal fault → ShowsAsBefore s new) → OpensBook g make old new (Err fault)
  refuses new fault unrefused reported before = record {
    answers = record { found = tt; shown = λ book shows. (tt, unrefused book shows) };
    reports = record { declared = λ l c some. reported l c; bare = λ none. absurd (there none) };
    stands = record { is_open = tt; opened = λ l c of shows. tt; made = λ none. tt; refused = before };
    ran = λ some. tt;
  }

  -- ---- once the rows are read

  module _ {mid : State} {rows : FileRows} (read : ReadsFile s mid rows) where
    damage_reported : (fault : PartsFault) → IsFaultOf rows fault → (l : Layout) (c : Contents) → (IsExact l ⊎ IsOfEither l) → ShowsContents l c s → TellsOf l c (rebuilt_as fault)
    damage_reported (rebuilt.Damaged table id) first l c those shows =
        let of = of_format s rows l c read.found those shows in
        let it = read.read of.0 l c of.1 shows in
        inr (record { row = it.row; book = it.book; of = it.of; readable = it.readable; first = first-damage rows (rows_of l c) table id (symmetric (rows_of l c) rows it.same) first })
    damage_reported rebuilt.NoMemory first l c those shows = tt

    damage_shows_none : (fault : PartsFault) → IsFaultOf rows fault → (book : Book) → RowsShowIn s book → ¬ IsRefusal (rebuilt_as fault)
    damage_shows_none (rebuilt.Damaged table id) first book shows refusal = sound rows book (shows.each rows read.found) table id first.damaged
    damage_shows_none rebuilt.NoMemory first book shows refusal = refusal

    pub refuses_damaged : (fault : PartsFault) → IsFaultOf rows fault → OpensBook g make old mid (Err (rebuilt_as fault))
    refuses_damaged fault first =
        refuses mid (rebuilt_as fault) (damage_shows_none fault first) (damage_reported fault first) (λ refusal is_open. read.stays.now)

    -- ---- once they show a book

    module _ {book : Book} {some : Option NewTables} (shows_it : RowsShow rows book) (is : some ≡ lacking rows.entries rows.caches) where
      stood : (l : Layout) (c : Contents) → IsOfEither l → ShowsContents l c s → RowsShow (rows_of l c) book
      stood l c of shows = shown rows (rows_of l c) (symmetric (rows_of l c) rows (read.read of.0 l c of.1 shows).same) book shows_it

      -- what stands there is this book
      one_stood : (l : Layout) (other : Book) → Stands l other s → other ≡ book
      one_stood l other (of, (c, shows, others)) = one_book rows other book (shown (rows_of l c) rows (read.read of.0 l c of.1 shows).same other others) shows_it

      lacks : (l : Layout) (c : Contents) → IsOfEither l → ShowsContents l c s → which_lacked some ≡ missing_tables l
      lacks l c of shows = ap which_lacked (is ∙ sym (lacked_same (rows_of l c) rows (read.read of.0 l c of.1 shows).same)) ∙ lacked_rows l c

      pub brings : (db : Trees) → HoldsWith (which_lacked some) book mid db → MayBring make s db
      brings db holds = record {
        only = inr (book, (rows, read.found, shows_it));
        new = λ none. absurd (there none);
        old = λ l other st.
            let c = st.1.0 in
            let one = one_stood l other st in
            let here : Stands l book mid = (st.0, (c, shows_still s mid read.stays l c st.1.1, subst (λ (b : Book). RowsShow (rows_of l c) b) one st.1.2)) in
            gained_same _ _ l c book other mid.now s.now (λ after d. IsFile after d db) (lacks l c st.0 st.1.1) (sym one) read.stays.now (holds l here);
      }

      pub opens : (new : State) → ((l : Layout) (stands : Stands l book mid) → HasGained (which_lacked some) l stands.1.0 book mid.now.trees (λ after d. ShowsContents after d new))
          → ((l : Layout) → Stands l book mid → Leaves (HoldsEitherWith (which_lacked some) l book) mid → LeavesBook (with_tables (which_lacked some) l) book new)
          → ((db : Trees) → mid.may_leave db → s.may_leave db) → IsTrue new.is_open
          → (last : Held S) × Completes g old book last × (new.now ≡ (state g last).now) → OpensBook g make old new (Ok book)
      opens new filled leaves left is_open ran = record {
        answers = record { found = inl (rows, read.found, shows_it); shown = λ other shows. (one_book rows book other shows_it (shows.each rows read.found), tt) };
        reports = tt;
        stands = record {
          is_open = is_open;
          opened = λ l c of shows.
              let it = stood l c of shows in
              let same = lacks l c of shows in
              let still : Stands l book mid = (of, (c, shows_still s mid read.stays l c shows, it)) in
              record {
                rows = it;
                tables = completed_tables of.0 l of.1;
                shows = gained_same _ _ l c book book mid.now s.now (λ after d. ShowsContents after d new) same refl read.stays.now (filled l still);
                leaves = λ was.
                    let here : Leaves (HoldsEither l book) mid = λ db here. was db (left db here) in
                    let either = subst (λ (tables : List FileTable). Leaves (HoldsEitherWith tables l book) mid) (sym same) here in
                    subst (λ (tables : List FileTable). LeavesBook (with_tables tables l) book new) same (leaves l still either);
              };
          made = λ none. absurd (there none);
          refused = tt;
        };
        ran = λ some. ran;
      }

  -- if the tables that it lacks are made, a crash leaves nothing new but all of it
  pub fills : {rows : FileRows} {book : Book} {mid new : State} {some : Option NewTables} → some ≡ lacking rows.entries rows.caches → RowsShow rows book
      → (HasCleanDisk mid → ReadsFile s mid rows) → Survives s mid (λ _. ⊥) → Survives mid new (HoldsWith (which_lacked some) book mid)
      → Survives s new (MayBring make s)
  fills {mid} {new} is shows_it read reads writes =
      survives_then s mid new _ _ _ (λ clean db none. absurd none)
      (λ clean db holds. brings (read (omega (arith, clean, writes.clean))) shows_it is db holds) reads writes

-- ---- what ran, in any file

module _ {S : Type 0} (g : Ghosts S) (old : Held S) where
  pub completes : {mid : Held S} {rows : FileRows} {book : Book} {some : Option NewTables} → ReadsFile (state g old) (state g mid) rows → RowsShow rows book
      → some ≡ lacking rows.entries rows.caches → (last : Held S) → FillsLacked g some book mid last → Completes g old book last
  completes {mid} {rows} {book} read shown is last (made, puts, lacks, ran) = record {
    rows = rows;
    are = read.found;
    shown = shown;
    made = made;
    puts = puts;
    lacks = subst (λ (lacked : Option NewTables). MatchOption lacked ((made ≡ []) × (puts ≡ [])) (λ tables. (made ≡ which_new tables) × Fills tables book puts)) is lacks;
    before = mid;
    stays = read.stays;
    ran = ran;
  }

  pub leaves_completed : {mid : Held S} {new : State} {rows : FileRows} {book : Book} {some : Option NewTables} → some ≡ lacking rows.entries rows.caches → RowsShow rows book
      → (HasCleanDisk (state g mid) → ReadsFile (state g old) (state g mid) rows) → Survives (state g old) (state g mid) (λ _. ⊥)
      → Survives (state g mid) new (λ db. (last : Held S) × FillsLacked g some book mid last × (db ≡ (state g last).now.trees))
      → Survives (state g old) new (λ db. (shown : Book) × (last : Held S) × Completes g old shown last × (db ≡ (state g last).now.trees))
  leaves_completed {mid} {new} {rows} {book} is shown read reads writes =
      survives_then (state g old) (state g mid) new _ _ _ (λ clean db none. absurd none)
      (λ clean db left. (book, left.0, completes (read (omega (arith, clean, writes.clean))) shown is left.0 left.1, left.2)) reads writes

-- ---- where none is there

module _ {S : Type 0} (g : Ghosts S) (make : Bool) (old : Held S) (none : HasNone (state g old).now.schema) where
  abbrev bare : State
  bare = state g old

  no_books : is_there bare.now.schema tables.Book ≡ true → ⊥
  no_books there = true≢false (sym there ∙ (or_parts (is_there bare.now.schema tables.Book) _ none).0)

  no_file : (l : Layout) (c : Contents) → IsOfEither l → ShowsContents l c bare → ⊥
  no_file l c of shows = no_books (subst (λ (x : Schema). is_there x tables.Book ≡ true) (sym shows.schema) (books_there of.0 l of.1))

  no_exact : (l : Layout) (c : Contents) → (¬ HasNone l.schema) → ShowsContents l c bare → ⊥
  no_exact l c some shows = some (subst HasNone shows.schema none)

  pub refuses_new : (new : State) (fault : OpenFault) → TellsOfNone make g old new fault → (IsRefusal fault → ShowsAsBefore bare new) → OpensBook g make old new (Err fault)
  refuses_new new fault reported before = record {
    answers = record { found = tt; shown = λ book shows. absurd (no_books shows.are.book) };
    reports = record { declared = λ l c some those shows. absurd (no_exact l c some shows); bare = λ still. reported };
    stands = record { is_open = tt; opened = λ l c of shows. tt; made = λ still. tt; refused = before };
    ran = λ some. tt;
  }

  -- if it is made, a crash leaves nothing new but all of it
  pub brings_new : (new : State) → make ≡ true → Survives bare new (IsMade bare) → Survives bare new (MayBring make bare)
  brings_new new wanted = survives_weaker bare new _ _ (λ clean db made. record {
    only = inl none;
    new = λ still. (wanted, made);
    old = λ l book stands. absurd (no_file l stands.1.0 stands.0 stands.1.1);
  })

  pub makes : (new : State) (book : Book) → make ≡ true → book ≡ empty_book → IsNew bare.now.schema bare.now.trees (λ c. ShowsContents (new_layout bare.now.schema) c new) → IsSettled new
      → IsTrue new.is_open → OpensBook g make old new (Ok book)
  makes new book wanted empty beside settled is_open =
      let shows = new_shows bare new beside in
      let it : IsMadeNew make book bare new = record {
        bare = none;
        wanted = wanted;
        empty = empty;
        beside = beside;
        kept = subst (λ (b : Book). MayServe (new_layout bare.now.schema) b new) (sym empty)
            (serves_shown (new_layout bare.now.schema) empty_book new (new_tables_there bare.now.schema) shows settled);
      } in
      record {
        answers = record { found = inr it; shown = λ other shows. absurd (no_books shows.are.book) };
        reports = tt;
        stands = record { is_open = is_open; opened = λ l c of shows. absurd (no_file l c of shows); made = λ still. it; refused = tt };
        ran = λ some. absurd (some none);
      }

  -- ---- what is reported if making the tables failed

  abbrev Failed : State → OpenFault → Type 0
  Failed new reported = (e : Error) × FailsToChange g new_tables (of_first_row g) (with_transaction old) new e × IsOpenedAs e reported

  pub tells_new : (new : State) (reported : OpenFault) → make ≡ true → (is_there bare.now.schema tables.Cache ≡ true → reported ≡ NotABook)
      → (is_there bare.now.schema tables.Cache ≡ false → Failed new reported) → TellsOfNone make g old new reported
  tells_new new reported wanted beside failed = elim (cases_Bool (is_there bare.now.schema tables.Cache)) [
    | inl there ↦ inl (beside there, inr there)
    | inr free ↦ let it = failed free in inr (it.0, it.2.0, wanted, free, it.1, it.2.1, it.2.2)
  ]

  refused_only : (why : DatabaseFault) (reported : OpenFault) → reported ≡ opened_as why → IsRefusal reported → reported ≡ NotABook
  refused_only fault.Refused reported is refusal = is
  refused_only why reported is refusal = absurd (subst IsRefusal is refusal)

  pub only_no_book : (new : State) (reported : OpenFault) → TellsOfNone make g old new reported → IsRefusal reported → reported ≡ NotABook
  only_no_book new reported (inl it) refusal = it.0
  only_no_book new reported (inr it) refusal = refused_only it.1 reported it.6 refusal
