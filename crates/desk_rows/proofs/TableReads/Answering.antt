-- What a read of a table answers, from what its query showed.
use Rattle.std.proofs.Common.{◌≡◌, ◌≢◌, true, ap, ap₂, ℕ, List, [], ◌∷◌, map, drop, None, Ok, Err, Result, IfOk, IfErr, refl, sym, subst, ◌∙◌, subst₂, is_lt, IsPermutation, inl, inr}
use Rattle.std.specs.List.{AllByRecursion}
use Rattle.std.specs.List.Sorted.{IsSortedBy}
use Rattle.sqlite_value.proofs.OrderLemmas.{value_cmp-Int, value_cmp-Text, then-Equal}
use Rattle.std.proofs.lemmas.List.Sorted.{IsPermutation-map}
use Rattle.std.proofs.lemmas.Result.{IfOk-weaker}
use Rattle.std.specs.Ordering.{ordering_then}
use Rattle.sqlite_value.specs.Order.{Row, column}
use Rattle.desk_parts.specs.declared.file_table.FileTable.{FileTable}
use Rattle.desk_parts.specs.declared.file_table.FileTable.TheVariants as tables
use Rattle.desk_parts.specs.Rows.{StoredTab}
use Rattle.desk_parts.specs.FileRows.{HasUtf8Texts}
use Rattle.sqlite_schema.specs.declared.schema.Schema.{Schema}
use Rattle.sqlite_catalog.specs.Listing.{IsSound}
use Rattle.sqlite.specs.declared.error.Error.{Error}
use Rattle.sqlite.specs.State.{State, Shown, FailsToQuery, IsUnchanged}
use Rattle.desk_rows.specs.Fault.{IsReportedAs}
use Rattle.sql_tables.specs.Kinds.{HasKinds}
use Rattle.sql_tables.specs.Tables.{IsDeclared}
use Rattle.sql_tables.specs.States.{HasAnswer, HasTable}
use Rattle.desk_rows.specs.declared.fault.DatabaseFault.{DatabaseFault}
use Rattle.desk_rows.specs.declared.fault.DatabaseFault.TheVariants.{NoMemory, Lost, Refused}
use Rattle.desk_rows.proofs.TableReads.OneList.{one_list}
use Rattle.sql_tables.proofs.Quiet.{answered_fails, on_ok, on_err, shown_quietly, reads, refused_quietly}
use Rattle.desk_rows.specs.TableQuery.{AnswersRows, AnyRows, BeginWith, FailsAs, AreShownBy, failed, given, no_memory, query_of, together, unreadable, TableQuery}
use Rattle.desk_rows.specs.Descriptions.{description_of, table_of}
use Rattle.sql_tables.specs.Rows.{Lists, columns_at}
use Rattle.desk_rows.specs.Layout.{Layout}
use Rattle.desk_rows.specs.Contents.{Contents}
use Rattle.desk_rows.specs.States.{ShowsContents}
use Rattle.desk_rows.specs.Rows.{ShownOf, shown_columns, own, order, columns_of}
use Rattle.desk_rows.proofs.TableReads.WholeReads.{rows_cmp, reads_only, table_answers, table_read, table_kinds}
use Rattle.sqlite_resolve.specs.Compile.{first}

head_or : {X : Type 0} → X → List X → X
head_or d [] = d
head_or d (x ∷ xs) = x

-- ---- a read that fails

-- an allocation for rows of which the first begins so
pub lacks_memory : {X : Type 0} (query : TableQuery) (written : X → Row) (Apart : List X → Type 0) (before after : State) (rows : List Row) → Shown query.text [] before after rows
    → BeginWith query.kinds rows → FailsAs query written Apart before after NoMemory
lacks_memory query written Apart before after [] shown begins = absurd begins
lacks_memory query written Apart before after (row ∷ rows) shown begins = no_memory row rows shown begins refl

module _ {X : Type 0} (query : TableQuery) (written : X → Row) (before after : State) where
  fails_to_read : {A : Type 0} (rows : List Row) → Shown query.text [] before after rows → (r : Result A DatabaseFault) → IfErr r (λ fault. fault ≢ Lost)
      → (AllByRecursion (HasKinds query.kinds) rows → IfErr r (λ fault. fault ≡ NoMemory))
      → IfErr r (λ fault. fault ≡ NoMemory → BeginWith query.kinds rows) → IfErr r (FailsAs query written AnyRows before after)
  fails_to_read rows shown (Ok a) not_lost kinds begins = tt
  fails_to_read rows shown (Err NoMemory) not_lost kinds begins = lacks_memory query written AnyRows before after rows shown (begins refl)
  fails_to_read rows shown (Err Lost) not_lost kinds begins = absurd (not_lost refl)
  fails_to_read rows shown (Err Refused) not_lost kinds begins = unreadable rows shown (λ all. absurd (let none = kinds all in cc)) refl

-- a failed allocation isn't a refusal
not_refused : {A : Type 0} (r : Result A DatabaseFault) → IfErr r (λ fault. fault ≡ NoMemory) → IfErr r (λ fault. fault ≢ Refused)
not_refused (Ok a) none = tt
not_refused (Err fault) none = λ refused. absurd (let both = sym none ∙ refused in cc)

-- a fault of another cause than the store's is reported of a file that is as it was
refused_as_it_was : (text : List ℕ) (is : reads (first text) ≡ true) (params : Row) (old new : State) (fault : DatabaseFault) → (e : Error) × FailsToQuery text params old new e × IsReportedAs e fault → fault ≡ Refused → IsUnchanged old new
refused_as_it_was text is params old new fault (e, fails_so, reported) refused = elim (refused_quietly text is params old new e fails_so) [
  | inl store ↦ absurd (subst (IsReportedAs e) refused reported store.0 store.1)
  | inr same ↦ same
]

-- ---- each table

-- what of a row that the query shows is the row of the table
abbrev pub own_of : FileTable → Row → Row
own_of tables.Tab r = drop 1 r
own_of t r = r

owned : (t : FileTable) (x : ShownOf t) → own_of t (shown_columns t x) ≡ columns_of t (own t x)
owned tables.Tab x = refl
owned t x = refl

ordered : (t : FileTable) (a b : ShownOf t) → rows_cmp t (shown_columns t a) (shown_columns t b) ≡ order t a b
ordered tables.Tab a b = then-Equal _ ∙ value_cmp-Text _ _
ordered tables.Corr a b = ap₂ ordering_then (value_cmp-Int _ _) (then-Equal _ ∙ value_cmp-Int _ _)
ordered tables.NamedCorr a b = ap₂ ordering_then (value_cmp-Int _ _) (then-Equal _ ∙ value_cmp-Int _ _)
ordered t a b = then-Equal _ ∙ value_cmp-Int _ _

own_shown : (t : FileTable) (r : Row) → own_of t (columns_at (description_of t).shown r) ≡ columns_at (description_of t).own r
own_shown tables.Tab r = refl
own_shown t r = refl

-- ---- all tables

pub has_table : (t : FileTable) (l : Layout) (c : Contents) (s : State) → l.has t ≡ true → ShowsContents l c s → HasTable (table_of t (l.tree t)) s
has_table t l c s there shows = record {
  declared = subst (λ (schema : Schema). IsDeclared schema (table_of t (l.tree t))) (sym shows.schema) (shows.is.declared t there);
  sound = subst (λ (schema : Schema). IsSound schema s.now.trees) (sym shows.schema) shows.is.sound;
}

pub maps_own : (t : FileTable) (rows : List Row) → map (own_of t) (map (columns_at (description_of t).shown) rows) ≡ map (columns_at (description_of t).own) rows
maps_own t [] = refl
maps_own t (r ∷ rows) = rw (own_shown t r, maps_own t rows)

pub maps_shown : {X : Type 0} (t : FileTable) (view : X → ShownOf t) (xs : List X) → map (own_of t) (map (λ x. shown_columns t (view x)) xs) ≡ map (columns_of t) (map (λ x. own t (view x)) xs)
maps_shown t view [] = refl
maps_shown t view (x ∷ xs) = rw (owned t (view x), maps_shown t view xs)

-- what a query gives of a table that is declared are its rows, in order
gives_rows : {X : Type 0} (t : FileTable) (view : X → ShownOf t) (old new : State) (tree : ℕ) → HasTable (table_of t tree) old
    → (xs : List X) → AreShownBy (query_of t) (λ x. shown_columns t (view x)) old new xs
    → Lists (λ x. shown_columns t (view x)) (columns_at (description_of t).shown) xs (old.now.trees tree) × IsSortedBy (λ a b. is_lt (order t (view a) (view b))) xs
gives_rows t view old new tree has xs gives =
    table_read t old.now.schema tree has.declared old new refl has.sound (λ x. shown_columns t (view x)) (λ a b. order t (view a) (view b))
    (λ a b. ordered t (view a) (view b)) gives.0 xs gives.1 gives.2

-- nothing is read: why not, that all is as it was if it was refused, and that it isn't refused where the statement has an answer that can
-- be read and steps have no limit
module _ {V X : Type 0} (items : V → List X) (t : FileTable) (view : X → ShownOf t) (Apart : List X → Type 0) (old new : State) (fault : DatabaseFault) where
  not_read : FailsAs (query_of t) (λ x. shown_columns t (view x)) Apart old new fault → (fault ≡ Refused → IsUnchanged old new)
      → (HasAnswer (query_of t).text old → old.step_limit ≡ None → ((rows : List Row) → Shown (query_of t).text [] old new rows → AllByRecursion (HasKinds (query_of t).kinds) rows)
      → ((xs : List X) → AreShownBy (query_of t) (λ x. shown_columns t (view x)) old new xs → Apart xs) → fault ≢ Refused)
      → AnswersRows (Err fault) items t view Apart old new
  not_read reported refused answered = record {
    gives = tt;
    apart = tt;
    utf8 = tt;
    rows = λ tree has. tt;
    shows = λ l c there is. tt;
    unchanged = tt;
    reported = reported;
    refused = refused;
    cause = λ tree has unlimited readable apart.
        answered (table_answers t old.now.schema tree has.declared old new refl has.sound) unlimited
        (λ rows seen. table_kinds t old.now.schema tree has.declared old new refl has.sound rows seen readable)
        (λ xs gives. apart xs (gives_rows t view old new tree has xs gives).0);
    answered = answered;
  }

module _ {V X : Type 0} (items : V → List X) (t : FileTable) (view : X → ShownOf t) (old new : State) where
  pub answers : (rows : List Row) → Shown (description_of t).read [] old new rows → (r : Result V DatabaseFault) → IfOk r (λ xs. map (given t) rows ≡ map (λ x. shown_columns t (view x)) (items xs))
      → (AllByRecursion (HasKinds (query_of t).kinds) rows → IfErr r (λ fault. fault ≡ NoMemory)) → IfErr r (λ fault. fault ≢ Lost)
      → IfErr r (λ fault. fault ≡ NoMemory → BeginWith (query_of t).kinds rows)
      → IfOk r (λ xs. AllByRecursion (λ x. HasUtf8Texts t (own t (view x))) (items xs)) → AnswersRows r items t view AnyRows old new
  answers rows seen r reads kinds not_lost begins utf8 =
      let read = λ (tree : ℕ) (has : HasTable (table_of t tree) old).
      IfOk-weaker r _ _ (λ xs made. gives_rows t view old new tree has (items xs) (rows, seen, made)) reads in record {
        gives = IfOk-weaker r _ _ (λ xs made. (rows, seen, made)) reads;
        apart = on_ok r _ tt;
        utf8 = utf8;
        rows = read;
        shows = λ l c there is. IfOk-weaker r _ _ (λ xs all. one_list t (columns_at (description_of t).own) (c.rows t) (map (λ x. own t (view x)) (items xs)) (old.now.trees (l.tree t)) (is.is.tables t there)
            (subst₂ IsPermutation (maps_shown t view (items xs)) (maps_own t (old.now.trees (l.tree t))) (IsPermutation-map (own_of t) _ _ all.0))) (read (l.tree t) (has_table t l c old there is));
        unchanged = on_ok r _ (shown_quietly (description_of t).read (reads_only t) [] old new rows seen);
        reported = fails_to_read (query_of t) (λ x. shown_columns t (view x)) old new rows seen r not_lost kinds begins;
        refused = on_err r _ (λ fault refused. shown_quietly (description_of t).read (reads_only t) [] old new rows seen);
        answered = λ can unlimited readable apart. not_refused r (kinds (readable rows seen));
        cause = λ tree has unlimited readable apart. not_refused r (kinds (table_kinds t old.now.schema tree has.declared old new refl has.sound rows seen readable));
      }

  pub fails : (fault : DatabaseFault) → (e : Error) × FailsToQuery (description_of t).read [] old new e × IsReportedAs e fault → AnswersRows (Err fault) items t view AnyRows old new
  fails fault why =
      not_read items t view AnyRows old new fault (failed why.0 why.1 why.2) (refused_as_it_was (description_of t).read (reads_only t) [] old new fault why)
      (λ can unlimited readable apart refused.
      let store = answered_fails (description_of t).read (reads_only t) old new can unlimited why.0 why.1 in
      subst (IsReportedAs why.0) refused why.2 store.0 store.1)

-- ---- rows that have to be apart

module _ {V X : Type 0} (items : V → List X) (t : FileTable) (view : X → ShownOf t) (Apart : List X → Type 0) (old new : State) where
  still_fails : (fault : DatabaseFault) → FailsAs (query_of t) (λ x. shown_columns t (view x)) AnyRows old new fault → FailsAs (query_of t) (λ x. shown_columns t (view x)) Apart old new fault
  still_fails fault (failed e fails reported) = failed e fails reported
  still_fails fault (unreadable rows seen not is) = unreadable rows seen not is
  still_fails fault (together xs gives not is) = absurd (not tt)
  still_fails fault (no_memory row rows seen begins is) = no_memory row rows seen begins is

  pub are_apart : (xs : V) → AnswersRows (Ok xs) items t view AnyRows old new → Apart (items xs) → AnswersRows (Ok xs) items t view Apart old new
  are_apart xs a is = record {
    gives = a.gives;
    apart = is;
    utf8 = a.utf8;
    rows = a.rows;
    shows = a.shows;
    unchanged = a.unchanged;
    reported = tt;
    refused = tt;
    cause = λ tree has unlimited readable apart. tt;
    answered = λ can unlimited readable apart. tt;
  }

  pub still_not_read : (fault : DatabaseFault) → AnswersRows (Err fault) items t view AnyRows old new → AnswersRows (Err fault) items t view Apart old new
  still_not_read fault a =
      not_read items t view Apart old new fault (still_fails fault a.reported) a.refused (λ can unlimited readable apart. a.answered can unlimited readable (λ xs all. tt))

  pub are_together : (xs : V) → AnswersRows (Ok xs) items t view AnyRows old new → ¬ Apart (items xs) → AnswersRows (Err Refused) items t view Apart old new
  are_together xs a not =
      not_read items t view Apart old new Refused (together (items xs) a.gives not refl) (λ is. a.unchanged)
      (λ can unlimited readable apart. absurd (not (apart (items xs) a.gives)))

  pub not_judged : (xs : V) (a : AnswersRows (Ok xs) items t view AnyRows old new) → BeginWith (query_of t).kinds a.gives.0 → AnswersRows (Err NoMemory) items t view Apart old new
  not_judged xs a begins =
      not_read items t view Apart old new NoMemory (lacks_memory (query_of t) (λ x. shown_columns t (view x)) Apart old new a.gives.0 a.gives.1 begins) (λ is. a.unchanged) (λ can unlimited readable apart is. absurd (cc))

-- ---- braille tables, for the first of which something is allocated

pub tabs_begin : (rows : List Row) (xs : List StoredTab) → map (given tables.Tab) rows ≡ map (shown_columns tables.Tab) xs → xs ≢ []
    → AllByRecursion (λ x. HasUtf8Texts tables.Tab (own tables.Tab x)) xs → BeginWith (query_of tables.Tab).kinds rows
unfolding head_or
tabs_begin rows [] same some utf8 = absurd (some refl)
tabs_begin [] (x ∷ xs) same some utf8 = absurd (cc)
tabs_begin (row ∷ rows) (x ∷ xs) same some utf8 =
    let first : given tables.Tab row ≡ shown_columns tables.Tab x = ap (head_or (shown_columns tables.Tab x)) same in
    ((x.rowid, ap (λ (r : Row). column r 0) first), (x.row.name, ap (λ (r : Row). column r 1) first, utf8.0))
