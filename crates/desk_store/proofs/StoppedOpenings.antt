-- What a connection shows after its file wasn't opened, though it isn't refused.
use Rattle.std.proofs.Common.{◌≡◌, ◌∙◌, List, [], ◌∷◌, None, inl, inr, subst, sym}
use Rattle.sqlite_trees.specs.declared.store.Store.{Ghosts}
use Rattle.sqlite_value.specs.Order.{Row}
use Rattle.sqlite.specs.Clock.{timed}
use Rattle.sqlite.specs.Held.{Held, state}
use Rattle.sqlite.specs.State.{FailsToQuery, FailsToShow, IsNotRun, State}
use Rattle.sqlite.specs.declared.error.Error.{Error}
use Rattle.desk_parts.specs.declared.file_table.FileTable.{FileTable}
use Rattle.sql_tables.specs.States.{ShowsAsBefore}
use Rattle.sql_tables.proofs.Quiet.{never_returns, shown_quietly}
use Rattle.desk_rows.specs.TableQuery.{FailsAs, failed, no_memory, query_of, together, unreadable}
use Rattle.desk_rows.specs.Descriptions.{description_of}
use Rattle.desk_rows.specs.declared.fault.DatabaseFault.{DatabaseFault}
use Rattle.desk_rows.proofs.TableReads.WholeReads.{reads_only}
use Rattle.desk_store.specs.Opened.{StopsOpening, filling, reading, rebuilding}
use Rattle.desk_store.specs.declared.fault.OpenFault.{OpenFault}

-- a read that fails undoes at most what wasn't committed
query_as_before : (t : FileTable) (old new : State) (e : Error) → old.now ≡ old.committed → FailsToQuery (description_of t).read [] old new e
    → ShowsAsBefore old new
unfolding FailsToQuery IsNotRun
query_as_before t old new e same (inl (inl h)) opened = h.1.0.now_is
query_as_before t old new e same (inl (inr h)) opened = (h.3.undone opened).0 ∙ sym same
query_as_before t old new e same (inr h) opened =
    let text = (description_of t).read in
    let none = never_returns text (reads_only t) old.now.schema h.0 h.1.is in
    let full = timed [] h.0.formats h.1.now in
    let shown : FailsToShow old new text h.0 full e None = subst (FailsToShow old new text h.0 full e) none h.2 in
    shown.3.0.now_is

read_as_before : {X : Type 0} (t : FileTable) (written : X → Row) (Apart : List X → Type 0) (old new : State) (why : DatabaseFault) → old.now ≡ old.committed
    → FailsAs (query_of t) written Apart old new why → ShowsAsBefore old new
read_as_before t written Apart old new why same (failed e fails reported) opened = query_as_before t old new e same fails opened
read_as_before t written Apart old new why same (unreadable rows seen not is) opened = (shown_quietly (description_of t).read (reads_only t) [] old new rows seen).0.now_is
read_as_before t written Apart old new why same (together xs gives not is) opened = (shown_quietly (description_of t).read (reads_only t) [] old new gives.0 gives.1).0.now_is
read_as_before t written Apart old new why same (no_memory row rows seen begins is) opened = (shown_quietly (description_of t).read (reads_only t) [] old new (row ∷ rows) seen).0.now_is

module _ {S : Type 0} (g : Ghosts S) (old : Held S) (new : State) (reported : OpenFault) (same : (state g old).now ≡ (state g old).committed) where
  pub still_shown : StopsOpening g old new reported → ShowsAsBefore (state g old) new
  still_shown (reading why stops is) opened =
      let mid = state g stops.before in
      read_as_before stops.table _ _ mid new why (stops.stays.now ∙ same ∙ sym stops.stays.committed) stops.fails opened ∙ stops.stays.now
  still_shown (rebuilding rows are stays is) opened = stays.now
  still_shown (filling rows book tables before are shows lacks stays stops) opened = stops.as_before opened ∙ stays.now
