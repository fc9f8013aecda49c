-- How tables that a book's file lacks are made and filled. Only private functions and proofs need
-- these words.
use Rattle.std.specs.Prelude.{◌≡◌, ◌⊎◌, IfErr, List, [], ◌++◌, map, MatchOption, OnOk, Option}
use Rattle.std.specs.Prelude.{option_map, Result, Some, unwrap_or}
use Rattle.sqlite_trees.specs.Tree.{Trees}
use Rattle.sqlite_trees.specs.declared.store.Store.{Ghosts}
use Rattle.sqlite.specs.Held.{Held, state}
use Rattle.sqlite.specs.State.{HasCleanDisk, State, Survives}
use Rattle.desk_model.specs.Book.{Book}
use Rattle.desk_model.specs.FilledRows.{Fills}
use Rattle.desk_model.specs.declared.new_tables.NewTables.{NewTables}
use Rattle.desk_parts.specs.declared.file_table.FileTable.{FileTable}
use Rattle.desk_parts.specs.Puts.{RowPut}
use Rattle.desk_rows.specs.Layout.{Layout}
use Rattle.desk_rows.specs.Making.{creation, with_tables}
use Rattle.desk_rows.specs.Puts.{statement}
use Rattle.desk_rows.specs.States.{IsFile, ShowsContents}
use Rattle.desk_rows.specs.Statements.{RunInTurn, with_transaction}
use Rattle.desk_store.specs.Keeping.{HoldsBook}
use Rattle.desk_store.specs.Completing.{HasGained, which_new}
use Rattle.desk_store.specs.Opened.{Stands, StopsFilling}
use Rattle.desk_store.specs.Opening.{IsRefusal}
use Rattle.desk_store.specs.declared.fault.OpenFault.{OpenFault}

-- the tables that are lacked, if any are, in the order in which they are made
abbrev pub which_lacked : Option NewTables → List FileTable
which_lacked tables = unwrap_or (option_map which_new tables) []

-- Whatever file the book stood in, the trees hold it in that file with these tables too, and
-- nothing else there is lost.
abbrev pub HoldsWith : List FileTable → Book → State → Trees → Type 0
HoldsWith tables book s db =
    (l : Layout) (stands : Stands l book s)
    → HasGained tables l stands.1.0 book s.now.trees (λ after d. IsFile after d db)

-- the statements that make what is lacked, if anything is, and fill it with what the book has for
-- it, ran in turn
abbrev pub FillsLacked : {S : Type 0} → Ghosts S → Option NewTables → Book → (old last : Held S) → Type 0
FillsLacked g lacked book old last =
    (made : List FileTable) × (puts : List RowPut)
    × MatchOption lacked ((made ≡ []) × (puts ≡ [])) (λ tables. (made ≡ which_new tables) × Fills tables book puts)
    × RunInTurn g (map creation made ++ map statement puts) (with_transaction old) last

-- What is known once it was tried to make and fill what the file of the book lacks, if anything. At
-- any exit a crash leaves nothing new but all of it. In any file the statements that make these
-- tables and fill them ran in turn, and no others: at `Ok` the connection shows what they made of
-- it, and at any exit a crash leaves nothing else new. No error says that the file is refused.
pub record FillsFile {S : Type 0} (g : Ghosts S) (lacked : Option NewTables) (book : Book) (old : Held S)
    (new : State) (result : Result (Unit {0}) OpenFault) : Type 0 where
  pub filled : HasCleanDisk new → (l : Layout) (stands : Stands l book (state g old))
      → OnOk result (HasGained (which_lacked lacked) l stands.1.0 book (state g old).now.trees
      (λ after d. ShowsContents after d new))
  pub crash : Survives (state g old) new (HoldsWith (which_lacked lacked) book (state g old))
  pub ran : HasCleanDisk new → OnOk result ((last : Held S) × FillsLacked g lacked book old last
      × (new.now ≡ (state g last).now))
  pub left : Survives (state g old) new (λ db. (last : Held S) × FillsLacked g lacked book old last
      × (db ≡ (state g last).now.trees))
  pub reported : IfErr result (λ fault. ¬ IsRefusal fault)
  pub stops : HasCleanDisk new → IfErr result (λ fault. (tables : NewTables) × (lacked ≡ Some tables)
      × StopsFilling g tables book old new fault)

-- the book in the file as it was, or with these tables
abbrev pub HoldsEitherWith : List FileTable → Layout → Book → Trees → Type 0
HoldsEitherWith tables l book db = HoldsBook l book db ⊎ HoldsBook (with_tables tables l) book db
