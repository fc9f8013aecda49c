-- The text of a table makes it.
use Rattle.std.proofs.Common.{◌≡◌, ℕ, Bool, IsTrue, List, true, false, [], Ok, Err, Result, refl, sym, subst, true≢false, ◌∙◌}
use Rattle.sqlite_value.specs.Order.{Row}
use Rattle.sqlite_ast.specs.declared.CreateTable as create
use Rattle.sqlite_ast.specs.declared.Statement.{Statement}
use Rattle.sqlite_ast.specs.declared.Statement.TheVariants.{CreateTable}
use Rattle.sqlite.specs.declared.error.Error.{Error}
use Rattle.sqlite.specs.State.{State, ExecutesInside, KeepsCommit}
use Rattle.sqlite.proofs.InsideLemmas.{inside_keeps}
use Rattle.sqlite_tied.specs.Compute.{everything}
use Rattle.desk_parts.specs.declared.file_table.FileTable.{FileTable}
use Rattle.desk_parts.specs.declared.file_table.FileTable.TheVariants as tables
use Rattle.sql_tables.proofs.Makes.{IsMake, makes_first, takes}
use Rattle.sql_tables.proofs.Meaning.{parse_of}
use Rattle.desk_rows.specs.Descriptions.{description_of, table_of}
use Rattle.desk_rows.specs.Making.{IsCreated}
use Rattle.desk_rows.specs.Puts.{RunsTo}

abbrev def_in : Statement → create.CreateTable
def_in (CreateTable def) = def
def_in _ = record { if_missing = false; name = []; body = record { columns = []; rules = [] }; is_strict = false; resolves = false }

-- ---- each table

is_make : (t : FileTable) → (description_of t).is_written ≡ true → IsMake (description_of t).create (table_of t 0)
unfolding everything
is_make tables.Corr is = absurd (cc)
is_make t is = record {
  def = def_in (parse_of (description_of t).create).statement;
  is_text = record { parsed = refl; statement = refl; timeless = refl };
  name = refl;
  always = refl;
  own = refl;
  defined = refl;
  plain = refl;
  unresolved = refl;
  spelled = refl;
  made = refl;
  uncounted = refl;
  other = refl;
}

-- ---- all tables

-- a statement that failed committed nothing, and was answered so
pub err_runs : (text : List ℕ) (params : Row) (old new : State) (e : Error) (inside : Bool) → old.in_transaction ≡ inside → (old.in_transaction ≡ false → new ≡ old) → (IsTrue old.in_transaction → ExecutesInside 0 text params old new (Err e))
    → RunsTo {V = Unit {0}} (Err e) text params old new
err_runs text params old new e true is ended ran = (inside_keeps old new 0 false text params (Err e) (ran is), λ was. ran was)
err_runs text params old new e false is ended ran =
    (subst (KeepsCommit old) (sym (ended is)) (record { was_open = λ it. it; committed = λ it. refl }), λ was. absurd (true≢false (sym was ∙ is)))

-- what a statement that ran, or failed, made
module _ (t : FileTable) (is : (description_of t).is_written ≡ true) (old new : State) where
  pub creates : (r : Result (Unit {0}) Error) → RunsTo r (description_of t).create [] old new → IsCreated r t old new
  creates (Ok v) ran = record {
    made = record {
      taken = takes (description_of t).create (table_of t 0) (is_make t is) old new ran.0 ran.1;
      made = λ committed first rows before differ was free. makes_first (description_of t).create (table_of t 0) (is_make t is) committed first rows before old new ran.0 was free.0 ran.1;
    };
    ran = ran;
    inside = ran.1.1.mode;
    kept = inside_keeps old new 0 false (description_of t).create [] (Ok ran.0) ran.1;
    reported = λ was. tt;
  }
  creates (Err e) ran = record { made = tt; ran = tt; inside = tt; kept = ran.0; reported = ran.1 }
