-- What a crash may leave of a book whose file is of either format.
use Rattle.std.specs.Prelude.{List}
use Rattle.std.specs.List.{Contains}
use Rattle.sqlite_trees.specs.Tree.{Trees}
use Rattle.sqlite.specs.State.{State}
use Rattle.sql_tables.specs.States.{Leaves}
use Rattle.desk_model.specs.Book.{Book}
use Rattle.desk_rows.specs.Layout.{Layout}
use Rattle.desk_store.specs.Keeping.{HoldsBook, MayServe}
use Rattle.desk_store.specs.Formats.{IsOfEither}

-- the trees are a file of either format, whose rows show the book
abbrev pub HoldsStanding : Book → Trees → Type 0
HoldsStanding book db = (l : Layout) × IsOfEither l × HoldsBook l book db

-- the trees show one of these books
abbrev pub HoldsOneOf : List Book → Trees → Type 0
HoldsOneOf books db = (book : Book) × Contains books book × HoldsStanding book db

-- a crash now leaves one of these books, in a file of either format
abbrev pub LeavesOneOf : List Book → State → Type 0
LeavesOneOf books = Leaves (HoldsOneOf books)

-- the connection shows the book in some file that keeps it, so that a session may begin with it
abbrev pub IsKeptThere : Book → State → Type 0
IsKeptThere book s = (l : Layout) × MayServe l book s
