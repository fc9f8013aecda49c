-- What the rows of a table must be to be read, as its columns are declared.
use Rattle.std.specs.Prelude.{◌≡◌, List, [], ◌∷◌, drop, IsTrue, IsUtf8, ⊤}
use Rattle.std.specs.List.{AllByRecursion}
use Rattle.sqlite_value.specs.declared.value.Value.{Value}
use Rattle.sqlite_value.specs.declared.value.Value.TheVariants as value
use Rattle.sqlite_value.specs.Order.{Row}
use Rattle.sqlite_trees.specs.Tree.{rowid}
use Rattle.sqlite_trees.specs.View.{is_int}
use Rattle.sqlite_schema.specs.declared.schema.Kind.{Kind}
use Rattle.sqlite_schema.specs.declared.schema.Kind.TheVariants.{Integer, Real, Text, Blob, Any}
use Rattle.sqlite.specs.Values.{IsInt}

-- INTEGER holds an integer, TEXT a text whose bytes are UTF-8, BLOB bytes.
abbrev pub IsOfKind : Kind → Value → Type 0
IsOfKind Integer v = IsInt v
IsOfKind Real v = (x : _) × (v ≡ value.Real x)
IsOfKind Text v = (t : _) × (v ≡ value.Text t) × IsUtf8 t
IsOfKind Blob v = (b : _) × (v ≡ value.Blob b)
IsOfKind Any v = ⊤

-- a value of each kind in turn, whatever stands after them
abbrev pub HasKinds : List Kind → Row → Type 0
HasKinds [] row = ⊤
HasKinds (k ∷ kinds) [] = ⊥
HasKinds (k ∷ kinds) (v ∷ row) = IsOfKind k v × HasKinds kinds row

-- ---- A sound database gives the rows of a STRICT table the kinds of their columns, except for these.

-- each row has an integer as its rowid
abbrev pub HaveIntegerRowids : List Row → Type 0
HaveIntegerRowids = AllByRecursion (λ r. IsTrue (is_int (rowid r)))

-- if the value is a text, its bytes are UTF-8
abbrev pub IsUtf8Text : Value → Type 0
IsUtf8Text (value.Text t) = IsUtf8 t
IsUtf8Text _ = ⊤

-- each text in the columns of the rows is UTF-8, whatever stands as their rowids
abbrev pub HaveUtf8Texts : List Row → Type 0
HaveUtf8Texts = AllByRecursion (λ r. AllByRecursion IsUtf8Text (drop 1 r))
