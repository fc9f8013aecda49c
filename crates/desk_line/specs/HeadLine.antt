-- What a head line says: a query or a command.
use Rattle.std.specs.Prelude.{◌≡◌, ℕ, if◌then◌else◌, List, [], ◌∷◌, codes, Option, Some, None}
use Rattle.std.specs.Str.{bytes_eq}
use Rattle.desk_line.specs.declared.read.Head.{Head}
use Rattle.desk_line.specs.declared.read.Head.TheVariants.{Do, Ask}
use Rattle.desk_line.specs.declared.directive.Directive.{Directive}
use Rattle.desk_line.specs.declared.request.Query.{Query}
use Rattle.desk_line.specs.declared.request.Query.TheVariants as queries
use Rattle.desk_line.specs.Commands.{SaysDirective}
use Rattle.desk_line.specs.Fields.{fields_of, IsNumber}
use Rattle.desk_line.specs.Operands.{Grammar, Last, Nothing, Number, Say, Then}
use Rattle.desk_line.specs.Lines.{CanBeHead}

-- what stands after a word, and what it asks
abbrev pub query_grammar : List ℕ → Grammar Query
query_grammar word =
    if bytes_eq word (codes "print") then Then Number (λ id. Last (queries.Print id))
    else if bytes_eq word (codes "braille") then Then Number (λ id. Last (queries.Braille id))
    else if bytes_eq word (codes "history") then Then Number (λ id. Last (queries.History id))
    else if bytes_eq word (codes "marks") then Then Number (λ id. Last (queries.Marks id))
    else if bytes_eq word (codes "where")
    then Then Number (λ id. Then Number (λ place. Last (queries.WhereIs id place)))
    else if bytes_eq word (codes "whence") then Then Number (λ id. Then Number (λ cell. Last (queries.Whence id cell)))
    else if bytes_eq word (codes "list") then Last queries.List
    else if bytes_eq word (codes "version") then Last queries.Version
    else Nothing

-- the fields ask this
abbrev pub SaysQuery : List (List ℕ) → Query → Type 0
SaysQuery [] query = ⊥
SaysQuery (word ∷ fields) query = Say (query_grammar word) fields query

-- before the fields of a command may stand the version that the book is expected to have, after an
-- at sign
pub data Expects (fields : List (List ℕ)) (expect : Option ℕ) (command : List (List ℕ)) : Type 0 where
  nothing : expect ≡ None → fields ≡ command → Expects fields expect command
  expected : (number : List ℕ) (version : ℕ) → IsNumber number version
      → fields ≡ (64 ∷ number) ∷ command → expect ≡ Some version → Expects fields expect command

-- what a head line, without its ending, says; before a query no version may stand
pub data Says (line : List ℕ) (head : Head) : Type 0 where
  does : (expect : Option ℕ) (command : List (List ℕ)) (directive : Directive) → CanBeHead line
      → Expects (fields_of line) expect command
      → SaysDirective command directive → head ≡ Do directive expect → Says line head
  asks : (query : Query) → CanBeHead line → SaysQuery (fields_of line) query → head ≡ Ask query → Says line head
