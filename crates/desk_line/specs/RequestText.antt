-- How a request is written: within the bounds of the language each has a text that reads as it.
use Rattle.std.specs.Prelude.{◌≡◌, ℕ, true, List, [], ◌∷◌, ◌++◌, codes, decimal, refl, Option, Some, None}
use Rattle.std.specs.List.{list_all}
use Rattle.desk_line.specs.declared.request.Query.{Query}
use Rattle.desk_line.specs.declared.request.Query.TheVariants.{Print, Braille, History, Marks, WhereIs, Whence, Version}
use Rattle.desk_line.specs.declared.request.Query.TheVariants as queries
use Rattle.desk_line.specs.declared.request.Request.{Request}
use Rattle.desk_line.specs.declared.request.Request.TheVariants.{Do, Ask}
use Rattle.desk_line.specs.Commands.{FitsForm, form, form_fields, is_visible}
use Rattle.desk_line.specs.Fields.{line_of_fields}
use Rattle.desk_line.specs.Operands.{Fit, IsSmall, Values, given, written}
use Rattle.desk_line.specs.HeadLine.{query_grammar}
use Rattle.desk_line.specs.Lines.{IsShort}

-- ---- how a query is written

-- a word, and values for what stands after it, which ask this
pub record Asking (query : Query) : Type 0 where
  pub word : List ℕ
  pub visible : list_all is_visible word ≡ true
  pub values : Values (query_grammar word)
  pub says : given (query_grammar word) values ≡ query

-- how each query is written: its word and its operands
abbrev pub query_form : (query : Query) → Asking query
query_form (Print id) = record { word = codes "print"; visible = refl; values = (id, tt); says = refl }
query_form (Braille id) = record { word = codes "braille"; visible = refl; values = (id, tt); says = refl }
query_form (History id) = record { word = codes "history"; visible = refl; values = (id, tt); says = refl }
query_form (Marks id) = record { word = codes "marks"; visible = refl; values = (id, tt); says = refl }
query_form (WhereIs id place) = record { word = codes "where"; visible = refl; values = (id, (place, tt)); says = refl }
query_form (Whence id cell) = record { word = codes "whence"; visible = refl; values = (id, (cell, tt)); says = refl }
query_form queries.List = record { word = codes "list"; visible = refl; values = tt; says = refl }
query_form Version = record { word = codes "version"; visible = refl; values = tt; says = refl }

-- the fields of its head line
abbrev pub query_fields : {query : Query} → Asking query → List (List ℕ)
query_fields asking = asking.word ∷ written (query_grammar asking.word) asking.values

-- ---- what can be written

-- the version that is expected, if one is, is small enough
abbrev pub IsSmallIfAny : Option ℕ → Type 0
IsSmallIfAny None = Unit {0}
IsSmallIfAny (Some version) = IsSmall version

-- each operand of the request can be written
abbrev pub FitsRequest : Request → Type 0
FitsRequest (Do command expect) = FitsForm (form command) × IsSmallIfAny expect
FitsRequest (Ask query) = Fit (query_grammar (query_form query).word) (query_form query).values

-- ---- the head line

-- a line after the version that is expected, if one is
abbrev pub expecting_line : Option ℕ → List ℕ → List ℕ
expecting_line None line = line
expecting_line (Some version) line = line_of_fields ((64 ∷ decimal version) ∷ line ∷ [])

-- the head line of the request
abbrev pub head_text : Request → List ℕ
head_text (Do command expect) = expecting_line expect (line_of_fields (form_fields (form command)))
head_text (Ask query) = line_of_fields (query_fields (query_form query))

-- ---- the request

-- the bytes of the lines after the head line
abbrev pub block_text : Request → List ℕ
block_text (Do command expect) = (form command).block
block_text (Ask query) = []

-- the request's text. Its head line ends with a carriage return and a line feed, since a text at
-- its end may itself end with a carriage return
abbrev pub request_text : Request → List ℕ
request_text request = head_text request ++ 13 ∷ 10 ∷ block_text request

-- the request is within the bounds of the language
pub record CanBeWritten (request : Request) : Type 0 where
  pub fits : FitsRequest request
  pub short : IsShort (head_text request)
