-- How a head line is read, step by step. Only private functions and proofs need these words, and
-- the clause of `RequestHead::finish` that says what is given of a head line alone: `HeadLine`
-- says what a head line says, and `Request` what bytes are a request.
use Rattle.std.specs.Prelude.{ℕ, Bool, true, false, ◌&&◌, ◌==◌, ◌-◌, nat_lt, nat_le, if◌then◌else◌}
use Rattle.std.specs.Prelude.{List, [], ◌∷◌, length, codes, Option, Some, None, option_map}
use Rattle.std.specs.Option.{option_and_then}
use Rattle.std.specs.List.{list_all, before_first}
use Rattle.std.specs.Io.BufRead.{strip_last}
use Rattle.std.specs.Char.{is_ascii_digit}
use Rattle.std.specs.Str.{bytes_eq, chars, is_utf8}
use Rattle.std.specs.Str.Parse.{digits_value}
use Rattle.louis_table.specs.Table.{most_lines}
use Rattle.desk_model.specs.declared.command.Anchor.{Anchor}
use Rattle.desk_model.specs.declared.command.Anchor.TheVariants.{Front, End, Para}
use Rattle.desk_model.specs.declared.style.Style.{Style as ParagraphStyle}
use Rattle.desk_model.specs.declared.style.Style.TheVariants.{Body, Heading}
use Rattle.desk_line.specs.declared.read.Head.{Head}
use Rattle.desk_line.specs.declared.read.Head.TheVariants.{Do, Ask}
use Rattle.desk_line.specs.declared.directive.Directive.{Directive}
use Rattle.desk_line.specs.declared.request.Query.{Query}
use Rattle.desk_line.specs.Fields.{fields_of, line_of_fields}
use Rattle.louis_table.specs.Lines.{lines_of}
use Rattle.desk_line.specs.declared.request.Request.{Request}
use Rattle.desk_line.specs.Lines.{after_first_line}
use Rattle.desk_line.specs.Commands.{grammar_of}
use Rattle.desk_line.specs.Operands.{Flag, Grammar, Kind, Last, Lines, Look, Name}
use Rattle.desk_line.specs.Operands.{Nothing, Number, Place, Rest, Then, Value}
use Rattle.desk_line.specs.HeadLine.{query_grammar}
use Rattle.desk_line.specs.Request.{block_lines, request_of}
use Rattle.desk_ends.specs.Limits.{most_line_bytes}
use Rattle.desk_line.specs.Limits.{most_digits, most_number}

-- ---- lists

-- the first and the others
abbrev pub first_and_others : List (List ℕ) → Option (List ℕ × List (List ℕ))
first_and_others [] = None
first_and_others (x ∷ xs) = Some (x, xs)

-- what two give, if both are there
abbrev pub of_both : {A B C : Type 0} → (A → B → C) → Option A → Option B → Option C
of_both make None b = None
of_both make (Some a) b = option_map (make a) b

-- ---- fields

-- the field as a name, which has a character
abbrev pub name_in : List ℕ → Option (List ℕ)
name_in [] = None
name_in (b ∷ field) = Some (chars (b ∷ field))

-- the value of digits, if it is a number's
abbrev pub small_number : ℕ → Option ℕ
small_number value = if nat_le value most_number then Some value else None

-- the field as a number
unfoldable pub number_in : List ℕ → Option ℕ
number_in field =
    if nat_lt 0 (length field) && nat_le (length field) most_digits && list_all is_ascii_digit field
    then small_number (digits_value 10 field)
    else None

-- a number of lines
abbrev pub few_lines : ℕ → Option ℕ
few_lines count = if nat_le count most_lines then Some count else None

-- the field as a number of lines, which is at most that of a table
unfoldable pub count_in : List ℕ → Option ℕ
count_in field = option_and_then few_lines (number_in field)

-- the field as the place where a paragraph is put
unfoldable pub anchor_in : List ℕ → Option Anchor
anchor_in field =
    if bytes_eq field (codes "front") then Some Front
    else if bytes_eq field (codes "end") then Some End
    else option_map Para (number_in field)

-- the field as a style
unfoldable pub style_in : List ℕ → Option ParagraphStyle
style_in field =
    if bytes_eq field (codes "body") then Some Body
    else if bytes_eq field (codes "heading") then Some Heading
    else None

-- the field as a flag
unfoldable pub flag_in : List ℕ → Option Bool
flag_in field =
    if bytes_eq field (codes "on") then Some true
    else if bytes_eq field (codes "off") then Some false
    else None

-- ---- fields that are read one after another

-- the field as a value of this kind
abbrev pub found : (kind : Kind) → List ℕ → Option (Value kind)
found Number field = number_in field
found Lines field = count_in field
found Name field = name_in field
found Place field = anchor_in field
found Look field = style_in field
found Flag field = flag_in field

-- the value of the first field, and the others
unfoldable pub first_of : (kind : Kind) → List (List ℕ) → Option (Value kind × List (List ℕ))
first_of kind fields =
    option_and_then (λ first. option_map (λ value. (value, first.1)) (found kind first.0)) (first_and_others fields)

-- no field is left
abbrev pub is_end : List (List ℕ) → Bool
is_end [] = true
is_end (field ∷ fields) = false

-- what the fields say
abbrev pub read : {A : Type 0} → Grammar A → List (List ℕ) → Option A
read Nothing fields = None
read (Last value) fields = if is_end fields then Some value else None
read (Rest make) fields = Some (make (chars (line_of_fields fields)))
read (Then kind more) fields = option_and_then (λ first. read (more first.0) first.1) (first_of kind fields)

-- ---- commands and queries, by the fields after their words

-- the command with this word and these operands
abbrev pub directive_by : List ℕ → List (List ℕ) → Option Directive
directive_by word fields = read (grammar_of word) fields

-- the fields as a command, whose text is still to come if lines follow
unfoldable pub directive_in : List (List ℕ) → Option Directive
directive_in [] = None
directive_in (word ∷ fields) = directive_by word fields

-- the query with this word and these operands
abbrev pub query_by : List ℕ → List (List ℕ) → Option Query
query_by word fields = read (query_grammar word) fields

-- the fields as a query
unfoldable pub query_in : List (List ℕ) → Option Query
query_in [] = None
query_in (word ∷ fields) = query_by word fields

-- ---- head lines

-- the first that is there
abbrev pub or_else : {A : Type 0} → Option A → Option A → Option A
or_else None other = other
or_else (Some x) other = Some x

-- a command after an expected version
abbrev pub expecting : List ℕ → List (List ℕ) → Option Head
expecting number fields =
    of_both (λ version directive. Do directive (Some version)) (number_in number) (directive_in fields)

-- a command after its first field, which may be the version that is expected
abbrev pub command_after : List ℕ → List (List ℕ) → Option Head
command_after [] fields = option_map (λ directive. Do directive None) (directive_by [] fields)
command_after (b ∷ word) fields =
    if b == 64 then expecting word fields
    else option_map (λ directive. Do directive None) (directive_by (b ∷ word) fields)

-- a command, with the version that is expected if one is
abbrev pub command_in : List (List ℕ) → Option Head
command_in [] = None
command_in (field ∷ fields) = command_after field fields

-- what a head line says, by its fields
unfoldable pub head_in : List (List ℕ) → Option Head
head_in fields = or_else (option_map Ask (query_in fields)) (command_in fields)

-- what a line says, if it can be a head line and says something
abbrev pub head_of : List ℕ → Option Head
head_of line = if nat_le (length line) most_line_bytes && is_utf8 line then head_in (fields_of line) else None

-- ---- requests

-- the head line: the first one, without its ending
abbrev pub head_line : List ℕ → List ℕ
head_line bytes = strip_last 13 (before_first (λ b. b == 10) bytes)

-- whether there are this many lines, none of them too long
abbrev pub are_lines : List (List ℕ) → ℕ → Bool
are_lines [] count = count == 0
are_lines (line ∷ lines) count = nat_lt 0 count && nat_le (length line) most_line_bytes && are_lines lines (count - 1)

-- the request of this head and this text, if the text has just the lines that the head takes
abbrev pub with_text : List ℕ → Head → Option Request
with_text text head = if are_lines (lines_of text) (block_lines head) then Some (request_of head text) else None

-- the bytes as a request
unfoldable pub request_in : List ℕ → Option Request
request_in bytes = option_and_then (with_text (after_first_line bytes)) (head_of (head_line bytes))
