-- All that is said of each command by cases: how a head line says it, and how it is written.
use Rattle.std.specs.Prelude.{◌≡◌, ℕ, ◌&&◌, Bool, true, if◌then◌else◌, nat_lt, List, [], ◌∷◌, length, codes, refl}
use Rattle.std.specs.List.{AllByRecursion, list_all}
use Rattle.std.specs.Str.{bytes_eq}
use Rattle.louis_table.specs.declared.en.TheConstants.{EN}
use Rattle.louis_table.specs.Lines.{lines_of}
use Rattle.desk_model.specs.declared.command.Command.{Command}
use Rattle.desk_model.specs.declared.command.Command.TheVariants as commands
use Rattle.desk_line.specs.declared.directive.Directive.{Directive}
use Rattle.desk_line.specs.declared.directive.Directive.TheVariants.{Whole, Table}
use Rattle.desk_line.specs.Operands.{Fit, Flag, Grammar, Last, Lines, Look, Name, Nothing, Number}
use Rattle.desk_line.specs.Operands.{Place, Rest, Then, Values, Say, given, written}
use Rattle.desk_line.specs.Lines.{IsShort}

-- ---- how a head line says a command

-- a text for places: a paragraph, the first of the places, how many they are, and the text
abbrev pub span : {A : Type 0} → (ℕ → ℕ → ℕ → List ℕ → A) → Grammar A
span make = Then Number (λ id. Then Number (λ start. Then Number (λ count. Rest (make id start count))))

-- what stands after the word of a command without a text, and the command that it makes
abbrev pub textless : List ℕ → Grammar Directive
textless word =
    if bytes_eq word (codes "undo") then Then Number (λ id. Last (Whole (commands.Undo id)))
    else if bytes_eq word (codes "resolve") then Then Number (λ id. Last (Whole (commands.Resolve id)))
    else if bytes_eq word (codes "strike") then Then Number (λ id. Last (Whole (commands.Strike id)))
    else if bytes_eq word (codes "restore") then Then Number (λ id. Last (Whole (commands.Restore id)))
    else if bytes_eq word (codes "style")
    then Then Number (λ id. Then Look (λ look. Last (Whole (commands.Style id look))))
    else if bytes_eq word (codes "volume")
    then Then Number (λ id. Then Flag (λ begins. Last (Whole (commands.Volume id begins))))
    else if bytes_eq word (codes "retable")
    then Then Number (λ id. Then Name (λ table. Last (Whole (commands.Retable id table))))
    else if bytes_eq word (codes "move")
    then Then Number (λ id. Then Place (λ after. Last (Whole (commands.Move id after))))
    else Nothing

-- what stands after a word, and the command that it says; for a table, its text is still to come in
-- so many lines
abbrev pub grammar_of : List ℕ → Grammar Directive
grammar_of word =
    if bytes_eq word (codes "table") then Then Name (λ name. Then Lines (λ count. Last (Table name count)))
    else if bytes_eq word (codes "supply") then Then Name (λ name. Last (Whole (commands.Table name EN.now)))
    else if bytes_eq word (codes "type")
    then Then Place (λ after. Then Name (λ table. Rest (λ text. Whole (commands.TypeIn after table text))))
    else if bytes_eq word (codes "correct")
    then span (λ id start count text. Whole (commands.Correct id start count text []))
    else if bytes_eq word (codes "correct-by")
    then Then Name (λ who. span (λ id start count text. Whole (commands.Correct id start count text who)))
    else if bytes_eq word (codes "mark") then span (λ id cell count note. Whole (commands.Mark id cell count note))
    else textless word

-- the fields are a word and what stands after it, and say this
abbrev pub SaysDirective : List (List ℕ) → Directive → Type 0
SaysDirective [] directive = ⊥
SaysDirective (word ∷ fields) directive = Say (grammar_of word) fields directive

-- ---- what this gives

-- how many lines follow a head line, and the command that it gives with their bytes
pub record Announced : Type 0 where
  pub lines : ℕ
  pub command : List ℕ → Command

-- what is announced by a head line that says this
abbrev pub announced : Directive → Announced
announced (Whole command) = record { lines = 0; command = λ text. command }
announced (Table name count) = record { lines = count; command = λ text. commands.Table name text }

-- ---- how a command is written

-- a visible character of ASCII
abbrev pub is_visible : ℕ → Bool
is_visible b = nat_lt 32 b && nat_lt b 128

-- a word, values for what stands after it, and the bytes of the lines after the head line, which
-- give this command
pub record Form (command : Command) : Type 0 where
  pub word : List ℕ
  pub visible : list_all is_visible word ≡ true
  pub values : Values (grammar_of word)
  pub directive : Directive
  pub says : given (grammar_of word) values ≡ directive
  pub block : List ℕ
  pub counts : length (lines_of block) ≡ (announced directive).lines
  pub is : (announced directive).command block ≡ command

-- a head line alone
abbrev pub one_line : {command : Command} (word : List ℕ) → list_all is_visible word ≡ true
    → (values : Values (grammar_of word))
    → given (grammar_of word) values ≡ Whole command → Form command
one_line {command} word visible values says = record {
  word = word;
  visible = visible;
  values = values;
  directive = Whole command;
  says = says;
  block = [];
  counts = refl;
  is = refl;
}

-- how each command is written: its word, its operands, and the bytes of the lines after its head
-- line
abbrev pub form : (command : Command) → Form command
form (commands.Table name text) = record {
  word = codes "table";
  visible = refl;
  values = (name, (length (lines_of text), tt));
  directive = Table name (length (lines_of text));
  says = refl;
  block = text;
  counts = refl;
  is = refl;
}
form (commands.TypeIn after table text) = one_line (codes "type") refl (after, (table, text)) refl
form (commands.Correct id start count text []) = one_line (codes "correct") refl (id, (start, (count, text))) refl
form (commands.Correct id start count text (c ∷ who)) =
    one_line (codes "correct-by") refl (c ∷ who, (id, (start, (count, text)))) refl
form (commands.Undo id) = one_line (codes "undo") refl (id, tt) refl
form (commands.Mark id cell count note) = one_line (codes "mark") refl (id, (cell, (count, note))) refl
form (commands.Resolve id) = one_line (codes "resolve") refl (id, tt) refl
form (commands.Strike id) = one_line (codes "strike") refl (id, tt) refl
form (commands.Restore id) = one_line (codes "restore") refl (id, tt) refl
form (commands.Style id look) = one_line (codes "style") refl (id, (look, tt)) refl
form (commands.Volume id begins) = one_line (codes "volume") refl (id, (begins, tt)) refl
form (commands.Retable id table) = one_line (codes "retable") refl (id, (table, tt)) refl
form (commands.Move id after) = one_line (codes "move") refl (id, (after, tt)) refl

-- the fields of a head line
abbrev pub form_fields : {command : Command} → Form command → List (List ℕ)
form_fields form = form.word ∷ written (grammar_of form.word) form.values

-- the values can be written, and no line after the head line is too long
pub record FitsForm {command : Command} (form : Form command) : Type 0 where
  pub values : Fit (grammar_of form.word) form.values
  pub block : AllByRecursion IsShort (lines_of form.block)
