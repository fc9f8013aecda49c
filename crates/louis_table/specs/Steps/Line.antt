-- What one line gives to the table that the lines before it make, or the smallest cause for which
-- it gives nothing.
use Rattle.std.specs.Prelude.{◌≡◌, ℕ, Bool, not, ◌||◌, ◌==◌, nat_lt, false, if◌then◌else◌, List, []}
use Rattle.std.specs.Prelude.{◌∷◌, length, Option, Some, None, option_map, Result, Ok, Err}
use Rattle.cell_core.specs.Reading.{cells_in}
use Rattle.louis_table.specs.declared.character_set.CharacterSet.{CharacterSet}
use Rattle.louis_table.specs.declared.opcode.Opcode.{Opcode}
use Rattle.louis_table.specs.declared.opcode.Opcode.TheVariants.{Define, UpLow, Replace, Announce, Collect}
use Rattle.louis_table.specs.declared.fault.LineFault.{LineFault}
use Rattle.louis_table.specs.declared.fault.LineFault.TheVariants as line_faults
use Rattle.louis_table.specs.declared.line_entry.LineEntry.{LineEntry}
use Rattle.louis_table.specs.declared.line_entry.LineEntry.TheVariants as line_entries
use Rattle.louis_table.specs.Meaning.{Meaning, sign_cells, set_characters}
use Rattle.louis_table.specs.Table.{most_rule_characters, most_set_characters, Entry}
use Rattle.louis_table.specs.Table.{Defines, Pairs, Replaces, Announces, Collects}
use Rattle.louis_table.specs.Steps.Fields.{field_at}
use Rattle.louis_table.specs.Steps.Characters.{characters_in}
use Rattle.louis_table.specs.Steps.Opcode.{opcode_named}
use Rattle.louis_table.specs.Steps.Fault.{cause_number}
use Rattle.louis_table.specs.Steps.Dots.{pair_in, rule_in, are_many, are_many_written}
use Rattle.louis_table.specs.Steps.Table.{is_known}

-- ---- two operands

-- the characters and the dots operand, or the cause
abbrev pub with_dots : Option (List ℕ) → List ℕ → Result (List ℕ × List ℕ) ℕ
with_dots None dots = Err 3
with_dots (Some text) dots = Ok (text, dots)

-- the same for the texts of two operands, either of which may be missing
abbrev pub both_from : List ℕ → List ℕ → Result (List ℕ × List ℕ) ℕ
both_from [] dots = Err 2
both_from (c ∷ characters) [] = Err 2
both_from (c ∷ characters) (d ∷ dots) = with_dots (characters_in (c ∷ characters)) (d ∷ dots)

-- the same for what follows an opcode
abbrev pub both_at : List ℕ → Result (List ℕ × List ℕ) ℕ
both_at rest = both_from (field_at rest).0 (field_at (field_at rest).1).0

-- ---- what a line gives

-- the entry, or this cause if there is none
abbrev pub or_cause : ℕ → Option Entry → Result Entry ℕ
or_cause cause None = Err cause
or_cause cause (Some entry) = Ok entry

-- the entry that an opcode makes of its characters and its dots operand, or the cause
abbrev pub entry_from : Opcode → List ℕ → List ℕ → Result Entry ℕ
entry_from (Define class) [] dots = Err 3
entry_from (Define class) (character ∷ []) dots =
    or_cause 4 (option_map (λ cells. Defines character (record { class = class; cells = cells })) (cells_in dots))
entry_from (Define class) (character ∷ other ∷ text) dots = Err 3
entry_from UpLow [] dots = Err 3
entry_from UpLow (upper ∷ []) dots = Err 3
entry_from UpLow (upper ∷ lower ∷ []) dots =
    or_cause 4 (option_map (λ cells. Pairs upper cells.0 lower cells.1) (pair_in dots))
entry_from UpLow (upper ∷ lower ∷ other ∷ text) dots = Err 3
entry_from (Replace kind) text dots = or_cause 4 (option_map (λ cells. Replaces kind text cells) (rule_in dots))
entry_from (Announce sign) text dots = or_cause 4 (option_map (λ cells. Announces sign cells) (cells_in dots))
entry_from (Collect set) text dots = Err 4

-- the entry of both operands, or the cause that keeps them from being read
abbrev pub entry_of_both : Opcode → Result (List ℕ × List ℕ) ℕ → Result Entry ℕ
entry_of_both opcode (Ok both) = entry_from opcode both.0 both.1
entry_of_both opcode (Err cause) = Err cause

-- the entry of an opcode with a dots operand, which may be missing
abbrev pub entry_of_one : Opcode → List ℕ → Result Entry ℕ
entry_of_one opcode [] = Err 2
entry_of_one opcode (d ∷ dots) = entry_from opcode [] (d ∷ dots)

-- the entry of a set with a characters operand, which may be missing
abbrev pub entry_of_set : CharacterSet → List ℕ → Result Entry ℕ
entry_of_set set [] = Err 2
entry_of_set set (c ∷ characters) = or_cause 3 (option_map (λ text. Collects set text) (characters_in (c ∷ characters)))

-- what the opcode and what follows it give, or the cause
unfoldable pub entry_at : Opcode → List ℕ → Result Entry ℕ
entry_at (Define class) rest = entry_of_both (Define class) (both_at rest)
entry_at UpLow rest = entry_of_both UpLow (both_at rest)
entry_at (Replace kind) rest = entry_of_both (Replace kind) (both_at rest)
entry_at (Announce sign) rest = entry_of_one (Announce sign) (field_at rest).0
entry_at (Collect set) rest = entry_of_set set (field_at rest).0

-- the same for a line, which gives an entry or has the cause
abbrev pub as_some : Result Entry ℕ → Result (Option Entry) ℕ
as_some (Ok entry) = Ok (Some entry)
as_some (Err cause) = Err cause

-- what a line with this opcode gives; a line without an opcode has cause 1
abbrev pub opcode_gives : Option Opcode → List ℕ → Result (Option Entry) ℕ
opcode_gives None rest = Err 1
opcode_gives (Some opcode) rest = as_some (entry_at opcode rest)

-- what a line gives by its first field; blank lines and comments give nothing
abbrev pub fields_give : List ℕ → List ℕ → Result (Option Entry) ℕ
fields_give [] rest = Ok None
fields_give (c ∷ field) rest = if c == 35 then Ok None else opcode_gives (opcode_named (c ∷ field)) rest

-- what a line gives, or a cause from 1 to 4
unfoldable pub line_gives : List ℕ → Result (Option Entry) ℕ
line_gives line = fields_give (field_at line).0 (field_at line).1

-- ---- a line after others

-- one of two characters is defined already, or they are the same
abbrev pub is_taken : Meaning → ℕ → ℕ → Bool
is_taken meaning upper lower = (upper == lower) || is_known meaning upper || is_known meaning lower

-- the entry defines a character that is defined already
abbrev pub repeats : Meaning → Entry → Bool
repeats meaning (Defines character definition) = is_known meaning character
repeats meaning (Pairs upper upper_cells lower lower_cells) = is_taken meaning upper lower
repeats meaning (Replaces kind text cells) = false
repeats meaning (Announces sign cells) = false
repeats meaning (Collects set text) = false

-- the entry gives a sign or a set that was given before
abbrev pub announces : Meaning → Entry → Bool
announces meaning (Defines character definition) = false
announces meaning (Pairs upper upper_cells lower lower_cells) = false
announces meaning (Replaces kind text cells) = false
announces meaning (Announces sign cells) = not (length (sign_cells meaning sign) == 0)
announces meaning (Collects set text) = not (length (set_characters meaning set) == 0)

-- an operand of the entry is beyond its limit
abbrev pub is_large : Entry → Bool
is_large (Defines character definition) = are_many definition.cells
is_large (Pairs upper upper_cells lower lower_cells) = are_many upper_cells || are_many lower_cells
is_large (Replaces kind text cells) = nat_lt most_rule_characters (length text) || are_many_written cells
is_large (Announces sign cells) = are_many cells
is_large (Collects set text) = nat_lt most_set_characters (length text)

-- the entry, or the smallest cause that it has
abbrev pub verdict_by : Bool → Bool → Bool → Entry → Result Entry ℕ
verdict_by repeated announced large entry =
    if repeated then Err 5 else if announced then Err 6 else if large then Err 8 else Ok entry

-- an entry, or the cause for which a table refuses it
unfoldable pub entry_verdict : Meaning → Entry → Result Entry ℕ
entry_verdict meaning entry = verdict_by (repeats meaning entry) (announces meaning entry) (is_large entry) entry

-- what a line gives, or the cause for which it is refused
abbrev pub line_verdict : Meaning → Result (Option Entry) ℕ → Result (Option Entry) ℕ
line_verdict meaning (Ok None) = Ok None
line_verdict meaning (Ok (Some entry)) = as_some (entry_verdict meaning entry)
line_verdict meaning (Err cause) = Err cause

-- what an opcode and what follows it give to a table, or a cause, without the limits on lines
unfoldable pub judge_opcode : Meaning → Opcode → List ℕ → Result (Option Entry) ℕ
judge_opcode meaning opcode rest = line_verdict meaning (as_some (entry_at opcode rest))

-- what a line gives to a table, or a cause, without the limits on lines
unfoldable pub judge_line : Meaning → List ℕ → Result (Option Entry) ℕ
judge_line meaning line = line_verdict meaning (line_gives line)

-- ---- what contracts say

-- the entry of a line that was read
abbrev pub entry_in : LineEntry → Option Entry
entry_in line_entries.Nothing = None
entry_in (line_entries.Defines character definition) = Some (Defines character definition)
entry_in (line_entries.Pairs upper upper_cells lower lower_cells) = Some (Pairs upper upper_cells lower lower_cells)
entry_in (line_entries.Replaces kind text cells) = Some (Replaces kind text cells)
entry_in (line_entries.Announces sign cells) = Some (Announces sign cells)
entry_in (line_entries.Collects set text) = Some (Collects set text)

-- the result is the verdict, unless an allocation failed
abbrev pub IsVerdict : Result LineEntry LineFault → Result (Option Entry) ℕ → Type 0
IsVerdict (Ok given) verdict = verdict ≡ Ok (entry_in given)
IsVerdict (Err (line_faults.Bad cause)) verdict = verdict ≡ Err (cause_number cause)
IsVerdict (Err line_faults.NoMemory) verdict = Unit {0}

-- the cause that keeps two operands from being read, unless an allocation failed
abbrev pub FailsOperands : Result (List ℕ × List ℕ) ℕ → LineFault → Type 0
FailsOperands read (line_faults.Bad cause) = read ≡ Err (cause_number cause)
FailsOperands read line_faults.NoMemory = Unit {0}
