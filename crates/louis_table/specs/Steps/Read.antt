-- What lines give, one after another, and what is reported of them.
use Rattle.std.specs.Prelude.{◌≡◌, ℕ, ◌+◌, ◌||◌, ◌⊎◌, nat_lt, nat_le, if◌then◌else◌, List, length, map, Option, Some}
use Rattle.std.specs.Prelude.{None, Result, Ok, Err, flat_map}
use Rattle.louis_table.specs.declared.pending.PendingEntry.{PendingEntry}
use Rattle.louis_table.specs.declared.draft.Draft.{Draft}
use Rattle.louis_table.specs.declared.fault.LineFault.{LineFault}
use Rattle.louis_table.specs.declared.fault.LineFault.TheVariants as line_faults
use Rattle.louis_table.specs.declared.fault.ReadFault.{ReadFault}
use Rattle.louis_table.specs.declared.fault.ReadFault.TheVariants as faults
use Rattle.louis_table.specs.Meaning.{Meaning, every_sign, every_set}
use Rattle.louis_table.specs.Profile.{WithNumericMode}
use Rattle.louis_table.specs.Table.{most_lines, most_line_characters, Entry, GiveFrom, HasCause}
use Rattle.louis_table.specs.Table.{IsReportedNoLater, definitions_in, partners_in, cells_for, characters_for}
use Rattle.louis_table.specs.Steps.Fault.{cause_number}
use Rattle.louis_table.specs.Steps.Line.{judge_line}
use Rattle.louis_table.specs.Steps.Draft.{written_by, Adds}
use Rattle.louis_table.specs.Steps.Pending.{complete_rules, first_lacking}

-- ---- one more line

-- what a line gives, or cause 8 if it is too long or one too many and has no smaller cause
abbrev pub within_limits : ℕ → List ℕ → Result (Option Entry) ℕ → Result (Option Entry) ℕ
within_limits before line (Ok given) =
    if nat_lt most_line_characters (length line) || nat_le most_lines before then Err 8 else Ok given
within_limits before line (Err cause) = Err cause

-- what a line after this many others gives to their table, or the smallest cause
unfoldable pub judge : Meaning → ℕ → List ℕ → Result (Option Entry) ℕ
judge meaning before line = within_limits before line (judge_line meaning line)

-- a line was taken into a draft, or has this fault
abbrev pub TakesLine : Result (Unit {0}) LineFault → ℕ → Draft → Draft → Result (Option Entry) ℕ → Type 0
TakesLine (Ok _) before old new verdict =
    (given : Option Entry) × (verdict ≡ Ok given) × Adds old new (before + 1) given
TakesLine (Err (line_faults.Bad cause)) before old new verdict = verdict ≡ Err (cause_number cause)
TakesLine (Err line_faults.NoMemory) before old new verdict = Unit {0}

-- ---- what they mean

-- the lines give a table without rules, and what can be checked only once all definitions are known
pub record Gathers (lines : List (List ℕ)) (meaning : Meaning) (all : List PendingEntry) : Type 0 where
  pub entries : List (ℕ × Entry)
  pub given : GiveFrom WithNumericMode 1 lines entries
  pub definitions : meaning.definitions ≡ flat_map (λ e. definitions_in e.1) entries
  pub partners : meaning.partners ≡ flat_map (λ e. partners_in e.1) entries
  pub signs : meaning.signs ≡ map (λ sign. flat_map (λ e. cells_for sign e.1) entries) every_sign
  pub sets : meaning.sets ≡ map (λ set. flat_map (λ e. characters_for set e.1) entries) every_set
  pub written : all ≡ flat_map (λ e. written_by e.0 e.1) entries

-- the lines have no fault and give this
pub record LinesGive (lines : List (List ℕ)) (meaning : Meaning) (all : List PendingEntry) : Type 0 where
  pub is_sound : (n cause : ℕ) → ¬ HasCause WithNumericMode lines n cause
  pub gathered : Gathers lines meaning all

-- the lines have no fault, define each character of their rules and sets, and mean this
pub record LinesMean (lines : List (List ℕ)) (meaning : Meaning) : Type 0 where
  pub all : List PendingEntry
  pub gives : LinesGive lines meaning all
  pub complete : first_lacking meaning all ≡ None
  pub rules : meaning.rules ≡ flat_map (complete_rules meaning) all

-- ---- what is reported

-- of the faults of the lines this one is reported
pub record IsReported (lines : List (List ℕ)) (n cause : ℕ) : Type 0 where
  pub has : HasCause WithNumericMode lines n cause
  pub first : (m other : ℕ) → HasCause WithNumericMode lines m other → IsReportedNoLater n cause m other

-- the lines have no fault, but line n has a rule or a set with a character that is not defined
pub record IsLackingIn (lines : List (List ℕ)) (n : ℕ) : Type 0 where
  pub meaning : Meaning
  pub all : List PendingEntry
  pub gives : LinesGive lines meaning all
  pub lacking : first_lacking meaning all ≡ Some n

-- what is reported of the lines before their rules are finished
abbrev pub LinesReportEarly : List (List ℕ) → ReadFault → Type 0
LinesReportEarly lines (faults.Table fault) = IsReported lines fault.line fault.cause
LinesReportEarly lines faults.NoMemory = Unit {0}

-- what is reported of the lines
abbrev pub LinesReport : List (List ℕ) → ReadFault → Type 0
LinesReport lines (faults.Table fault) =
    IsReported lines fault.line fault.cause ⊎ (IsLackingIn lines fault.line × (fault.cause ≡ 7))
LinesReport lines faults.NoMemory = Unit {0}
