-- Which action the words name.
use Rattle.std.specs.Prelude.{◌≡◌, ◌≤◌, ◌<◌, ◌^◌, ℕ, List, IsSomeAnd, Some, codes, false}
use Rattle.std.specs.Str.Parse.{IsNumeral, digits_value, without_leading_plus}
use Rattle.clap.specs.Takes.{is_given}
use Rattle.clap.specs.Words.{Row, Text, first_of, one_of, subcommand_rows_of}
use Rattle.clap.specs.declared.parser.matches.ArgMatches.{ArgMatches}
use Rattle.desk_words.specs.declared.action.Action.{Action}
use Rattle.desk_words.specs.declared.action.Action.TheVariants.{Check, Export, New, Session, Translate}

-- ---- by what was found for each argument

-- the argument with this id is this text
abbrev pub Names : List Row → Text → Text → Type 0
Names rows id text = first_of id rows ≡ Some text

-- the argument with this id is a number of 64 bits in decimal digits, perhaps after a plus
pub record Counts (rows : List Row) (id : Text) (number : ℕ) : Type 0 where
  pub text : Text
  pub given : one_of id rows ≡ Some text
  pub numeral : IsNumeral 10 (without_leading_plus text)
  pub value : number ≡ digits_value 10 (without_leading_plus text)
  pub fits : number < 2 ^ 64

-- a subcommand of this name, with these arguments, asks for the action
abbrev pub Asks : Text → List Row → Action → Type 0
Asks name rows (New file) = (name ≡ codes "new") × Names rows (codes "file") file.now
Asks name rows (Session file) = (name ≡ codes "session") × Names rows (codes "file") file.now
Asks name rows (Export file volume width lines) =
    (name ≡ codes "export") × Names rows (codes "file") file.now
    × Counts rows (codes "volume") volume × Counts rows (codes "width") width
    × Counts rows (codes "lines") lines
Asks name rows (Translate table) = (name ≡ codes "translate") × Names rows (codes "table") table.now
Asks name rows (Check file) = (name ≡ codes "check") × Names rows (codes "file") file.now

-- the matches ask for the action
abbrev pub IsAsked : ArgMatches → Action → Type 0
IsAsked matches action = IsSomeAnd (subcommand_rows_of matches) (λ found. Asks found.0 found.1 action)

-- ---- what an export may be asked for

-- a volume of a book, and pages as wide and as long as a page may be
pub record IsExportable (volume width lines : ℕ) : Type 0 where
  pub volume_from : 1 ≤ volume
  pub volume_to : volume ≤ 20000
  pub width_from : 10 ≤ width
  pub width_to : width ≤ 60
  pub lines_from : 5 ≤ lines
  pub lines_to : lines ≤ 40

-- the number is the default, unless the argument with this id was given
abbrev pub HasDefault : List Row → Text → (number default : ℕ) → Type 0
HasDefault rows id number default = is_given id rows ≡ false → number ≡ default

-- its numbers, if it has some, are within these limits, and pages of which nothing is said have 25
-- lines of 40 cells
abbrev pub IsWithinLimits : List Row → Action → Type 0
IsWithinLimits rows (New file) = Unit {0}
IsWithinLimits rows (Session file) = Unit {0}
IsWithinLimits rows (Export file volume width lines) =
    IsExportable volume width lines × HasDefault rows (codes "width") width 40
    × HasDefault rows (codes "lines") lines 25
IsWithinLimits rows (Translate table) = Unit {0}
IsWithinLimits rows (Check file) = Unit {0}
