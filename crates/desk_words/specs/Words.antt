-- What the words of the command line are read as.
use Rattle.std.specs.Prelude.{◌≡◌, ◌≢◌, List, [], IsSomeAnd, Option, String, string_bytes}
use Rattle.std.specs.declared.alloc.Global.{Global}
use Rattle.clap.specs.Words.{App, IsAmong, Text, fault_of, subcommand_of, subcommand_rows_of}
use Rattle.clap.specs.declared.error.kind.ErrorKind.{ErrorKind}
use Rattle.clap.specs.declared.error.kind.ErrorKind.TheVariants.{DisplayHelp, OutOfMemory}
use Rattle.clap.specs.declared.parser.matches.ArgMatches.{ArgMatches}
use Rattle.desk_words.specs.Action.{Asks, IsWithinLimits}
use Rattle.desk_words.specs.declared.action.Action.{Action as ActionTerm}
use Rattle.desk_words.specs.declared.reading.Reading.{Reading}
use Rattle.desk_words.specs.declared.reading.Reading.TheVariants.{Asked, Help, NoMemory, Refused}

-- the command accepts the words, and the subcommand that they name asks for the action
pub record NamesAction (app : App) (words : List Text) (action : ActionTerm) : Type 0 where
  pub taken : fault_of app words ≡ []
  pub asked : IsSomeAnd (subcommand_of app words) (λ found. Asks found.0 found.1 action)

-- the same, with its numbers within their limits, or the defaults if the words don't give them
abbrev pub NamesWithinLimits : App → List Text → ActionTerm → Type 0
NamesWithinLimits app words action =
    NamesAction app words action
    × IsSomeAnd (subcommand_of app words) (λ found. IsWithinLimits found.1 action)

-- the words name some action, with its numbers within their limits
abbrev pub NameAnAction : App → List Text → Type 0
NameAnAction app words = (action : ActionTerm) × NamesWithinLimits app words action

-- the matches are those that the command, which accepts the words, has on them
pub record AreMatchesOf (app : App) (words : List Text) (matches : ArgMatches) : Type 0 where
  pub taken : fault_of app words ≡ []
  pub subcommand : subcommand_rows_of matches ≡ subcommand_of app words

-- of the matches of words, it is the action that these name
abbrev pub IsNamedByWords : App → ArgMatches → Option ActionTerm → Type 0
IsNamedByWords app matches result = (words : List Text) → AreMatchesOf app words matches
    → IsSomeAnd result (NamesWithinLimits app words)

-- the words ask for help
pub record AskForHelp (app : App) (words : List Text) : Type 0 where
  pub help : IsAmong DisplayHelp (fault_of app words)

-- the command refuses the words for another cause than that they ask for help
pub record AreRefused (app : App) (words : List Text) : Type 0 where
  pub kind : ErrorKind
  pub other : kind ≢ DisplayHelp
  pub among : IsAmong kind (fault_of app words)

-- What the words are read as. The text of help, and that of a refusal, isn't empty.
abbrev pub IsReading : App → List Text → Reading → Type 0
IsReading app words (Asked action) = NamesWithinLimits app words action
IsReading app words (Help text) = AskForHelp app words × (string_bytes text ≢ [])
IsReading app words (Refused text) = AreRefused app words × (string_bytes text ≢ [])
IsReading app words NoMemory = Unit {0}

-- what an error of this kind is read as
abbrev pub IsError : ErrorKind → Reading → Type 0
IsError kind (Asked action) = ⊥
IsError kind (Help text) = (kind ≡ DisplayHelp) × (string_bytes text ≢ [])
IsError kind (Refused text) = (kind ≢ DisplayHelp) × (kind ≢ OutOfMemory) × (string_bytes text ≢ [])
IsError kind NoMemory = Unit {0}

-- what an error of this kind is read as, if this text is shown of it
abbrev pub IsShownAs : ErrorKind → String Global → Reading → Type 0
IsShownAs kind text (Asked action) = ⊥
IsShownAs kind text (Help shown) = (kind ≡ DisplayHelp) × (shown ≡ text)
IsShownAs kind text (Refused shown) = (kind ≢ DisplayHelp) × (kind ≢ OutOfMemory) × (shown ≡ text)
IsShownAs kind text NoMemory = kind ≡ OutOfMemory
