-- What a run did to the bytes that a reader has left and a writer holds.
use Rattle.std.specs.Prelude.{◌≡◌, ◌≢◌, ℕ, ◌≤◌, ◌⊎◌, ◌==◌, if◌then◌else◌, List, [], ◌∷◌, ◌++◌, Option, IfSome, length}
use Rattle.std.specs.Io.KnownBytes.{Appends, Consumes, IsAtEnd}
use Rattle.desk_ends.specs.declared.ends.Sink.{Ghosts as Sink}
use Rattle.desk_ends.specs.declared.ends.Source.{Ghosts as Source}
use Rattle.desk_ends.specs.Ends.{IsFlushed}
use Rattle.desk_ends.specs.Limits.{most_input}
use Rattle.louis_table.specs.Meaning.{Meaning}
use Rattle.desk_translate.specs.declared.translate.Ended.{Ended}
use Rattle.desk_translate.specs.declared.translate.Ended.TheVariants.{Done, Input, Output}
use Rattle.desk_translate.specs.Reply.{IsOutput}

-- ---- what went out

-- b and the bytes after it, or none if no line feed is among them
abbrev pub whole_from : ℕ → List ℕ → List ℕ
whole_from b [] = if b == 10 then b ∷ [] else []
whole_from b (c ∷ rest) = b ∷ c ∷ rest

-- the bytes up to the last line feed, or none
abbrev pub whole_lines : List ℕ → List ℕ
whole_lines [] = []
whole_lines (b ∷ bytes) = whole_from b (whole_lines bytes)

-- the bytes are a beginning of the text, or all of it
abbrev pub IsBeginning : List ℕ → List ℕ → Type 0
IsBeginning out text = (rest : List ℕ) × (out ++ rest ≡ text)

-- what went out answers what was taken: all its lines, those that had ended, or a beginning
abbrev pub Answers : Meaning → Ended → List ℕ → List ℕ → Type 0
Answers meaning Done taken out = IsOutput meaning taken out
Answers meaning Input taken out = IsOutput meaning (whole_lines taken) out
Answers meaning Output taken out =
    (output : List ℕ) × IsOutput meaning taken output × IsBeginning out output

-- a run that is done left nothing in the reader
abbrev pub ReadsAll : Ended → Option (List ℕ) → Type 0
ReadsAll Done left = IsAtEnd left
ReadsAll Input left = Unit {0}
ReadsAll Output left = Unit {0}

-- some bytes were taken from the reader, and what went to the writer answers them
pub record Run
    (meaning : Meaning) (ended : Ended) (read_old read_new write_old write_new : Option (List ℕ))
    : Type 0 where
  pub taken : List ℕ
  pub out : List ℕ
  pub consumes : Consumes read_old read_new taken
  pub appends : Appends write_old write_new out
  pub answers : Answers meaning ended taken out
  pub ends : ReadsAll ended read_new

-- if the input is known, what went out is a beginning of what is answered to it
abbrev pub AnswersBeginning : Meaning → Option (List ℕ) → Option (List ℕ) → Option (List ℕ) → Type 0
AnswersBeginning meaning read_old write_old write_new =
    IfSome read_old (λ input. (output : List ℕ) × (out : List ℕ) × IsOutput meaning input output
    × IsBeginning out output × Appends write_old write_new out)

-- ---- how it ended

-- a run ends early only if it took as many bytes as a run may, or an end can fail
abbrev pub IsHonest : Ended → ℕ → Type 0 → Type 0 → Type 0
IsHonest Done taken ReadsFail WritesFail = Unit {0}
IsHonest Input taken ReadsFail WritesFail = (most_input ≤ taken) ⊎ ReadsFail
IsHonest Output taken ReadsFail WritesFail = WritesFail

-- all that was written is flushed, unless a write or a flush failed
abbrev pub EndsFlushed : Ended → Option (List ℕ) → Option (List ℕ) → Type 0
EndsFlushed Done written flushed = IsFlushed written flushed
EndsFlushed Input written flushed = IsFlushed written flushed
EndsFlushed Output written flushed = Unit {0}

-- a run with an honest end
pub record HonestRun
    (meaning : Meaning) (ended : Ended)
    (read_old read_new write_old write_new flushed_new : Option (List ℕ))
    (ReadsFail WritesFail : Type 0)
    : Type 0 where
  pub run : Run meaning ended read_old read_new write_old write_new
  pub honest : IsHonest ended (length run.taken) ReadsFail WritesFail
  pub flushed : EndsFlushed ended write_new flushed_new

-- ---- by the ends

-- what a run from a source to a sink did, and how it ended
abbrev pub Ran : {S K : Type 0} → Source S → S → S → Sink K → K → K → Meaning → Ended → Type 0
Ran source read_old read_new sink write_old write_new meaning ended =
    HonestRun meaning ended (source.remaining read_old) (source.remaining read_new)
    (sink.contents write_old) (sink.contents write_new) (sink.flushed write_new)
    source.can_fail sink.can_fail

-- the run answered all lines
abbrev pub AnswersAll : {S K : Type 0} → Source S → S → S → Sink K → K → K → Meaning → Type 0
AnswersAll source read_old read_new sink write_old write_new meaning =
    Ran source read_old read_new sink write_old write_new meaning Done

-- the run ended early, and what went out is a beginning of what is answered to the whole input
abbrev pub RanShort : {S K : Type 0} → Source S → S → S → Sink K → K → K → Meaning → Type 0
RanShort source read_old read_new sink write_old write_new meaning =
    (ended : Ended) × (ended ≢ Done)
    × Ran source read_old read_new sink write_old write_new meaning ended
    × AnswersBeginning meaning (source.remaining read_old) (sink.contents write_old) (sink.contents write_new)
