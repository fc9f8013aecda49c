-- What is written for an input line.
use Rattle.std.specs.Prelude.{◌≡◌, ℕ, ◌<◌, ◌≤◌, ◌++◌, ◌∷◌, [], List, length, codes, decimal, chars, IsUtf8}
use Rattle.desk_ends.specs.Cells.{text_of}
use Rattle.desk_ends.specs.Limits.{most_line_bytes}
use Rattle.louis_table.specs.Lines.{lines_of}
use Rattle.louis_table.specs.Meaning.{Meaning}
use Rattle.louis_translate.specs.declared.choices.Choice.{Choice}
use Rattle.louis_translate.specs.Position.{AreDefined, IsFirstUndefined}
use Rattle.louis_translate.specs.Tiling.{Tiles}
use Rattle.louis_translate.specs.Braille.{braille}

-- ---- the limit of a line

-- how many characters a line may have; `desk_ends` says how many bytes
abbrev pub most_characters : ℕ
most_characters = 4000

-- ---- the texts that are written

-- a refusal by its number alone
abbrev pub refusal : ℕ → List ℕ
refusal code = codes "no " ++ decimal code

-- a refusal with a place, from 0
abbrev pub refusal_at : ℕ → ℕ → List ℕ
refusal_at code place = refusal code ++ 32 ∷ decimal place

-- ---- the answer

-- what is answered to a print: no 7 with its first undefined place, or else the cells, as
-- characters, of choices that tile it
pub data AnswersPrint (meaning : Meaning) (print answer : List ℕ) : Type 0 where
  undefined : (place : ℕ) → IsFirstUndefined meaning print place → answer ≡ refusal_at 7 place
      → AnswersPrint meaning print answer
  shown : AreDefined meaning print → (choices : List Choice) → Tiles meaning print choices
      → answer ≡ text_of (braille meaning print choices) → AnswersPrint meaning print answer

-- the line is UTF-8, and no longer than a line may be
abbrev pub IsText : List ℕ → Type 0
IsText line = (length line ≤ most_line_bytes) × IsUtf8 line

-- what is answered to a line: no 1 if it isn't a text, else no 14 if it has too many characters,
-- else what is answered to its print
pub data IsAnswer (meaning : Meaning) (line answer : List ℕ) : Type 0 where
  no_text : ¬ IsText line → answer ≡ refusal 1 → IsAnswer meaning line answer
  too_long : IsText line → most_characters < length (chars line) → answer ≡ refusal 14
      → IsAnswer meaning line answer
  a_print : IsText line → length (chars line) ≤ most_characters
      → AnswersPrint meaning (chars line) answer → IsAnswer meaning line answer

-- the output has the answer to each line, in order, each ended by a line feed, and nothing else
abbrev pub AreAnswers : Meaning → List (List ℕ) → List ℕ → Type 0
AreAnswers meaning [] output = output ≡ []
AreAnswers meaning (line ∷ lines) output =
    (answer : List ℕ) × (rest : List ℕ) × IsAnswer meaning line answer
    × AreAnswers meaning lines rest × (output ≡ answer ++ 10 ∷ rest)

-- the output answers each line of the input
abbrev pub IsOutput : Meaning → List ℕ → List ℕ → Type 0
IsOutput meaning input output = AreAnswers meaning (lines_of input) output
