-- Why a line has no braille. Only private functions and proofs need these words.
use Rattle.std.specs.Prelude.{◌≡◌, ℕ, ◌<◌, ◌≤◌, List, length, Option, Some, None, Result, Ok, Err, chars}
use Rattle.louis_table.specs.Meaning.{Meaning}
use Rattle.louis_translate.specs.Position.{AreDefined, IsFirstUndefined}
use Rattle.desk_translate.specs.declared.answer.NoBraille.{NoBraille}
use Rattle.desk_translate.specs.declared.answer.NoBraille.TheVariants.{NoText, TooLong, Undefined}
use Rattle.desk_translate.specs.declared.print.TooManyCharacters.{TooManyCharacters}
use Rattle.desk_translate.specs.Reply.{IsText, most_characters, refusal, refusal_at}

-- what is answered, by the reason
abbrev pub refusal_text : NoBraille → List ℕ
refusal_text NoText = refusal 1
refusal_text TooLong = refusal 14
refusal_text (Undefined place) = refusal_at 7 place

-- the characters of a text were taken, or they are more than a line may have
abbrev pub TakesCharacters : {T : Type 0} → Result T TooManyCharacters → (text taken : List ℕ) → Type 0
TakesCharacters (Ok value) text taken = (taken ≡ text) × (length text ≤ most_characters)
TakesCharacters (Err fault) text taken = most_characters < length text

-- the first place of the print whose character isn't defined, or none if all are
abbrev pub FindsUndefined : Meaning → List ℕ → Option ℕ → Type 0
FindsUndefined meaning print None = AreDefined meaning print
FindsUndefined meaning print (Some place) = IsFirstUndefined meaning print place

-- the line is text of no more characters than a line may have, all of them defined
abbrev pub IsPrint : Meaning → List ℕ → Type 0
IsPrint meaning line =
    IsText line × (length (chars line) ≤ most_characters) × AreDefined meaning (chars line)

-- the line is refused for this reason
abbrev pub IsRefused : Meaning → List ℕ → NoBraille → Type 0
IsRefused meaning line NoText = ¬ IsText line
IsRefused meaning line TooLong = IsText line × (most_characters < length (chars line))
IsRefused meaning line (Undefined place) =
    IsText line × (length (chars line) ≤ most_characters)
    × IsFirstUndefined meaning (chars line) place
