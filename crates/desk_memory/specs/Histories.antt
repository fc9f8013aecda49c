-- Histories as they are held in memory.
use Rattle.std.specs.Prelude.{◌≡◌, ℕ, ◌-◌, ◌<◌, List, length, map, take, drop, slice_get, Some}
use Rattle.desk_memory.specs.declared.history.Correction.{Correction}
use Rattle.desk_memory.specs.declared.history.HeldEntry.{HeldEntry}
use Rattle.desk_memory.specs.declared.history.HeldEntry.TheVariants.{Corrects as HeldCorrects, Undoes as HeldUndoes}
use Rattle.desk_model.specs.Book.{Replacement, Entry, Corrects, Undoes}
use Rattle.desk_model.specs.Print.{corrected_print, newest, with_replacement}
use Rattle.desk_model.specs.Sound.{AreSoundEntries}
use Rattle.desk_model.specs.BookTexts.{AreCharacters}

-- what a held correction does: it took as many characters as it has of them
abbrev pub replacement_held : Correction → Replacement
replacement_held c = record { start = c.start; count = length c.taken; text = c.text }

-- what a held entry stands for
abbrev pub entry_held : HeldEntry → Entry
entry_held (HeldCorrects c) = Corrects (replacement_held c) c.who
entry_held (HeldUndoes n) = Undoes n

-- what held entries stand for, in order
abbrev pub entries_held : List HeldEntry → List Entry
entries_held entries = map entry_held entries

-- a correction has the characters that gave way to its text in this print
abbrev pub TookFrom : List ℕ → HeldEntry → Type 0
TookFrom print (HeldCorrects c) = c.taken ≡ take (length c.taken) (drop c.start print)
TookFrom print (HeldUndoes n) = Unit {0}

-- each correction has the characters that gave way in the print before it
abbrev pub HaveTaken : List ℕ → List HeldEntry → Type 0
HaveTaken original entries =
    (i : ℕ) (entry : HeldEntry) → slice_get entries i ≡ Some entry
    → TookFrom (corrected_print original (entries_held (take i entries))) entry

-- the held entries are sound, each correction has what it took away, and this is the print that
-- they leave
pub record LeavePrint (original : List ℕ) (entries : List HeldEntry) (print : List ℕ) : Type 0 where
  pub sound : AreSoundEntries original (entries_held entries)
  pub taken : HaveTaken original entries
  pub print_is : print ≡ corrected_print original (entries_held entries)

-- of the corrections in force this is the newest, with its number
pub record IsNewestInForce (entries : List HeldEntry) (number : ℕ) (correction : Correction) : Type 0 where
  pub newest_is : newest (entries_held entries) ≡ Some (number, replacement_held correction)
  pub positive : 0 < number
  pub at : slice_get entries (number - 1) ≡ Some (HeldCorrects correction)

-- the print with a text in place of so many characters from a place on
abbrev pub replaced_by : (start count : ℕ) (text print : List ℕ) → List ℕ
replaced_by start count text print = with_replacement print (record { start = start; count = count; text = text })

-- the correction puts this text in place of so many characters of the print from a place on, and
-- holds those
pub record IsCorrection (print : List ℕ) (start count : ℕ) (text who : List ℕ) (c : Correction) : Type 0 where
  pub start_is : c.start ≡ start
  pub text_is : c.text ≡ text
  pub who_is : c.who ≡ who
  pub taken_is : c.taken ≡ take count (drop start print)
  pub characters : AreCharacters text
  pub who_characters : AreCharacters who
