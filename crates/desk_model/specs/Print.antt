-- The print of a paragraph: its original with the corrections in force applied.
use Rattle.std.specs.Prelude.{ℕ, ◌+◌, ◌==◌, Bool, false, if◌then◌else◌, List, [], ◌∷◌}
use Rattle.std.specs.Prelude.{◌++◌, take, drop, map, Option, None, option_map}
use Rattle.std.specs.List.{flat_map, fold, enumerate_from, last_or, list_any}
use Rattle.desk_model.specs.Book.{Replacement, Entry, Corrects, Undoes, Paragraph}

-- the print with the text in place of the characters that it replaces
abbrev pub with_replacement : List ℕ → Replacement → List ℕ
with_replacement print r = take r.start print ++ r.text ++ drop (r.start + r.count) print

-- the entry is an undo of the correction with number n
abbrev pub undoes : ℕ → Entry → Bool
undoes n (Corrects r who) = false
undoes n (Undoes undone) = undone == n

-- the entry with its number n, if it is a correction that no undo of the history names
abbrev pub in_force : List Entry → ℕ × Entry → List (ℕ × Replacement)
in_force history (n, Corrects r who) = if list_any (undoes n) history then [] else (n, r) ∷ []
in_force history (n, Undoes undone) = []

-- the corrections in force, each with its number, the newest last
abbrev pub stack : List Entry → List (ℕ × Replacement)
stack history = flat_map (in_force history) (enumerate_from 1 history)

-- the newest correction in force, with its number, if there is one
abbrev pub newest : List Entry → Option (ℕ × Replacement)
newest history = last_or None (stack history)

-- the text with the corrections in force applied in order
abbrev pub corrected_print : List ℕ → List Entry → List ℕ
corrected_print original history = fold with_replacement original (map (λ correction. correction.1) (stack history))

-- the print that a paragraph has now
abbrev pub print_of : Paragraph → List ℕ
print_of paragraph = corrected_print paragraph.original paragraph.history

-- the paragraph with one entry more in its history
abbrev pub with_entry : Entry → Paragraph → Paragraph
with_entry entry paragraph = record paragraph { history = paragraph.history ++ entry ∷ [] }

-- the print after the newest correction in force is taken back, if there is one
abbrev pub print_undone : Paragraph → Option (List ℕ)
print_undone paragraph =
    option_map (λ correction. print_of (with_entry (Undoes correction.0) paragraph)) (newest paragraph.history)
