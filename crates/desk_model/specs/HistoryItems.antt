-- The lines of a paragraph's history.
use Rattle.std.specs.Prelude.{◌≡◌, ℕ, List, [], ◌∷◌, Option, MatchOption, chars}
use Rattle.desk_model.specs.declared.history_item.Done.{Done}
use Rattle.desk_model.specs.declared.history_item.Done.TheVariants.{Corrected, TookBack}
use Rattle.desk_model.specs.declared.history_item.HistoryItem.{HistoryItem}
use Rattle.desk_model.specs.Book.{Entry, Corrects, Undoes}

-- this is what the entry did
abbrev pub TellsOf : Entry → Done → Type 0
TellsOf (Corrects r who) (Corrected start count text name) =
    (start ≡ r.start) × (count ≡ r.count) × (chars text.now ≡ r.text) × (chars name.now ≡ who)
TellsOf (Corrects r who) (TookBack m) = ⊥
TellsOf (Undoes n) (Corrected start count text name) = ⊥
TellsOf (Undoes n) (TookBack m) = m ≡ n

-- the item shows the first of the entries, and the others are left; or there is none, and no item
abbrev pub TellsFirst : List (ℕ × Entry) → Option HistoryItem → List (ℕ × Entry) → Type 0
TellsFirst entries item left =
    MatchOption item ((entries ≡ []) × (left ≡ []))
    (λ shown. (first : ℕ × Entry) × (entries ≡ first ∷ left) × (shown.number ≡ first.0) × TellsOf first.1 shown.done)
