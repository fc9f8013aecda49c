-- What goes to a sink: the answer to a line, and to the last one.
use Rattle.std.specs.Prelude.{◌≡◌, ℕ, List, [], ◌∷◌, ◌++◌, Bool}
use Rattle.desk_ends.specs.declared.ends.Sink.{Ghosts}
use Rattle.desk_ends.specs.Lines.{without_ending}
use Rattle.desk_ends.specs.Sending.{Sends}
use Rattle.louis_table.specs.Meaning.{Meaning}
use Rattle.desk_translate.specs.Reply.{IsAnswer}

-- the answer to the line goes out, and a line feed
abbrev pub SendsLine : {K : Type 0} → Ghosts K → K → K → Meaning → List ℕ → Bool → Type 0
SendsLine sink old new meaning line whole =
    (answer : List ℕ) → IsAnswer meaning line answer → Sends sink old new (answer ++ 10 ∷ []) whole

-- what is answered to what is left at the end of the input, with a line feed: nothing if no byte is
-- left
abbrev pub IsLastAnswer : Meaning → List ℕ → List ℕ → Type 0
IsLastAnswer meaning [] text = text ≡ []
IsLastAnswer meaning (b ∷ bytes) text =
    (answer : List ℕ) × IsAnswer meaning (without_ending (b ∷ bytes)) answer × (text ≡ answer ++ 10 ∷ [])

-- what is answered to what is left at the end of the input goes out
abbrev pub SendsLast : {K : Type 0} → Ghosts K → K → K → Meaning → List ℕ → Bool → Type 0
SendsLast sink old new meaning bytes whole = (text : List ℕ) → IsLastAnswer meaning bytes text
    → Sends sink old new text whole
