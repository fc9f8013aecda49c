-- Which words ask for no action. The names of the actions differ by their first letters.
use Rattle.std.proofs.Common.{◌≡◌, ℕ, List, ap, arith, codes, slice_index}
use Rattle.clap.specs.Words.{Row, Text}
use Rattle.desk_words.specs.Action.{Asks, Counts}
use Rattle.desk_words.specs.declared.action.Action.{Action}
use Rattle.desk_words.specs.declared.action.Action.TheVariants.{Check, Export, New, Session, Translate}

-- the first letter of the action's name
abbrev pub letter_of : Action → ℕ
letter_of (New file) = 110
letter_of (Session file) = 115
letter_of (Export file volume width lines) = 101
letter_of (Translate table) = 116
letter_of (Check file) = 99

pub letter_asked : (name : Text) (rows : List Row) (action : Action) → Asks name rows action → slice_index name 0 ≡ letter_of action
letter_asked name rows (New file) h = ap (λ (t : Text). slice_index t 0) h.0
letter_asked name rows (Session file) h = ap (λ (t : Text). slice_index t 0) h.0
letter_asked name rows (Export file volume width lines) h = ap (λ (t : Text). slice_index t 0) h.0
letter_asked name rows (Translate table) h = ap (λ (t : Text). slice_index t 0) h.0
letter_asked name rows (Check file) h = ap (λ (t : Text). slice_index t 0) h.0

-- an export is asked for with each of its numbers
pub asks_no_export : (rows : List Row) → ((volume width lines : ℕ) → Counts rows (codes "volume") volume → Counts rows (codes "width") width → Counts rows (codes "lines") lines → ⊥)
    → (action : Action) → ¬ Asks (codes "export") rows action
asks_no_export rows without (Export file volume width lines) h = without volume width lines h.2 h.3 h.4
asks_no_export rows without action h = let e = letter_asked _ rows action h in absurd (omega (arith, e))
