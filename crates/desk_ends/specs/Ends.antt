-- What an end reports of its bytes.
use Rattle.std.specs.Prelude.{◌≡◌, ℕ, List, Option, Some, None}

-- all that was written is flushed, if the writer reports both
abbrev pub IsFlushed : Option (List ℕ) → Option (List ℕ) → Type 0
IsFlushed None flushed = Unit {0}
IsFlushed (Some written) None = Unit {0}
IsFlushed (Some written) (Some flushed) = flushed ≡ written
