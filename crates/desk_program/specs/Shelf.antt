-- What stands at a path, as far as that is known.
use Rattle.std.specs.Prelude.{◌≡◌, ℕ, ◌≤◌, Bool, true, List, length, Option, Some, None}

-- the bytes that a table file may have: 2 to the 27th
abbrev pub most_file_bytes : ℕ
most_file_bytes = 134217728

-- nothing is known, no file, or a file with these bytes
pub data FileState : Type 0 where
  unknown : FileState
  missing : FileState
  holds : List ℕ → FileState

-- what is left in a file that was opened
abbrev pub OpensFile : FileState → Option (List ℕ) → Type 0
OpensFile unknown left = Unit {0}
OpensFile missing left = ⊥
OpensFile (holds bytes) left = left ≡ Some bytes

-- what was read as a whole file is all of it, and not too much
abbrev pub IsRead : FileState → List ℕ → Type 0
IsRead unknown text = length text ≤ most_file_bytes
IsRead missing text = ⊥
IsRead (holds bytes) text = (text ≡ bytes) × (length bytes ≤ most_file_bytes)

-- what is left in a source, as a file of its own
abbrev pub left_in : Option (List ℕ) → FileState
left_in None = unknown
left_in (Some bytes) = holds bytes

-- a database at a path may be connected to: where no file is there, only if one is to be made
abbrev pub MayConnect : Bool → FileState → Type 0
MayConnect make unknown = Unit {0}
MayConnect make missing = make ≡ true
MayConnect make (holds bytes) = Unit {0}
