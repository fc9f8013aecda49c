-- A line as it is read: its line feed, its ending, and what is kept of it. Which lines some bytes
-- have, `louis_table` says.
use Rattle.std.specs.Prelude.{◌≡◌, ◌⊎◌, ℕ, suc, ◌+◌, ◌==◌, false, if◌then◌else◌, nat_le}
use Rattle.std.specs.Prelude.{List, [], ◌∷◌, ◌++◌, length, Option, Some, None}
use Rattle.std.specs.Io.BufRead.{strip_last}
use Rattle.std.specs.List.{AllByRecursion}
use Rattle.desk_ends.specs.Limits.{most_line_bytes}

-- no byte is a line feed
abbrev pub HasNoFeed : List ℕ → Type 0
HasNoFeed bytes = AllByRecursion (λ b. (b == 10) ≡ false) bytes

-- how many line feeds are among the bytes
abbrev pub feeds : List ℕ → ℕ
feeds [] = 0
feeds (b ∷ bytes) = if b == 10 then suc (feeds bytes) else feeds bytes

-- a line, with its line feed
abbrev pub IsFed : List ℕ → Type 0
IsFed bytes = (front : List ℕ) × (bytes ≡ front ++ 10 ∷ []) × HasNoFeed front

-- one line, with its line feed or without
abbrev pub IsLine : List ℕ → Type 0
IsLine bytes = IsFed bytes ⊎ HasNoFeed bytes

-- the last byte is a line feed
abbrev pub EndsLine : List ℕ → Type 0
EndsLine bytes = (front : List ℕ) × (bytes ≡ front ++ 10 ∷ [])

-- a line without its ending: one line feed, and one carriage return before it
abbrev pub without_ending : List ℕ → List ℕ
without_ending line = strip_last 13 (strip_last 10 line)

-- what is kept of a line: nothing if it has more bytes than a line may have and an ending of two
abbrev pub kept_line : List ℕ → Option (List ℕ)
kept_line line = if nat_le (length line) (most_line_bytes + 2) then Some line else None

-- the line with more bytes
abbrev pub with_bytes : Option (List ℕ) → List ℕ → Option (List ℕ)
with_bytes None bytes = None
with_bytes (Some line) bytes = kept_line (line ++ bytes)
