-- The lines of a request. `louis_table` says what the lines of an input are, and that one carriage
-- return at the end of a line isn't part of it.
use Rattle.std.specs.Prelude.{ℕ, ◌≤◌, ◌==◌, List, length}
use Rattle.std.specs.List.{after_first}
use Rattle.std.specs.Str.{IsUtf8}
use Rattle.desk_ends.specs.Limits.{most_line_bytes}

-- a line that isn't too long
abbrev pub IsShort : List ℕ → Type 0
IsShort line = length line ≤ most_line_bytes

-- a line that can be a head line: UTF-8, and not too long
pub record CanBeHead (line : List ℕ) : Type 0 where
  pub short : IsShort line
  pub utf8 : IsUtf8 line

-- the bytes after the first line, with the endings of their lines
abbrev pub after_first_line : List ℕ → List ℕ
after_first_line bytes = after_first (λ b. b == 10) bytes
