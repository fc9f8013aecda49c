-- The lines of a text: what stands between its line feeds.
use Rattle.std.specs.Prelude.{ℕ, List, [], ◌∷◌, ◌==◌, if◌then◌else◌, map}
use Rattle.std.specs.List.{onto_first}
use Rattle.std.specs.Io.BufRead.{strip_last}

-- what stands between the line feeds; what follows the last of them is a line if it isn't empty
abbrev pub pieces_of : List ℕ → List (List ℕ)
pieces_of [] = []
pieces_of (b ∷ bytes) = if b == 10 then [] ∷ pieces_of bytes else onto_first b (pieces_of bytes)

-- the lines, each without one carriage return at its end
abbrev pub lines_of : List ℕ → List (List ℕ)
lines_of bytes = map (strip_last 13) (pieces_of bytes)
