-- How many digits a number of a request has, and how large it is. `desk_ends` says how long a line
-- may be.
use Rattle.std.specs.Prelude.{ℕ}

-- digits of a number
abbrev pub most_digits : ℕ
most_digits = 16

-- 2 to the 53rd
abbrev pub most_number : ℕ
most_number = 9007199254740992
