-- How much is read.
use Rattle.std.specs.Prelude.{ℕ}

-- how many bytes a line may have, without its ending
abbrev pub most_line_bytes : ℕ
most_line_bytes = 65536

-- how many bytes of an input are read before the next read counts as failed: 2 to the 62nd
abbrev pub most_input : ℕ
most_input = 4611686018427387904

-- how many bytes are read at a time
abbrev pub chunk_bytes : ℕ
chunk_bytes = 65536
