-- The fields of a line, as they are cut off one by one.
use Rattle.std.specs.Prelude.{ℕ, not, List, take, drop}
use Rattle.std.specs.List.{prefix_len}
use Rattle.louis_table.specs.Fields.{is_gap}

-- the text without the gap at its front
abbrev pub after_gap : List ℕ → List ℕ
after_gap text = drop (prefix_len is_gap text) text

-- how long the field at the front is
abbrev pub field_len : List ℕ → ℕ
field_len text = prefix_len (λ c. not (is_gap c)) text

-- the next field, which is empty if there is none, and what follows it
abbrev pub field_at : List ℕ → List ℕ × List ℕ
field_at text =
    (take (field_len (after_gap text)) (after_gap text), drop (field_len (after_gap text)) (after_gap text))
