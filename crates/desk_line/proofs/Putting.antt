-- A text that is put piece after piece.
use Rattle.std.proofs.Common.{◌≡◌, ℕ, ◌+◌, ◌/◌, ◌%◌, ◌<◌, ◌≤◌, ltb, true, false, List, [], ◌∷◌, ◌++◌, codes, sym, ap, ◌∙◌, append_assoc}
use Rattle.std.proofs.lemmas.Bool.{le-ltb, lt-ltb}
use Rattle.std.proofs.lemmas.List.{append-nil}
use Rattle.std.specs.Char.{encode_utf8}
use Rattle.std.specs.List.{flat_map}
use Rattle.std.specs.Prelude.{map}
use Rattle.desk_line.specs.Fields.{line_of_fields}
use Rattle.desk_line.specs.ReplyLines.{line_of, shown_line}

-- a character of two bytes
pub encode-two : (c : ℕ) → 128 ≤ c → c < 2048 → encode_utf8 c ≡ (192 + c / 64) ∷ (128 + c % 64) ∷ []
unfolding encode_utf8
encode-two c wide short =
    let one : ltb c 128 ≡ false = le-ltb c 128 wide in
    let two : ltb c 2048 ≡ true = lt-ltb c 2048 short in
    rw (one, two)

-- a line that a query shows: a bar and a blank, the line and a line feed
pub framed : (line : List ℕ) → shown_line line ≡ codes "| " ++ (line ++ 10 ∷ [])
framed line = append_assoc (codes "| ") line (10 ∷ [])

module _ {A : Type 0} (show : A → List ℕ) where
  -- fields, each after a blank, and the end of their line
  abbrev pub apart : List A → List ℕ
  apart fields = flat_map (λ (field : A). 32 ∷ show field) fields

  abbrev pub ended : List A → List ℕ
  ended fields = apart fields ++ 10 ∷ []

  fields-apart : (word : List ℕ) (fields : List A) → line_of_fields (word ∷ map show fields) ≡ word ++ apart fields
  fields-apart word [] = sym (append-nil word)
  fields-apart word (f ∷ fields) = ap (λ (t : List ℕ). word ++ 32 ∷ t) (fields-apart (show f) fields)

  -- a line is its word and what comes after it
  pub line-begins : (word : List ℕ) (fields : List A) → line_of (word ∷ map show fields) ≡ word ++ ended fields
  line-begins word fields = ap (λ (t : List ℕ). t ++ 10 ∷ []) (fields-apart word fields) ∙ append_assoc word (apart fields) (10 ∷ [])

  -- and then field after field
  pub field-next : (fields : List A) (first : A) (others : List A) → fields ≡ first ∷ others → ended fields ≡ (32 ∷ show first) ++ ended others
  field-next fields first others e = ap ended e ∙ append_assoc (32 ∷ show first) (apart others) (10 ∷ [])

  -- the lines that show things
  abbrev pub shown_lines : List A → List ℕ
  shown_lines things = flat_map shown_line (map show things)
