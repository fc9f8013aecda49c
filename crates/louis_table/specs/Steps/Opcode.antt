-- The opcode of a name, looked for in the list of all.
use Rattle.std.specs.Prelude.{ℕ, if◌then◌else◌, List, [], ◌∷◌, ◌++◌, map, Option, Some, None, bytes_eq}
use Rattle.louis_table.specs.declared.definition.Class.TheVariants.{Space, Punctuation, Digit, Letter}
use Rattle.louis_table.specs.declared.rule.RuleKind.TheVariants.{Always, Word, BegWord, MidWord, EndWord}
use Rattle.louis_table.specs.declared.opcode.Opcode.{Opcode}
use Rattle.louis_table.specs.declared.opcode.Opcode.TheVariants.{Define, UpLow, Replace, Announce, Collect}
use Rattle.louis_table.specs.Meaning.{every_sign, every_set}
use Rattle.louis_table.specs.Opcode.{name_of}

-- the first of the opcodes that has the name
abbrev pub opcode_among : List (List ℕ × Opcode) → List ℕ → Option Opcode
opcode_among [] name = None
opcode_among (opcode ∷ opcodes) name = if bytes_eq name opcode.0 then Some opcode.1 else opcode_among opcodes name

-- every opcode beside its name
abbrev pub opcodes : List (List ℕ × Opcode)
opcodes = map (λ opcode. (name_of opcode, opcode)) (
    Define Space ∷ Define Punctuation ∷ Define Digit ∷ Define Letter ∷ UpLow
    ∷ Replace Always ∷ Replace Word ∷ Replace BegWord ∷ Replace MidWord ∷ Replace EndWord
    ∷ map Announce every_sign ++ map Collect every_set)

-- the opcode with the name
unfoldable pub opcode_named : List ℕ → Option Opcode
opcode_named = opcode_among opcodes
