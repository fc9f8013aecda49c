-- The opcodes: how they are written, and which profiles have them.
use Rattle.std.specs.Prelude.{ℕ, List, codes}
use Rattle.louis_table.specs.declared.definition.Class.TheVariants.{Space, Punctuation, Digit, Letter}
use Rattle.louis_table.specs.declared.rule.RuleKind.TheVariants.{Always, Word, BegWord, MidWord, EndWord}
use Rattle.louis_table.specs.declared.sign.Sign.TheVariants.{Number, Capital, CapitalWord, NoContraction}
use Rattle.louis_table.specs.declared.character_set.CharacterSet.TheVariants as sets
use Rattle.louis_table.specs.declared.opcode.Opcode.{Opcode}
use Rattle.louis_table.specs.declared.opcode.Opcode.TheVariants as opcodes
use Rattle.louis_table.specs.Profile.{Profile, WithoutNumericMode, WithNumericMode, Includes}

-- the opcode as it is written
abbrev pub name_of : Opcode → List ℕ
name_of (opcodes.Define Space) = codes "space"
name_of (opcodes.Define Punctuation) = codes "punctuation"
name_of (opcodes.Define Digit) = codes "digit"
name_of (opcodes.Define Letter) = codes "letter"
name_of opcodes.UpLow = codes "uplow"
name_of (opcodes.Replace Always) = codes "always"
name_of (opcodes.Replace Word) = codes "word"
name_of (opcodes.Replace BegWord) = codes "begword"
name_of (opcodes.Replace MidWord) = codes "midword"
name_of (opcodes.Replace EndWord) = codes "endword"
name_of (opcodes.Announce Number) = codes "numsign"
name_of (opcodes.Announce Capital) = codes "capsletter"
name_of (opcodes.Announce CapitalWord) = codes "begcapsword"
name_of (opcodes.Announce NoContraction) = codes "nocontractsign"
name_of (opcodes.Collect sets.NumericMode) = codes "numericmodechars"
name_of (opcodes.Collect sets.NoContraction) = codes "numericnocontchars"

-- the first profile that has the opcode
abbrev pub profile_of : Opcode → Profile
profile_of (opcodes.Define Space) = WithoutNumericMode
profile_of (opcodes.Define Punctuation) = WithoutNumericMode
profile_of (opcodes.Define Digit) = WithoutNumericMode
profile_of (opcodes.Define Letter) = WithoutNumericMode
profile_of opcodes.UpLow = WithoutNumericMode
profile_of (opcodes.Replace Always) = WithoutNumericMode
profile_of (opcodes.Replace Word) = WithoutNumericMode
profile_of (opcodes.Replace BegWord) = WithoutNumericMode
profile_of (opcodes.Replace MidWord) = WithoutNumericMode
profile_of (opcodes.Replace EndWord) = WithoutNumericMode
profile_of (opcodes.Announce Number) = WithoutNumericMode
profile_of (opcodes.Announce Capital) = WithoutNumericMode
profile_of (opcodes.Announce CapitalWord) = WithoutNumericMode
profile_of (opcodes.Announce NoContraction) = WithNumericMode
profile_of (opcodes.Collect sets.NumericMode) = WithNumericMode
profile_of (opcodes.Collect sets.NoContraction) = WithNumericMode

-- the profile has the opcode
abbrev pub HasOpcode : Profile → Opcode → Type 0
HasOpcode profile opcode = Includes profile (profile_of opcode)
