-- The numbers of causes.
use Rattle.std.specs.Prelude.{ℕ}
use Rattle.louis_table.specs.declared.fault.Cause.{Cause}
use Rattle.louis_table.specs.declared.fault.Cause.TheVariants as causes

-- the number of a cause
abbrev pub cause_number : Cause → ℕ
cause_number causes.UnknownOpcode = 1
cause_number causes.MissingOperand = 2
cause_number causes.BadCharacters = 3
cause_number causes.BadDots = 4
cause_number causes.DefinedBefore = 5
cause_number causes.GivenBefore = 6
cause_number causes.UndefinedCharacter = 7
cause_number causes.BeyondLimit = 8
cause_number causes.NotText = 9
