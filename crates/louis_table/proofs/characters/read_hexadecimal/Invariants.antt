use Rattle.std.proofs.Common.{◌≡◌, ◌<◌, ◌^◌, drop}
use Rattle.louis_table.specs.Steps.Characters.{hex_value}
use Rattle.louis_table.proofs.characters.read_hexadecimal.Given as goal

-- the digits left complete the value
abbrev pub invariant-loop-digit : goal.invariant-loop-digit
invariant-loop-digit l = (l.value < 16 ^ l.digit-index) × (hex_value l.value (drop l.digit-index l.digits) ≡ hex_value 0 l.digits)
