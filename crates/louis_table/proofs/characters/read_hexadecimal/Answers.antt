use Rattle.std.proofs.Common.{rules}
use Rattle.std.proofs.Math.Nat.{pow-le-pow_right}
use Rattle.louis_table.proofs.characters.read_hexadecimal.Goals as goal

pub overflow_mul-value : goal.overflow_mul-value
overflow_mul-value c = search (rules, pow-le-pow_right)

pub overflow_add-value : goal.overflow_add-value
overflow_add-value c = search (rules, pow-le-pow_right)
