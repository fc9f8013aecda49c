use Rattle.std.proofs.Common.{◌≡◌, length, map}
use Rattle.louis_table.specs.Steps.Opcode.{opcode_among}
use Rattle.louis_table.proofs.opcode.opcode_among.Given as goal

-- the opcodes that are left decide
abbrev pub invariant-loop-opcodes : goal.invariant-loop-opcodes
invariant-loop-opcodes l =
    opcode_among (map (λ o. (o.0.now, o.1)) l.opcodes) l.field ≡ opcode_among (map (λ o. (o.0.now, o.1)) l.initial.opcodes) l.field

abbrev pub decreases-loop-opcodes : goal.decreases-loop-opcodes
decreases-loop-opcodes l = length l.opcodes
