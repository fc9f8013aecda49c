use Rattle.std.proofs.Common.{◌≡◌, ◌+◌, drop}
use Rattle.std.specs.List.{prefix_len}
use Rattle.louis_translate.specs.Sign.{is_capital}
use Rattle.louis_translate.proofs.sign.end_of_run.Given as goal

-- the characters so far are capitals
abbrev pub invariant-loop-count : goal.invariant-loop-count
invariant-loop-count l =
    prefix_len (is_capital l.table) (drop l.place l.print)
    ≡ l.count + prefix_len (is_capital l.table) (drop l.count l.character-items)
