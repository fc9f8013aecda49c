use Rattle.std.proofs.Common.{◌≡◌, ◌<◌, ℕ, true, get_or, IsSome}
use Rattle.louis_table.specs.Meaning.{definition_of}
use Rattle.desk_translate.proofs.print.knows_all.Given as goal

-- where all bytes so far are known, they are defined
abbrev pub invariant-loop-byte : goal.invariant-loop-byte
invariant-loop-byte g l =
    l.known ≡ true → (i : ℕ) → i < l.byte-index → IsSome (definition_of (g.B.RuleBook.meaning l.book) (get_or l.bytes i 0))
