-- What is left of what a change puts. Only private functions and proofs need these words.
use Rattle.std.specs.Prelude.{[]}
use Rattle.desk_book.specs.declared.puts.Walk.{Walk}
use Rattle.desk_book.specs.declared.puts.Walk.TheVariants.{Nothing, Cells, Further, Elsewhere, Spans}
use Rattle.desk_parts.specs.Puts.{RowPuts}

-- what is left of a walk along a list
abbrev pub walk_puts : Walk → RowPuts
walk_puts Nothing = []
walk_puts (Cells puts) = puts
walk_puts (Further puts) = puts
walk_puts (Elsewhere puts) = puts
walk_puts (Spans puts) = puts
