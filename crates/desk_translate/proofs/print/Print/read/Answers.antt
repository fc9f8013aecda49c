use Rattle.std.proofs.Common.{rules, IsAscii}
use Rattle.std.proofs.lemmas.Str.{chars-IsAscii}
use Rattle.desk_translate.proofs.print.Print.read.Goals as goal

pub returns-then-is_ascii-clause-undefined : goal.returns-then-is_ascii-clause-undefined
returns-then-is_ascii-clause-undefined g c =
    let ascii : IsAscii c.args.text.now = search rules in
    rw (chars-IsAscii c.args.text.now ascii) (rw c.as_bytes-bytes.ensures.value at c.first_undefined_byte.ensures)
