use Rattle.std.proofs.Common.{sym}
use Rattle.std.proofs.lemmas.Bool.{ltb-true}
use Rattle.std.proofs.lemmas.Str.{encode_ascii}
use Rattle.desk_ends.proofs.Sending.{Transmits-same}
use Rattle.desk_line.proofs.text_output.put_character.Goals as goal

pub returns-then-is_ascii : goal.returns-then-is_ascii
returns-then-is_ascii g c =
    Transmits-same c.args.block.now (sym (encode_ascii c.args.character (ltb-true c.args.character 128 (sym c.if-is_ascii.ensures)))) c.put_byte.ensures
