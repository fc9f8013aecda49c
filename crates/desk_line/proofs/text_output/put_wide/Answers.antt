use Rattle.std.proofs.Common.{◌∙◌}
use Rattle.desk_ends.proofs.Sending.{Transmits-same}
use Rattle.desk_line.proofs.text_output.put_wide.Goals as goal

pub returns : goal.returns
returns g c = Transmits-same c.args.block.now (c.as_bytes.ensures.value ∙ c.encode_utf8.ensures.value) c.put_bytes.ensures
