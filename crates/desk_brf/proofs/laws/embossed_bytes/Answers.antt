use Rattle.desk_brf.proofs.EachByte.{each_byte}
use Rattle.desk_brf.proofs.laws.embossed_bytes.Goals as goal

pub returns : goal.returns
returns c = each_byte
