use Rattle.std.proofs.Common.{rules}
use Rattle.louis_table.proofs.char_map.CharMap.get.Goals as goal

pub returns : goal.returns
returns g c = search rules
