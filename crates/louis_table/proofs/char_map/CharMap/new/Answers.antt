use Rattle.std.proofs.Common.{refl}
use Rattle.louis_table.proofs.PlaceLaws.{AreIn-none}
use Rattle.louis_table.proofs.char_map.CharMap.new.Goals as goal

pub invariant_of-result : goal.invariant_of-result
invariant_of-result g c = AreIn-none _ _ refl refl c.new.ensures.empty
