use Rattle.louis_translate.proofs.Tilings.{one_tiling}
use Rattle.louis_translate.proofs.laws.one_tiling.Goals as goal

pub returns : goal.returns
returns c = one_tiling
