use Rattle.desk_brf.proofs.OneVolume.{one_volume}
use Rattle.desk_brf.proofs.laws.one_volume.Goals as goal

pub returns : goal.returns
returns c = one_volume
