use Rattle.desk_brf.proofs.WholeVolume.{whole_volume}
use Rattle.desk_brf.proofs.laws.whole_volume.Goals as goal

pub returns : goal.returns
returns c = whole_volume
