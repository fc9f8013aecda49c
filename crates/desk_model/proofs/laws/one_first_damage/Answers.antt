use Rattle.desk_model.proofs.Damage.FirstDamage.{one_damage}
use Rattle.desk_model.proofs.laws.one_first_damage.Goals as goal

pub returns : goal.returns
returns c = one_damage
