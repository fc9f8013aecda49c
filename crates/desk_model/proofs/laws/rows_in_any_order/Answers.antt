use Rattle.desk_model.proofs.Damage.SameDamage.{first-damage}
use Rattle.desk_model.proofs.Rows.SameRows.{shown, symmetric}
use Rattle.desk_model.proofs.laws.rows_in_any_order.Goals as goal

pub returns-clause-shown : goal.returns-clause-shown
returns-clause-shown c = λ a b book same. shown a b same book

pub returns-clause-damage : goal.returns-clause-damage
returns-clause-damage c = first-damage

pub returns-clause-symmetric : goal.returns-clause-symmetric
returns-clause-symmetric c = symmetric
