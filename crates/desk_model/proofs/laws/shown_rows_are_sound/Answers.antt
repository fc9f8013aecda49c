use Rattle.desk_model.proofs.Damage.SoundEntryRows.{sound}
use Rattle.desk_model.proofs.laws.shown_rows_are_sound.Goals as goal

pub returns : goal.returns
returns c = sound
