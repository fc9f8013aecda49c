use Rattle.desk_model.proofs.Books.SoundSteps.{IsSound-after}
use Rattle.desk_model.proofs.laws.commands_keep_a_book_sound.Goals as goal

pub returns : goal.returns
returns c = λ book last commands written sound after. IsSound-after commands book last written sound after
