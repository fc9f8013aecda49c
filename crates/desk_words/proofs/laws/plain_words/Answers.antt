use Rattle.std.proofs.Common.{refl}
use Rattle.desk_words.proofs.PlainWords.{check_with, new_with, session_with, translate_with}
use Rattle.desk_words.proofs.laws.plain_words.Goals as goal

pub returns-clause-new : goal.returns-clause-new
returns-clause-new c word plain = new_with word word.now refl plain

pub returns-clause-session : goal.returns-clause-session
returns-clause-session c word plain = session_with word word.now refl plain

pub returns-clause-translate : goal.returns-clause-translate
returns-clause-translate c word plain = translate_with word word.now refl plain

pub returns-clause-check : goal.returns-clause-check
returns-clause-check c word plain = check_with word word.now refl plain
