use Rattle.std.proofs.lemmas.Str.{IsUtf8-string_bytes, scalars-chars}
use Rattle.std.specs.Prelude.{string_bytes}
use Rattle.desk_model.proofs.Lists.CharacterLists.{AreCharacters-scalars}
use Rattle.desk_model.proofs.text.Text.from_string.Goals as goal

pub returns-clause-characters : goal.returns-clause-characters
returns-clause-characters c = AreCharacters-scalars _ (scalars-chars (string_bytes c.args.string) (IsUtf8-string_bytes c.args.string))
