use Rattle.std.proofs.Common.{◌∙◌}
use Rattle.std.proofs.lemmas.Str.{chars-nil}
use Rattle.desk_line.proofs.directive.nobody.Goals as goal

pub returns : goal.returns
returns c = c.new.ensures ∙ chars-nil
