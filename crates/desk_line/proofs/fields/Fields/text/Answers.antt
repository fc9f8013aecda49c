use Rattle.std.proofs.Common.{List, ℕ, ap, refl, ◌∙◌, Bor}
use Rattle.std.specs.Str.{chars}
use Rattle.desk_line.specs.Fields.{line_of_fields}
use Rattle.desk_line.proofs.FieldLists.{rest-joined}
use Rattle.desk_line.proofs.fields.Fields.text.Goals as goal

pub returns : goal.returns
returns c =
    c.new.ensures ∙ (ap (λ (b : Bor (List ℕ)). chars b.now) c.unwrap_or.ensures
    ∙ ap chars (rest-joined c.self.inside.rest _ refl ∙ ap line_of_fields c.self.view_is))
