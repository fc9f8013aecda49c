use Rattle.std.proofs.Common.{◌∷◌, ◌∙◌, ap, List, ℕ}
use Rattle.desk_ends.proofs.Sending.{Transmits-same}
use Rattle.desk_line.proofs.text_output.put_number.Goals as goal

pub returns : goal.returns
returns g c = Transmits-same c.args.block.now (ap (λ (t : List ℕ). 32 ∷ t) (c.as_bytes.ensures.value ∙ c.format.ensures.text)) c.put_field.ensures
