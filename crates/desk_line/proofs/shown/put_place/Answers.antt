use Rattle.std.proofs.Common.{[], ◌∷◌, ◌∙◌, ap, List, ℕ, codes}
use Rattle.desk_ends.proofs.Sending.{Transmits-same}
use Rattle.desk_line.specs.ReplyLines.{line_of}
use Rattle.desk_line.proofs.shown.put_place.Goals as goal

pub returns : goal.returns
returns g c =
    Transmits-same c.args.block.now
    (ap (λ (t : List ℕ). line_of (codes "|" ∷ t ∷ [])) (c.as_bytes.ensures.value ∙ c.format.ensures.text)) c.put_fields.ensures
