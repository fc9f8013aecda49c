-- What an iterator lends that lends the first of what is left.
use Rattle.std.proofs.Common.{◌≡◌, List, [], ◌∷◌, map, sym, ap, ◌∙◌}
use Rattle.std.specs.Iterator.{Drains}
use Rattle.desk_parts.specs.declared.put.Put.{Put}
use Rattle.desk_parts.specs.Puts.{LendsFirst, RowPuts, put_of}

pub all_lent : (puts : RowPuts) (lent : List Put) → Drains LendsFirst puts lent → map put_of lent ≡ puts
all_lent puts [] d = sym (d.1.1 ∙ d.1.2.0)
all_lent puts (p ∷ ps) d =
    let rest = all_lent d.1.1.0 ps (d.0, (d.1.0, d.1.1.2, d.1.2)) in
    ap (λ (xs : RowPuts). put_of p ∷ xs) rest ∙ sym d.1.1.1
