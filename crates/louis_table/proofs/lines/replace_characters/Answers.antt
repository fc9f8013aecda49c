use Rattle.std.proofs.Common.{◌++◌, List, ℕ, Result, Ok, Err, sym, ap, ◌∙◌, MatchResult, OnOk, chars}
use Rattle.std.proofs.lemmas.Str.{Chars-Drains, encodes-chars}
use Rattle.louis_table.proofs.lines.replace_characters.Goals as goal

at_ok : {T E : Type 0} (r : Result T E) (P Q R : Type 0) → MatchResult r (λ _. P) (λ _. Q) → (P → R) → OnOk r R
at_ok (Ok x) P Q R h f = f h
at_ok (Err e) P Q R h f = tt

pub returns : goal.returns
returns c =
    let ran = c.extend.ensures.ran in
    at_ok c.extend.result _ _ _ ran.4 (λ drained.
    ran.3.0 ∙ (ap (λ (front : List ℕ). front ++ ran.1) c.clear.ensures.items
    ∙ Chars-Drains (chars c.args.line.now) ran.1 ran.0 (encodes-chars c.args.line.now c.utf8.line ∙ (sym c.chars.ensures.rest ∙ ap (λ s. s.rest.now) (sym ran.2))) drained))
