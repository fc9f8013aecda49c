use Rattle.std.proofs.Common.{◌≢◌, ◌∙◌, codes, sym}
use Rattle.std.specs.Prelude.{MatchResult, Result, Ok, Err}
use Rattle.std.proofs.lemmas.Bool.{both_ways}
use Rattle.std.proofs.lemmas.Slice.Eq.{bytes_eq-Decides}
use Rattle.desk_program.specs.Fault.{in_file, of_text, supplied}
use Rattle.desk_program.proofs.table_file.read_table.Goals as goal

-- what holds of a result's value, and of its error, is carried over
carried : {T E : Type 0} (r : Result T E) (P P' : T → Type 0) (Q Q' : E → Type 0) → ((x : T) → P x → P' x) → ((e : E) → Q e → Q' e) → MatchResult r P Q → MatchResult r P' Q'
carried (Ok x) P P' Q Q' f g h = f x h
carried (Err e) P P' Q Q' f g h = g e h

pub returns-then-eq : goal.returns-then-eq
returns-then-eq g c =
    let same = (bytes_eq-Decides c.args.path.now (codes "@en")).0 (sym c.eq.ensures ∙ c.if-eq.true) in
    let at = supplied same c.as_bytes.ensures.value in
    carried c.index_text.result _ _ _ _ (λ table h. (c.as_bytes.result.now, at, h)) (λ fault h. of_text c.as_bytes.result.now at h) c.index_text.ensures

pub returns : goal.returns
returns g c =
    let other : c.args.path.now ≢ codes "@en" = λ e. both_ways _ c.if-eq.false (c.eq.ensures ∙ (bytes_eq-Decides c.args.path.now (codes "@en")).1 e) in
    let at = in_file other c.in_ok-text.ensures in
    carried c.index_text-2.result _ _ _ _ (λ table h. (c.in_ok-text.text.items, at, h)) (λ fault h. of_text c.in_ok-text.text.items at h) (rw c.as_slice.ensures.value at c.index_text-2.ensures)
