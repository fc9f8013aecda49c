use Rattle.std.proofs.Common.{◌≡◌, ◌∙◌, ap, not, is_ok, true, false}
use Rattle.desk_ends.proofs.Sending.{at_err, at_ok}
use Rattle.desk_session.proofs.TurnsTaken.{done-turn, lost-turn, refused-turn}
use Rattle.desk_session.proofs.session.carry_out.Goals as goal

pub returns-in-Err-clause-taken : goal.returns-in-Err-clause-taken
returns-in-Err-clause-taken g c = λ bytes reads. refused-turn bytes c.args.book c.args.command.now c.args.expect c.in-Err.refusal _ reads c.in-Err.ensures.refused

pub returns-then-is_err-clause-taken : goal.returns-then-is_err-clause-taken
returns-then-is_err-clause-taken g c =
    let planned = c.in-Ok.ensures.accepted in
    let broken : is_ok c.keep.result ≡ false = c.is_err.ensures.negation ∙ ap not c.if-is_err.true in
    λ bytes reads.
    lost-turn bytes c.args.book c.args.command.now c.args.expect planned.1.0 c.in-Ok.change _ _ reads planned.0 planned.1.1 _ c.keep.ensures.keeps.survives c.keep.ensures.keeps.either
    (λ clean. c.keep.ensures.keeps.as_before clean broken)

pub returns-clause-taken : goal.returns-clause-taken
returns-clause-taken g c =
    let planned = c.in-Ok.ensures.accepted in
    let ok : is_ok c.keep.result ≡ true = c.is_err.ensures.negation ∙ ap not c.if-is_err.false in
    λ bytes reads.
    done-turn bytes c.args.book c.args.command.now c.args.expect planned.1.0 c.in-Ok.change _ _ reads planned.0 planned.1.1 _ c.keep.ensures.keeps.survives
    c.number-number.result c.settle.result c.number-number.ensures (c.settle.ensures _ _ planned.1.1)
    (λ clean. c.keep.ensures.keeps.kept clean ok)

pub returns-then-is_err-clause-cause : goal.returns-then-is_err-clause-cause
returns-then-is_err-clause-cause g c clean none lost =
    let planned = c.in-Ok.ensures.accepted in
    let broken : is_ok c.keep.result ≡ false = c.is_err.ensures.negation ∙ ap not c.if-is_err.true in
    let why = at_err c.keep.result _ (c.keep.ensures.reported clean none) broken in
    record { change = c.in-Ok.change; next = planned.1.0; leads = (c.args.command.now, planned.1.1); error = why.0; fails = why.1; as_before = c.keep.ensures.keeps.as_before clean broken }

pub returns-clause-held : goal.returns-clause-held
returns-clause-held g c none held =
    let ok : is_ok c.keep.result ≡ true = c.is_err.ensures.negation ∙ ap not c.if-is_err.false in
    at_ok c.keep.result _ c.keep.ensures.not_lost ok
