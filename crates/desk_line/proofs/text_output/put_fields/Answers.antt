use Rattle.std.proofs.Common.{[], ◌∷◌, ◌+◌, Bor, List, ℕ, codes, drop, is_ok, ap}
use Rattle.std.proofs.lemmas.List.{drop_more}
use Rattle.std.proofs.Math.ListN.{drop_of_length-le}
use Rattle.desk_ends.proofs.Sending.{Sending-fails, Sending-first, Sending-last, Sending-more, Sending-no_first, fails-at}
use Rattle.desk_line.proofs.Putting.{ended, field-next, line-begins}
use Rattle.desk_line.proofs.text_output.put_fields.Goals as goal

-- the bytes of a field
abbrev bytes : Bor (List ℕ) → List ℕ
bytes field = field.now

pub returns-in_err-put_byte : goal.returns-in_err-put_byte
returns-in_err-put_byte g c =
    Sending-no_first c.args.block.now (codes "|") (ended bytes c.args.fields.now) (line-begins bytes (codes "|") c.args.fields.now) c.put_byte.ensures
    (ap is_ok c.in_err-put_byte.was) (fails-at c.from_residual.result _ c.from_residual.ensures.1)

pub loop-field-init : goal.loop-field-init
loop-field-init g c =
    Sending-first c.args.block.now (codes "|") (ended bytes c.args.fields.now) (line-begins bytes (codes "|") c.args.fields.now) c.put_byte.ensures
    (ap is_ok c.in_ok-put_byte.was)

pub returns-in_err-put_field : goal.returns-in_err-put_field
returns-in_err-put_field g c =
    let fields = c.args.fields.now in
    let i = c.loop-field.field-index in
    Sending-fails g.K.Sink.can_fail _ _ _ c.loop-field.block _ _ _ _ c.loop-field.invariant _ _
    (field-next bytes (drop i fields) _ (drop (i + 1) fields) (drop_more fields i _ c.loop-field-test.true))
    c.put_field.ensures _ _ (ap is_ok c.in_err-put_field.was) (fails-at c.from_residual-in_err-put_field.result _ c.from_residual-in_err-put_field.ensures.1)

pub loop-field-preserved : goal.loop-field-preserved
loop-field-preserved g c =
    let fields = c.args.fields.now in
    let i = c.loop-field.field-index in
    Sending-more g.K.Sink.can_fail _ _ _ c.loop-field.block _ _ _ _ c.loop-field.invariant _ _
    (field-next bytes (drop i fields) _ (drop (i + 1) fields) (drop_more fields i _ c.loop-field-test.true))
    c.put_field.ensures (ap is_ok c.in_ok-put_field.was)

pub returns : goal.returns
returns g c =
    Sending-last g.K.Sink.can_fail _ _ _ c.loop-field.block _ (10 ∷ []) _ _
    (rw (drop_of_length-le c.args.fields.now c.loop-field-test.false) at c.loop-field.invariant) c.put_byte-2.ensures
