use Rattle.std.proofs.Common.{[], ◌∷◌, ◌++◌, ℕ, ap, is_ok, refl}
use Rattle.std.specs.Prelude.{codes}
use Rattle.std.specs.List.{flat_map}
use Rattle.desk_ends.proofs.Sending.{Sending-first, Sending-last, Sending-no_first, fails-at}
use Rattle.desk_line.specs.ReplyLines.{refusal_line, refused, shown, shown_line, word_and}
use Rattle.desk_line.proofs.Replying.{end_text}
use Rattle.desk_line.proofs.reply.put_query.Goals as goal

pub returns-in_err-put-in-Ok : goal.returns-in_err-put-in-Ok
returns-in_err-put-in-Ok g c =
    let put = c.in-Ok.ensures in
    let lines = flat_map shown_line put.0 in
    let end = end_text c.args.book.now.version in
    (lines ++ end, shown put.0 put.1 refl, Sending-no_first c.args.block.now lines end refl put.2 (ap is_ok c.in_err-put-in-Ok.was) (fails-at c.from_residual.result _ c.from_residual.ensures.1))

pub returns-in_ok-put-in-Ok : goal.returns-in_ok-put-in-Ok
returns-in_ok-put-in-Ok g c =
    let put = c.in-Ok.ensures in
    let lines = flat_map shown_line put.0 in
    let end = word_and (codes "end") (c.version.result ∷ []) in (
      lines ++ end,
      shown put.0 put.1 (ap (λ (v : ℕ). lines ++ word_and (codes "end") (v ∷ [])) c.version.ensures.version),
      Sending-last g.K.Sink.can_fail _ _ _ c.put_shown.new.block _ end _ _ (Sending-first c.args.block.now lines end refl put.2 (ap is_ok c.in_ok-put-in-Ok.was)) c.put_line.ensures,
    )

pub returns-in-Err : goal.returns-in-Err
returns-in-Err g c =
    let reported = c.in-Err.ensures in
    (refusal_line c.in-Err.refusal, refused c.in-Err.refusal reported.0 refl, rw (reported.1, reported.2) at c.put_refusal.ensures)
