use Rattle.std.proofs.Common.{ap, is_ok}
use Rattle.desk_ends.proofs.Sending.{fails-at}
use Rattle.desk_session.proofs.TurnsTaken.{SendsReply-broken, SendsReply-flushed}
use Rattle.desk_session.proofs.session.reply.Goals as goal

pub returns-in_err-send_reply : goal.returns-in_err-send_reply
returns-in_err-send_reply g c =
    rw (fails-at c.from_residual.result _ c.from_residual.ensures.1)
    (SendsReply-broken g.K.Sink.can_fail _ _ _ c.args.book.now c.args.answer.now (is_ok c.send_reply.result) c.send_reply.ensures (ap is_ok c.in_err-send_reply.was))

pub returns : goal.returns
returns g c =
    SendsReply-flushed g.K.Sink.can_fail _ _ _ _ c.args.book.now c.args.answer.now c.flush.result (is_ok c.send_reply.result) c.send_reply.ensures (ap is_ok c.in_ok-send_reply.was)
    c.flush.ensures.bytes c.flush.ensures.all c.flush.ensures.fails
