use Rattle.std.proofs.Common.{[], is_ok, refl, sym, ap}
use Rattle.desk_ends.proofs.Sending.{Sending-end, Sending-first, Sending-no_first, fails-at}
use Rattle.std.proofs.lemmas.List.{append-nil}
use Rattle.desk_line.proofs.reply.send_reply.Goals as goal

pub returns-in_err-put_reply : goal.returns-in_err-put_reply
returns-in_err-put_reply g c =
    let reply = rw c.clear.ensures at c.put_reply.ensures in
    record {
      text = reply.0;
      is = reply.1;
      sent = Sending-no_first [] reply.0 [] (sym (append-nil reply.0)) reply.2 (ap is_ok c.in_err-put_reply.was) (fails-at c.from_residual.result _ c.from_residual.ensures.1);
    }

pub returns : goal.returns
returns g c =
    let reply = rw c.clear.ensures at c.put_reply.ensures in
    record {
      text = reply.0;
      is = reply.1;
      sent = Sending-end g.K.Sink.can_fail _ _ _ _ _ [] _ _ (Sending-first [] reply.0 [] (sym (append-nil reply.0)) reply.2 (ap is_ok c.in_ok-put_reply.was)) refl
          (rw c.as_slice.ensures at c.send.ensures);
    }
