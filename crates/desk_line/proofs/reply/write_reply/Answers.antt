use Rattle.std.proofs.Common.{◌≡◌, Err, Ok, Result, is_ok, refl}
use Rattle.std.specs.Result.{result_or}
use Rattle.desk_line.specs.declared.reply.Broken.{Broken}
use Rattle.desk_line.proofs.reply.write_reply.Goals as goal

same-end : {T E : Type 0} (r : Result T E) (broken : Broken) → is_ok (result_or r (Err broken)) ≡ is_ok r
same-end (Ok x) broken = refl
same-end (Err failure) broken = refl

pub returns : goal.returns
returns g c = rw (c.or.ensures, same-end c.send_reply.result (record {})) c.send_reply.ensures
