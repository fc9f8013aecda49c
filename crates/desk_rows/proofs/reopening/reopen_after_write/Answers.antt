use Rattle.std.proofs.Common.{arith, inl, inr, map, subst, sym}
use Rattle.sqlite.specs.Held.{state}
use Rattle.desk_parts.specs.Puts.{put_of}
use Rattle.desk_rows.specs.Puts.{puts_into}
use Rattle.desk_rows.specs.States.{IsFile}
use Rattle.desk_rows.proofs.Transactions.Both.{on_done}
use Rattle.desk_rows.proofs.reopening.reopen_after_write.Goals as goal

pub returns-clause-crash : goal.returns-clause-crash
returns-clause-crash g c clean l contents was leaves =
    let shows = c.in_ok-after.ensures.shows clean l in
    let trees = (state g.S.Store c.in_ok-after.after).now.trees in
    elim (c.write-answer.ensures.crash.crash (c.in_ok-after.ensures.clean clean) trees (c.in_ok-after.ensures.found clean)) [
      | inl before ↦ inl (shows contents (leaves _ before))
      | inr all ↦ inr (all.0, all.1, λ there. shows (puts_into (map put_of all.0) contents) (all.2.0 l contents there was))
    ]

pub returns-clause-kept : goal.returns-clause-kept
returns-clause-kept g c clean =
    let trees = (state g.S.Store c.in_ok-after.after).now.trees in
    on_done c.write-answer.result _ _ _ (λ done.
    let written = done.shown in (
      written.0,
      written.1,
      λ l contents there was.
          c.in_ok-after.ensures.shows clean l (puts_into (map put_of written.0) contents)
          (subst (IsFile l (puts_into (map put_of written.0) contents)) (sym (done.settled trees (c.in_ok-after.ensures.found clean))) (written.2.0 l contents there was).is),
    )) (c.write-answer.ensures.commits (c.in_ok-after.ensures.clean clean))

pub returns-clause-clean : goal.returns-clause-clean
returns-clause-clean g c clean = let early = c.in_ok-after.ensures.clean clean in omega (arith, c.write-answer.ensures.crash.clean, early)
