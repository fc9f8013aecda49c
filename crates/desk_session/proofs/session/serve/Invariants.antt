use Rattle.std.proofs.Common.{◌≡◌, false}
use Rattle.desk_store.specs.Keeping.{shown_by}
use Rattle.desk_ends.proofs.UsedInput.{left_to_use}
use Rattle.desk_session.specs.Service.{ends_of}
use Rattle.desk_session.proofs.Serving.{IsServing}
use Rattle.desk_session.proofs.session.serve.Given as goal

abbrev pub invariant-loop-found : goal.invariant-loop-found
invariant-loop-found g l =
    IsServing l.fn.book l.book
    (ends_of g.R.Source l.fn.source l.source g.W.Sink l.fn.sink l.sink (shown_by g.S.Store l.fn.store) (shown_by g.S.Store l.store))
    l.input
    × (l.fn.store.lost ≡ false → l.store.lost ≡ false)

abbrev pub decreases-loop-found : goal.decreases-loop-found
decreases-loop-found g l = left_to_use l.input
