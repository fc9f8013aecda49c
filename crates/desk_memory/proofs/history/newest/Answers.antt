use Rattle.std.proofs.Common.{◌-◌, Some, length, ap, ◌∙◌, arith, refl}
use Rattle.std.proofs.lemmas.Option.{slice_get_read}
use Rattle.desk_memory.proofs.HeldHistories.{IsNewestInForce-found, leap}
use Rattle.desk_memory.proofs.history.newest.Goals as goal

pub returns-in-Corrects-clause-found : goal.returns-in-Corrects-clause-found
returns-in-Corrects-clause-found c =
    let history = c.args.history.now in
    let at = slice_get_read history (length history) (c.loop-count.count - 1) c.index-history-count.result refl (let within = c.loop-count.invariant.0 in let some = c.loop-count-test.true in omega arith) c.index-history-count.is in
    IsNewestInForce-found history c.requires.0 c.requires.1 c.loop-count.count c.in-Corrects.correction c.loop-count-test.true (at ∙ ap Some c.in-Corrects.is) c.loop-count.invariant.1

pub overflow_sub-count-in-Undoes : goal.overflow_sub-count-in-Undoes
overflow_sub-count-in-Undoes c =
    let history = c.args.history.now in
    let at = slice_get_read history (length history) (c.loop-count.count - 1) c.index-history-count.result refl (let within = c.loop-count.invariant.0 in let some = c.loop-count-test.true in omega arith) c.index-history-count.is in
    (leap history c.requires.0 c.requires.1 c.loop-count.count c.in-Undoes.number c.loop-count-test.true (at ∙ ap Some c.in-Undoes.is) c.loop-count.invariant.1).0

pub loop-count-smaller : goal.loop-count-smaller
loop-count-smaller c =
    let history = c.args.history.now in
    let at = slice_get_read history (length history) (c.loop-count.count - 1) c.index-history-count.result refl (let within = c.loop-count.invariant.0 in let some = c.loop-count-test.true in omega arith) c.index-history-count.is in
    let to = (leap history c.requires.0 c.requires.1 c.loop-count.count c.in-Undoes.number c.loop-count-test.true (at ∙ ap Some c.in-Undoes.is) c.loop-count.invariant.1).1 in
    omega arith

pub loop-count-preserved : goal.loop-count-preserved
loop-count-preserved c =
    let history = c.args.history.now in
    let at = slice_get_read history (length history) (c.loop-count.count - 1) c.index-history-count.result refl (let within = c.loop-count.invariant.0 in let some = c.loop-count-test.true in omega arith) c.index-history-count.is in
    let leaps = leap history c.requires.0 c.requires.1 c.loop-count.count c.in-Undoes.number c.loop-count-test.true (at ∙ ap Some c.in-Undoes.is) c.loop-count.invariant.1 in
    let to = leaps.1 in
    let within = c.loop-count.invariant.0 in
    (omega arith, leaps.2)
