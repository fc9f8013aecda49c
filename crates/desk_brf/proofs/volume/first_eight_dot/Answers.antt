use Rattle.std.proofs.Common.{◌≡◌, take, length, sym, ap, subst, ◌∙◌, arith}
use Rattle.std.proofs.Math.Seq.{take-length}
use Rattle.std.proofs.lemmas.List.{get_or_read}
use Rattle.std.proofs.lemmas.List.Elements.{All-more, All-same}
use Rattle.desk_brf.specs.Volume.{IsSixDot}
use Rattle.desk_brf.proofs.AsciiLemmas.{six_dots-some}
use Rattle.desk_brf.proofs.volume.first_eight_dot.Goals as goal

pub loop-i-preserved : goal.loop-i-preserved
loop-i-preserved c =
    let cells = c.args.cells.now in
    let cell = c.index-cells-i.result in
    let six : IsSixDot cell = six_dots-some cell c.to_ascii.result c.if-is_none.ensures c.to_ascii.ensures.byte in
    All-more IsSixDot cells c.loop-i.i 0 c.loop-i-test.true c.loop-i.invariant
    (subst IsSixDot (get_or_read cells c.loop-i.i cell c.loop-i-test.true c.index-cells-i.is 0) six)

pub returns-clause-none : goal.returns-clause-none
returns-clause-none c =
    let cells = c.args.cells.now in
    let within = c.loop-i.auto.i-end in
    let past = c.loop-i-test.false in
    let end : c.loop-i.i ≡ length cells = omega (arith, within, past) in
    All-same IsSixDot cells (take c.loop-i.i cells) (sym (ap (λ n. take n cells) end ∙ take-length cells)) c.loop-i.invariant
