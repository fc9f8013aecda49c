use Rattle.std.proofs.Common.{◌+◌, length, refl, arith}
use Rattle.std.proofs.lemmas.Option.{slice_get_read}
use Rattle.louis_translate.proofs.Starts.{may_start}
use Rattle.louis_translate.proofs.rule_index.start_here.Goals as goal

pub returns : goal.returns
returns c =
    let print = c.args.print.now in
    let first = slice_get_read print (length print) c.args.at c.index-print-at.result refl c.requires.within c.index-print-at.is in
    let second = slice_get_read print (length print) (c.args.at + 1) c.index-print-at-2.result refl (omega arith) c.index-print-at-2.is in
    may_start c.args.index.now c.args.starts.now c.requires.whole c.requires.starts print c.args.at _ _ first second c.start_at.result c.start_at.ensures
