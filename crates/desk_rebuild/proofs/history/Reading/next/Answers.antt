use Rattle.std.proofs.Common.{◌∙◌}
use Rattle.desk_memory.specs.Histories.{entries_held}
use Rattle.std.proofs.lemmas.Result.{IfOk-weaker}
use Rattle.desk_rebuild.proofs.ReadEntries.{IfSome-correcting}
use Rattle.desk_rebuild.proofs.history.Reading.next.Goals as goal

pub returns-in-0-clause-sound : goal.returns-in-0-clause-sound
returns-in-0-clause-sound c original left =
    IfOk-weaker c.correction.result _ _
    (IfSome-correcting original (entries_held c.args.self.now.entries.items) c.deref.result.now c.args.row left.sound (c.deref.ensures.value ∙ left.print_is)) c.correction.ensures.sound
