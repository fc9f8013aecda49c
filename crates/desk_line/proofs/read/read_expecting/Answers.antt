use Rattle.std.proofs.Common.{sym}
use Rattle.desk_line.proofs.HeadLines.{expecting-is}
use Rattle.desk_line.proofs.read.read_expecting.Goals as goal

pub returns : goal.returns
returns c = sym (expecting-is c.args.version.now c.in_ok-word.word.now c.args.fields c.in_ok-word.others c.in_ok-version.version c.in_ok-directive.directive
    (sym c.in_ok-version.ensures) (sym c.in_ok-word.ensures) (sym c.in_ok-directive.ensures))
