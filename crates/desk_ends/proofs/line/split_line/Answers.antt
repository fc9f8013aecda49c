use Rattle.std.proofs.Common.{ap, sym, ◌∙◌, rules}
use Rattle.std.specs.Io.BufRead.{strip_last}
use Rattle.std.proofs.lemmas.List.{take_rest}
use Rattle.desk_ends.proofs.FirstLine.{after-at, after-none, before-at, before-none}
use Rattle.desk_ends.proofs.OneLine.{no-feed}
use Rattle.desk_ends.proofs.line.split_line.Goals as goal

pub returns-in-Some-clause-line : goal.returns-in-Some-clause-line
returns-in-Some-clause-line c = search (rules, before-at)

pub returns-in-Some-clause-rest : goal.returns-in-Some-clause-rest
returns-in-Some-clause-rest c = search (rules, take_rest, after-at)

pub returns-in-None-clause-line : goal.returns-in-None-clause-line
returns-in-None-clause-line c =
    c.without_return-in-None.ensures
    ∙ ap (strip_last 13) (sym (before-none c.args.bytes.now (no-feed c.args.bytes.now c.in-None.ensures)))

pub returns-in-None-clause-rest : goal.returns-in-None-clause-rest
returns-in-None-clause-rest c = sym (after-none c.args.bytes.now (no-feed c.args.bytes.now c.in-None.ensures))
