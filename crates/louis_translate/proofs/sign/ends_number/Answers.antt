use Rattle.std.proofs.Common.{sym, ◌∙◌, rules}
use Rattle.louis_translate.proofs.Numbers.{ends_number-here, ends_number-never}
use Rattle.louis_translate.proofs.sign.ends_number.Goals as goal

pub returns-else-follows : goal.returns-else-follows
returns-else-follows c = search (rules, ends_number-never)

pub returns-then-follows : goal.returns-then-follows
returns-then-follows c =
    c.takes_sign_after_number.ensures
    ∙ sym (ends_number-here c.args.table.now c.args.print.now c.args.place c.index-print-place.result c.requires.place c.requires.digit
    (sym c.requires.follows ∙ c.if-follows.true) c.index-print-place.is)
