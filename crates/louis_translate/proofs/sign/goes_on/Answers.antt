use Rattle.std.proofs.Common.{◌≡◌, false, sym, ap, ◌∙◌, rules}
use Rattle.louis_translate.specs.Position.{is_digit}
use Rattle.louis_translate.specs.Sign.{is_digit_at}
use Rattle.louis_translate.proofs.Numbers.{follows_number-after, follows_number-never, follows_number-on}
use Rattle.louis_translate.proofs.sign.goes_on.Goals as goal

pub returns-then-is_digit : goal.returns-then-is_digit
returns-then-is_digit c = search (rules, follows_number-after)

pub returns-then-not-follows : goal.returns-then-not-follows
returns-then-not-follows c = search (rules, follows_number-never)

pub returns : goal.returns
returns c =
    let digit : is_digit_at c.args.table.now c.args.print.now c.args.place ≡ false =
    ap is_digit (sym c.requires.class) ∙ (sym c.is_digit.ensures ∙ c.if-is_digit.false) in
    c.is_mode_char.ensures
    ∙ sym (follows_number-on c.args.table.now c.args.print.now c.args.place c.index-print-place.result c.requires.place digit
    (sym c.requires.follows ∙ c.if-not-follows.false) c.index-print-place.is)
