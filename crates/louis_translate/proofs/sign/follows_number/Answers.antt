use Rattle.std.proofs.Common.{◌≡◌, sym, ap, ◌∙◌, arith, rules}
use Rattle.louis_translate.specs.Sign.{follows_number}
use Rattle.louis_translate.proofs.Numbers.{follows_number-digit, follows_number-end, follows_number-back}
use Rattle.louis_translate.proofs.sign.follows_number.Goals as goal

pub returns-then-is_digit : goal.returns-then-is_digit
returns-then-is_digit c = search (rules, follows_number-digit)

pub returns-then-not-is_mode_char : goal.returns-then-not-is_mode_char
returns-then-not-is_mode_char c = search (rules, follows_number-end)

pub loop-at-preserved : goal.loop-at-preserved
loop-at-preserved c = search (rules, follows_number-back)

pub returns : goal.returns
returns c =
    let inv = c.loop-at.invariant in
    let there : c.args.known ≡ c.loop-at.at = omega (arith, c.loop-at-test.false, inv.from) in
    c.requires.known ∙ (ap (follows_number c.args.table.now c.args.print.now) there ∙ sym inv.same)
