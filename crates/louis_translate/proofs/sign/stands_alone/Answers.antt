use Rattle.std.proofs.Common.{◌≡◌, sym, ◌∙◌, not}
use Rattle.std.proofs.lemmas.Bool.{OnTrue_from, both_ways, not-true}
use Rattle.louis_table.specs.declared.sign.Sign.TheVariants.{Capital}
use Rattle.louis_table.specs.Meaning.{sign_cells}
use Rattle.louis_translate.specs.Sign.{capital_sign}
use Rattle.louis_translate.proofs.Runs.{capital_sign-alone}
use Rattle.louis_translate.proofs.sign.stands_alone.Goals as goal

pub returns-then-not-follows_capital : goal.returns-then-not-follows_capital
returns-then-not-follows_capital c =
    OnTrue_from (not c.is_capital_at.result) (capital_sign c.args.table.now c.args.print.now c.args.place ≡ sign_cells c.args.table.now Capital)
    (λ alone. capital_sign-alone c.args.table.now c.args.print.now c.args.place (λ before. both_ways _ c.if-not-follows_capital.true (c.follows_capital.ensures.1 before))
    (sym c.is_capital_at.ensures ∙ not-true _ alone))
