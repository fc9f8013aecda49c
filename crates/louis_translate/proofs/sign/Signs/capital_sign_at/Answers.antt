use Rattle.std.proofs.Common.{rules, ltb-true}
use Rattle.louis_translate.proofs.Runs.{is_capital_at-run}
use Rattle.louis_translate.proofs.sign.Signs.capital_sign_at.Goals as goal

pub capital_sign-requires-clause-capital : goal.capital_sign-requires-clause-capital
capital_sign-requires-clause-capital c = search (rules, ltb-true, is_capital_at-run)
