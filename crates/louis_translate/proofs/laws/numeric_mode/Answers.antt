use Rattle.louis_translate.proofs.Numbers.{IsInNumericMode-from, is_in_numeric_mode-from}
use Rattle.louis_translate.proofs.laws.numeric_mode.Goals as goal

pub returns : goal.returns
returns c = λ meaning print i. (IsInNumericMode-from meaning print i, is_in_numeric_mode-from meaning print i)
