use Rattle.std.proofs.Common.{sym, refl}
use Rattle.clap.specs.Words.{found_of, rows_of}
use Rattle.desk_words.proofs.Asking.{asks_no_export}
use Rattle.desk_words.proofs.action.export_of.Goals as goal

pub returns-in_err-number_of : goal.returns-in_err-number_of
returns-in_err-number_of c =
    rw c.from_residual-in_err-number_of.ensures (asks_no_export (rows_of (found_of c.args.matches.now)) (λ volume width lines a b d. c.in_err-number_of.ensures volume a))

pub returns-in_err-number_of-2 : goal.returns-in_err-number_of-2
returns-in_err-number_of-2 c =
    rw c.from_residual-in_err-number_of-2.ensures (asks_no_export (rows_of (found_of c.args.matches.now)) (λ volume width lines a b d. c.in_err-number_of-2.ensures width b))

pub returns-in_err-number_of-3 : goal.returns-in_err-number_of-3
returns-in_err-number_of-3 c =
    rw c.from_residual-in_err-number_of-3.ensures (asks_no_export (rows_of (found_of c.args.matches.now)) (λ volume width lines a b d. c.in_err-number_of-3.ensures lines d))

pub returns : goal.returns
returns c = (refl, sym c.in_ok-text_of.ensures, c.in_ok-number_of.ensures, c.in_ok-number_of-2.ensures, c.in_ok-number_of-3.ensures)
