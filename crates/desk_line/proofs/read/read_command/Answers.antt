use Rattle.std.proofs.Common.{List, ℕ, sym, ap, ◌∙◌, arith}
use Rattle.std.specs.Prelude.{Some, None}
use Rattle.std.proofs.lemmas.Str.Pattern.{strip_prefix_char}
use Rattle.desk_line.specs.ReadingSteps.{expecting}
use Rattle.desk_line.proofs.HeadLines.{expected-is, plain-is}
use Rattle.desk_line.proofs.read.read_command.Goals as goal

pub returns-in-Some : goal.returns-in-Some
returns-in-Some c =
    let word = strip_prefix_char 64 c.in_ok-word.word.now (Some c.in-Some.version) c.in-Some.ensures.cases (omega arith) in
    c.read_expecting.ensures
    ∙ (ap (λ (version : List ℕ). expecting version c.in_ok-word.others) c.as_bytes.ensures.value
    ∙ sym (expected-is c.in_ok-word.word.now c.in-Some.version.now c.args.fields c.in_ok-word.others (sym c.in_ok-word.ensures) word))

pub returns-in_err-directive-in-None : goal.returns-in_err-directive-in-None
returns-in_err-directive-in-None c =
    c.from_residual-in_err-directive-in-None.ensures
    ∙ sym (plain-is c.in_ok-word.word.now c.args.fields c.in_ok-word.others None (sym c.in_ok-word.ensures) (sym c.read_directive.ensures ∙ c.in_err-directive-in-None.was)
    (λ version e. strip_prefix_char 64 c.in_ok-word.word.now None c.in-None.ensures.cases (omega arith) version e))

pub returns-in_ok-directive-in-None : goal.returns-in_ok-directive-in-None
returns-in_ok-directive-in-None c =
    sym (plain-is c.in_ok-word.word.now c.args.fields c.in_ok-word.others (Some c.in_ok-directive-in-None.directive) (sym c.in_ok-word.ensures) (sym c.in_ok-directive-in-None.ensures)
    (λ version e. strip_prefix_char 64 c.in_ok-word.word.now None c.in-None.ensures.cases (omega arith) version e))
