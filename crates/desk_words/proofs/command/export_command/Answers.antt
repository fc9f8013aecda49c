use Rattle.std.proofs.Common.{◌≡◌, ◌∙◌, ap, ap₂, codes, rules}
use Rattle.std.proofs.lemmas.Result.{IfOk-weaker}
use Rattle.clap.specs.Words.{App, app_of, new_app, with_rule}
use Rattle.desk_words.proofs.command.export_command.Goals as goal

pub returns-clause-shape : goal.returns-clause-shape
returns-clause-shape c =
    let none : app_of c.after_help.result ≡ new_app (codes "export") = search rules in
    let one = c.in_ok-arg.ensures.shape c.operand.ensures.local ∙ ap₂ with_rule none c.operand.ensures.rule in
    let two = c.in_ok-arg-2.ensures.shape c.volume.ensures.local ∙ ap₂ with_rule one c.volume.ensures.rule in
    let three = c.in_ok-arg-3.ensures.shape c.width.ensures.local ∙ ap₂ with_rule two c.width.ensures.rule in
    IfOk-weaker c.arg-4.result _ _ (λ command h. ap (λ (a : App). a.top) (h.shape c.lines.ensures.local ∙ ap₂ with_rule three c.lines.ensures.rule)) c.arg-4.ensures
