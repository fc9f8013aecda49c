use Rattle.std.proofs.Common.{ℕ, [], ◌∷◌, ap, sym, ◌∙◌}
use Rattle.desk_ends.proofs.Sending.{Transmits-same}
use Rattle.desk_line.specs.ReplyLines.{details}
use Rattle.desk_line.proofs.Replying.{no-details, refusal-text}
use Rattle.desk_line.proofs.reply.put_refusal.Goals as goal

pub returns-in-Moved : goal.returns-in-Moved
returns-in-Moved g c =
    Transmits-same c.args.block.now
    (refusal-text c.args.refusal c.from-code.result (c.in-Moved.version ∷ []) (c.from-code.ensures ∙ c.code.ensures) (sym (ap details c.in-Moved.is))) c.put_line.ensures

pub returns-in-BadText : goal.returns-in-BadText
returns-in-BadText g c =
    Transmits-same c.args.block.now
    (refusal-text c.args.refusal c.from-code.result (c.in-BadText.place ∷ []) (c.from-code.ensures ∙ c.code.ensures) (sym (ap details c.in-BadText.is))) c.put_line-in-BadText.ensures

pub returns-in-Undefined : goal.returns-in-Undefined
returns-in-Undefined g c =
    Transmits-same c.args.block.now
    (refusal-text c.args.refusal c.from-code.result (c.in-Undefined.place ∷ []) (c.from-code.ensures ∙ c.code.ensures) (sym (ap details c.in-Undefined.is))) c.put_line-in-Undefined.ensures

pub returns-in-BadTable : goal.returns-in-BadTable
returns-in-BadTable g c =
    Transmits-same c.args.block.now
    (refusal-text c.args.refusal c.from-code.result (c.in-BadTable.fault.line ∷ c.from-cause.result ∷ []) (c.from-code.ensures ∙ c.code.ensures) (ap (λ (n : ℕ). c.in-BadTable.fault.line ∷ n ∷ []) c.from-cause.ensures ∙ sym (ap details c.in-BadTable.is))) c.put_line-in-BadTable.ensures

pub returns-in-Untranslatable : goal.returns-in-Untranslatable
returns-in-Untranslatable g c =
    Transmits-same c.args.block.now
    (refusal-text c.args.refusal c.from-code.result (c.in-Untranslatable.paragraph ∷ c.in-Untranslatable.place ∷ []) (c.from-code.ensures ∙ c.code.ensures) (sym (ap details c.in-Untranslatable.is))) c.put_line-in-Untranslatable.ensures

pub returns-in-Full : goal.returns-in-Full
returns-in-Full g c =
    Transmits-same c.args.block.now
    (refusal-text c.args.refusal c.from-code.result (c.from.result ∷ []) (c.from-code.ensures ∙ c.code.ensures) (ap (λ (n : ℕ). n ∷ []) (c.from.ensures ∙ c.number.ensures) ∙ sym (ap details c.in-Full.is))) c.put_line-in-Full.ensures

pub returns-in-BadName : goal.returns-in-BadName
returns-in-BadName g c =
    Transmits-same c.args.block.now
    (refusal-text c.args.refusal c.from-code.result [] (c.from-code.ensures ∙ c.code.ensures) (no-details c.args.refusal c.in-BadName.is)) c.put_line-in-BadName.ensures
