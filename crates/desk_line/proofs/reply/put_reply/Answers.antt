use Rattle.std.proofs.Common.{ℕ, [], ◌∷◌, is_ok, subst, sym, refl, ap, ◌∙◌}
use Rattle.std.specs.Prelude.{codes}
use Rattle.desk_ends.proofs.Sending.{Transmits-same}
use Rattle.desk_line.specs.declared.answer.Answer.TheVariants.{Done}
use Rattle.desk_line.specs.ReplyLines.{PutsReply, word_and}
use Rattle.desk_line.proofs.reply.put_reply.Goals as goal

pub returns-in-None : goal.returns-in-None
returns-in-None g c =
    subst (λ answer. PutsReply g.K.Sink c.args.sink.now c.put_line.new.sink c.args.block.now c.put_line.new.block c.args.book.now answer (is_ok c.put_line.result)) (sym (c.in-Done.is ∙ ap Done c.in-None.is))
    (_, refl, Transmits-same c.args.block.now (ap (λ (v : ℕ). word_and (codes "ok") (v ∷ [])) c.version.ensures.version) c.put_line.ensures)

pub returns-in-Some : goal.returns-in-Some
returns-in-Some g c =
    subst (λ answer. PutsReply g.K.Sink c.args.sink.now c.put_line-in-Some.new.sink c.args.block.now c.put_line-in-Some.new.block c.args.book.now answer (is_ok c.put_line-in-Some.result)) (sym (c.in-Done.is ∙ ap Done c.in-Some.is))
    (_, refl, Transmits-same c.args.block.now (ap (λ (v : ℕ). word_and (codes "ok") (v ∷ c.in-Some.number ∷ [])) c.version-in-Some.ensures.version) c.put_line-in-Some.ensures)

pub returns-in-Refused : goal.returns-in-Refused
returns-in-Refused g c =
    subst (λ answer. PutsReply g.K.Sink c.args.sink.now c.put_refusal.new.sink c.args.block.now c.put_refusal.new.block c.args.book.now answer (is_ok c.put_refusal.result)) (sym c.in-Refused.is)
    (_, refl, c.put_refusal.ensures)

pub returns-in-Asked : goal.returns-in-Asked
returns-in-Asked g c =
    subst (λ answer. PutsReply g.K.Sink c.args.sink.now c.put_query.new.sink c.args.block.now c.put_query.new.block c.args.book.now answer (is_ok c.put_query.result)) (sym c.in-Asked.is)
    c.put_query.ensures

pub returns-in-Syntax : goal.returns-in-Syntax
returns-in-Syntax g c =
    subst (λ answer. PutsReply g.K.Sink c.args.sink.now c.put_line-in-Syntax.new.sink c.args.block.now c.put_line-in-Syntax.new.block c.args.book.now answer (is_ok c.put_line-in-Syntax.result)) (sym c.in-Syntax.is)
    (word_and (codes "no") (1 ∷ []), refl, c.put_line-in-Syntax.ensures)

pub returns-in-NoMemory : goal.returns-in-NoMemory
returns-in-NoMemory g c =
    subst (λ answer. PutsReply g.K.Sink c.args.sink.now c.put_line-in-NoMemory.new.sink c.args.block.now c.put_line-in-NoMemory.new.block c.args.book.now answer (is_ok c.put_line-in-NoMemory.result)) (sym c.in-NoMemory.is)
    (word_and (codes "no") (90 ∷ []), refl, c.put_line-in-NoMemory.ensures)

pub returns-in-Lost : goal.returns-in-Lost
returns-in-Lost g c =
    subst (λ answer. PutsReply g.K.Sink c.args.sink.now c.put_line-in-Lost.new.sink c.args.block.now c.put_line-in-Lost.new.block c.args.book.now answer (is_ok c.put_line-in-Lost.result)) (sym c.in-Lost.is)
    (word_and (codes "no") (91 ∷ []), refl, c.put_line-in-Lost.ensures)
