use Rattle.std.proofs.Common.{◌≡◌, ℕ, Err, rules, sym, ap, ◌∙◌, chars}
use Rattle.louis_table.specs.Steps.Fault.{cause_number}
use Rattle.louis_table.proofs.ReadingLaws.{ReadsOn-none, ReadsOn-all, ReadsOn-fault, ReadsOn-more, ReadsOn-HasDefinedPartners}
use Rattle.louis_table.proofs.StepLaws.{nil_from_test}
use Rattle.louis_table.proofs.read.read_lines.Goals as goal

pub take_line-requires : goal.take_line-requires
take_line-requires c = ReadsOn-HasDefinedPartners c.args.text.now c.loop-rest.before c.loop-rest.rest.now c.loop-rest.draft.table c.loop-rest.draft.written.items c.loop-rest.invariant.1

pub returns-in-Err-Bad-clause-err : goal.returns-in-Err-Bad-clause-err
returns-in-Err-Bad-clause-err c =
    let characters : c.replace_characters.new.characters.items ≡ chars c.next_line.result.0.now = search rules in
    ReadsOn-fault c.args.text.now c.loop-rest.before c.loop-rest.rest.now c.next_line.result.0.now c.next_line.result.1.now c.as_slice.result.now c.loop-rest.draft.table c.loop-rest.draft.written.items c.loop-rest.invariant.1
    c.next_line.ensures.line (c.as_slice.ensures.value ∙ characters) c.number.result
    ((rw c.in-Err-Bad.field-0-is at c.in-Err-Bad.ensures) ∙ ap (λ (n : ℕ). Err n) (sym (c.number.ensures ∙ ap cause_number c.in-Err-Bad.cause-is)))

pub loop-rest-init : goal.loop-rest-init
loop-rest-init c = (search rules, ReadsOn-none c.args.text.now c.new-draft.result.table c.new-draft.result.written.items c.new-draft.ensures.table c.new-draft.ensures.written)

pub loop-rest-preserved : goal.loop-rest-preserved
loop-rest-preserved c =
    let characters : c.replace_characters.new.characters.items ≡ chars c.next_line.result.0.now = search rules in (
      search rules,
      ReadsOn-more c.args.text.now c.loop-rest.before c.loop-rest.rest.now c.next_line.result.0.now c.next_line.result.1.now c.as_slice.result.now c.loop-rest.draft.table c.loop-rest.draft.written.items c.loop-rest.invariant.1
          c.next_line.ensures.line (c.as_slice.ensures.value ∙ characters) c.in-Ok.ensures.0 c.take_line.new.draft.table c.take_line.new.draft.written.items c.in-Ok.ensures.1 c.in-Ok.ensures.2.table c.in-Ok.ensures.2.written,
    )

pub returns-clause-ok : goal.returns-clause-ok
returns-clause-ok c =
    ReadsOn-all c.args.text.now c.loop-rest.before c.loop-rest.rest.now c.loop-rest.draft.table c.loop-rest.draft.written.items c.loop-rest.invariant.1 (nil_from_test _ _ c.is_empty.ensures c.loop-rest-test.false)
