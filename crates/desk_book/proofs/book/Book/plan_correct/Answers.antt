use Rattle.std.proofs.Common.{◌≡◌, ◌+◌, ◌-◌, ◌≤◌, List, ℕ, length, sym, ap, subst, ◌∙◌, refl}
use Rattle.desk_book.specs.Corrections.{HaltsEntry, TakesEntry}
use Rattle.desk_memory.specs.Histories.{IsCorrection, replaced_by}
use Rattle.desk_model.specs.Limits.{most_print}
use Rattle.desk_model.specs.Print.{print_of, with_replacement}
use Rattle.desk_model.specs.NextBook.{replacement_by}
use Rattle.desk_model.specs.BookTexts.{normal_form}
use Rattle.desk_book.proofs.Plans.CorrectPlanning.{counted, halted_here, no_memory_here, planned_here, undefined_here}
use Rattle.desk_memory.proofs.Callers.{TookFrom-correction, entry-correction}
use Rattle.std.proofs.lemmas.Result.{IfErr-weaker, IfOk-weaker}
use Rattle.desk_book.proofs.Plans.Planning.{exit}
use Rattle.desk_book.proofs.book.Book.plan_correct.Goals as goal
use Rattle.desk_book.proofs.book.Book.plan_correct.Goals.{After-len-2, After-len-3, In_ok-check_span}

-- ---- what is known of the span, of the text that is put and of the print then

span_is : (c : In_ok-check_span) → c.args.start + c.args.count ≤ length c.in_ok-paragraph.paragraph.now.print
span_is c = subst (λ (t : List ℕ). c.args.start + c.args.count ≤ length t) c.as_slice-old.ensures c.in_ok-check_span.ensures.there

put_is : (c : After-len-2) → c.in_ok-put.put.items ≡ normal_form c.args.text.now
put_is c = c.in_ok-put.ensures ∙ ap normal_form c.as_str.ensures

short_is : (c : After-len-2) → length (normal_form c.args.text.now) ≤ most_print
short_is c = subst (λ (n : ℕ). n ≤ most_print) (c.len.ensures ∙ (c.in_ok-put.put.ok.0 ∙ ap length (put_is c))) c.in_ok-check_length.ensures.short

-- so many characters the print has then
many_is : (c : After-len-2) → c.args.start + c.args.count ≤ length c.in_ok-paragraph.paragraph.now.print
    → (length c.as_slice-old.result.now - c.args.count) + c.len-2.result ≡ length (with_replacement (print_of c.in_ok-paragraph.ensures.found.0.paragraph) (replacement_by c.args.start c.args.count c.args.text.now))
many_is c span =
    counted c.args.self.now c.args.id c.args.start c.args.count c.args.text.now c.args.who.now c.in_ok-check_proofreader.ensures.name c.in_ok-check_text.ensures.unbarred
    _ _ c.in_ok-paragraph.ensures.found.0 c.in_ok-paragraph.ensures.found.1 span _ _ (ap length c.as_slice-old.ensures) (c.len-2.ensures ∙ (c.in_ok-put.put.ok.0 ∙ ap length (put_is c)))

before_is : (c : After-len-2) → c.as_slice-old.result.now ≡ print_of c.in_ok-paragraph.ensures.found.0.paragraph
before_is c = c.as_slice-old.ensures ∙ c.in_ok-paragraph.ensures.found.0.print

printed_is : (c : After-len-3) → c.in_ok-put.put.items ≡ normal_form c.args.text.now
    → c.in_ok-print.print.items ≡ with_replacement (print_of c.in_ok-paragraph.ensures.found.0.paragraph) (replacement_by c.args.start c.args.count c.args.text.now)
printed_is c put =
    c.in_ok-print.ensures ∙ (λ i. replaced_by c.args.start c.args.count ((c.deref.ensures.value ∙ put) i) ((c.as_slice-old.ensures ∙ c.in_ok-paragraph.ensures.found.0.print) i))

pub returns-clause-planned : goal.returns-clause-planned
returns-clause-planned c =
    let at = goal.at.returns-clause-planned c in
    let shown = c.in_ok-paragraph.ensures.found.0 in
    let text = normal_form c.args.text.now in
    let span = span_is at.In_ok-check_span in
    let put = put_is at.After-len-2 in
    let before = before_is at.After-len-2 in
    let made = subst (λ (t : List ℕ). IsCorrection t c.args.start c.args.count text c.args.who.now c.in_ok-correction.field-0) before
    (subst (λ (t : List ℕ). IsCorrection c.as_slice-old.result.now c.args.start c.args.count t c.args.who.now c.in_ok-correction.field-0) (c.deref-2.ensures.value ∙ put) c.in_ok-correction.ensures) in
    let there = subst (λ (t : List ℕ). c.args.start + c.args.count ≤ length t) shown.print span in
    IfOk-weaker c.entry_effect.result _ _
    (λ effect is. planned_here c.args.self.now c.args.id c.args.start c.args.count c.args.text.now c.args.who.now c.in_ok-check_proofreader.ensures.name c.in_ok-check_text.ensures.unbarred
    c.in_ok-paragraph.paragraph.now c.in_ok-paragraph.rules.now shown c.in_ok-paragraph.ensures.found.1 span c.in_ok-print.print.items (printed_is at.After-len-3 put) (short_is at.After-len-2) _ effect refl is
    (entry-correction (print_of shown.paragraph) c.args.start c.args.count text c.args.who.now c.in_ok-correction.field-0 made there)
    (TookFrom-correction (print_of shown.paragraph) c.args.start c.args.count text c.args.who.now c.in_ok-correction.field-0 made there)
    refl refl (c.len-3.ensures ∙ (c.in_ok-put.put.ok.0 ∙ ap length put)) (made.characters, made.who_characters)) c.entry_effect.ensures.planned

pub returns-in_err-check_entry-clause-refused : goal.returns-in_err-check_entry-clause-refused
returns-in_err-check_entry-clause-refused c =
    let at = goal.at.returns-in_err-check_entry-clause-refused c in
    let span = span_is at.In_ok-check_span in
    exit _ _ _ c.from_residual-in_err-check_entry.ensures.1 (halted_here c.args.self.now c.args.id c.args.start c.args.count c.args.text.now c.args.who.now c.in_ok-check_proofreader.ensures.name c.in_ok-check_text.ensures.unbarred
    c.in_ok-paragraph.paragraph.now c.in_ok-paragraph.rules.now c.in_ok-paragraph.ensures.found.0 c.in_ok-paragraph.ensures.found.1 span _ refl (short_is at.After-len-2) _
    (subst (λ n. HaltsEntry c.args.self.now c.in_ok-paragraph.paragraph.now n c.in_err-check_entry.field-0.0) (many_is at.After-len-2 span) c.in_err-check_entry.ensures.halted))

pub returns-clause-refused : goal.returns-clause-refused
returns-clause-refused c =
    let at = goal.at.returns-clause-refused c in
    let span = span_is at.In_ok-check_span in
    let many = many_is at.After-len-2 span in
    let printed = printed_is at.After-len-3 (put_is at.After-len-2) in
    let takes = subst (TakesEntry c.args.self.now c.in_ok-paragraph.paragraph.now) (many ∙ sym (ap length printed)) c.in_ok-check_entry.ensures.takes in
    IfErr-weaker c.entry_effect.result _ _
    (λ reported halts. undefined_here c.args.self.now c.args.id c.args.start c.args.count c.args.text.now c.args.who.now c.in_ok-check_proofreader.ensures.name c.in_ok-check_text.ensures.unbarred
    c.in_ok-paragraph.paragraph.now c.in_ok-paragraph.rules.now c.in_ok-paragraph.ensures.found.0 c.in_ok-paragraph.ensures.found.1 span c.in_ok-print.print.items printed (short_is at.After-len-2) takes reported halts) c.entry_effect.ensures.refused

pub returns-in_err-put-clause-refused : goal.returns-in_err-put-clause-refused
returns-in_err-put-clause-refused c =
    exit _ _ _ c.from_residual-in_err-put.ensures.1 (no_memory_here c.args.self.now c.args.id c.args.start c.args.count c.args.text.now c.args.who.now c.in_ok-check_proofreader.ensures.name c.in_ok-check_text.ensures.unbarred
    c.in_ok-paragraph.paragraph.now c.in_ok-paragraph.rules.now c.in_ok-paragraph.ensures.found.0 c.in_ok-paragraph.ensures.found.1 (span_is (goal.at.returns-in_err-put-clause-refused c).In_ok-check_span) _ refl)

pub returns-in_err-print-clause-refused : goal.returns-in_err-print-clause-refused
returns-in_err-print-clause-refused c =
    exit _ _ _ c.from_residual-in_err-print.ensures.1 (no_memory_here c.args.self.now c.args.id c.args.start c.args.count c.args.text.now c.args.who.now c.in_ok-check_proofreader.ensures.name c.in_ok-check_text.ensures.unbarred
    c.in_ok-paragraph.paragraph.now c.in_ok-paragraph.rules.now c.in_ok-paragraph.ensures.found.0 c.in_ok-paragraph.ensures.found.1 (span_is (goal.at.returns-in_err-print-clause-refused c).In_ok-check_span) _ refl)

pub returns-in_err-correction-clause-refused : goal.returns-in_err-correction-clause-refused
returns-in_err-correction-clause-refused c =
    exit _ _ _ c.from_residual-in_err-correction.ensures.1 (no_memory_here c.args.self.now c.args.id c.args.start c.args.count c.args.text.now c.args.who.now c.in_ok-check_proofreader.ensures.name c.in_ok-check_text.ensures.unbarred
    c.in_ok-paragraph.paragraph.now c.in_ok-paragraph.rules.now c.in_ok-paragraph.ensures.found.0 c.in_ok-paragraph.ensures.found.1 (span_is (goal.at.returns-in_err-correction-clause-refused c).In_ok-check_span) _ refl)
