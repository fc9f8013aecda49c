use Rattle.std.proofs.Common.{◌≡◌, ℕ, ◌+◌, ◌-◌, ◌≤◌, List, length, sym, ap, subst, ◌∙◌, refl, arith}
use Rattle.desk_book.specs.Corrections.{HaltsEntry, TakesEntry}
use Rattle.desk_memory.specs.Histories.{replaced_by}
use Rattle.desk_memory.specs.Histories.{IsNewestInForce, entries_held}
use Rattle.desk_model.specs.Book.{Undoes}
use Rattle.desk_model.specs.Print.{print_of, with_entry}
use Rattle.desk_model.specs.Sound.{AreSoundEntries}
use Rattle.std.proofs.lemmas.Result.{IfErr-weaker, IfOk-weaker}
use Rattle.desk_book.proofs.Plans.UndoPlanning.{back, counted, halted_here, no_memory_here, planned_here, sound_held, span_here, undefined_here}
use Rattle.desk_book.proofs.Plans.Planning.{exit}
use Rattle.desk_book.proofs.book.Book.plan_undo.Goals as goal
use Rattle.desk_book.proofs.book.Book.plan_undo.Goals.{After-as_slice-old, In_ok-undone}

-- ---- what is known of the correction that is taken back, and of the print then

module _ (c : After-as_slice-old) where
  force_is : IsNewestInForce c.in_ok-paragraph.paragraph.now.history c.in-Some.number c.in-Some.correction.now
  force_is = subst (λ h. IsNewestInForce h c.in-Some.number c.in-Some.correction.now) c.as_slice.ensures c.in-Some.ensures.found

  span_is : c.in-Some.correction.now.start + length c.in-Some.correction.now.text ≤ length c.as_slice-old.result.now
  span_is =
      subst (λ (t : List ℕ). c.in-Some.correction.now.start + length c.in-Some.correction.now.text ≤ length t) (sym c.as_slice-old.ensures)
      (span_here c.args.self.now c.args.id _ _ c.in_ok-paragraph.ensures.found.0 c.in_ok-paragraph.ensures.found.1 c.in-Some.number c.in-Some.correction.now force_is)

  -- so many characters the print has then
  many_is : (length c.as_slice-old.result.now - c.count-count.result) + length c.as_slice-taken.result.now ≡ length (print_of (with_entry (Undoes c.in-Some.number) c.in_ok-paragraph.ensures.found.0.paragraph))
  many_is =
      counted c.args.self.now c.args.id _ _ c.in_ok-paragraph.ensures.found.0 c.in_ok-paragraph.ensures.found.1 c.in-Some.number c.in-Some.correction.now force_is
      _ _ _ (ap length c.as_slice-old.ensures) c.count-count.ensures (ap length c.as_slice-taken.ensures)

printed_is : (c : In_ok-undone) → IsNewestInForce c.in_ok-paragraph.paragraph.now.history c.in-Some.number c.in-Some.correction.now
    → c.in_ok-undone.field-0.items ≡ print_of (with_entry (Undoes c.in-Some.number) c.in_ok-paragraph.ensures.found.0.paragraph)
printed_is c force =
    c.in_ok-undone.ensures
    ∙ (ap (replaced_by c.in-Some.correction.now.start (length c.in-Some.correction.now.text) c.in-Some.correction.now.taken) c.as_slice-old.ensures
    ∙ back c.args.self.now c.args.id _ _ c.in_ok-paragraph.ensures.found.0 c.in_ok-paragraph.ensures.found.1 c.in-Some.number c.in-Some.correction.now force)

pub newest-requires : goal.newest-requires
newest-requires c =
    let shown = c.in_ok-paragraph.ensures.found.0 in
    (c.in_ok-paragraph.paragraph.now.original, subst (λ h. AreSoundEntries c.in_ok-paragraph.paragraph.now.original (entries_held h)) (sym c.as_slice.ensures) (sound_held c.args.self.now c.args.id _ _ shown c.in_ok-paragraph.ensures.found.1))

pub overflow_sub-old : goal.overflow_sub-old
overflow_sub-old c =
    let count : c.count-count.result ≡ length c.in-Some.correction.now.text = c.count-count.ensures in
    let span = span_is (goal.at.overflow_sub-old c).After-as_slice-old in
    omega arith

pub undone-requires : goal.undone-requires
undone-requires c = span_is (goal.at.undone-requires c).After-as_slice-old

pub returns-clause-planned : goal.returns-clause-planned
returns-clause-planned c =
    let at = goal.at.returns-clause-planned c in
    let found = c.in_ok-paragraph.ensures.found in
    let force = force_is at.After-as_slice-old in
    IfOk-weaker c.entry_effect.result _ _
    (λ effect is. planned_here c.args.self.now c.args.id _ _ found.0 found.1 c.in-Some.number c.in-Some.correction.now force c.in_ok-undone.field-0.items (printed_is at.In_ok-undone force) _ effect refl is refl refl c.count-count.ensures (ap length c.as_slice-taken.ensures)) c.entry_effect.ensures.planned

pub returns-in_err-check_entry-clause-refused : goal.returns-in_err-check_entry-clause-refused
returns-in_err-check_entry-clause-refused c =
    let at = (goal.at.returns-in_err-check_entry-clause-refused c).After-as_slice-old in
    let found = c.in_ok-paragraph.ensures.found in
    exit _ _ _ c.from_residual-in_err-check_entry.ensures.1 (halted_here c.args.self.now c.args.id _ _ found.0 found.1 c.in-Some.number c.in-Some.correction.now (force_is at) _ refl _
    (subst (λ n. HaltsEntry c.args.self.now c.in_ok-paragraph.paragraph.now n c.in_err-check_entry.field-0.0) (many_is at) c.in_err-check_entry.ensures.halted))

pub entry_effect-requires : goal.entry_effect-requires
entry_effect-requires c =
    let at = goal.at.entry_effect-requires c in
    let printed = printed_is at.In_ok-undone (force_is at.After-as_slice-old) in
    subst (TakesEntry c.args.self.now c.in_ok-paragraph.paragraph.now) (many_is at.After-as_slice-old ∙ sym (ap length printed)) c.in_ok-check_entry.ensures.takes

pub returns-clause-refused : goal.returns-clause-refused
returns-clause-refused c =
    let at = goal.at.returns-clause-refused c in
    let found = c.in_ok-paragraph.ensures.found in
    let force = force_is at.After-as_slice-old in
    let printed = printed_is at.In_ok-undone force in
    let takes = subst (TakesEntry c.args.self.now c.in_ok-paragraph.paragraph.now) (many_is at.After-as_slice-old ∙ sym (ap length printed)) c.in_ok-check_entry.ensures.takes in
    IfErr-weaker c.entry_effect.result _ _
    (λ reported halts. undefined_here c.args.self.now c.args.id _ _ found.0 found.1 c.in-Some.number c.in-Some.correction.now force c.in_ok-undone.field-0.items printed takes reported halts) c.entry_effect.ensures.refused

pub returns-in_err-undone-clause-refused : goal.returns-in_err-undone-clause-refused
returns-in_err-undone-clause-refused c =
    let at = (goal.at.returns-in_err-undone-clause-refused c).After-as_slice-old in
    let found = c.in_ok-paragraph.ensures.found in
    let takes = subst (TakesEntry c.args.self.now c.in_ok-paragraph.paragraph.now) (many_is at) c.in_ok-check_entry.ensures.takes in
    exit _ _ _ c.from_residual-in_err-undone.ensures.1
    (no_memory_here c.args.self.now c.args.id _ _ found.0 found.1 c.in-Some.number c.in-Some.correction.now (force_is at) _ refl takes _ refl)
