use Rattle.std.proofs.Common.{◌≡◌, ℕ, ◌+◌, ◌-◌, ◌<◌, ◌≤◌, List, [], ◌∷◌, ◌++◌, map, get_or, length, set, take, Some, refl, sym, ap, subst, ◌∙◌, arith, All, slice_get}
use Rattle.std.proofs.lemmas.Option.{slice_get-get_or}
use Rattle.desk_memory.specs.declared.marks.HeldMark.{HeldMark}
use Rattle.desk_memory.specs.declared.paragraphs.Paragraph.{Paragraph as HeldParagraph}
use Rattle.desk_rebuild.specs.Rows.{HaveMarks, without_marks}
use Rattle.desk_rebuild.specs.Marks.{IsOnOne}
use Rattle.desk_rebuild.proofs.MarkRows.{few-marks, shared, shared-same}
use Rattle.desk_rebuild.proofs.marks.give_indexes.Goals as goal

module _ (i : ℕ) (marks : List HeldMark) (old items : List HeldParagraph) (mark : HeldMark) (d : HeldParagraph) (less : i < length marks)
    (is : mark ≡ get_or marks i mark) (on : All (IsOnOne (length old)) marks) (long : length items ≡ length old) (have : HaveMarks (take i marks) items) where
  abbrev was : HeldParagraph
  was = get_or items (mark.paragraph - 1) d

  at : slice_get marks i ≡ Some mark
  at = slice_get-get_or marks i mark less ∙ ap (λ (m : HeldMark). Some m) (sym is)

  one : IsOnOne (length items) mark
  one = subst (λ n. IsOnOne n mark) (sym long) (subst (IsOnOne (length old)) (sym is) (on i mark less))

  there : slice_get items (mark.paragraph - 1) ≡ Some was
  there = let low = one.0 in let high = one.1 in slice_get-get_or items (mark.paragraph - 1) d (omega (arith, low, high))

  few : length was.marks ≤ length marks
  few = few-marks marks i mark items was at one there have

  next : (new : HeldParagraph) → new.marks ≡ was.marks ++ i ∷ [] → without_marks new ≡ without_marks was
      → HaveMarks (take (i + 1) marks) (set items (mark.paragraph - 1) new) × (map without_marks (set items (mark.paragraph - 1) new) ≡ map without_marks items)
  next new pushed same = (shared marks i mark items was at one there have new pushed, shared-same marks i mark items was at one there have new same)

pub room-requires : goal.room-requires
room-requires c =
    let most = few c.loop-index.index c.args.marks.now c.args.items.now c.loop-index.items c.index-marks-index.result c.index-items-mark.result
    c.loop-index-test.true c.index-marks-index.is c.requires.there c.loop-index.auto.items c.loop-index.invariant.0 in
    let all = c.requires.few in omega (arith, most, all)

pub push-requires-clause-few : goal.push-requires-clause-few
push-requires-clause-few c =
    let most = few c.loop-index.index c.args.marks.now c.args.items.now c.loop-index.items c.index-marks-index.result c.index-items-mark.result
    c.loop-index-test.true c.index-marks-index.is c.requires.there c.loop-index.auto.items c.loop-index.invariant.0 in
    let all = c.requires.few in omega (arith, most, all)

pub loop-index-preserved : goal.loop-index-preserved
loop-index-preserved c =
    let was = get_or c.loop-index.items (c.index-marks-index.result.paragraph - 1) c.index-items-mark.result in
    let both = next c.loop-index.index c.args.marks.now c.args.items.now c.loop-index.items c.index-marks-index.result c.index-items-mark.result
    c.loop-index-test.true c.index-marks-index.is c.requires.there c.loop-index.auto.items c.loop-index.invariant.0 (record was { marks = c.push.new.self }) c.push.ensures refl in
    (both.0, both.1 ∙ c.loop-index.invariant.1)
