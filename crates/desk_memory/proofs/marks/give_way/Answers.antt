use Rattle.std.proofs.Common.{◌≡◌, ℕ, ◌+◌, ◌<◌, List, ◌∷◌, length, set, get_or, drop, slice_get, Some, subst, sym, ap, ◌∙◌, All, rules}
use Rattle.std.proofs.lemmas.List.{drop_all}
use Rattle.std.proofs.lemmas.Option.{get_or_from_slice_get, slice_get-get_or, slice_get_within}
use Rattle.desk_memory.specs.declared.marks.HeldMark.{HeldMark}
use Rattle.desk_memory.specs.HeldMarks.{IsWithin, moved_held}
use Rattle.desk_model.proofs.Lists.Items.{All-slice_get, drop-there}
use Rattle.desk_memory.proofs.MarkIndexes.{HaveMoved, HaveMoved-end, HaveMoved-next, item-moved}
use Rattle.desk_memory.proofs.marks.give_way.Goals as goal

module _ (id start removed added i : ℕ) (indexes : List ℕ) (old marks : List HeldMark) (within : i < length indexes) (have : HaveMoved id start removed added old (drop i indexes) marks) where
  left : drop i indexes ≡ get_or indexes i 0 ∷ drop (i + 1) indexes
  left = (drop-there indexes i (get_or indexes i 0) (slice_get-get_or indexes i 0 within)).0

  mark_there : (m : HeldMark) × (slice_get old (get_or indexes i 0) ≡ Some m) × (slice_get marks (get_or indexes i 0) ≡ Some m)
  mark_there = item-moved id start removed added old (drop i indexes) marks have (get_or indexes i 0) (drop (i + 1) indexes) left

  index-within : get_or indexes i 0 < length marks
  index-within = slice_get_within marks (get_or indexes i 0) mark_there.0 mark_there.2

  mark-within : (d : HeldMark) → All IsWithin old → IsWithin (get_or marks (get_or indexes i 0) d)
  mark-within d all =
      subst IsWithin (sym (get_or_from_slice_get marks (get_or indexes i 0) mark_there.0 d mark_there.2))
      (All-slice_get IsWithin old (get_or indexes i 0) mark_there.0 all mark_there.1)

  next-moved : (d new : HeldMark) → new ≡ moved_held start removed added (get_or marks (get_or indexes i 0) d) → HaveMoved id start removed added old (drop (i + 1) indexes) (set marks (get_or indexes i 0) new)
  next-moved d new is =
      let one : get_or marks (get_or indexes i 0) d ≡ mark_there.0 = get_or_from_slice_get marks (get_or indexes i 0) mark_there.0 d mark_there.2 in
      subst (λ (m : HeldMark). HaveMoved id start removed added old (drop (i + 1) indexes) (set marks (get_or indexes i 0) m)) (sym (is ∙ ap (moved_held start removed added) one))
      (HaveMoved-next id start removed added old (drop i indexes) marks have (get_or indexes i 0) (drop (i + 1) indexes) mark_there.0 left mark_there.2)

pub bounds-marks-index : goal.bounds-marks-index
bounds-marks-index c =
    index-within c.requires.indexes.0 c.args.start c.args.removed c.args.added c.loop-index.index-index c.args.indexes.now c.args.marks.now c.loop-index.marks c.loop-index-test.true
    (c.loop-index.invariant c.requires.indexes.0 c.requires.indexes.1)

pub offset_bounds-marks-index : goal.offset_bounds-marks-index
offset_bounds-marks-index c =
    let within : get_or c.args.indexes.now c.loop-index.index-index 0 < length c.loop-index.marks =
    index-within c.requires.indexes.0 c.args.start c.args.removed c.args.added c.loop-index.index-index c.args.indexes.now c.args.marks.now c.loop-index.marks c.loop-index-test.true
    (c.loop-index.invariant c.requires.indexes.0 c.requires.indexes.1) in
    search rules

pub give_way-requires-clause-mark : goal.give_way-requires-clause-mark
give_way-requires-clause-mark c =
    mark-within c.requires.indexes.0 c.args.start c.args.removed c.args.added c.loop-index.index-index c.args.indexes.now c.args.marks.now c.loop-index.marks c.loop-index-test.true
    (c.loop-index.invariant c.requires.indexes.0 c.requires.indexes.1) c.index-marks-index.result c.requires.marks

pub loop-index-preserved : goal.loop-index-preserved
loop-index-preserved c = λ id is.
    next-moved id c.args.start c.args.removed c.args.added c.loop-index.index-index c.args.indexes.now c.args.marks.now c.loop-index.marks c.loop-index-test.true
    (c.loop-index.invariant id is) c.index-marks-index.result c.give_way.new.self c.give_way.ensures

pub returns : goal.returns
returns c = λ id is.
    HaveMoved-end id c.args.start c.args.removed c.args.added c.args.marks.now (drop c.loop-index.index-index c.args.indexes.now) c.loop-index.marks (c.loop-index.invariant id is)
    (drop_all c.loop-index.index-index c.args.indexes.now c.loop-index-test.false)
