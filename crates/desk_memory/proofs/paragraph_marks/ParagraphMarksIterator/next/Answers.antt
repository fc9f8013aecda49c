use Rattle.std.proofs.Common.{◌≡◌, ◌+◌, ◌<◌, [], ◌∷◌, Some, get_or, length, refl, sym, ap, ◌∙◌, rules, flat_map, slice_get}
use Rattle.std.proofs.lemmas.Option.{slice_get-get_or}
use Rattle.desk_memory.specs.declared.marks.HeldMark.{HeldMark}
use Rattle.desk_memory.specs.Held.{mark_held}
use Rattle.desk_memory.specs.ItemsLeft.{mark_at, marks_at}
use Rattle.desk_model.proofs.Lists.Items.{All-slice_get, drop-past, drop-there}
use Rattle.desk_memory.proofs.MarkIndexes.{marks-at_next}
use Rattle.desk_memory.proofs.WalkedLists.{lent-past, lent-there}
use Rattle.desk_memory.proofs.paragraph_marks.ParagraphMarksIterator.next.Goals as goal
use Rattle.desk_memory.proofs.paragraph_marks.ParagraphMarksIterator.next.Goals.{In_ok-index}

pub returns-in_err-index-clause-steps : goal.returns-in_err-index-clause-steps
returns-in_err-index-clause-steps c =
    let inside = c.self.inside in
    let none = lent-past inside.indexes.now inside.at c.get.result c.get.ensures.lookup c.in_err-index.was in
    let left : c.args.self.now ≡ [] = sym c.self.view_is ∙ ap (flat_map (mark_at inside.marks.now)) (drop-past inside.indexes.now inside.at none) in
    rw c.from_residual.ensures (left, left)

-- the index at the place, the mark that has it, and those after it
there : (c : In_ok-index) → slice_get c.self.inside.indexes.now c.self.inside.at ≡ Some c.in_ok-index.field-0.now
there c = lent-there c.self.inside.indexes.now c.self.inside.at c.get.result c.get.ensures.lookup c.in_ok-index.field-0 c.in_ok-index.was

within : (c : In_ok-index) → c.in_ok-index.field-0.now < length c.self.inside.marks.now
within c = All-slice_get (λ index. index < length c.self.inside.marks.now) c.self.inside.indexes.now c.self.inside.at c.in_ok-index.field-0.now c.self.invariant (there c)

left : (c : In_ok-index) (d : HeldMark)
    → c.args.self.now ≡ mark_held (c.in_ok-index.field-0.now + 1, get_or c.self.inside.marks.now c.in_ok-index.field-0.now d)
    ∷ marks_at (c.self.inside.at + 1) c.self.inside.indexes.now c.self.inside.marks.now
left c d =
    let inside = c.self.inside in
    let index = c.in_ok-index.field-0.now in
    let at = slice_get-get_or inside.marks.now index d (within c) in
    sym c.self.view_is
    ∙ marks-at_next inside.at index inside.indexes.now inside.marks.now (get_or inside.marks.now index d) (drop-there inside.indexes.now inside.at index (there c)).0 at

pub bounds-self-inside-index : goal.bounds-self-inside-index
bounds-self-inside-index c = within (goal.at.bounds-self-inside-index c).In_ok-index

pub offset_bounds-self-inside-index : goal.offset_bounds-self-inside-index
offset_bounds-self-inside-index c = let below = within (goal.at.offset_bounds-self-inside-index c).In_ok-index in search rules

pub overflow_add-self : goal.overflow_add-self
overflow_add-self c =
    let inside = c.self.inside in
    let below = (drop-there inside.indexes.now inside.at c.in_ok-index.field-0.now (there (goal.at.overflow_add-self c).In_ok-index)).1 in
    search rules

pub returns-clause-steps : goal.returns-clause-steps
returns-clause-steps c = (
  mark_held (c.in_ok-index.field-0.now + 1, get_or c.self.inside.marks.now c.in_ok-index.field-0.now c.index-self-index.result),
  left (goal.at.returns-clause-steps c).In_ok-index c.index-self-index.result,
  record { id = refl; start = refl; end = refl; resolved = refl; touched = refl; note = c.as_str.ensures },
)

pub returns-clause-goes : goal.returns-clause-goes
returns-clause-goes c = rw (left (goal.at.returns-clause-goes c).In_ok-index c.index-self-index.result) (search rules)
