-- What applying an effect makes of the parts in which a book is held: those of the next book.
use Rattle.std.proofs.Common.{ℕ, ◌+◌, List, [], ◌∷◌, ◌++◌, length, map}
use Rattle.std.specs.List.{insert}
use Rattle.desk_book.specs.declared.change.Effect.{Effect}
use Rattle.desk_book.specs.declared.change.Effect.TheVariants.{AddMark, AddParagraph, AddTable, ChangePrint, ChangeTable, Reorder, ReplaceTable, ResolveMark, SetFlags}
use Rattle.desk_book.specs.Changes.{IsEffectOn}
use Rattle.desk_memory.specs.declared.marks.HeldMark.{HeldMark}
use Rattle.desk_memory.specs.Held.{HeldParagraphs, HeldTables, ids, in_order_of, with_held_change, with_new_cells, with_table}
use Rattle.desk_memory.specs.HeldMarks.{with_held_moved, with_held_resolved}
use Rattle.desk_memory.specs.HeldPrints.{with_mark, with_print_changed}
use Rattle.desk_memory.proofs.Callers.{indexes-resolved, marks-resolved}
use Rattle.desk_model.specs.Book.{Book}
use Rattle.desk_book.proofs.Held.Settled as settled
use Rattle.desk_book.proofs.Held.Settled.{IsHeldIn, Parts, sound-next}
use Rattle.desk_book.proofs.Held.ShownEffects.{accepted-by, makes-by}

-- the parts once the effect is applied to them
abbrev pub applied : Effect → Parts → Parts
applied (AddTable name table room) (tables, paragraphs, marks) = (with_table name table tables, paragraphs, marks)
applied (ReplaceTable name table cells) (tables, paragraphs, marks) =
    (with_table name table tables, map (with_new_cells cells.items) paragraphs, marks)
applied (AddParagraph paragraph room order_room place) (tables, paragraphs, marks) =
    (tables, in_order_of (insert (ids paragraphs) place (length paragraphs + 1)) (paragraphs ++ (length paragraphs + 1, paragraph) ∷ []), marks)
applied (ChangePrint id change) (tables, paragraphs, marks) =
    (tables, with_held_change id (with_print_changed change) paragraphs, with_held_moved id change.start change.removed change.added marks)
applied (AddMark mark room index_room) (tables, paragraphs, marks) =
    (tables, with_held_change mark.paragraph (with_mark (length marks)) paragraphs, marks ++ mark ∷ [])
applied (ResolveMark id) (tables, paragraphs, marks) = (tables, paragraphs, with_held_resolved id marks)
applied (SetFlags id style begins struck) (tables, paragraphs, marks) =
    (tables, with_held_change id (λ held. record held { style = style; begins_volume = begins; struck = struck }) paragraphs, marks)
applied (ChangeTable id table cells) (tables, paragraphs, marks) =
    (tables, with_held_change id (λ held. record held { table = table; cells = cells }) paragraphs, marks)
applied (Reorder order) (tables, paragraphs, marks) = (tables, in_order_of order paragraphs, marks)

-- the next book is held in them then
module _ (was at : ℕ) (tables : HeldTables) (paragraphs : HeldParagraphs) (marks : List HeldMark) (next : Book) where
  pub IsHeldIn-applied : (effect : Effect) → IsEffectOn was tables paragraphs marks at effect next → IsHeldIn at next (applied effect (tables, paragraphs, marks))
  IsHeldIn-applied (AddTable name table room) (held, here) = settled.IsHeldIn-added was tables paragraphs marks next at name table room here held
  IsHeldIn-applied (ReplaceTable name table cells) (held, here) =
      settled.IsHeldIn-replaced was tables paragraphs marks next at name table cells.items here.at here.does.0.1 here.does.2 here.does.3 held (sound-next _ _ _ _ held _ _ _ here)
  IsHeldIn-applied (AddParagraph paragraph room order_room place) (held, here) =
      settled.IsHeldIn-typed was tables paragraphs marks next at here.does.anchor here.does.text (insert (ids paragraphs) place (length paragraphs + 1)) paragraph here.at
      (accepted-by here here.does.command_is) (makes-by here here.does.command_is) here.does.typed_is (settled.order-placed was tables paragraphs marks next place here.does.order)
      held (sound-next _ _ _ _ held _ _ _ here)
  IsHeldIn-applied (ChangePrint id change) (held, here) =
      settled.IsHeldIn-print_changed was tables paragraphs marks next at id change here.at here.does.1 held (sound-next _ _ _ _ held _ _ _ here)
  IsHeldIn-applied (AddMark mark room index_room) (held, here) =
      settled.IsHeldIn-noted was tables paragraphs marks next at mark here.at here.does.0 held (sound-next _ _ _ _ held _ _ _ here)
  IsHeldIn-applied (ResolveMark id) (held, here) =
      settled.IsHeldIn-marked was tables paragraphs marks next at _ (with_held_resolved id marks) here.at here.does.1 (marks-resolved id marks) held (sound-next _ _ _ _ held _ _ _ here)
      (λ other. indexes-resolved id other marks)
  IsHeldIn-applied (SetFlags id style begins struck) (held, here) =
      settled.IsHeldIn-flagged was tables paragraphs marks next at id style begins struck here.at here.does.1 held (sound-next _ _ _ _ held _ _ _ here)
  IsHeldIn-applied (ChangeTable id table cells) (held, here) =
      settled.IsHeldIn-retabled was tables paragraphs marks next at id table cells here.at here.does.0.1 here.does.1 held (sound-next _ _ _ _ held _ _ _ here)
  IsHeldIn-applied (Reorder order) (held, here) =
      settled.IsHeldIn-reordered was tables paragraphs marks next at order here.at here.does.0.1 here.does.0.2 here.does.1 held (sound-next _ _ _ _ held _ _ _ here)
