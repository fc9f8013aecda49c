-- What the crates above cite of these proofs.

-- What is held under a name or an id, and what the book that it stands for has there.
pub use Rattle.desk_memory.proofs.HeldBooks.{All-found, IsHeld-empty, IsShown-found, found-held, means-held, missing-held, table-held, text_of-held}
-- Paragraphs in an order of their ids, and their cells.
pub use Rattle.desk_memory.proofs.Arranging.{paragraph_with_id-cons}
pub use Rattle.desk_memory.proofs.OrderLists.{ids_of-held, ids_of-with_move, ids_of-with_paragraph}
pub use Rattle.desk_memory.proofs.Renewing.{slice_get-renewed_items}
-- Histories with one entry more, and the print after an undo.
pub use Rattle.desk_memory.proofs.HeldHistories.{HaveTaken-push, TookFrom-correction, entry-correction}
pub use Rattle.desk_memory.proofs.UndonePrints.{taken-span, text-span, undone-length, undone-print}
-- The indexes of a paragraph's marks, as marks come, move and are resolved.
pub use Rattle.desk_memory.proofs.MarkIndexes.{AreMarks-on, count-indexes, few-on, indexes-moved, indexes-none, indexes-push_on, indexes-push_other, indexes-resolved, marks-at_all}
pub use Rattle.desk_memory.proofs.MarkSettled.{AreWithin-sound, IsWithin-sound, count-marks, found-mark, marks-elsewhere, marks-moved, marks-push, marks-resolved}
-- A list that an iterator walks, item by item.
pub use Rattle.desk_memory.proofs.WalkedLists.{lent-past, lent-there, walk-at, walk-past, walk-there}
pub use Rattle.desk_memory.proofs.ReportedEntries.{slice_get-enumerate}
