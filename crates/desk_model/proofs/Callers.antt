-- What the crates above desk_book cite of these proofs.

-- A sound book has its paragraphs by their ids, each sound and with a short print, and its tables by their names.
pub use Rattle.desk_model.proofs.Books.SoundBooks.{IsSoundParagraph-found, IsSoundTable-found, paragraph_of-own, short-sound}
-- Commands cut into two lists lead where the whole list leads, and a refusal that holds while no version is expected
-- holds while that of the book is.
pub use Rattle.desk_model.proofs.Commands.Histories.{After-append}
pub use Rattle.desk_model.proofs.Commands.Expecting.{holds-expected}
-- Rows show at most one book, in any order of the rows, and those of a new file and filled tables show theirs.
pub use Rattle.desk_model.proofs.Rows.OneBook.{one_book}
pub use Rattle.desk_model.proofs.Rows.SameRows.{shown as shown-same, symmetric as symmetric-same}
pub use Rattle.desk_model.proofs.Rows.FilledRows.{filled-shown, new-shown}
-- Rows that show a book have no damage, those without damage show one, and at most one damage is the first, in any order
-- of the rows.
pub use Rattle.desk_model.proofs.Damage.SoundEntryRows.{sound as undamaged}
pub use Rattle.desk_model.proofs.Damage.UndamagedBook.{shown as shown-undamaged}
pub use Rattle.desk_model.proofs.Damage.UndamagedRows.{sound-book as book-undamaged}
pub use Rattle.desk_model.proofs.Damage.FirstDamage.{one_damage}
pub use Rattle.desk_model.proofs.Damage.SameDamage.{first-damage}
pub use Rattle.desk_model.proofs.Damage.SoundParaRows.{unbarred-print}
-- Members of lists, numbers of which none stands twice, and that numbers are equal if and only if they are equal in rows.
pub use Rattle.desk_model.proofs.Lists.Members.{Contains-behind, Contains-here}
pub use Rattle.desk_model.proofs.Lists.Numbering.{IsDistinct-numbers, IsDistinct-range}
pub use Rattle.desk_model.proofs.Lists.RowNumbers.{int_eq-pos}
