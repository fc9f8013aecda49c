-- What a command that sets a style or a flag of a paragraph is planned to do.
use Rattle.std.proofs.Common.{◌≡◌, ℕ, ◌<◌, Bool, true, None, ap}
use Rattle.desk_book.specs.declared.change.Effect.TheVariants.{SetFlags}
use Rattle.desk_model.specs.declared.command.Command.{Command}
use Rattle.desk_memory.specs.declared.paragraphs.Paragraph.{Paragraph as HeldParagraph}
use Rattle.desk_model.specs.declared.style.Style.{Style}
use Rattle.desk_model.specs.Book.{Book, Paragraph}
use Rattle.desk_model.specs.Judging.{Passes}
use Rattle.desk_memory.specs.Held.{paragraph_held}
use Rattle.desk_model.specs.Limits.{most_version}
use Rattle.desk_model.specs.Loans.{GetsFlags}
use Rattle.desk_model.specs.Named.{HasCharacters}
use Rattle.desk_book.specs.Plans.{IsHeldFor, IsPlanned}
use Rattle.desk_model.specs.NextBook.{Makes, next_with_paragraphs, with_change}
use Rattle.desk_model.specs.Ranks.{bad_table_rank, rank}
use Rattle.desk_model.specs.declared.refusal.Refusal.TheVariants.{Full, NoMemory}
use Rattle.desk_model.specs.declared.refusal.Limit.TheVariants.{Version}
use Rattle.desk_model.proofs.Books.ParagraphLists.{with_change-same}
use Rattle.desk_model.proofs.Commands.Judging.{skips}
use Rattle.desk_model.proofs.Commands.Ranks.{accepted_after, past_version}

module _ (book : Book) (command : Command) (id : ℕ) (held : HeldParagraph) (k : IsHeldFor book id held) (change : Paragraph → Paragraph)
    (makes : Makes book command (next_with_paragraphs book (with_change id change book.paragraphs))) (written : HasCharacters command) (sets : GetsFlags command id) where
  -- if a version is left, and no refusal holds that is checked before
  pub flags_planned : (n : ℕ) → Passes book None command n → skips command n (rank (Full Version)) ≡ true → skips command bad_table_rank (rank NoMemory) ≡ true → book.version < most_version
      → (style : Style) (begins struck : Bool) → change (paragraph_held (id, held)) ≡ record (paragraph_held (id, held)) { style = style; begins_volume = begins; struck = struck }
      → IsPlanned book command (SetFlags id style begins struck)
  flags_planned n passes to_version to_end left style begins struck same = (
    accepted_after book command bad_table_rank (past_version book command n passes to_version left) to_end,
    (next_with_paragraphs book (with_change id change book.paragraphs), makes, (sets, ap (next_with_paragraphs book) (with_change-same id (paragraph_held (id, held)) change _ _ k.alone same))),
    written,
  )
