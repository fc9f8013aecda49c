use Rattle.desk_model.proofs.Damage.SoundEntryRows.{sound}
use Rattle.desk_model.proofs.Damage.UndamagedBook.{its-tables, shown}
use Rattle.desk_model.proofs.laws.undamaged_rows_show_a_book.Goals as goal

pub returns : goal.returns
returns c = λ rows. (
  λ (book, shows). (shows.texts, its-tables rows book shows, sound rows book shows),
  λ (texts, its, none). shown rows texts its none,
)
