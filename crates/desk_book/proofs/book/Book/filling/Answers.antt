use Rattle.std.proofs.Common.{rules, subst, sym}
use Rattle.desk_model.specs.FilledRows.{Fills}
use Rattle.desk_book.proofs.RowPuts.FilledTables.{filled-both, filled-braille, filled-entries, few-held}
use Rattle.desk_book.proofs.book.Book.filling.Goals as goal

pub new-requires : goal.new-requires
new-requires c = few-held _ _ _ _ c.self.invariant

pub new-requires-in-Entries : goal.new-requires-in-Entries
new-requires-in-Entries c = few-held _ _ _ _ c.self.invariant

pub new-requires-in-Braille : goal.new-requires-in-Braille
new-requires-in-Braille c = few-held _ _ _ _ c.self.invariant

pub returns-in-EntriesAndBraille : goal.returns-in-EntriesAndBraille
returns-in-EntriesAndBraille c =
    subst (Fills c.args.tables c.args.self.now) (sym c.new.ensures)
    (filled-both _ _ _ _ c.self.invariant c.args.self.now c.self.view_is c.args.tables c.number.result (search rules) c.number.ensures c.in-EntriesAndBraille.is)

pub returns-in-Entries : goal.returns-in-Entries
returns-in-Entries c =
    subst (Fills c.args.tables c.args.self.now) (sym c.new-in-Entries.ensures)
    (filled-entries _ _ _ _ c.self.invariant c.args.self.now c.self.view_is c.args.tables c.number.result (search rules) c.number.ensures c.len-end.result c.len-end.ensures c.in-Entries.is)

pub returns-in-Braille : goal.returns-in-Braille
returns-in-Braille c =
    subst (Fills c.args.tables c.args.self.now) (sym c.new-in-Braille.ensures)
    (filled-braille _ _ _ _ c.self.invariant c.args.self.now c.self.view_is c.args.tables c.len-end.result c.len-end.ensures c.in-Braille.is)
