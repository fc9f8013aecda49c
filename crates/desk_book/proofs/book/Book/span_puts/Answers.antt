use Rattle.std.proofs.Common.{map, sym, ap, subst}
use Rattle.desk_book.specs.ChangePuts.{AreSpans, span_put}
use Rattle.desk_book.proofs.RowPuts.PutMarks.{AreSpans-on, none-on}
use Rattle.desk_book.proofs.book.Book.span_puts.Goals as goal

pub invariant_of-result : goal.invariant_of-result
invariant_of-result c =
    (subst AreSpans (sym c.in-Ok.ensures.found.2) (AreSpans-on c.args.self.now c.args.id c.requires.sound), c.requires.within, c.requires.short)

pub returns-in-Err : goal.returns-in-Err
returns-in-Err c =
    ap (map (span_put c.args.change.now.start c.args.change.now.removed c.args.change.now.added))
    (sym (none-on c.args.self.now c.args.id c.requires.sound c.in-Err.ensures.missing.1))
