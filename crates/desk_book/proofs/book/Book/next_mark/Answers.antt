use Rattle.std.proofs.Common.{length, ap, arith}
use Rattle.desk_model.specs.Book.{Book}
use Rattle.desk_book.proofs.Held.HeldLookups.{sound}
use Rattle.desk_memory.proofs.Callers.{count-marks}
use Rattle.desk_book.proofs.book.Book.next_mark.Goals as goal

pub overflow_add-result : goal.overflow_add-result
overflow_add-result c =
    let book = c.args.self.now in
    let few = (sound _ _ _ _ book c.self.view_is c.self.invariant).few_marks in
    let count = count-marks c.self.inside.marks in
    let is = ap (λ (b : Book). length b.marks) c.self.view_is in
    let many = c.len.ensures in
    omega arith

pub returns : goal.returns
returns c =
    let count = count-marks c.self.inside.marks in
    let is = ap (λ (b : Book). length b.marks) c.self.view_is in
    let many = c.len.ensures in
    omega arith
