use Rattle.std.proofs.Common.{◌≡◌, ◌+◌, [], ◌∷◌, map, Some, None, sym, ap, ◌∙◌, rules, to_z, of_z, w64}
use Rattle.std.specs.Option.{option_copied}
use Rattle.std.specs.Prelude.{slice_get}
use Rattle.std.proofs.Math.Facts.{to_z-of_z}
use Rattle.desk_book.specs.ChangePuts.{further_from, further_put}
use Rattle.desk_model.specs.Loans.{row_number}
use Rattle.desk_parts.specs.declared.file_table.FileTable.TheVariants as tables
use Rattle.desk_parts.specs.Puts.{Place, SetColumns}
use Rattle.desk_model.proofs.Lists.Items.{option_copied-item}
use Rattle.desk_book.proofs.RowPuts.PutLists.{numbered-past, numbered-there}
use Rattle.desk_book.proofs.puts.FurtherPuts.next.Goals as goal

pub returns-in_err-id : goal.returns-in_err-id
returns-in_err-id c =
    let order = c.self.inside.order.now in
    let at = c.self.inside.at in
    let none : slice_get order at ≡ None = sym (option_copied-item order at c.get.result c.get.ensures.lookup) ∙ ap option_copied c.in_err-id.was in
    let left : c.args.self.now ≡ [] = sym c.self.view_is ∙ ap (map further_put) (numbered-past order at none) in
    rw c.from_residual.ensures (left, left)

pub returns : goal.returns
returns c =
    let order = c.self.inside.order.now in
    let at = c.self.inside.at in
    let there : slice_get order at ≡ Some c.in_ok-id.field-0.now = sym (option_copied-item order at c.get.result c.get.ensures.lookup) ∙ ap option_copied c.in_ok-id.was in
    let id : to_z w64 (of_z w64 c.number.result) ≡ row_number c.in_ok-id.field-0.now = to_z-of_z {w = w64} {z = c.number.result} (search rules) ∙ c.number.ensures in
    let place : to_z w64 (of_z w64 c.number-2.result) ≡ row_number (at + 1 + 1) = to_z-of_z {w = w64} {z = c.number-2.result} (search rules) ∙ c.number-2.ensures in
    sym c.self.view_is ∙ (ap (map further_put) (numbered-there order at c.in_ok-id.field-0.now there)
    ∙ (λ i. SetColumns tables.Para (sym id i) (Place (sym place i)) ∷ further_from (at + 1) order))
