use Rattle.std.proofs.Common.{◌≡◌, ℕ, List, length, sym, ap, subst, ◌∙◌, arith}
use Rattle.louis_translate.specs.Tiling.{Tiles}
use Rattle.louis_translate.specs.Braille.{braille}
use Rattle.desk_model.specs.Print.{print_of}
use Rattle.desk_book.proofs.book.Book.where_is.Goals as goal

pub output_place-requires-clause-countable : goal.output_place-requires-clause-countable
output_place-requires-clause-countable c =
    let shown = c.in_ok-paragraph.ensures.found in
    let meaning = c.in_ok-paragraph.rules.now in
    let print : print_of shown.paragraph ≡ c.as_slice-3.result.now = sym shown.print ∙ sym c.as_slice-3.ensures in
    let cells : c.as_slice-2.result.now ≡ braille meaning c.as_slice-3.result.now shown.choices =
    c.as_slice-2.ensures ∙ (shown.cells ∙ ap (λ (p : List ℕ). braille meaning p shown.choices) print) in
    let count = ap length cells in
    let fits = c.as_slice-2.type_inv.0 in
    (shown.choices, subst (λ (p : List ℕ). Tiles meaning p shown.choices) print shown.translated.tiles, omega arith)
