use Rattle.std.proofs.Common.{◌≡◌, ℕ, ◌<◌, false, List, Some, None, refl, ap, subst, ◌∙◌}
use Rattle.std.specs.Prelude.{option_map}
use Rattle.louis_translate.specs.Position.{AreDefined}
use Rattle.desk_model.specs.declared.command.Command.TheVariants.{Retable}
use Rattle.desk_memory.specs.declared.paragraphs.Paragraph.{Paragraph as HeldParagraph}
use Rattle.desk_memory.specs.declared.tables.BookTable.{BookTable}
use Rattle.desk_model.specs.declared.refusal.Refusal.TheVariants.{NoMark, NoMemory, NoTable, NotStruck, Struck}
use Rattle.desk_model.specs.Book.{Book}
use Rattle.desk_memory.specs.Braille.{AreCellsOf}
use Rattle.desk_model.specs.Judging.{Passes}
use Rattle.desk_memory.specs.Held.{paragraph_held}
use Rattle.desk_model.specs.Limits.{most_version}
use Rattle.desk_book.specs.Plans.{IsHeldFor, IsTableFor}
use Rattle.desk_model.specs.Print.{print_of}
use Rattle.desk_model.specs.Refusals.{print_to_translate}
use Rattle.desk_model.specs.Ranks.{bad_table_rank, rank, undefined_rank, untranslatable_rank}
use Rattle.desk_model.proofs.Commands.Ranks.{accepted_after, past_table, past_version, to_rank}
use Rattle.desk_book.proofs.Plans.Planning.{exit, no_memory, past_named, past_print, past_struck}
use Rattle.desk_book.proofs.book.Book.plan_retable.Goals as goal

module _ (book : Book) (id : ℕ) (name : List ℕ) (held : HeldParagraph) (found : IsHeldFor book id held) where
  named : Passes book None (Retable id name) (rank NoTable)
  named = past_named book (Retable id name) id held found refl refl

  print : List ℕ
  print = print_of (paragraph_held (id, held))

  given : print_to_translate book (Retable id name) ≡ Some (print, name)
  unfolding print
  given = ap (option_map (λ p. (print_of p, name))) found.found

  print_is : (shown : List ℕ) → shown ≡ held.print → shown ≡ print
  unfolding print
  print_is shown same = same ∙ found.print

  module _ (table : BookTable) (there : IsTableFor book name table) where
    tabled : Passes book None (Retable id name) (rank Struck)
    tabled = to_rank book (Retable id name) (rank NoMark) (rank Struck) refl (past_table book (Retable id name) name table.text named refl there.found)

    live : held.struck ≡ false → Passes book None (Retable id name) (rank NotStruck)
    live = past_struck book (Retable id name) id held found tabled refl

    left : held.struck ≡ false → book.version < most_version → Passes book None (Retable id name) undefined_rank
    left unstruck room = to_rank book (Retable id name) bad_table_rank undefined_rank refl (past_version book (Retable id name) (rank NotStruck) (live unstruck) refl room)

    judged : held.struck ≡ false → book.version < most_version → (shown : List ℕ) → shown ≡ held.print → AreDefined table.rules shown → Passes book None (Retable id name) (rank NoMemory)
    judged unstruck room shown same defined =
        to_rank book (Retable id name) untranslatable_rank (rank NoMemory) refl
        (past_print book (Retable id name) name print table given there (left unstruck room) (subst (AreDefined table.rules) (print_is shown same) defined))

pub returns-in_err-copy-clause-refused : goal.returns-in_err-copy-clause-refused
returns-in_err-copy-clause-refused c =
    let passes = judged c.args.self.now c.args.id c.args.table.now _ c.in_ok-paragraph.ensures.found _ c.in_ok-held.ensures.found c.if-paragraph.false c.in_ok-check_version.ensures.left _ c.as_slice-print.ensures c.in_ok-check_print.ensures.defined in
    exit _ _ _ c.from_residual-in_err-copy.ensures.1 (no_memory c.args.self.now (Retable c.args.id c.args.table.now) _ (rank NoMemory) refl passes refl)

pub returns-in_err-cells_of-clause-refused : goal.returns-in_err-cells_of-clause-refused
returns-in_err-cells_of-clause-refused c =
    let passes = judged c.args.self.now c.args.id c.args.table.now _ c.in_ok-paragraph.ensures.found _ c.in_ok-held.ensures.found c.if-paragraph.false c.in_ok-check_version.ensures.left _ c.as_slice-print.ensures c.in_ok-check_print.ensures.defined in
    exit _ _ _ c.from_residual-in_err-cells_of.ensures.1 (no_memory c.args.self.now (Retable c.args.id c.args.table.now) _ (rank NoMemory) refl passes refl)

pub returns-clause-planned : goal.returns-clause-planned
returns-clause-planned c =
    let book = c.args.self.now in
    let held = c.in_ok-paragraph.ensures.found in
    let table = c.in_ok-held.ensures.found in
    let rules = c.in_ok-held.held.now.rules in
    let passes = left book c.args.id c.args.table.now _ held _ table c.if-paragraph.false c.in_ok-check_version.ensures.left in
    let shown = c.as_slice-print.ensures ∙ held.print in
    let defined = subst (AreDefined rules) (print_is book c.args.id c.args.table.now _ held _ c.as_slice-print.ensures) c.in_ok-check_print.ensures.defined in
    let judged = past_print book (Retable c.args.id c.args.table.now) c.args.table.now _ _ (given book c.args.id c.args.table.now _ held) table passes defined in
    let copied = c.in_ok-copy.ensures.text ∙ c.as_str.ensures in
    let cells = subst (λ (t : List ℕ). AreCellsOf rules t c.in_ok-cells_of.field-0) shown c.in_ok-cells_of.ensures in (
      accepted_after book (Retable c.args.id c.args.table.now) untranslatable_rank judged refl,
      (_, refl, rw copied ((refl, refl), record { paragraph = _; there = held.found; source = _; meaning = rules; found = table.found; means = table.means; cells_are = cells })),
      (tt, tt, tt),
    )
