use Rattle.std.proofs.Common.{rules, ◌≡◌, length, take, IfOk, IfErr, ap, arith, refl, ◌∙◌}
use Rattle.std.proofs.lemmas.Result.{IfErr-at_err, IfOk-weaker}
use Rattle.cell_core.specs.declared.dots.DotsFault.TheVariants.{NoMemory}
use Rattle.cell_core.proofs.DotsLaws.{Dots-from_cells_in, no_Dots, same_from_Dots}
use Rattle.cell_core.proofs.ReadCells.{HasRead-take}
use Rattle.cell_core.proofs.dots.read_dots.Goals as goal

pub returns-in_default-clause-bad : goal.returns-in_default-clause-bad
returns-in_default-clause-bad c = (λ _. no_Dots c.args.text.now c.in_default.ensures.none, λ _. refl)

pub returns-in_default-clause-too_many : goal.returns-in_default-clause-too_many
returns-in_default-clause-too_many c = (λ h. absurd cc, λ many. absurd (no_Dots c.args.text.now c.in_default.ensures.none many.0 many.1))

pub returns-then-count-gt-MOST_CELLS-clause-bad : goal.returns-then-count-gt-MOST_CELLS-clause-bad
returns-then-count-gt-MOST_CELLS-clause-bad c =
    let read = c.in-Some.ensures.some in
    (λ h. absurd cc, λ none. absurd (none read.cells (Dots-from_cells_in c.args.text.now read.cells read.read)))

pub returns-then-count-gt-MOST_CELLS-clause-too_many : goal.returns-then-count-gt-MOST_CELLS-clause-too_many
returns-then-count-gt-MOST_CELLS-clause-too_many c =
    let read = c.in-Some.ensures.some in
    let counted = read.counted in
    (λ _. (read.cells, Dots-from_cells_in c.args.text.now read.cells read.read, omega arith), λ _. refl)

pub returns-clause-cells : goal.returns-clause-cells
returns-clause-cells c =
    let read = c.in-Some.ensures.some in
    let counted = read.counted in
    let made : IfOk c.map_err.result (λ v. v.items ≡ take c.in-Some.count c.read_cells.new.cells) = search rules in
    let row : take c.in-Some.count c.read_cells.new.cells ≡ read.cells = HasRead-take c.args.text.now c.read_cells.new.cells c.in-Some.count read (omega arith) in
    IfOk-weaker c.map_err.result _ _ (λ v is. let same : v.items ≡ read.cells = is ∙ row in (rw same (Dots-from_cells_in c.args.text.now read.cells read.read), rw same (omega arith))) made

pub returns-clause-bad : goal.returns-clause-bad
returns-clause-bad c =
    let read = c.in-Some.ensures.some in
    let only : IfErr c.map_err.result (λ fault. fault ≡ NoMemory) = search rules in
    (λ h. absurd (let other = IfErr-at_err (λ fault. fault ≡ NoMemory) h only in cc), λ none. absurd (none read.cells (Dots-from_cells_in c.args.text.now read.cells read.read)))

pub returns-clause-too_many : goal.returns-clause-too_many
returns-clause-too_many c =
    let read = c.in-Some.ensures.some in
    let counted = read.counted in
    let only : IfErr c.map_err.result (λ fault. fault ≡ NoMemory) = search rules in (
      λ h. absurd (let other = IfErr-at_err (λ fault. fault ≡ NoMemory) h only in cc),
      λ many. let same = ap length (same_from_Dots c.args.text.now read.cells many.0 (Dots-from_cells_in c.args.text.now read.cells read.read) many.1) in absurd (omega (arith, many.2)),
    )

pub returns-clause-no_memory : goal.returns-clause-no_memory
returns-clause-no_memory c =
    let read = c.in-Some.ensures.some in
    let counted = read.counted in
    λ h. (read.cells, Dots-from_cells_in c.args.text.now read.cells read.read, omega arith)
