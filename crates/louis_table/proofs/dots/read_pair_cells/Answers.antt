use Rattle.std.proofs.Common.{Ok, sym, subst, rules}
use Rattle.std.specs.Option.{option_zip}
use Rattle.cell_core.specs.Reading.{cells_in}
use Rattle.louis_table.specs.Steps.Dots.{pair_in, ReadsDots, are_many_of_two}
use Rattle.louis_table.proofs.StepLaws.{pair_in-read, first_fault, second_fault, both_reported}
use Rattle.louis_table.proofs.dots.read_pair_cells.Goals as goal

pub returns-in_err-upper : goal.returns-in_err-upper
returns-in_err-upper c = search (rules, pair_in-read, first_fault)

pub returns-in_err-lower : goal.returns-in_err-lower
returns-in_err-lower c = search (rules, pair_in-read, second_fault)

pub returns : goal.returns
returns c =
    subst (λ reported. ReadsDots are_many_of_two (Ok reported) (pair_in c.args.dots.now)) (sym c.zip.ensures)
    (subst (ReadsDots are_many_of_two (Ok (option_zip c.in_ok-upper.upper c.in_ok-lower.lower))) (sym (pair_in-read c.args.dots.now c.pair_parts.result.0.now c.pair_parts.result.1.now c.pair_parts.ensures.upper c.pair_parts.ensures.lower))
    (both_reported c.in_ok-upper.upper c.in_ok-lower.lower (cells_in c.pair_parts.result.0.now) (cells_in c.pair_parts.result.1.now) c.in_ok-upper.ensures c.in_ok-lower.ensures))
