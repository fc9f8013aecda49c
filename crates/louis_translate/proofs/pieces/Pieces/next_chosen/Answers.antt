use Rattle.std.proofs.Common.{◌≡◌, ◌<◌, ℕ, List, ◌∷◌, length, get_or, Option, refl, sym, ap, ◌∙◌, arith, rules, map, option_map}
use Rattle.std.proofs.lemmas.Option.{slice_get-get_or}
use Rattle.louis_table.specs.declared.definition.Definition.{Definition}
use Rattle.louis_table.specs.Meaning.{Meaning, definition_of}
use Rattle.louis_translate.specs.Position.{class_at}
use Rattle.louis_translate.specs.Braille.{chosen_cells, own_cells}
use Rattle.louis_translate.specs.Items.{PieceItem, made_by}
use Rattle.louis_translate.specs.Left.{choices_from}
use Rattle.louis_translate.proofs.LonePieces.{made_is, no_sign, own, own_or_lone}
use Rattle.louis_translate.proofs.Runs.{sign_at-same}
use Rattle.louis_translate.proofs.Tilings.{choices_from-next}
use Rattle.louis_translate.proofs.pieces.Pieces.next_chosen.Goals as goal

-- ---- what is read of a print that is known under another name

class_is : (meaning table : Meaning) (print p : List ℕ) (i : ℕ) (d : Option Definition) → meaning ≡ table → print ≡ p → i < length print → d ≡ definition_of table (get_or p i 0)
    → option_map (λ (x : Definition). x.class) d ≡ class_at meaning print i
class_is meaning table print p i d e f lt is = search (rules, option_map, slice_get-get_or)

own_is : (meaning table : Meaning) (print : List ℕ) (i : ℕ) (rule : Option ℕ) (d : Option Definition) → meaning ≡ table → i < length print → d ≡ definition_of table (get_or print i 0)
    → own_cells table d rule ≡ chosen_cells meaning print i rule
own_is meaning table print i rule d e lt is = search (rules, slice_get-get_or)

-- ---- the answers

pub at_class-requires-clause-class : goal.at_class-requires-clause-class
at_class-requires-clause-class g c = search (rules, class_is)

pub returns-in-Some : goal.returns-in-Some
returns-in-Some g c = search (rules, slice_get-get_or, choices_from-next, no_sign, own, own_or_lone, made_is)

pub returns : goal.returns
returns g c =
    let meaning = g.B.RuleBook.meaning c.self.inside.book.now in
    let print = c.self.inside.print.now in
    let inv = c.self.invariant in
    let choice = c.choose-choice.result in
    let start = c.choose-choice.ensures.choice.start in
    let ends = c.choose-choice.ensures.within in
    let some = c.choose-choice.ensures.some in
    let at : c.self.inside.at < length print = omega arith in
    let lt : choice.start < length print = omega arith in
    let step = choices_from-next meaning print c.self.inside.at choice at c.choose-choice.ensures.choice in
    let sign = c.at_class.ensures.sign ∙ sign_at-same meaning _ print _ choice.start _ (sym inv.3) (sym inv.4) refl in
    let own = c.own_cells.ensures ∙ own_is meaning _ print choice.start choice.rule _ (sym c.table-table.ensures) lt c.definition-definition.ensures in
    rw (← c.self.view_is) (ap (map (made_by meaning print)) step ∙ ap (λ (m : PieceItem). m ∷ map (made_by meaning print) (choices_from meaning print choice.end)) (made_is meaning print choice _ _ sign own))
