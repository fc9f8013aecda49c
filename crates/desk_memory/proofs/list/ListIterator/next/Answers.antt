use Rattle.std.proofs.Common.{◌≡◌, ℕ, ◌+◌, [], ◌∷◌, length, map, refl, sym, ap, ◌∙◌, arith, rules}
use Rattle.std.proofs.lemmas.List.Elements.{All-contains}
use Rattle.desk_memory.specs.declared.paragraphs.Paragraph.{Paragraph as HeldParagraph}
use Rattle.desk_memory.specs.Held.{HeldParagraphs, paragraph_held, paragraphs_from}
use Rattle.desk_model.specs.Print.{print_of}
use Rattle.desk_model.proofs.Lists.Items.{drop-there, Contains-there}
use Rattle.desk_memory.proofs.WalkedLists.{walk-at, walk-past, walk-there}
use Rattle.desk_memory.proofs.list.ListIterator.next.Goals as goal

pub returns-in_err-id-clause-steps : goal.returns-in_err-id-clause-steps
returns-in_err-id-clause-steps c =
    let left : c.args.self.now ≡ [] = sym c.self.view_is ∙ ap (map paragraph_held) (walk-past c.self.inside.paragraphs.now c.self.inside.at c.at.result c.at.ensures c.in_err-id.was) in
    rw c.from_residual.ensures (left, left)

pub overflow_add-self : goal.overflow_add-self
overflow_add-self c =
    let within = (walk-there c.self.inside.paragraphs.now c.self.inside.at c.at.result c.at.ensures c.in_ok-id.id c.in_ok-id.paragraph c.in_ok-id.was).1 in
    let few = c.self.invariant.0 in
    omega arith

pub returns-clause-steps : goal.returns-clause-steps
returns-clause-steps c =
    let held : HeldParagraphs = c.self.inside.paragraphs.now in
    let entry : ℕ × HeldParagraph = (c.in_ok-id.id, c.in_ok-id.paragraph.now) in
    let there = walk-at c.self.inside.paragraphs.now c.self.inside.at c.at.result c.at.ensures c.in_ok-id.id c.in_ok-id.paragraph c.in_ok-id.was in
    let print : entry.1.print ≡ print_of (paragraph_held entry) =
    All-contains (λ (e : ℕ × HeldParagraph). e.1.print ≡ print_of (paragraph_held e)) held entry c.self.invariant.1 (Contains-there held c.self.inside.at entry there) in (
      paragraph_held entry,
      sym c.self.view_is ∙ ap (map paragraph_held) (drop-there held c.self.inside.at entry there).0,
      record {
        id = refl;
        table = c.as_str.ensures;
        style = refl;
        begins_volume = refl;
        struck = refl;
        length_is = ap length (c.as_slice.ensures ∙ print);
      },
    )

pub returns-clause-goes : goal.returns-clause-goes
returns-clause-goes c =
    let held : HeldParagraphs = c.self.inside.paragraphs.now in
    let entry : ℕ × HeldParagraph = (c.in_ok-id.id, c.in_ok-id.paragraph.now) in
    let left : c.args.self.now ≡ paragraph_held entry ∷ paragraphs_from (c.self.inside.at + 1) held =
    sym c.self.view_is ∙ ap (map paragraph_held) (walk-there c.self.inside.paragraphs.now c.self.inside.at c.at.result c.at.ensures c.in_ok-id.id c.in_ok-id.paragraph c.in_ok-id.was).0 in
    rw left (search rules)
