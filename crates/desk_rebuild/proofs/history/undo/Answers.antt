use Rattle.std.proofs.Common.{◌≡◌, pos, refl, sym, ap, ◌∙◌, rules, ℕ, [], string_bytes, eqb-true, option_map}
use Rattle.std.proofs.lemmas.List.{nil_from_length}
use Rattle.desk_model.specs.Book.{Replacement}
use Rattle.desk_model.specs.Damage.{IsSoundUndo}
use Rattle.desk_memory.specs.Histories.{entries_held}
use Rattle.desk_parts.specs.Rows.{Corr, NamedCorr}
use Rattle.desk_rebuild.proofs.ReadEntries.{IsNext-undo}
use Rattle.desk_memory.proofs.Callers.{text-span}
use Rattle.desk_rebuild.proofs.history.undo.Goals as goal

pub undone-requires : goal.undone-requires
undone-requires c =
    let left = c.requires.left in
    text-span left.0 c.args.history.now c.args.print.now left.1 c.in-Some.number c.in-Some.correction.now c.in-Some.ensures.found

pub returns-clause-sound : goal.returns-clause-sound
returns-clause-sound c original left =
    let correction = c.in-Some.correction.now in
    let start : c.args.row.now.entry.start ≡ pos c.in-Some.number = search rules in
    let no_body : string_bytes c.entry.inside.body ≡ [] =
    nil_from_length _ (sym c.entry.inside.body.bytes.ok.0 ∙ eqb-true _ 0 (sym c.is_empty.ensures ∙ c.if-not-is_empty.false)) in
    let no_who : string_bytes c.row.inside.who ≡ [] =
    nil_from_length _ (sym c.row.inside.who.bytes.ok.0 ∙ eqb-true _ 0 (sym c.is_empty-else-not-is_empty.ensures ∙ c.if-not-is_empty-2.false)) in
    let sound : IsSoundUndo (entries_held c.args.history.now) c.args.row.now =
    record {
      kind = c.requires.kind;
      number = c.in-Some.number;
      newest_is = ap (option_map (λ (correction : ℕ × Replacement). correction.0)) c.in-Some.ensures.found.newest_is;
      start = start;
      len = search rules;
      body = sym (ap (λ (e : Corr). e.body) c.entry.view_is ∙ ap (λ (r : NamedCorr). r.entry.body) c.row.view_is) ∙ no_body;
      who = sym (ap (λ (r : NamedCorr). r.who) c.row.view_is) ∙ no_who;
    } in
    IsNext-undo original c.args.history.now c.args.print.now left c.in-Some.number correction c.in-Some.ensures.found c.args.row.now _ sound start refl c.in_ok-print.ensures
