use Rattle.std.proofs.Common.{arith, ◌≡◌, pos, refl, sym, ap, subst, ◌∙◌, rules, position, is_some, chars}
use Rattle.std.proofs.lemmas.Bool.{both_ways}
use Rattle.std.proofs.lemmas.Int.{ints, to_z-of_z}
use Rattle.std.proofs.lemmas.Str.{chars_from_encodes}
use Rattle.desk_memory.specs.Histories.{IsCorrection, replaced_by}
use Rattle.desk_model.specs.ValidNames.{IsProofreaderName}
use Rattle.desk_parts.specs.Rows.{Corr, NamedCorr}
use Rattle.desk_model.specs.BookTexts.{AreCharacters, is_barred}
use Rattle.desk_rebuild.proofs.ReadEntries.{IsCorrecting-made, barred-some, piece, unbarred-none}
use Rattle.desk_rebuild.proofs.history.correction.Goals as goal
use Rattle.desk_rebuild.proofs.history.correction.Goals.{then-is_some-via-then-is_some, then-is_some-via-else-is_some+then-not-is_proofreader_name}

pub returns-then-is_some-clause-unsound : goal.returns-then-is_some-clause-unsound
returns-then-is_some-clause-unsound c sound =
    let body : chars c.as_str.result.now ≡ chars c.args.row.entry.body = ap chars (c.as_str.ensures.value ∙ (ap (λ (e : Corr). e.body) c.entry.view_is ∙ ap (λ (r : NamedCorr). r.entry.body) c.row.view_is)) in
    elim c.then-is_some.branch [
      | then-is_some-via-then-is_some w ↦ barred-some (chars c.args.row.entry.body) (sym (ap is_some (c.first_barred.ensures ∙ ap (position is_barred) body)) ∙ (sym c.is_some.ensures ∙ w.if-is_some.true)) sound.text
      | then-is_some-via-else-is_some+then-not-is_proofreader_name w ↦
          let who : chars w.as_str-else-is_some.result.now ≡ chars c.args.row.who = ap chars (w.as_str-else-is_some.ensures.value ∙ ap (λ (r : NamedCorr). r.who) c.row.view_is) in
          let is = w.is_proofreader_name.ensures.1 (subst IsProofreaderName (sym who) sound.who) in
          both_ways w.is_proofreader_name.result w.if-not-is_proofreader_name.true is
    ]

pub returns-clause-sound : goal.returns-clause-sound
returns-clause-sound c =
    let body_is = ap (λ (e : Corr). e.body) c.entry.view_is ∙ ap (λ (r : NamedCorr). r.entry.body) c.row.view_is in
    let body : chars c.as_str.result.now ≡ chars c.args.row.entry.body = ap chars (c.as_str.ensures.value ∙ body_is) in
    let who_is = ap (λ (r : NamedCorr). r.who) c.row.view_is in
    let who : chars c.as_str-else-is_some.result.now ≡ chars c.args.row.who = ap chars (c.as_str-else-is_some.ensures.value ∙ who_is) in
    let within = c.in-Some.ensures.within in
    let starts : c.entry.inside.start ≡ pos c.in-Some.start = grind (arith, ints, to_z-of_z) in
    let counts : c.entry.inside.len ≡ pos c.in-Some.count = grind (arith, ints, to_z-of_z) in
    let start : c.args.row.entry.start ≡ pos c.in-Some.start = sym (ap (λ (e : Corr). e.start) c.entry.view_is ∙ ap (λ (r : NamedCorr). r.entry.start) c.row.view_is) ∙ starts in
    let len : c.args.row.entry.len ≡ pos c.in-Some.count = sym (ap (λ (e : Corr). e.len) c.entry.view_is ∙ ap (λ (r : NamedCorr). r.entry.len) c.row.view_is) ∙ counts in
    let unbarred = unbarred-none (chars c.args.row.entry.body) (sym (ap is_some (c.first_barred.ensures ∙ ap (position is_barred) body)) ∙ (sym c.is_some.ensures ∙ c.if-is_some.false)) in
    let named : IsProofreaderName (chars c.args.row.who) = subst IsProofreaderName who (c.is_proofreader_name.ensures.0 c.if-not-is_proofreader_name.false) in
    let decoded : c.in_ok-text.text.items ≡ chars c.as_str-2.result.now = search (rules, chars_from_encodes) in
    let text : c.in_ok-text.text.items ≡ chars c.args.row.entry.body = decoded ∙ ap chars (c.as_str-2.ensures.value ∙ body_is) in
    let made : IsCorrection c.args.print.now c.in-Some.start c.in-Some.count (chars c.args.row.entry.body) (chars c.args.row.who) (record { start = c.in-Some.start; text = c.from_string.result; who = c.from_string-2.result; taken = c.from_vec.result }) =
    record {
      start_is = refl;
      text_is = c.from_string.ensures.text ∙ ap chars body_is;
      who_is = c.from_string-2.ensures.text ∙ ap chars who_is;
      taken_is = c.from_vec.ensures ∙ (c.in_ok-taken.ensures.items ∙ piece c.args.print.now c.in-Some.start c.in-Some.count);
      characters = subst AreCharacters (c.from_string.ensures.text ∙ ap chars body_is) c.from_string.ensures.characters;
      who_characters = subst AreCharacters (c.from_string-2.ensures.text ∙ ap chars who_is) c.from_string-2.ensures.characters;
    } in
    IsCorrecting-made c.args.print.now c.args.row c.in-Some.start c.in-Some.count _ _ c.requires start len within.2 unbarred named made refl
    (c.in_ok-print.ensures ∙ ap (λ t. replaced_by c.in-Some.start c.in-Some.count t c.args.print.now) (c.deref.ensures.value ∙ text))
