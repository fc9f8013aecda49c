use Rattle.std.proofs.Common.{◌≡◌, ℕ, ℤ, pos, nat_abs, Bool, List, length, SFits, to_z, of_z, w64, refl, subst, sym, ap, ◌∙◌, arith, rules, MatchOption, string_bytes, chars}
use Rattle.std.proofs.lemmas.Int.{to_z-of_z}
use Rattle.std.proofs.lemmas.Str.{IsUtf8-string_bytes}
use Rattle.desk_model.specs.Damage.{IsFlag}
use Rattle.desk_rebuild.specs.Marks.{HasId, IsHeldOf, IsMarkOn, IsNoteText, IsSpan}
use Rattle.desk_parts.specs.declared.file_table.FileTable.TheVariants as tables
use Rattle.desk_parts.specs.FileRows.{HasUtf8Texts}
use Rattle.desk_parts.specs.Rows.{Mark}
use Rattle.desk_model.specs.Shows.{flag_number}
use Rattle.desk_model.proofs.Damage.SoundRows.{IsFlag-flag}
use Rattle.desk_rebuild.proofs.marks.mark_of.Goals as goal

pub returns-in_err-paragraph : goal.returns-in_err-paragraph
returns-in_err-paragraph c =
    let fits : SFits w64 c.row.inside.para = search rules in
    let para : to_z w64 (of_z w64 c.row.inside.para) ≡ c.args.row.para = to_z-of_z w64 c.row.inside.para fits ∙ ap (λ (r : Mark). r.para) c.row.view_is in
    subst (λ r. MatchOption r (¬ IsMarkOn c.args.items.now c.args.row) (λ mark. IsMarkOn c.args.items.now c.args.row × HasUtf8Texts tables.Mark c.args.row × IsHeldOf c.args.row mark)) (sym c.from_residual.ensures)
    (λ (s : IsMarkOn c.args.items.now c.args.row). c.in_err-paragraph.ensures s.held (subst (λ z. HasId c.args.items.now z s.held) (sym para) s.named))

-- a number of a row is a flag's where the flag was read from it
is-flag : (flag : Bool) (z : ℤ) → SFits w64 z → flag_number flag ≡ to_z w64 (of_z w64 z) → IsFlag z
is-flag flag z fits is = IsFlag-flag flag z (is ∙ to_z-of_z w64 z fits)

pub returns : goal.returns
returns c =
    let fits_para : SFits w64 c.row.inside.para = search rules in
    let fits_start : SFits w64 c.row.inside.start = search rules in
    let fits_stop : SFits w64 c.row.inside.stop = search rules in
    let para = to_z-of_z w64 c.row.inside.para fits_para in
    let start = to_z-of_z w64 c.row.inside.start fits_start in
    let held = c.in_ok-paragraph.paragraph.now in
    let found : HasId c.args.items.now c.row.inside.para held = subst (λ z. HasId c.args.items.now z held) para c.in_ok-paragraph.ensures in
    let given : IsSpan (length c.as_slice.result.now) (to_z w64 (of_z w64 c.row.inside.start)) (to_z w64 (of_z w64 c.row.inside.stop))
    × (pos c.in_ok-start.start ≡ to_z w64 (of_z w64 c.row.inside.start)) × (pos c.in_ok-start.end ≡ to_z w64 (of_z w64 c.row.inside.stop)) = c.in_ok-start.ensures in
    let span : IsSpan (length c.as_slice.result.now) c.row.inside.start c.row.inside.stop =
    subst (λ z. IsSpan (length c.as_slice.result.now) c.row.inside.start z) (to_z-of_z w64 c.row.inside.stop fits_stop)
    (subst (λ z. IsSpan (length c.as_slice.result.now) z (to_z w64 (of_z w64 c.row.inside.stop))) start given.0) in
    let text : IsNoteText (chars (string_bytes c.row.inside.note)) = search rules in
    let own : pos (nat_abs (to_z w64 (of_z w64 c.row.inside.para))) ≡ c.row.inside.para = ap (λ z. pos (nat_abs z)) para ∙ subst (λ z. pos (nat_abs z) ≡ z) (sym found.is) refl in
    let note = c.from_string.ensures.text in
    rw (← c.row.view_is) (
      record {
        held = held;
        named = found;
        span = subst (λ (print : List ℕ). IsSpan (length print) c.row.inside.start c.row.inside.stop) c.as_slice.ensures span;
        note = text;
        flags = search (is-flag, rules);
      },
      IsUtf8-string_bytes c.row.inside.note,
      grind (arith, to_z-of_z),
    )
