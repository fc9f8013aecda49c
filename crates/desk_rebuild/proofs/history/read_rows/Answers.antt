use Rattle.std.proofs.Common.{◌≡◌, ℕ, List, ◌+◌, ◌++◌, ◌∷◌, [], Some, length, take, inl, inr, refl, sym, ap, subst, ◌∙◌, rules, w64, slice_get, chars}
use Rattle.std.proofs.lemmas.Int.{to_z-of_z}
use Rattle.std.proofs.lemmas.Iterator.Adapters.{YieldsList-from_vec}
use Rattle.std.proofs.lemmas.Iterator.Consumers.{YieldsList-end, YieldsList-turn}
use Rattle.std.proofs.lemmas.List.{length_push, map-id}
use Rattle.std.proofs.lemmas.Option.{slice_get_read}
use Rattle.std.proofs.lemmas.Result.{err_from_is_err_and}
use Rattle.std.proofs.lemmas.Str.{chars_from_encodes}
use Rattle.desk_rebuild.specs.declared.damage.RowsFault.TheVariants.{Damaged}
use Rattle.desk_rebuild.specs.History.{IsRead, IsSoundNext}
use Rattle.desk_parts.specs.Rows.{NamedCorr}
use Rattle.desk_rebuild.proofs.ReadRows.{AreSoundTo, nothing-read, sound-all, sound-more, sound-none, unsound-at}
use Rattle.desk_rebuild.proofs.history.read_rows.Goals as goal
use Rattle.desk_rebuild.proofs.history.read_rows.Goals.{In-Some}
use Rattle.desk_model.proofs.Lists.Items.{take-more}

-- the row that a step has is the next of the rows
row_at : (c : In-Some) → slice_get c.args.rows.items (length c.loop-row.yielded) ≡ Some c.in-Some.row
row_at c =
    let rows = c.args.rows.items in
    let given = c.into_iter-row-iterator.ensures.into_iter_gives in
    let step = YieldsList-turn (YieldsList-from_vec {s = c.into_iter-row-iterator.result} rows given.0 (given.1 ∙ c.args.rows.ok.0)) c.loop-row.yielded c.loop-row.row-iterator c.loop-row.yielded_by c.next.result c.next.new.self c.in-Some.row c.in-Some.is c.next.ensures.steps in
    slice_get_read rows (length rows) (length c.loop-row.yielded) c.in-Some.row refl step.0 step.1

pub read-requires : goal.read-requires
read-requires c = (chars c.args.original.now, c.loop-row.yielded, c.loop-row.invariant.0)

pub loop-row-init : goal.loop-row-init
loop-row-init c =
    let decoded : c.in_ok-collect.field-0.items ≡ chars c.args.original.now = search (rules, chars_from_encodes) in
    (nothing-read (chars c.args.original.now) _ c.new.ensures.items decoded, refl, sound-none (chars c.args.original.now) c.args.rows.items)

pub loop-row-preserved : goal.loop-row-preserved
loop-row-preserved c =
    let rows = c.args.rows.items in
    let original = chars c.args.original.now in
    let at = row_at (goal.at.loop-row-preserved c).In-Some in
    let read = c.in_ok-read.ensures.read original c.loop-row.yielded c.loop-row.invariant.0 in
    let many : length (c.loop-row.yielded ++ c.in-Some.row ∷ []) ≡ length c.loop-row.yielded + 1 = length_push c.loop-row.yielded c.in-Some.row in
    let so_far = c.loop-row.invariant.1 in (
      read.1,
      ap (λ (xs : List NamedCorr). xs ++ c.in-Some.row ∷ []) so_far ∙ (sym (take-more rows (length c.loop-row.yielded) c.in-Some.row at) ∙ ap (λ (n : ℕ). take n rows) (sym many)),
      subst (AreSoundTo original rows) (sym many)
          (sound-more original rows (length c.loop-row.yielded) c.in-Some.row at (subst (λ (xs : List NamedCorr). IsSoundNext original xs c.in-Some.row) so_far read.0) c.loop-row.invariant.2),
    )

pub returns-in_err-read-clause-damaged : goal.returns-in_err-read-clause-damaged
returns-in_err-read-clause-damaged c =
    let rows = c.args.rows.items in
    let original = chars c.args.original.now in
    let at = row_at (goal.at.returns-in_err-read-clause-damaged c).In-Some in
    let reported = c.in_err-read.ensures.damaged original c.loop-row.yielded c.loop-row.invariant.0 in
    let p = err_from_is_err_and c.from_residual-in_err-read.result c.from_residual-in_err-read.ensures.1 in
    let so_far = c.loop-row.invariant.1 in
    let unsound = λ (u : ¬ IsSoundNext original c.loop-row.yielded c.in-Some.row). unsound-at original rows (length c.loop-row.yielded) c.in-Some.row at (subst (λ (xs : List NamedCorr). ¬ IsSoundNext original xs c.in-Some.row) so_far u) in
    rw p.1 (elim reported [ inl refused ↦ inl (p.2 ∙ refused) | inr damaged ↦ inr (p.2 ∙ (damaged.0 ∙ ap Damaged (to_z-of_z w64 c.args.id c.ranges.id)), unsound damaged.1) ])

pub returns-clause-read : goal.returns-clause-read
returns-clause-read c =
    let rows = c.args.rows.items in
    let original = chars c.args.original.now in
    let given = c.into_iter-row-iterator.ensures.into_iter_gives in
    let end = YieldsList-end (YieldsList-from_vec {s = c.into_iter-row-iterator.result} rows given.0 (given.1 ∙ c.args.rows.ok.0)) c.loop-row.yielded c.loop-row.row-iterator c.loop-row.yielded_by c.next.result c.next.new.self c.in-None.is c.next.ensures.steps in
    let whole : c.loop-row.yielded ≡ rows = sym (map-id c.loop-row.yielded) ∙ end.0 in
    (sound-all original rows (subst (AreSoundTo original rows) end.1 c.loop-row.invariant.2), subst (λ (xs : List NamedCorr). IsRead original xs c.loop-row.reading) whole c.loop-row.invariant.0)
