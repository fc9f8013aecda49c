use Rattle.std.proofs.Common.{◌≡◌, ◌+◌, pos, w64, to_z, of_z, ◌+ℤ◌, inr, sym, ap, subst, ◌∙◌, refl, arith, Option, length, ◌++◌, ◌∷◌, [], IfNone, IfSome, is_ok}
use Rattle.std.proofs.lemmas.Bool.{cond-true}
use Rattle.std.proofs.lemmas.Int.{ints, to_z-of_z}
use Rattle.desk_rebuild.specs.declared.history.Next.{Next}
use Rattle.desk_parts.specs.declared.rows.NamedCorrRow.TheInside.{Inside}
use Rattle.desk_rebuild.specs.declared.damage.RowsFault.TheVariants.{Damaged}
use Rattle.desk_memory.specs.Histories.{entries_held}
use Rattle.desk_rebuild.specs.History.{IsFit, IsNext}
use Rattle.desk_parts.specs.Rows.{NamedCorr}
use Rattle.desk_rebuild.proofs.ReadRows.{as-many, long-next, read-next, sound-next, unfit-next}
use Rattle.desk_rebuild.proofs.history.Reading.read.Goals as goal
use Rattle.desk_rebuild.proofs.history.Reading.read.Goals.{then-count-ge-MOST_ENTRIES-via-then-count-ge-MOST_ENTRIES, then-count-ge-MOST_ENTRIES-via-else-count-ge-MOST_ENTRIES+then-row-count}

pub returns-then-count-ge-MOST_ENTRIES-clause-damaged : goal.returns-then-count-ge-MOST_ENTRIES-clause-damaged
returns-then-count-ge-MOST_ENTRIES-clause-damaged c original rows is =
    let same = as-many original rows c.args.self.now is c.args.row in
    let long = c.len-count.ensures ∙ c.args.self.now.entries.ok.0 in
    inr (
      ap Damaged (to_z-of_z w64 c.args.id c.ranges.id),
      λ sound.
          elim c.then-count-ge-MOST_ENTRIES.branch [
            | then-count-ge-MOST_ENTRIES-via-then-count-ge-MOST_ENTRIES w ↦ let past = w.if-count-ge-MOST_ENTRIES.true in let room = sound.room in omega (arith, past, room, same, long)
            | then-count-ge-MOST_ENTRIES-via-else-count-ge-MOST_ENTRIES+then-row-count w ↦
                let few = w.if-count-ge-MOST_ENTRIES.false in
                let view : c.row-inside.inside.0.0.seq ≡ c.args.row.entry.seq = ap (λ (x : Inside). x.entry.seq) c.row-inside.view_is ∙ ap (λ (r : NamedCorr). r.entry.seq) c.row.view_is in
                let next : pos (length rows + 1) ≡ to_z w64 c.len-count.result +ℤ pos 1 = omega (arith, ints, same, long, few) in
                w.if-row-count.true (ap (of_z w64) ((view ∙ sound.number) ∙ next))
          ],
    )

pub returns-in_default-clause-damaged : goal.returns-in_default-clause-damaged
returns-in_default-clause-damaged c original rows is =
    let none = subst (λ (o : Option Next). IfNone o (¬ IsFit original (entries_held c.args.self.now.entries.items) c.args.row)) c.in_default.is (c.in_ok-entry.ensures.unsound original is.left) in
    inr (ap Damaged (to_z-of_z w64 c.args.id c.ranges.id), unfit-next original rows c.args.self.now is c.args.row none)

pub returns-then-len-gt-MOST_PRINT-clause-damaged : goal.returns-then-len-gt-MOST_PRINT-clause-damaged
returns-then-len-gt-MOST_PRINT-clause-damaged c original rows is =
    let next = subst (λ (o : Option Next). IfSome o (IsNext original (entries_held c.args.self.now.entries.items) c.args.row)) c.in-Some.is (c.in_ok-entry.ensures.sound original is.left) in
    let many = c.len.ensures ∙ c.in-Some.field-0.print.ok.0 in
    inr (ap Damaged (to_z-of_z w64 c.args.id c.ranges.id), long-next original rows c.args.self.now is c.args.row c.in-Some.field-0 next (omega (arith, c.if-len-gt-MOST_PRINT.true, many)))

pub returns-clause-read : goal.returns-clause-read
returns-clause-read c original rows is =
    let next = subst (λ (o : Option Next). IfSome o (IsNext original (entries_held c.args.self.now.entries.items) c.args.row)) c.in-Some.is (c.in_ok-entry.ensures.sound original is.left) in
    let count = c.len-count.ensures ∙ c.args.self.now.entries.ok.0 in
    let many = c.len.ensures ∙ c.in-Some.field-0.print.ok.0 in
    let few = c.if-count-ge-MOST_ENTRIES.false in
    let view : c.row-inside.inside.0.0.seq ≡ c.args.row.entry.seq = ap (λ (x : Inside). x.entry.seq) c.row-inside.view_is ∙ ap (λ (r : NamedCorr). r.entry.seq) c.row.view_is in
    let read : c.row-inside.inside.0.0.seq ≡ pos (c.len-count.result + 1) = omega (arith, ints, c.if-row-count.false, few, c.row-inside.ranges) in
    let more : c.push.new.self.items ≡ c.args.self.now.entries.items ++ c.in-Some.field-0.entry ∷ [] =
    c.push.ensures.items ∙ cond-true (is_ok c.push.result) _ _ (sym c.map_err.ensures.variant ∙ ap is_ok c.in_ok-map_err.was) in (
      sound-next original rows c.args.self.now is c.args.row c.in-Some.field-0 next (sym view ∙ (read ∙ ap (λ n. pos (n + 1)) count)) (omega (arith, few, count)) (omega (arith, c.if-len-gt-MOST_PRINT.false, many)),
      read-next original rows c.args.self.now is c.args.row c.in-Some.field-0 next _ more refl,
    )
