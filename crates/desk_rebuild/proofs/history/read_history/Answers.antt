use Rattle.std.proofs.Common.{◌≡◌, ℕ, List, arith, length, w64, inl, inr, sym, ap, subst, ◌∙◌, rules, chars}
use Rattle.std.proofs.lemmas.Bool.{eqb-true, both_ways}
use Rattle.std.proofs.lemmas.Int.{to_z-of_z}
use Rattle.std.proofs.lemmas.List.{nil_from_length}
use Rattle.std.proofs.lemmas.List.Sorted.{answers_always, length_permutation}
use Rattle.std.proofs.lemmas.Result.{err_from_is_err_and}
use Rattle.desk_rebuild.specs.declared.damage.RowsFault.TheVariants.{Damaged}
use Rattle.desk_model.specs.Damage.{history_of}
use Rattle.desk_memory.specs.Histories.{HaveTaken, entries_held}
use Rattle.desk_rebuild.specs.History.{AreSoundRows, CanBeRead}
use Rattle.desk_model.specs.Print.{corrected_print}
use Rattle.desk_parts.specs.Rows.{NamedCorr}
use Rattle.desk_rebuild.proofs.ReadEntries.{few-read, same-print}
use Rattle.desk_rebuild.proofs.RowOrder.{AreRising-sorted, print-as_sorted, sound-as_sorted}
use Rattle.desk_rebuild.proofs.history.read_history.Goals as goal

pub returns-then-not-is_print-clause-damaged : goal.returns-then-not-is_print-clause-damaged
returns-then-not-is_print-clause-damaged c =
    let none = nil_from_length c.args.rows.items (sym c.args.rows.ok.0 ∙ eqb-true _ 0 (sym c.is_empty.ensures ∙ c.if-is_empty.true)) in
    inr (
      ap Damaged (to_z-of_z w64 c.args.id c.ranges.id),
      λ (h : CanBeRead c.args.rows.items c.args.paragraph.now.original c.args.paragraph.now.print).
          let empty = nil_from_length h.sorted (length_permutation _ _ h.same ∙ ap length none) in
          let same = ap (λ (t : List NamedCorr). corrected_print c.args.paragraph.now.original (history_of t)) (sym empty) ∙ h.print_is in
          both_ways c.is_print.result c.if-not-is_print.true (c.is_print.ensures.1 (c.as_str.ensures ∙ (same ∙ sym c.as_slice.ensures))),
    )

pub returns-in_err-reading-clause-damaged : goal.returns-in_err-reading-clause-damaged
returns-in_err-reading-clause-damaged c =
    let p = err_from_is_err_and c.from_residual-in_err-reading.result c.from_residual-in_err-reading.ensures.1 in
    let rising = AreRising-sorted (λ (row : NamedCorr). row.entry.seq) c.sort_by_key.new.self.items (c.in_ok-sort_by_key.ensures.sorted (λ (row : NamedCorr). row.entry.seq) (answers_always _ _ _ (λ f a r q k. search (rules, to_z-of_z)))) in
    rw p.1 (elim c.in_err-reading.ensures.damaged [
      | inl refused ↦ inl (p.2 ∙ refused)
      | inr damaged ↦ inr (
        p.2 ∙ (damaged.0 ∙ ap Damaged (to_z-of_z w64 c.args.id c.ranges.id)),
        λ (h : CanBeRead c.args.rows.items c.args.paragraph.now.original c.args.paragraph.now.print).
            damaged.1 (subst (λ (t : List ℕ). AreSoundRows t c.sort_by_key.new.self.items) (sym c.as_str-2.ensures)
            (sound-as_sorted c.args.rows.items c.sort_by_key.new.self.items c.in_ok-sort_by_key.ensures.permutation rising c.args.paragraph.now.original c.args.paragraph.now.print h)),
      )
    ])

pub returns-then-ne-clause-damaged : goal.returns-then-ne-clause-damaged
returns-then-ne-clause-damaged c =
    let read = c.in_ok-reading.ensures.read.1 in
    let rising = AreRising-sorted (λ (row : NamedCorr). row.entry.seq) c.sort_by_key.new.self.items (c.in_ok-sort_by_key.ensures.sorted (λ (row : NamedCorr). row.entry.seq) (answers_always _ _ _ (λ f a r q k. search (rules, to_z-of_z)))) in
    let made : c.in_ok-reading.reading.print.items ≡ corrected_print c.args.paragraph.now.original (history_of c.sort_by_key.new.self.items) =
    read.left.print_is ∙ (ap (corrected_print (chars c.as_str-2.result.now)) read.entries ∙ ap (λ (t : List ℕ). corrected_print t (history_of c.sort_by_key.new.self.items)) c.as_str-2.ensures) in
    inr (
      ap Damaged (to_z-of_z w64 c.args.id c.ranges.id),
      λ (h : CanBeRead c.args.rows.items c.args.paragraph.now.original c.args.paragraph.now.print).
          (same-print c.as_slice-2.result.now c.as_slice-3.result.now c.ne.result c.ne.ensures).1 c.if-ne.true
          (c.as_slice-2.ensures.value ∙ (made ∙ (print-as_sorted c.args.rows.items c.sort_by_key.new.self.items c.in_ok-sort_by_key.ensures.permutation rising c.args.paragraph.now.original c.args.paragraph.now.print h ∙ sym c.as_slice-3.ensures))),
    )

pub returns-clause-read : goal.returns-clause-read
returns-clause-read c =
    let read = c.in_ok-reading.ensures.read.1 in
    let sorted = c.sort_by_key.new.self.items in
    let made : c.in_ok-reading.reading.print.items ≡ corrected_print c.args.paragraph.now.original (history_of sorted) =
    read.left.print_is ∙ (ap (corrected_print (chars c.as_str-2.result.now)) read.entries ∙ ap (λ (t : List ℕ). corrected_print t (history_of sorted)) c.as_str-2.ensures) in
    let same = (same-print c.as_slice-2.result.now c.as_slice-3.result.now c.ne.result c.ne.ensures).0 c.if-ne.false in
    record {
      sorted = sorted;
      same = c.in_ok-sort_by_key.ensures.permutation;
      each = subst (λ (t : List ℕ). AreSoundRows t sorted) c.as_str-2.ensures c.in_ok-reading.ensures.read.0;
      history = ap entries_held c.in_ok-paragraph.ensures ∙ read.entries;
      taken = subst (λ (t : List ℕ). HaveTaken t c.in_ok-paragraph.field-0) c.as_str-2.ensures (subst (HaveTaken (chars c.as_str-2.result.now)) (sym c.in_ok-paragraph.ensures) read.left.taken);
      print = sym made ∙ (sym c.as_slice-2.ensures.value ∙ (same ∙ c.as_slice-3.ensures));
    }

pub from_vec-requires : goal.from_vec-requires
from_vec-requires c =
    let read = c.in_ok-reading.ensures.read in
    let few = few-read (chars c.as_str-2.result.now) c.sort_by_key.new.self.items c.in_ok-reading.reading read.0 read.1 in
    omega arith
