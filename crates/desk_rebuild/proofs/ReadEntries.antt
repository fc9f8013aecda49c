-- What an entry that is read from its row does to the print that those before it leave.
use Rattle.std.proofs.Common.{◌↔◌, IsTrue, Bool, Ordering, Equal, is_eq, ◌≡◌, ℕ, ◌+◌, ◌-◌, ◌≤◌, ℤ, pos, ◌+ℤ◌, ◌≤ℤ◌, nat_abs, true, false, List, [], ◌∷◌, ◌++◌, length, take, drop, Option, Some, None, refl, sym, ap, ap₂, subst, ◌∙◌, arith, inl, inr, IfSome, nat_eq, not, option_map, slice_range, position, is_some, chars}
use Rattle.std.specs.Ordering.{nat_cmp}
use Rattle.std.specs.Cmp.Lexicographic.{nat_list_cmp_total, pointwise, slice_cmp}
use Rattle.std.proofs.lemmas.Bool.{both_ways, cases_Bool}
use Rattle.std.proofs.lemmas.List.{length-map}
use Rattle.desk_memory.specs.declared.history.Correction.{Correction}
use Rattle.desk_memory.specs.declared.history.HeldEntry.{HeldEntry}
use Rattle.desk_memory.specs.declared.history.HeldEntry.TheVariants.{Corrects as HeldCorrects, Undoes as HeldUndoes}
use Rattle.desk_rebuild.specs.declared.history.Next.{Next}
use Rattle.desk_rebuild.specs.declared.history.Reading.{Reading}
use Rattle.desk_model.specs.Book.{Corrects, Entry, Replacement, Undoes}
use Rattle.desk_memory.specs.Histories.{IsCorrection, replaced_by}
use Rattle.desk_model.specs.Damage.{IsSoundUndo, entry_of}
use Rattle.desk_memory.specs.Histories.{IsNewestInForce, LeavePrint, TookFrom, entries_held, entry_held}
use Rattle.desk_rebuild.specs.History.{AreSoundRows, IsCorrecting, IsNext, IsRead}
use Rattle.desk_model.specs.Limits.{most_entries}
use Rattle.desk_model.specs.ValidNames.{IsProofreaderName}
use Rattle.desk_model.specs.Print.{corrected_print}
use Rattle.desk_parts.specs.Rows.{NamedCorr}
use Rattle.desk_model.specs.Sound.{AreSoundEntries, IsSoundEntry}
use Rattle.desk_model.specs.BookTexts.{IsUnbarred, is_barred}
use Rattle.desk_memory.proofs.Callers.{TookFrom-correction, entry-correction, undone-print}
use Rattle.desk_model.proofs.Books.HistoryLists.{corrected_print-corrects}
use Rattle.desk_model.proofs.Lists.RowNumbers.{pos_le}
use Rattle.desk_model.proofs.Rows.RowParts.{entry-corrects, entry-undoes}
use Rattle.desk_model.proofs.Lists.Stable.{le_from, natural}
use Rattle.desk_model.proofs.Lists.TableEntries.{Decides-name, same_name}
use Rattle.desk_model.proofs.Commands.TextTests.{IsFirstBarred-position, IsUnbarred-position}
use Rattle.std.specs.Cmp.{tied_itself}
use Rattle.desk_model.proofs.Damage.UndamagedRows.{short-list}

-- ---- an undo

pub IsNext-undo : (original : List ℕ) (entries : List HeldEntry) (print : List ℕ) → LeavePrint original entries print → (number : ℕ) (c : Correction) → IsNewestInForce entries number c
    → (row : NamedCorr) (next : Next) → IsSoundUndo (entries_held entries) row → row.entry.start ≡ pos number → next.entry ≡ HeldUndoes number
    → next.print.items ≡ replaced_by c.start (length c.text) c.taken print → IsNext original (entries_held entries) row next
IsNext-undo original entries print left number c force row next undo start entry_is print_is =
    let h = entries_held entries in
    let entry : Undoes number ≡ entry_of row = sym (entry-undoes row undo.kind ∙ ap (λ z. Undoes (nat_abs z)) start) in
    record {
      fits = inr undo;
      sound = subst (IsSoundEntry original h) entry (ap (option_map (λ (correction : ℕ × Replacement). correction.0)) force.newest_is);
      entry = ap entry_held entry_is ∙ entry;
      taken = subst (TookFrom (corrected_print original h)) (sym entry_is) tt;
      print = print_is ∙ (undone-print original entries print left number c force ∙ ap (λ (e : Entry). corrected_print original (h ++ e ∷ [])) entry);
    }

-- ---- a correction

pub IsCorrecting-made : (print : List ℕ) (row : NamedCorr) (start count : ℕ) (c : Correction) (next : Next) → row.entry.kind ≡ pos 0 → row.entry.start ≡ pos start → row.entry.len ≡ pos count → start + count ≤ length print
    → IsUnbarred (chars row.entry.body) → IsProofreaderName (chars row.who) → IsCorrection print start count (chars row.entry.body) (chars row.who) c → next.entry ≡ HeldCorrects c
    → next.print.items ≡ replaced_by start count (chars row.entry.body) print → IsCorrecting print row next
IsCorrecting-made print row start count c next kind starts counts span text who made entry_is print_is =
    let first : nat_abs row.entry.start ≡ start = ap nat_abs starts in
    let many : nat_abs row.entry.len ≡ count = ap nat_abs counts in
    let sum : row.entry.start +ℤ row.entry.len ≡ pos (start + count) = ap₂ (λ (a b : ℤ). a +ℤ b) starts counts in
    record {
      sound = record {
        kind = kind;
        start = subst (λ z. pos 0 ≤ℤ z) (sym starts) (pos_le 0 start (omega arith));
        len = subst (λ z. pos 0 ≤ℤ z) (sym counts) (pos_le 0 count (omega arith));
        span = subst (λ z. z ≤ℤ pos (length print)) (sym sum) (pos_le (start + count) (length print) span);
        text = text;
        who = who;
      };
      entry = ap entry_held entry_is
          ∙ (entry-correction print start count (chars row.entry.body) (chars row.who) c made span
          ∙ ((λ i. Corrects (record { start = sym first i; count = sym many i; text = chars row.entry.body }) (chars row.who)) ∙ sym (entry-corrects row kind)));
      taken = subst (TookFrom print) (sym entry_is) (TookFrom-correction print start count (chars row.entry.body) (chars row.who) c made span);
      print_is = print_is ∙ (λ i. replaced_by (sym first i) (sym many i) (chars row.entry.body) print);
      characters = made.characters;
      who_characters = made.who_characters;
    }

pub IsNext-correcting : (original : List ℕ) (history : List Entry) (print : List ℕ) (row : NamedCorr) (next : Next) → AreSoundEntries original history → print ≡ corrected_print original history → IsCorrecting print row next → IsNext original history row next
IsNext-correcting original history print row next sound is given =
    let c : IsCorrecting (corrected_print original history) row next = subst (λ (t : List ℕ). IsCorrecting t row next) is given in
    let s = c.sound in
    let replacement : Replacement = record { start = nat_abs row.entry.start; count = nat_abs row.entry.len; text = chars row.entry.body } in
    let entry : entry_of row ≡ Corrects replacement (chars row.who) = entry-corrects row s.kind in
    record {
      fits = inl s;
      sound = subst (IsSoundEntry original history) (sym entry) (
        le_from (nat_abs row.entry.start + nat_abs row.entry.len) (length (corrected_print original history))
            (subst (λ z. z ≤ℤ pos (length (corrected_print original history)))
            (ap₂ (λ (a b : ℤ). a +ℤ b) (natural row.entry.start s.start) (natural row.entry.len s.len)) s.span),
        record { characters = c.characters; unbarred = s.text },
        s.who,
        c.who_characters,
      );
      entry = c.entry;
      taken = c.taken;
      print = c.print_is ∙ (sym (corrected_print-corrects original history replacement (chars row.who) sound) ∙ ap (λ (e : Entry). corrected_print original (history ++ e ∷ [])) (sym entry));
    }

pub IfSome-correcting : (original : List ℕ) (history : List Entry) (print : List ℕ) (row : NamedCorr) → AreSoundEntries original history → print ≡ corrected_print original history → (o : Option Next)
    → IfSome o (IsCorrecting print row) → IfSome o (IsNext original history row)
IfSome-correcting original history print row sound is None given = tt
IfSome-correcting original history print row sound is (Some next) given = IsNext-correcting original history print row next sound is given

-- ---- barred characters

pub barred-some : (text : List ℕ) → is_some (position is_barred text) ≡ true → ¬ IsUnbarred text
barred-some text some unbarred = by (position is_barred text) refl some
  where
    by : (o : Option ℕ) → position is_barred text ≡ o → is_some o ≡ true → ⊥
    by None is e = cc
    by (Some place) is e =
        let first = IsFirstBarred-position text place is in
        let barred = first.barred in
        let un = unbarred place 0 first.within in
        cc

pub unbarred-none : (text : List ℕ) → is_some (position is_barred text) ≡ false → IsUnbarred text
unbarred-none text none = by (position is_barred text) refl none
  where
    by : (o : Option ℕ) → position is_barred text ≡ o → is_some o ≡ false → IsUnbarred text
    by None is e = IsUnbarred-position text is
    by (Some place) is e = absurd (cc)

-- ---- a piece of a print

pub piece : (print : List ℕ) (start count : ℕ) → slice_range print start (start + count) ≡ take count (drop start print)
piece print start count = let same : start + count - start ≡ count = omega arith in ap (λ (n : ℕ). take n (drop start print)) same

-- ---- a text and a print

pub same-text : (text print : List ℕ) (o : Ordering) (b : Bool) → o ≡ slice_cmp nat_cmp text print → b ≡ is_eq o → IsTrue b ↔ (text ≡ print)
same-text text print o b compared tested = (to o compared tested, from)
  where
    to : (o : Ordering) → o ≡ slice_cmp nat_cmp text print → b ≡ is_eq o → IsTrue b → text ≡ print
    to Equal is test so = same_name text print (sym is)
    to o is test so = absurd (both_ways b test so)

    from : text ≡ print → IsTrue b
    from same = tested ∙ ap is_eq (compared ∙ (ap (slice_cmp nat_cmp text) (sym same) ∙ tied_itself nat_list_cmp_total text))

pub same-print : (one other : List ℕ) (differs : Bool) → differs ≡ not (pointwise nat_eq one other) → (differs ≡ false → one ≡ other) × (differs ≡ true → ¬ (one ≡ other))
same-print one other differs is =
    elim (cases_Bool (pointwise nat_eq one other)) [
      | inl same ↦ (λ no. (Decides-name one other).0 same, λ so. absurd (both_ways differs (is ∙ ap not same) so))
      | inr apart ↦ (λ no. absurd (both_ways differs no (is ∙ ap not apart)), λ so equal. both_ways (pointwise nat_eq one other) apart ((Decides-name one other).1 equal))
    ]

-- ---- a whole history

-- it has no more entries than a history may have
pub few-read : (original : List ℕ) (rows : List NamedCorr) (reading : Reading) → AreSoundRows original rows → IsRead original rows reading
    → length reading.entries.items ≤ most_entries
few-read original rows reading sound read =
    subst (λ n. n ≤ most_entries) (sym (sym (length-map reading.entries.items entry_held) ∙ (ap length read.entries ∙ length-map rows entry_of)))
    (short-list rows most_entries (λ i row at. (sound i row at).room))
