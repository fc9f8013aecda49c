-- The parts of a book that sound rows stand for have these rows, and are sound.
use Rattle.std.proofs.Common.{◌≡◌, ◌⊎◌, ℕ, zero, suc, ◌+◌, ◌≤◌, ℤ, pos, negsuc, ◌+ℤ◌, ◌≤ℤ◌, nat_abs, List, [], ◌∷◌, map, length, take, Some, refl, sym, ap, ap₂, subst, ◌∙◌, arith, inl, inr, int_eq, IsUtf8, slice_get, chars}
use Rattle.std.specs.List.{All, enumerate_from, take-map}
use Rattle.std.proofs.lemmas.Bool.{cond-false, cond-true}
use Rattle.std.proofs.lemmas.List.{length-map}
use Rattle.std.proofs.lemmas.List.Elements.{All-contains}
use Rattle.std.proofs.lemmas.Str.{chars-nil, scalars-chars}
use Rattle.desk_model.specs.Book.{Entry, Corrects, Undoes, Mark}
use Rattle.desk_model.specs.Damage.{IsFlag, IsSoundCorrection, IsSoundEntryRow, IsSoundMarkRow, IsSoundUndo, entry_of, history_of}
use Rattle.desk_parts.specs.declared.file_table.FileTable.TheVariants as tables
use Rattle.desk_parts.specs.FileRows.{HasUtf8Texts, spelled}
use Rattle.desk_model.specs.Limits.{most_entries, most_print}
use Rattle.desk_model.specs.Print.{corrected_print}
use Rattle.desk_parts.specs.Rows.{Mark as MarkRow, NamedCorr, Para}
use Rattle.desk_model.specs.Shows.{entry_row_of, flag_number, mark_row_of, style_number}
use Rattle.desk_model.specs.Sound.{IsSoundEntry, IsSoundHistory}
use Rattle.desk_model.specs.BookTexts.{AreCharacters}
use Rattle.desk_model.proofs.Lists.CharacterLists.{AreCharacters-scalars}
use Rattle.desk_model.proofs.Lists.Items.{Contains-there, slice_get-there}
use Rattle.desk_model.proofs.Rows.OneBook.{number, to_flag, to_style}
use Rattle.desk_model.proofs.Lists.Stable.{le_from, natural, not_below}
use Rattle.desk_model.proofs.Damage.UndamagedRows.{short-list}

-- ---- numbers and texts

pub number-back : (z : ℤ) → pos 0 ≤ℤ z → pos (number z) ≡ z
number-back (pos n) h = refl
number-back (negsuc n) h = absurd (not_below 0 n h)

pub flag-back : (z : ℤ) → IsFlag z → flag_number (to_flag z) ≡ z
flag-back z (inl is) = subst (λ y. flag_number (to_flag y) ≡ y) (sym is) refl
flag-back z (inr is) = subst (λ y. flag_number (to_flag y) ≡ y) (sym is) refl

pub style-back : (z : ℤ) → IsFlag z → style_number (to_style z) ≡ z
style-back z (inl is) = subst (λ y. style_number (to_style y) ≡ y) (sym is) refl
style-back z (inr is) = subst (λ y. style_number (to_style y) ≡ y) (sym is) refl

pub characters-of : (bytes : List ℕ) → IsUtf8 bytes → AreCharacters (chars bytes)
characters-of bytes utf8 = AreCharacters-scalars (chars bytes) (scalars-chars bytes utf8)

-- ---- a mark

abbrev pub mark_of_row : MarkRow → Mark
mark_of_row m = record {
  id = number m.id;
  paragraph = number m.para;
  start = number m.start;
  end = number m.stop;
  note = chars m.note;
  touched = to_flag m.touched;
  resolved = to_flag m.resolved;
}

-- the mark of a sound row has that row
pub mark-back : (paras : List Para) (marks : List MarkRow) (m : MarkRow) → pos 0 ≤ℤ m.id → pos 0 ≤ℤ m.para → pos 0 ≤ℤ m.stop
    → IsSoundMarkRow paras marks m → mark_row_of (mark_of_row m) ≡ spelled tables.Mark m
mark-back paras marks m id para stop sound = λ i. record {
  id = number-back m.id id i;
  para = number-back m.para para i;
  start = number-back m.start sound.span.start i;
  stop = number-back m.stop stop i;
  note = chars m.note;
  touched = flag-back m.touched sound.touched i;
  resolved = flag-back m.resolved sound.resolved i;
}

-- ---- an entry

module _ (row : NamedCorr) where
  abbrev correction : Entry
  correction = Corrects (record { start = nat_abs row.entry.start; count = nat_abs row.entry.len; text = chars row.entry.body }) (chars row.who)

  abbrev undoing : Entry
  undoing = Undoes (nat_abs row.entry.start)

  pub entry-corrects : row.entry.kind ≡ pos 0 → entry_of row ≡ correction
  entry-corrects is = cond-false (int_eq row.entry.kind (pos 1)) undoing correction (ap (λ z. int_eq z (pos 1)) is)

  pub entry-undoes : row.entry.kind ≡ pos 1 → entry_of row ≡ undoing
  entry-undoes is = cond-true (int_eq row.entry.kind (pos 1)) undoing correction (ap (λ z. int_eq z (pos 1)) is)

  -- the entry of a sound row has that row
  pub entry-row : (id n : ℕ) (print : List ℕ) (before : List Entry) → row.entry.para ≡ pos id → row.entry.seq ≡ pos n
      → IsSoundCorrection print row ⊎ IsSoundUndo before row → entry_row_of id (n, entry_of row) ≡ spelled tables.NamedCorr row
  entry-row id n print before para seq (inl c) =
      ap (λ entry. entry_row_of id (n, entry)) (entry-corrects c.kind)
      ∙ (λ i. record {
        entry = record {
          para = sym para i;
          seq = sym seq i;
          kind = sym c.kind i;
          start = sym (natural row.entry.start c.start) i;
          len = sym (natural row.entry.len c.len) i;
          body = chars row.entry.body;
        };
        who = chars row.who;
      })
  entry-row id n print before para seq (inr u) =
      let start : pos (nat_abs row.entry.start) ≡ row.entry.start = subst (λ z. pos (nat_abs z) ≡ z) (sym u.start) refl in
      let body : [] ≡ chars row.entry.body = sym (ap chars u.body ∙ chars-nil) in
      let who : [] ≡ chars row.who = sym (ap chars u.who ∙ chars-nil) in
      ap (λ entry. entry_row_of id (n, entry)) (entry-undoes u.kind)
      ∙ (λ i. record {
        entry = record { para = sym para i; seq = sym seq i; kind = sym u.kind i; start = start i; len = sym u.len i; body = body i };
        who = who i;
      })

  sound-entry : (original : List ℕ) (before : List Entry) → HasUtf8Texts tables.NamedCorr row → IsSoundCorrection (corrected_print original before) row ⊎ IsSoundUndo before row
      → IsSoundEntry original before (entry_of row)
  sound-entry original before texts (inl c) =
      subst (IsSoundEntry original before) (sym (entry-corrects c.kind)) (
        le_from (nat_abs row.entry.start + nat_abs row.entry.len) (length (corrected_print original before))
            (subst (λ z. z ≤ℤ pos (length (corrected_print original before)))
            (ap₂ (λ (a b : ℤ). a +ℤ b) (natural row.entry.start c.start) (natural row.entry.len c.len)) c.span),
        record { characters = characters-of row.entry.body texts.0; unbarred = c.text },
        c.who,
        characters-of row.who texts.1,
      )
  sound-entry original before texts (inr u) =
      subst (IsSoundEntry original before) (sym (entry-undoes u.kind)) (u.newest_is ∙ ap Some (sym (ap nat_abs u.start)))

-- ---- a history

-- the rows of its entries
pub history-rows : (id n : ℕ) (rows : List NamedCorr) → ((i : ℕ) (row : NamedCorr) → slice_get rows i ≡ Some row → entry_row_of id (n + i, entry_of row) ≡ spelled tables.NamedCorr row)
    → map (entry_row_of id) (enumerate_from n (history_of rows)) ≡ map (spelled tables.NamedCorr) rows
history-rows id n [] each = refl
history-rows id n (row ∷ rows) each =
    let own : n ≡ n + 0 = omega arith in
    let first : entry_row_of id (n, entry_of row) ≡ spelled tables.NamedCorr row = ap (λ k. entry_row_of id (k, entry_of row)) own ∙ each 0 row refl in
    let rest = history-rows id (n + 1) rows (λ i other at.
    let next : n + 1 + i ≡ n + suc i = omega arith in
    ap (λ k. entry_row_of id (k, entry_of other)) next ∙ each (suc i) other at) in
    λ i. first i ∷ rest i

-- what stands at a place of what a map gives
at-map : {X Y : Type 0} (f : X → Y) (xs : List X) (i : ℕ) (y : Y) → slice_get (map f xs) i ≡ Some y → (x : X) × (slice_get xs i ≡ Some x) × (f x ≡ y)
at-map f [] i y at = absurd (cc)
at-map f (x ∷ xs) zero y at = (x, refl, cc)
at-map f (x ∷ xs) (suc i) y at = at-map f xs i y at

module _ (original : List ℕ) (sorted : List NamedCorr) (small : length original ≤ most_print) (texts : All (HasUtf8Texts tables.NamedCorr) sorted)
    (each : (i : ℕ) (row : NamedCorr) → slice_get sorted i ≡ Some row → IsSoundEntryRow original sorted i row) where
  short-so_far : (i : ℕ) → i ≤ length sorted → length (corrected_print original (take i (history_of sorted))) ≤ most_print
  short-so_far zero within = small
  short-so_far (suc i) within =
      let row = slice_get-there sorted i (omega (arith, within)) in
      let next : i + 1 ≡ suc i = omega arith in
      subst (λ history. length (corrected_print original history) ≤ most_print) (sym (take-map entry_of (suc i) sorted))
      (subst (λ k. length (corrected_print original (history_of (take k sorted))) ≤ most_print) next (each i row.0 row.1).short)

  pub sound-history : IsSoundHistory original (history_of sorted)
  sound-history =
      let long = length-map sorted entry_of in
      let few = short-list sorted most_entries (λ i row at. (each i row at).room) in
      record {
        few = omega (arith, long, few);
        entries = λ i entry at.
            let row = at-map entry_of sorted i entry at in
            subst (IsSoundEntry original (take i (history_of sorted))) row.2
            (subst (λ before. IsSoundEntry original before (entry_of row.0)) (sym (take-map entry_of i sorted))
            (sound-entry row.0 original (history_of (take i sorted)) (All-contains (HasUtf8Texts tables.NamedCorr) sorted row.0 texts (Contains-there sorted i row.0 row.1)) (each i row.0 row.1).fits));
        short = λ i within. short-so_far i (omega (arith, long, within));
      }
