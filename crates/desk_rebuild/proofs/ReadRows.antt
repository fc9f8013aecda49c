-- The rows of one history, read in turn.
use Rattle.std.proofs.Common.{◌≡◌, ℕ, ◌+◌, ◌<◌, ◌≤◌, pos, List, [], ◌∷◌, ◌++◌, length, take, Some, sym, ap, subst, ◌∙◌, arith, inl, inr, slice_get}
use Rattle.std.proofs.lemmas.Bool.{cases_eq}
use Rattle.std.proofs.lemmas.List.{length-map, length-take-le, map-append}
use Rattle.std.proofs.lemmas.Option.{slice_get_within}
use Rattle.desk_memory.specs.declared.history.HeldEntry.{HeldEntry}
use Rattle.desk_rebuild.specs.declared.history.Next.{Next}
use Rattle.desk_rebuild.specs.declared.history.Reading.{Reading}
use Rattle.desk_model.specs.Book.{Entry}
use Rattle.desk_model.specs.Damage.{IsSoundEntryRow, entry_of, history_of}
use Rattle.desk_memory.specs.Histories.{HaveTaken, entries_held, entry_held}
use Rattle.desk_rebuild.specs.History.{AreSoundRows, IsFit, IsNext, IsRead, IsSoundNext}
use Rattle.desk_model.specs.Limits.{most_entries, most_print}
use Rattle.desk_model.specs.Print.{corrected_print}
use Rattle.desk_parts.specs.Rows.{NamedCorr}
use Rattle.desk_model.specs.Sound.{AreSoundEntries}
use Rattle.desk_memory.proofs.Callers.{HaveTaken-push}
use Rattle.desk_model.proofs.Books.SoundEntries.{AreSoundEntries-push}
use Rattle.desk_model.proofs.Lists.Items.{take-more}

-- ---- one row more

module _ (original : List ℕ) (rows : List NamedCorr) (reading : Reading) (is : IsRead original rows reading) (row : NamedCorr) where
  abbrev entries : List HeldEntry
  entries = reading.entries.items

  pub as-many : length reading.entries.items ≡ length rows
  as-many = sym (length-map entries entry_held) ∙ (ap length is.entries ∙ length-map rows entry_of)

  pub unfit-next : ¬ IsFit original (entries_held reading.entries.items) row → ¬ IsSoundNext original rows row
  unfit-next unfit sound = unfit (subst (λ (h : List Entry). IsFit original h row) (sym is.entries) sound.fits)

  module _ (next : Next) (follows : IsNext original (entries_held reading.entries.items) row next) where
    print_is : next.print.items ≡ corrected_print original (history_of (rows ++ row ∷ []))
    print_is = follows.print ∙ (ap (λ (h : List Entry). corrected_print original (h ++ entry_of row ∷ [])) is.entries ∙ ap (corrected_print original) (sym (map-append entry_of rows (row ∷ []))))

    pub long-next : most_print < length next.print.items → ¬ IsSoundNext original rows row
    long-next long sound = let short = sound.short in let same = ap length print_is in omega (arith, short, same, long)

    pub sound-next : row.entry.seq ≡ pos (length reading.entries.items + 1) → length reading.entries.items < most_entries → length next.print.items ≤ most_print → IsSoundNext original rows row
    sound-next number room short = record {
      number = number ∙ ap (λ (n : ℕ). pos (n + 1)) as-many;
      room = let same = as-many in omega (arith, same, room);
      fits = subst (λ (h : List Entry). IsFit original h row) is.entries follows.fits;
      short = subst (λ (t : List ℕ). length t ≤ most_print) print_is short;
    }

    pub read-next : (new : Reading) → new.entries.items ≡ reading.entries.items ++ next.entry ∷ [] → new.print.items ≡ next.print.items → IsRead original (rows ++ row ∷ []) new
    read-next new more printed =
        let held : entries_held new.entries.items ≡ entries_held entries ++ entry_of row ∷ [] =
        ap entries_held more ∙ (map-append entry_held entries (next.entry ∷ []) ∙ ap (λ (e : Entry). entries_held entries ++ e ∷ []) follows.entry) in
        record {
          left = record {
            sound = subst (AreSoundEntries original) (sym held) (AreSoundEntries-push original (entries_held entries) (entry_of row) is.left.sound follows.sound);
            taken = subst (HaveTaken original) (sym more) (HaveTaken-push original entries next.entry is.left.taken follows.taken);
            print_is = printed ∙ (follows.print ∙ ap (corrected_print original) (sym held));
          };
          entries = held ∙ (ap (λ (h : List Entry). h ++ entry_of row ∷ []) is.entries ∙ sym (map-append entry_of rows (row ∷ [])));
        }

-- ---- all rows

-- a row is sound at its index as it is after the rows before it
module _ (original : List ℕ) (rows : List NamedCorr) (index : ℕ) (row : NamedCorr) (at : slice_get rows index ≡ Some row) where
  front : take (index + 1) rows ≡ take index rows ++ row ∷ []
  front = take-more rows index row at

  many : length (take index rows) ≡ index
  many = let within = slice_get_within rows index row at in length-take-le index rows (omega arith)

  pub row-from_next : IsSoundNext original (take index rows) row → IsSoundEntryRow original rows index row
  row-from_next sound = record {
    number = sound.number ∙ ap (λ (n : ℕ). pos (n + 1)) many;
    room = let same = many in let room = sound.room in omega (arith, same, room);
    fits = sound.fits;
    short = subst (λ (t : List NamedCorr). length (corrected_print original (history_of t)) ≤ most_print) (sym front) sound.short;
  }

  pub next-from_row : IsSoundEntryRow original rows index row → IsSoundNext original (take index rows) row
  next-from_row sound = record {
    number = sound.number ∙ ap (λ (n : ℕ). pos (n + 1)) (sym many);
    room = let same = many in let room = sound.room in omega (arith, same, room);
    fits = sound.fits;
    short = subst (λ (t : List NamedCorr). length (corrected_print original (history_of t)) ≤ most_print) front sound.short;
  }

-- the rows before an index are sound
abbrev pub AreSoundTo : List ℕ → List NamedCorr → ℕ → Type 0
AreSoundTo original rows count = (index : ℕ) (row : NamedCorr) → index < count → slice_get rows index ≡ Some row → IsSoundEntryRow original rows index row

pub sound-none : (original : List ℕ) (rows : List NamedCorr) → AreSoundTo original rows 0
sound-none original rows index row below at = absurd (omega (arith, below))

pub sound-more : (original : List ℕ) (rows : List NamedCorr) (count : ℕ) (row : NamedCorr) → slice_get rows count ≡ Some row → IsSoundNext original (take count rows) row → AreSoundTo original rows count → AreSoundTo original rows (count + 1)
sound-more original rows count row at sound before index other below there =
    elim (cases_eq index count) [
      | inl same ↦
          let both : Some other ≡ Some row = sym there ∙ (ap (slice_get rows) same ∙ at) in
          let is : other ≡ row = cc in
          row-from_next original rows index other there (subst (λ (x : NamedCorr). IsSoundNext original (take index rows) x) (sym is) (subst (λ (n : ℕ). IsSoundNext original (take n rows) row) (sym same) sound))
      | inr differ ↦ before index other (omega (arith, below, differ)) there
    ]

pub sound-all : (original : List ℕ) (rows : List NamedCorr) → AreSoundTo original rows (length rows) → AreSoundRows original rows
sound-all original rows to index row at = to index row (slice_get_within rows index row at) at

pub unsound-at : (original : List ℕ) (rows : List NamedCorr) (index : ℕ) (row : NamedCorr) → slice_get rows index ≡ Some row → ¬ IsSoundNext original (take index rows) row → ¬ AreSoundRows original rows
unsound-at original rows index row at unsound each = unsound (next-from_row original rows index row at (each index row at))

pub nothing-read : (original : List ℕ) (reading : Reading) → reading.entries.items ≡ [] → reading.print.items ≡ original → IsRead original [] reading
nothing-read original reading none printed = record {
  left = record {
    sound = subst (λ (es : List HeldEntry). AreSoundEntries original (entries_held es)) (sym none) (λ i e at. absurd (cc));
    taken = subst (HaveTaken original) (sym none) (λ i e at. absurd (cc));
    print_is = printed ∙ ap (λ (es : List HeldEntry). corrected_print original (entries_held es)) (sym none);
  };
  entries = ap entries_held none;
}
