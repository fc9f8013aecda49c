-- Rows of histories without damage are sound, in the order of their numbers.
use Rattle.std.proofs.Common.{◌≡◌, ◌⊎◌, ℕ, ◌+◌, ℤ, pos, List, [], map, filter, length, take, Option, Some, Contains, refl, sym, ap, subst, ◌∙◌, inl, inr, int_eq, nat_cmp, option_map, slice_get, chars}
use Rattle.std.specs.List.{range_with_len}
use Rattle.std.specs.List.Sorted.{IsPermutation, IsStrictlySortedBy}
use Rattle.std.proofs.lemmas.Cmp.{nat_cmp_total}
use Rattle.std.proofs.lemmas.List.{length-map}
use Rattle.std.proofs.lemmas.List.Sorted.{Contains-permutation, IsPermutation-map, IsPermutation-sym, length_permutation}
use Rattle.std.proofs.lemmas.Simd.{map-map}
use Rattle.desk_model.specs.Book.{Entry, Replacement}
use Rattle.desk_model.specs.Damage.{HasPara, HasSoundEntries, IsDamagedEntries, IsSoundCorrection, IsSoundEntryRow, IsSoundUndo, IsWithin, history_of, rows_with}
use Rattle.desk_model.specs.Limits.{most_entries, most_print}
use Rattle.desk_model.specs.Print.{corrected_print, newest}
use Rattle.desk_parts.specs.Rows.{NamedCorr, Para}
use Rattle.desk_model.proofs.Lists.Decisions.{at_most, below, given, IsDecidable, decisions}
use Rattle.desk_model.proofs.Lists.NumberedRows.{AreOnce, AreUpTo, in_order, once-keys, pigeonholes}
use Rattle.desk_model.proofs.Rows.OneBook.{number, range_sorted, sorted_same, numbers_back}
use Rattle.desk_model.proofs.Lists.RowNumbers.{Contains-from_map, key-number, key-once, numbers, pos_le, keys-counted}
use Rattle.desk_model.proofs.Lists.Stable.{among, at_least, is_le, is_unbarred, is_within, le_from, lifted, same_int, same_text, stable, stable_from, is_reader_name}

-- ---- one entry

correction-stable : (print : List ℕ) (row : NamedCorr) → ¬ ¬ IsSoundCorrection print row → IsSoundCorrection print row
correction-stable print row twice =
    let parts : IsDecidable (IsSoundCorrection print row) = hlevel (decisions, same_int, is_le, is_unbarred, is_reader_name) in
    stable parts.decided twice

undo-stable : (before : List Entry) (row : NamedCorr) → ¬ ¬ IsSoundUndo before row → IsSoundUndo before row
undo-stable before row twice =
    let undone : Option ℕ = option_map (λ (c : ℕ × Replacement). c.0) (newest before) in
    let by = stable_from (given (λ n. row.entry.start ≡ pos n) (λ n. same_int row.entry.start (pos n)) undone) (λ (s : IsSoundUndo before row). (s.number, s.newest_is, s.start)) twice in
    record {
      kind = stable_from (same_int row.entry.kind (pos 1)) (λ (s : IsSoundUndo before row). s.kind) twice;
      number = by.0;
      newest_is = by.1;
      start = by.2;
      len = stable_from (same_int row.entry.len (pos 0)) (λ (s : IsSoundUndo before row). s.len) twice;
      body = stable_from (same_text row.entry.body []) (λ (s : IsSoundUndo before row). s.body) twice;
      who = stable_from (same_text row.who []) (λ (s : IsSoundUndo before row). s.who) twice;
    }

fits-stable : (print : List ℕ) (before : List Entry) (row : NamedCorr) → ¬ ¬ (IsSoundCorrection print row ⊎ IsSoundUndo before row) → IsSoundCorrection print row ⊎ IsSoundUndo before row
fits-stable print before row twice =
    elim (same_int row.entry.kind (pos 0)) [
      | inl zero_kind ↦ inl (correction-stable print row (lifted (λ h. corrects zero_kind h) twice))
      | inr other ↦ inr (undo-stable before row (lifted (λ h. undoes other h) twice))
    ]
  where
    corrects : row.entry.kind ≡ pos 0 → IsSoundCorrection print row ⊎ IsSoundUndo before row → IsSoundCorrection print row
    corrects is (inl c) = c
    corrects is (inr u) = absurd (let kinds : pos 0 ≡ pos 1 = sym is ∙ u.kind in cc)

    undoes : ¬ (row.entry.kind ≡ pos 0) → IsSoundCorrection print row ⊎ IsSoundUndo before row → IsSoundUndo before row
    undoes other (inl c) = absurd (other c.kind)
    undoes other (inr u) = u

entry-stable : (original : List ℕ) (sorted : List NamedCorr) (index : ℕ) (row : NamedCorr) → ¬ ¬ IsSoundEntryRow original sorted index row → IsSoundEntryRow original sorted index row
entry-stable original sorted index row twice = record {
  number = stable_from (same_int row.entry.seq (pos (index + 1))) (λ (s : IsSoundEntryRow original sorted index row). s.number) twice;
  room = stable_from (below index most_entries) (λ (s : IsSoundEntryRow original sorted index row). s.room) twice;
  fits = fits-stable (corrected_print original (history_of (take index sorted))) (history_of (take index sorted)) row (lifted (λ (s : IsSoundEntryRow original sorted index row). s.fits) twice);
  short = stable_from (at_most (length (corrected_print original (history_of (take (index + 1) sorted)))) most_print) (λ (s : IsSoundEntryRow original sorted index row). s.short) twice;
}

-- ---- numbers in order

abbrev seq : NamedCorr → ℤ
seq row = row.entry.seq

pub seqs-sorted : (n : ℕ) (rows : List NamedCorr) → map seq rows ≡ numbers 1 n → IsStrictlySortedBy nat_cmp (map (λ row. number (seq row)) rows)
seqs-sorted n rows is =
    let range : map (λ row. number (seq row)) rows ≡ range_with_len 1 n =
    sym (map-map number seq rows) ∙ (ap (map number) is ∙ numbers_back (range_with_len 1 n)) in
    subst (IsStrictlySortedBy nat_cmp) (sym range) (range_sorted 1 n)

module _ (entries : List NamedCorr) (para : Para) (twice : ¬ ¬ HasSoundEntries entries para) where
  abbrev its_own : List NamedCorr
  its_own = filter (λ row. int_eq row.entry.para para.id) entries

  module _ (h : HasSoundEntries entries para) where
    given-seqs : map seq h.sorted ≡ numbers 1 (length its_own)
    given-seqs =
        keys-counted seq h.sorted (λ i row at. (h.each i row at).number) ∙ ap (numbers 1) (length_permutation _ _ h.its_own)

    given-numbers : IsPermutation (map seq its_own) (numbers 1 (length its_own))
    given-numbers = subst (IsPermutation (map seq its_own)) given-seqs (IsPermutation-map seq _ _ h.its_own)

    given-once : AreOnce (map seq its_own)
    given-once = once-keys seq its_own (λ row c.
        let k = key-number seq its_own (length its_own) given-numbers row c in
        ap (λ z. rows_with seq z its_own) k.1 ∙ key-once seq its_own (length its_own) given-numbers k.0 k.2 k.3)

    given-within : (z : ℤ) → Contains (map seq its_own) z → IsWithin 1 (length its_own) z
    given-within z c =
        let row = Contains-from_map seq its_own z c in
        let k = key-number seq its_own (length its_own) given-numbers row.0 row.1 in
        subst (IsWithin 1 (length its_own)) (sym k.1 ∙ row.2) (pos_le 1 k.0 k.2, pos_le k.0 (length its_own) k.3)

  within : AreUpTo (length its_own) (map seq its_own)
  within z c =
      let is = stable_from (is_within 1 (length its_own) z) (λ h. given-within h z c) twice in
      let k = at_least 1 z is.0 in
      (k.0, k.1, k.2, le_from k.0 (length its_own) (subst (IsWithin 1 (length its_own)) k.1 is).1)

  numbered : IsPermutation (map seq its_own) (numbers 1 (length its_own))
  numbered = (pigeonholes (length its_own) (map seq its_own) (λ x others moved c. twice (λ h. given-once h x others moved c)) within).1 (length-map its_own seq)

  abbrev sorted : List NamedCorr
  sorted = (in_order seq its_own (length its_own) numbered).0

  moved-own : IsPermutation its_own sorted
  moved-own = (in_order seq its_own (length its_own) numbered).1

  same-order : (h : HasSoundEntries entries para) → h.sorted ≡ sorted
  same-order h =
      sorted_same nat_cmp nat_cmp_total (λ (row : NamedCorr). number (seq row)) h.sorted sorted
      (seqs-sorted (length its_own) h.sorted (given-seqs h))
      (seqs-sorted (length its_own) sorted (sym (in_order seq its_own (length its_own) numbered).2))
      (λ z c. Contains-permutation _ _ z moved-own (Contains-permutation _ _ z (IsPermutation-sym _ _ h.its_own) c))
      (λ z c. Contains-permutation _ _ z h.its_own (Contains-permutation _ _ z (IsPermutation-sym _ _ moved-own) c))

  -- those of a paragraph that can't but have sound entries
  pub entries-stable : HasSoundEntries entries para
  entries-stable = record {
    sorted = sorted;
    its_own = moved-own;
    each = λ index row at.
        entry-stable (chars para.original) sorted index row (lifted (λ (h : HasSoundEntries entries para).
        subst (λ rows. IsSoundEntryRow (chars para.original) rows index row) (same-order h)
        (h.each index row (subst (λ rows. slice_get rows index ≡ Some row) (sym (same-order h)) at))) twice);
    print = stable_from (same_text (corrected_print (chars para.original) (history_of sorted)) (chars para.print))
        (λ (h : HasSoundEntries entries para). subst (λ rows. corrected_print (chars para.original) (history_of rows) ≡ chars para.print) (same-order h) h.print) twice;
  }

module _ (paras : List Para) (entries : List NamedCorr) (none : (id : ℤ) → ¬ IsDamagedEntries paras entries id) where
  pub sound-entries : (para : Para) → Contains paras para → HasSoundEntries entries para
  sound-entries para c = entries-stable entries para (λ unsound. none para.id (inl (para, c, refl, unsound)))

  -- each entry's paragraph is there
  pub entry-para : (row : NamedCorr) → Contains entries row → HasPara paras row.entry.para
  entry-para row c =
      stable (among (λ (para : Para). para.id ≡ row.entry.para) (λ para. same_int para.id row.entry.para) paras)
      (λ lacks. none row.entry.para (inr (row, c, refl, lacks)))
