-- Rows in the order of their numbers stand in one order alone.
use Rattle.std.proofs.Common.{◌≡◌, ℕ, ◌<◌, ◌≤◌, ℤ, pos, ◌≤ℤ◌, List, map, length, Some, get_or, sym, ap, subst, ◌∙◌, arith, int_cmp, is_lt, IsPermutation, IsSortedBy, slice_get, negsuc, nat_cmp, option_map}
use Rattle.std.proofs.lemmas.List.Sorted.{Contains-permutation, IsPermutation-map, IsPermutation-sym, IsPermutation-trans, length_permutation}
use Rattle.desk_model.specs.Damage.{history_of}
use Rattle.desk_rebuild.specs.History.{AreSoundRows, CanBeRead}
use Rattle.desk_model.specs.Print.{corrected_print}
use Rattle.desk_parts.specs.Rows.{NamedCorr}
use Rattle.desk_model.proofs.Lists.RowNumbers.{numbers, keys-counted}
use Rattle.desk_model.proofs.Lists.Stable.{le_from, not_below}
use Rattle.desk_rebuild.proofs.OrderedRows.{rising}
use Rattle.std.specs.List.{range_with_len}
use Rattle.std.specs.List.Sorted.{IsStrictlySortedBy}
use Rattle.std.proofs.lemmas.Cmp.{nat_cmp_total}
use Rattle.std.proofs.lemmas.List.{length-map}
use Rattle.std.proofs.lemmas.Map.Keys.{IsStrictlyIncreasing-from_distinct, sorted_from_strictly_increasing}
use Rattle.std.proofs.lemmas.Option.{get_or_from_slice_get, slice_get-map}
use Rattle.std.proofs.lemmas.Simd.{map-map}
use Rattle.desk_model.proofs.Lists.Items.{slice_get-there}
use Rattle.desk_model.proofs.Lists.Numbering.{IsDistinct-numbers}
use Rattle.desk_model.proofs.Rows.OneBook.{number, numbers_back, sorted_same}
use Rattle.desk_model.proofs.Damage.UndamagedEntries.{seqs-sorted}

module _ {X : Type 0} (key : X → ℤ) where
  -- no element has a greater key than one after it
  abbrev pub AreRising : List X → Type 0
  AreRising xs = (i j : ℕ) (x y : X) → i ≤ j → slice_get xs i ≡ Some x → slice_get xs j ≡ Some y → key x ≤ℤ key y

  pub AreRising-sorted : (xs : List X) → IsSortedBy (λ x y. is_lt (int_cmp (key x) (key y))) xs → AreRising xs
  AreRising-sorted = rising key

-- ---- the rows of a history

abbrev seq : NamedCorr → ℤ
seq row = row.entry.seq

abbrev seq_number : NamedCorr → ℕ
seq_number row = number row.entry.seq

number_up : (a b : ℤ) → a ≤ℤ b → number a ≤ number b
number_up (pos a) (pos b) up = le_from a b up
number_up (pos a) (negsuc b) up = absurd (not_below a b up)
number_up (negsuc a) b up = omega arith

module _ (rows sorted : List NamedCorr) (same : IsPermutation rows sorted) (rising : AreRising seq sorted) (original print : List ℕ) (h : CanBeRead rows original print) where
  same-rows : IsPermutation sorted h.sorted
  same-rows = IsPermutation-trans _ _ _ (IsPermutation-sym _ _ same) h.same

  seqs : map seq h.sorted ≡ numbers 1 (length sorted)
  seqs =
      keys-counted seq h.sorted (λ i row at. (h.each i row at).number) ∙ ap (numbers 1) (length_permutation _ _ same-rows)

  numbered : IsPermutation (map seq sorted) (numbers 1 (length sorted))
  numbered = subst (IsPermutation (map seq sorted)) seqs (IsPermutation-map seq _ _ same-rows)

  -- their numbers, as they stand
  abbrev ids : List ℕ
  ids = map seq_number sorted

  number-at : (i d : ℕ) → i < length sorted → (row : NamedCorr) × (slice_get sorted i ≡ Some row) × (get_or ids i d ≡ seq_number row)
  number-at i d less =
      let row = slice_get-there sorted i less in
      (row.0, row.1, get_or_from_slice_get ids i (seq_number row.0) d (slice_get-map seq_number sorted i ∙ ap (option_map seq_number) row.1))

  from-one : IsPermutation (range_with_len 1 (length sorted)) ids
  from-one =
      subst (λ xs. IsPermutation xs ids) (numbers_back (range_with_len 1 (length sorted)))
      (subst (IsPermutation (map number (numbers 1 (length sorted)))) (map-map number seq sorted) (IsPermutation-sym _ _ (IsPermutation-map number _ _ numbered)))

  in-order : IsStrictlySortedBy nat_cmp ids
  in-order =
      sorted_from_strictly_increasing ids (IsStrictlyIncreasing-from_distinct ids (λ i j d le less.
      let long = length-map sorted seq_number in
      let x = number-at i d (omega (arith, le, less, long)) in
      let y = number-at j d (omega (arith, less, long)) in
      omega (arith, x.2, y.2, number_up (seq x.0) (seq y.0) (rising i j x.0 y.0 le x.1 y.1))) (IsDistinct-numbers (length sorted) ids from-one))

  pub same-order : sorted ≡ h.sorted
  same-order =
      sorted_same nat_cmp nat_cmp_total seq_number sorted h.sorted in-order (seqs-sorted (length sorted) h.sorted seqs)
      (λ z c. Contains-permutation _ _ z same-rows c) (λ z c. Contains-permutation _ _ z (IsPermutation-sym _ _ same-rows) c)

  pub sound-as_sorted : AreSoundRows original sorted
  sound-as_sorted = subst (AreSoundRows original) (sym same-order) h.each

  pub print-as_sorted : corrected_print original (history_of sorted) ≡ print
  print-as_sorted = ap (λ (t : List NamedCorr). corrected_print original (history_of t)) same-order ∙ h.print_is
