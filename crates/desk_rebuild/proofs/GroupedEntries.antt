-- The rows of all histories in groups, one for each paragraph.
use Rattle.std.proofs.Common.{append-nil, ◌≢◌, ◌≡◌, ◌⊎◌, ℕ, ◌+◌, ℤ, pos, ◌≤ℤ◌, List, [], ◌∷◌, ◌++◌, map, length, Option, Some, None, set, refl, sym, ap, subst, ◌∙◌, arith, inl, inr, int_eq, IfSome, option_map, slice_get}
use Rattle.std.specs.Cmp.{signed_Decides}
use Rattle.std.proofs.lemmas.Int.{ints}
use Rattle.std.proofs.lemmas.Bool.{cases_eq, cases_lt, cond-false, cond-true, false_from_ne_true}
use Rattle.std.proofs.lemmas.List.{length-append, length-map, length-set}
use Rattle.std.proofs.lemmas.List.Elements.{filter-append, Contains-append_left, Contains-push, Contains-push_cases}
use Rattle.std.proofs.lemmas.Option.{slice_get-map, slice_get_within}
use Rattle.desk_model.specs.Damage.{IsWithin}
use Rattle.desk_rebuild.specs.Entries.{AreGrouped, IsFirstStray, IsStray, rows_of}
use Rattle.desk_parts.specs.Rows.{NamedCorr}
use Rattle.desk_model.proofs.Lists.Items.{here-at, slice_get-append_left, slice_get-set_other, slice_get-set_same}
use Rattle.desk_model.proofs.Lists.RowNumbers.{pos_le, same_number}

pub trans_le : (a b c : ℤ) → a ≤ℤ b → b ≤ℤ c → a ≤ℤ c
trans_le a b c one other = omega (arith, ints, one, other)

pub no-groups : AreGrouped 0 [] []
no-groups = record { many = refl; each = λ index group at. absurd (cc) }

pub group-more : (count : ℕ) (groups : List (List NamedCorr)) → AreGrouped count [] groups → AreGrouped (count + 1) [] (groups ++ [] ∷ [])
group-more count groups is = record {
  many = length-append groups ([] ∷ []) ∙ ap (λ (n : ℕ). n + 1) is.many;
  each = λ index group at.
      let long = length-append groups ([] ∷ []) in
      elim (cases_lt index (length groups)) [
        | inl before ↦ is.each index group (sym (slice_get-append_left groups ([] ∷ []) index before) ∙ at)
        | inr past ↦
            let here : index ≡ length groups = omega (arith, slice_get_within (groups ++ [] ∷ []) index group at, long, past) in
            let both : Some [] ≡ Some group = sym (here-at groups [] []) ∙ (ap (slice_get (groups ++ [] ∷ [])) (sym here) ∙ at) in
            let same : [] ≡ group = cc in
            sym same
      ];
}

-- ---- one row more

own-row : (rows : List NamedCorr) (row : NamedCorr) (id : ℤ) → row.entry.para ≡ id → rows_of (rows ++ row ∷ []) id ≡ rows_of rows id ++ row ∷ []
own-row rows row id is =
    filter-append (λ other. int_eq other.entry.para id) rows (row ∷ [])
    ∙ ap (λ (t : List NamedCorr). rows_of rows id ++ t) (cond-true (int_eq row.entry.para id) (row ∷ []) [] ((signed_Decides row.entry.para id).1 is))

other-row : (rows : List NamedCorr) (row : NamedCorr) (id : ℤ) → ¬ (row.entry.para ≡ id) → rows_of (rows ++ row ∷ []) id ≡ rows_of rows id
other-row rows row id other =
    filter-append (λ each. int_eq each.entry.para id) rows (row ∷ [])
    ∙ (ap (λ (t : List NamedCorr). rows_of rows id ++ t) (cond-false (int_eq row.entry.para id) (row ∷ []) [] (false_from_ne_true (int_eq row.entry.para id) (λ is. other ((signed_Decides row.entry.para id).0 is))))
    ∙ append-nil (rows_of rows id))

-- the row goes into the group of its paragraph
pub grouped-more : (count : ℕ) (rows : List NamedCorr) (groups new : List (List NamedCorr)) (index : ℕ) (group : List NamedCorr) (row : NamedCorr) → AreGrouped count rows groups
    → row.entry.para ≡ pos (index + 1) → slice_get groups index ≡ Some group → length new ≡ length groups → slice_get new index ≡ Some (group ++ row ∷ [])
    → ((i : ℕ) → i ≢ index → slice_get new i ≡ slice_get groups i) → AreGrouped count (rows ++ row ∷ []) new
grouped-more count rows groups new index group row is named at long here elsewhere = record {
  many = long ∙ is.many;
  each = λ i other at_i.
      elim (cases_eq i index) [
        | inl same ↦
            let both : Some other ≡ Some (group ++ row ∷ []) = sym at_i ∙ (ap (slice_get new) same ∙ here) in
            let whole : other ≡ group ++ row ∷ [] = cc in
            whole ∙ (ap (λ (g : List NamedCorr). g ++ row ∷ []) (is.each index group at)
            ∙ (sym (own-row rows row (pos (index + 1)) named) ∙ ap (λ (n : ℕ). rows_of (rows ++ row ∷ []) (pos (n + 1))) (sym same)))
        | inr differ ↦
            is.each i other (sym (elsewhere i differ) ∙ at_i)
            ∙ sym (other-row rows row (pos (i + 1)) (λ equal. let number = same_number (index + 1) (i + 1) (sym named ∙ equal) in differ (omega (arith, number))))
      ];
}

-- the same of a list of what holds the groups
pub grouped-set : {V : Type 0} (items : V → List NamedCorr) (count : ℕ) (rows : List NamedCorr) (holders : List V) (index : ℕ) (old new : V) (row : NamedCorr) → AreGrouped count rows (map items holders)
    → row.entry.para ≡ pos (index + 1) → slice_get holders index ≡ Some old → items new ≡ items old ++ row ∷ [] → AreGrouped count (rows ++ row ∷ []) (map items (set holders index new))
grouped-set {V} items count rows holders index old new row is named at more =
    grouped-more count rows (map items holders) (map items (set holders index new)) index (items old) row is named
    (slice_get-map items holders index ∙ ap (option_map items) at)
    (length-map (set holders index new) items ∙ (length-set holders index new ∙ sym (length-map holders items)))
    (slice_get-map items (set holders index new) index ∙ (ap (option_map items) (slice_get-set_same holders index new (slice_get_within holders index old at)) ∙ ap Some more))
    (λ i other. slice_get-map items (set holders index new) i ∙ (ap (option_map items) (slice_get-set_other holders index i new other) ∙ sym (slice_get-map items holders i)))

-- a row of no paragraph goes into no group
pub grouped-stray : (count : ℕ) (rows : List NamedCorr) (groups : List (List NamedCorr)) (row : NamedCorr) → AreGrouped count rows groups → ¬ IsWithin 1 count row.entry.para → AreGrouped count (rows ++ row ∷ []) groups
grouped-stray count rows groups row is nowhere = record {
  many = is.many;
  each = λ i group at.
      let within = slice_get_within groups i group at in
      let many = is.many in
      is.each i group at
      ∙ sym (other-row rows row (pos (i + 1)) (λ equal. nowhere (subst (IsWithin 1 count) (sym equal) (pos_le 1 (i + 1) (omega arith), pos_le (i + 1) count (omega (arith, within, many))))));
}

-- ---- ids of no paragraph

module _ (count : ℕ) where
  stray-cases : (rows : List NamedCorr) (row : NamedCorr) (id : ℤ) → IsStray count (rows ++ row ∷ []) id → IsStray count rows id ⊎ (row.entry.para ≡ id)
  stray-cases rows row id ((other, c, named), nowhere) = elim (Contains-push_cases rows row other c) [
    | inl before ↦ inl ((other, before, named), nowhere)
    | inr last ↦ inr (ap (λ (r : NamedCorr). r.entry.para) last ∙ named)
  ]

  stray-before : (rows : List NamedCorr) (row : NamedCorr) (id : ℤ) → IsStray count rows id → IsStray count (rows ++ row ∷ []) id
  stray-before rows row id ((other, c, named), nowhere) = ((other, Contains-append_left rows (row ∷ []) other c, named), nowhere)

  pub stray-within : (rows : List NamedCorr) (row : NamedCorr) (o : Option ℤ) → IsWithin 1 count row.entry.para → IsFirstStray count rows o → IsFirstStray count (rows ++ row ∷ []) o
  stray-within rows row None within none = λ id stray. elim (stray-cases rows row id stray) [
    | inl before ↦ none id before
    | inr last ↦ stray.1 (subst (IsWithin 1 count) last within)
  ]
  stray-within rows row (Some first) within given = (
    stray-before rows row first given.0,
    λ id stray. elim (stray-cases rows row id stray) [
      | inl before ↦ given.1 id before
      | inr last ↦ absurd (stray.1 (subst (IsWithin 1 count) last within))
    ],
  )

  pub stray-more : (rows : List NamedCorr) (row : NamedCorr) (o : Option ℤ) (first : ℤ) → ¬ IsWithin 1 count row.entry.para → IsFirstStray count rows o → (first ≡ row.entry.para) ⊎ (o ≡ Some first)
      → first ≤ℤ row.entry.para → IfSome o (λ id. first ≤ℤ id) → IsFirstStray count (rows ++ row ∷ []) (Some first)
  stray-more rows row o first nowhere given one least before = (is one, smallest)
    where
      of_first : (q : Option ℤ) → q ≡ Some first → IsFirstStray count rows q → IsStray count rows first
      of_first None none all = absurd (cc)
      of_first (Some other) same all = let equal : other ≡ first = cc in subst (IsStray count rows) equal all.0

      is : (first ≡ row.entry.para) ⊎ (o ≡ Some first) → IsStray count (rows ++ row ∷ []) first
      is (inl same) = ((row, Contains-push rows row, sym same), subst (λ z. ¬ IsWithin 1 count z) (sym same) nowhere)
      is (inr some) = stray-before rows row first (of_first o some given)

      below : (q : Option ℤ) → IsFirstStray count rows q → IfSome q (λ id. first ≤ℤ id) → (id : ℤ) → IsStray count rows id → first ≤ℤ id
      below None none low id stray = absurd (none id stray)
      below (Some other) all low id stray = trans_le first other id low (all.1 id stray)

      smallest : (id : ℤ) → IsStray count (rows ++ row ∷ []) id → first ≤ℤ id
      smallest id stray = elim (stray-cases rows row id stray) [
        | inl earlier ↦ below o given before id earlier
        | inr last ↦ subst (λ z. first ≤ℤ z) last least
      ]
