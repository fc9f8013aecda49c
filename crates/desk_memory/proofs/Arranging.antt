-- Paragraphs by their ids, and orders of them.
use Rattle.std.proofs.Common.{◌≡◌, ◌≢◌, ℕ, zero, suc, ◌+◌, ◌-◌, ◌<◌, ◌≤◌, Bool, true, false, cond, ◌||◌, ◌==◌, if◌then◌else◌, eqb, nat_eq, List, [], ◌∷◌, ◌++◌, map, length, get_or, set, slice_get, Option, Some, None, option_map, option_to_list, option_and_then, All, IsPermutation, flat_map, refl, sym, ap, ap₂, ◌∙◌, subst, inl, inr, arith, eq-eqb, ne_eqb, add-sub_cancel, add_comm}
use Rattle.std.specs.Map.{lookup}
use Rattle.std.specs.Cmp.{nat_eq_equiv}
use Rattle.std.specs.List.{range_with_len, list_any}
use Rattle.std.proofs.lemmas.Bool.{cases_Bool, cases_eq, cases_lt, eqb-true}
use Rattle.std.proofs.lemmas.List.{length-append, length-map}
use Rattle.std.proofs.lemmas.List.Concat.{flat_map-append}
use Rattle.std.proofs.lemmas.List.Elements.{All-head, All-tail, All-weaker}
use Rattle.std.proofs.lemmas.List.Sorted.{All-permutation, Contains-permutation, length_permutation, IsPermutation-append_left}
use Rattle.std.proofs.lemmas.List.FromFn.{length-range_with_len, get_or-range_with_len}
use Rattle.std.proofs.lemmas.Map.Views.{list_any-from_Contains}
use Rattle.std.proofs.lemmas.Option.{none-some, same_Some, slice_get_past, slice_get_within}
use Rattle.desk_memory.specs.Held.{HeldParagraphs, paragraph_with_id, in_order_of, ids, with_held_change}
use Rattle.desk_memory.specs.declared.paragraphs.Paragraph.{Paragraph as HeldParagraph}
use Rattle.desk_model.proofs.Lists.Items.{flat_map-agree, here-at, map-flat_map, range_with_len-push, slice_get-append_left, slice_get-set_other, slice_get-set_same, slice_get-there}

-- the id is one of 1, 2, .., count
abbrev pub IsUpTo : ℕ → ℕ → Type 0
IsUpTo count id = (0 < id) × (id ≤ count)

-- ---- ids

-- each id of an order of 1, 2, .., count is one of these
pub AreUpTo-order : (count : ℕ) (order : List ℕ) → IsPermutation (range_with_len 1 count) order → All (IsUpTo count) order
AreUpTo-order count order permutes =
    All-permutation (IsUpTo count) _ _ permutes (λ k d within.
    let below : k < count = omega (arith, length-range_with_len 1 count) in
    let is : get_or (range_with_len 1 count) k d ≡ 1 + k = get_or-range_with_len 1 count k d below in
    omega (arith, is))

-- and each of these is in the order
pub list_any-order : (count : ℕ) (order : List ℕ) (id : ℕ) → IsPermutation (range_with_len 1 count) order → IsUpTo count id → list_any (nat_eq id) order ≡ true
list_any-order count order id permutes up =
    list_any-from_Contains nat_eq_equiv id order (Contains-permutation _ _ id permutes (
      id - 1,
      omega (arith, length-range_with_len 1 count, up.0, up.1),
      get_or-range_with_len 1 count (id - 1) id (omega (arith, up.0, up.1)) ∙ omega (arith, up.0),
    ))

pub length-order : (count : ℕ) (order : List ℕ) → IsPermutation (range_with_len 1 count) order → length order ≡ count
length-order count order permutes = length_permutation _ _ permutes ∙ length-range_with_len 1 count

-- ---- paragraphs in an order of their ids

-- the paragraph with an id from 1 on is there
pub paragraph_with_id-there : (items : List HeldParagraph) (id : ℕ) → IsUpTo (length items) id → (held : HeldParagraph) × (slice_get items (id - 1) ≡ Some held)
paragraph_with_id-there items id up = slice_get-there items (id - 1) (omega (arith, up.0, up.1))

-- what stands for an id
abbrev pub entry_of : ℕ → Option HeldParagraph → HeldParagraphs
entry_of id found = option_to_list (option_map (λ held. (id, held)) found)

module _ (items : List HeldParagraph) where
  -- the list is this one, then those that follow
  pub paragraph_with_id-cons : (id : ℕ) (order : List ℕ) (held : HeldParagraph) → slice_get items (id - 1) ≡ Some held → flat_map (paragraph_with_id items) (id ∷ order) ≡ (id, held) ∷ flat_map (paragraph_with_id items) order
  paragraph_with_id-cons id order held is = ap (λ found. entry_of id found ++ flat_map (paragraph_with_id items) order) is

  -- the ids that stand in the list are the order
  pub ids-in_order : (order : List ℕ) → All (IsUpTo (length items)) order → ids (flat_map (paragraph_with_id items) order) ≡ order
  ids-in_order [] up = refl
  ids-in_order (id ∷ order) up =
      let found = paragraph_with_id-there items id (All-head (IsUpTo (length items)) id order up) in
      ap ids (paragraph_with_id-cons id order found.0 found.1)
      ∙ ap (λ rest. id ∷ rest) (ids-in_order order (All-tail (IsUpTo (length items)) id order up))

  -- the entry at a place
  pub slice_get-in_order : (order : List ℕ) (place : ℕ) → All (IsUpTo (length items)) order
      → slice_get (flat_map (paragraph_with_id items) order) place ≡ option_and_then (λ id. option_map (λ held. (id, held)) (slice_get items (id - 1))) (slice_get order place)
  slice_get-in_order [] place up = refl
  slice_get-in_order (id ∷ order) zero up =
      let found = paragraph_with_id-there items id (All-head (IsUpTo (length items)) id order up) in
      ap (λ list. slice_get list 0) (paragraph_with_id-cons id order found.0 found.1) ∙ sym (ap (option_map (λ held. (id, held))) found.1)
  slice_get-in_order (id ∷ order) (suc place) up =
      let found = paragraph_with_id-there items id (All-head (IsUpTo (length items)) id order up) in
      ap (λ list. slice_get list (suc place)) (paragraph_with_id-cons id order found.0 found.1)
      ∙ slice_get-in_order order place (All-tail (IsUpTo (length items)) id order up)

  -- no entry stands where no id does, and one where one does
  pub slice_get_none-in_order : (order : List ℕ) (place : ℕ) → All (IsUpTo (length items)) order → slice_get order place ≡ None → slice_get (flat_map (paragraph_with_id items) order) place ≡ None
  slice_get_none-in_order order place up none =
      slice_get-in_order order place up ∙ ap (option_and_then (λ id. option_map (λ held. (id, held)) (slice_get items (id - 1)))) none

  pub slice_get_some-in_order : (order : List ℕ) (place id : ℕ) (held : HeldParagraph) → All (IsUpTo (length items)) order
      → slice_get order place ≡ Some id → slice_get items (id - 1) ≡ Some held → slice_get (flat_map (paragraph_with_id items) order) place ≡ Some (id, held)
  slice_get_some-in_order order place id held up at is =
      slice_get-in_order order place up
      ∙ (ap (option_and_then (λ id. option_map (λ held. (id, held)) (slice_get items (id - 1)))) at ∙ ap (option_map (λ held. (id, held))) is)

  -- a look-up finds an id that stands in the order
  lookup-any : (id : ℕ) (order : List ℕ) → All (IsUpTo (length items)) order
      → lookup (nat_eq id) (flat_map (paragraph_with_id items) order) ≡ cond (list_any (nat_eq id) order) (slice_get items (id - 1)) None
  lookup-any id [] up = refl
  lookup-any id (other ∷ order) up =
      let found = paragraph_with_id-there items other (All-head (IsUpTo (length items)) other order up) in
      let rest = lookup-any id order (All-tail (IsUpTo (length items)) other order up) in
      ap (lookup (nat_eq id)) (paragraph_with_id-cons other order found.0 found.1)
      ∙ elim (cases_Bool (eqb id other)) [
        | inl same ↦
            ap (λ t. cond t (Some found.0) (lookup (nat_eq id) (flat_map (paragraph_with_id items) order))) same
            ∙ sym (ap (λ t. cond (t || list_any (nat_eq id) order) (slice_get items (id - 1)) None) same
            ∙ (ap (λ n. slice_get items (n - 1)) (eqb-true id other same) ∙ found.1))
        | inr apart ↦
            ap (λ t. cond t (Some found.0) (lookup (nat_eq id) (flat_map (paragraph_with_id items) order))) apart
            ∙ (rest ∙ sym (ap (λ t. cond (t || list_any (nat_eq id) order) (slice_get items (id - 1)) None) apart))
      ]

  module _ (order : List ℕ) (permutes : IsPermutation (range_with_len 1 (length items)) order) where
    pub length-in_order : length (flat_map (paragraph_with_id items) order) ≡ length items
    length-in_order =
        sym (length-map (flat_map (paragraph_with_id items) order) (λ entry. entry.0))
        ∙ (ap length (ids-in_order order (AreUpTo-order (length items) order permutes)) ∙ length-order (length items) order permutes)

    -- the paragraph with an id stands among the items
    pub lookup-in_order : (id : ℕ) → 0 < id → lookup (nat_eq id) (flat_map (paragraph_with_id items) order) ≡ slice_get items (id - 1)
    lookup-in_order id positive =
        lookup-any id order (AreUpTo-order (length items) order permutes)
        ∙ elim (cases_lt (length items) id) [
          | inl past ↦
              let none : slice_get items (id - 1) ≡ None = slice_get_past items (id - 1) (omega arith) in
              ap (λ found. cond (list_any (nat_eq id) order) found None) none ∙ (cond-None (list_any (nat_eq id) order) ∙ sym none)
          | inr within ↦ ap (λ t. cond t (slice_get items (id - 1)) None) (list_any-order (length items) order id permutes (positive, within))
        ]
      where
        cond-None : (t : Bool) → ◌≡◌ {A = Option HeldParagraph} (cond t None None) None
        cond-None true = refl
        cond-None false = refl

    -- the same, by an index
    pub lookup_index-in_order : (index id : ℕ) → index + 1 ≡ id → lookup (nat_eq id) (flat_map (paragraph_with_id items) order) ≡ slice_get items index
    lookup_index-in_order index id at =
        let place : id - 1 ≡ index = omega (arith, at) in
        lookup-in_order id (omega (arith, at)) ∙ ap (slice_get items) place

    -- no paragraph has the id 0
    pub lookup_zero-in_order : lookup (nat_eq 0) (flat_map (paragraph_with_id items) order) ≡ None
    lookup_zero-in_order =
        lookup-any 0 order (AreUpTo-order (length items) order permutes)
        ∙ ap (λ t. cond t (slice_get items 0) None) (none_zero order (AreUpTo-order (length items) order permutes))
      where
        none_zero : (ids : List ℕ) → All (IsUpTo (length items)) ids → list_any (nat_eq 0) ids ≡ false
        none_zero [] up = refl
        none_zero (id ∷ ids) up =
            let positive : 0 < id = (All-head (IsUpTo (length items)) id ids up).0 in
            ap (λ t. t || list_any (nat_eq 0) ids) (ne_eqb 0 id (λ same. omega arith))
            ∙ none_zero ids (All-tail (IsUpTo (length items)) id ids up)

    -- another order of the ids arranges the same paragraphs
    pub in_order_of-in_order : (other : List ℕ) → All (IsUpTo (length items)) other → in_order_of other (flat_map (paragraph_with_id items) order) ≡ flat_map (paragraph_with_id items) other
    in_order_of-in_order other up =
        flat_map-agree (λ id. entry_of id (lookup (nat_eq id) (flat_map (paragraph_with_id items) order))) (paragraph_with_id items) other
        (All-weaker (IsUpTo (length items)) (λ id. entry_of id (lookup (nat_eq id) (flat_map (paragraph_with_id items) order)) ≡ paragraph_with_id items id)
        (λ id is. ap (entry_of id) (lookup-in_order id is.0)) other up)

    -- the paragraphs change as their items do
    pub map-in_order : (items' : List HeldParagraph) (change : ℕ × HeldParagraph → ℕ × HeldParagraph)
        → ((id : ℕ) → IsUpTo (length items) id → map change (paragraph_with_id items id) ≡ paragraph_with_id items' id)
        → map change (flat_map (paragraph_with_id items) order) ≡ flat_map (paragraph_with_id items') order
    map-in_order items' change each =
        map-flat_map change (paragraph_with_id items) order
        ∙ flat_map-agree (λ id. map change (paragraph_with_id items id)) (paragraph_with_id items') order
        (All-weaker (IsUpTo (length items)) (λ id. map change (paragraph_with_id items id) ≡ paragraph_with_id items' id) each order (AreUpTo-order (length items) order permutes))

    -- a change of the paragraph with this id
    pub with_held_change-in_order : (id index : ℕ) (held : HeldParagraph) (change : HeldParagraph → HeldParagraph)
        → index + 1 ≡ id → slice_get items index ≡ Some held
        → with_held_change id change (flat_map (paragraph_with_id items) order) ≡ flat_map (paragraph_with_id (set items index (change held))) order
    with_held_change-in_order id index held change at is = map-in_order (set items index (change held)) changed each
      where
        changed : ℕ × HeldParagraph → ℕ × HeldParagraph
        changed entry = if entry.0 == id then (entry.0, change entry.1) else entry

        here : (other : ℕ) (found : HeldParagraph) → other ≡ id → other - 1 ≡ index → slice_get items (other - 1) ≡ Some found
            → map changed (entry_of other (Some found)) ≡ paragraph_with_id (set items index (change held)) other
        here other found same place there =
            ap (λ t. cond t (other, change found) (other, found) ∷ []) (eq-eqb other id same)
            ∙ (ap (λ k. (other, change k) ∷ []) (same_Some found held (sym there ∙ (ap (slice_get items) place ∙ is)))
            ∙ sym (ap (entry_of other) (ap (slice_get (set items index (change held))) place ∙ slice_get-set_same items index (change held) (slice_get_within items index held is))))

        elsewhere : (other : ℕ) (found : HeldParagraph) → other ≢ id → other - 1 ≢ index → slice_get items (other - 1) ≡ Some found
            → map changed (entry_of other (Some found)) ≡ paragraph_with_id (set items index (change held)) other
        elsewhere other found apart away there =
            ap (λ t. cond t (other, change found) (other, found) ∷ []) (ne_eqb other id apart)
            ∙ sym (ap (entry_of other) (slice_get-set_other items index (other - 1) (change held) away ∙ there))

        each : (other : ℕ) → IsUpTo (length items) other → map changed (paragraph_with_id items other) ≡ paragraph_with_id (set items index (change held)) other
        each other up =
            let found = paragraph_with_id-there items other up in
            ap (λ o. map changed (entry_of other o)) found.1
            ∙ elim (cases_eq other id) [
              | inl same ↦ here other found.0 same (omega (arith, at, same)) found.1
              | inr apart ↦ elsewhere other found.0 apart (λ same. apart (omega (arith, at, same, up.0))) found.1
            ]

    -- these paragraphs and one more
    pub pushed-in_order : (new : HeldParagraph) → flat_map (paragraph_with_id items) order ++ (length items + 1, new) ∷ [] ≡ flat_map (paragraph_with_id (items ++ new ∷ [])) (order ++ (length items + 1) ∷ [])
    pushed-in_order new =
        sym (flat_map-append (paragraph_with_id (items ++ new ∷ [])) order ((length items + 1) ∷ []) ∙ ap₂ (λ front back. front ++ back)
        (sym (flat_map-agree (paragraph_with_id items) (paragraph_with_id (items ++ new ∷ [])) order
        (All-weaker (IsUpTo (length items)) (λ id. paragraph_with_id items id ≡ paragraph_with_id (items ++ new ∷ []) id)
        (λ id up. ap (entry_of id) (sym (slice_get-append_left items (new ∷ []) (id - 1) (omega (arith, up.0, up.1)))))
        order (AreUpTo-order (length items) order permutes))))
        (ap (λ found. entry_of (length items + 1) found ++ []) (ap (slice_get (items ++ new ∷ [])) (add-sub_cancel (length items) 1) ∙ here-at items [] new)))

    pub IsPermutation-pushed : IsPermutation (range_with_len 1 (length items + 1)) (order ++ (length items + 1) ∷ [])
    IsPermutation-pushed =
        subst (λ list. IsPermutation list (order ++ (length items + 1) ∷ [])) (sym (range_with_len-push 1 (length items) ∙ ap (λ n. range_with_len 1 (length items) ++ n ∷ []) (add_comm 1 (length items))))
        (IsPermutation-append_left ((length items + 1) ∷ []) _ _ permutes)

-- how many paragraphs a value has
pub length-shown : (items : List HeldParagraph) (order : List ℕ) (value : HeldParagraphs)
    → IsPermutation (range_with_len 1 (length items)) order → flat_map (paragraph_with_id items) order ≡ value → length value ≡ length items
length-shown items order value permutes shown = sym (ap length shown) ∙ length-in_order items order permutes

-- and what their ids are
pub ids-shown : (items : List HeldParagraph) (order : List ℕ) (value : HeldParagraphs)
    → IsPermutation (range_with_len 1 (length items)) order → flat_map (paragraph_with_id items) order ≡ value → ids value ≡ order
ids-shown items order value permutes shown = sym (ap ids shown) ∙ ids-in_order items order (AreUpTo-order (length items) order permutes)

-- a paragraph is added, in another order
pub in_order_of-pushed : (items : List HeldParagraph) (order other : List ℕ) (new : HeldParagraph)
    → IsPermutation (range_with_len 1 (length items)) order
    → IsPermutation (range_with_len 1 (length items + 1)) other
    → in_order_of other (flat_map (paragraph_with_id items) order ++ (length items + 1, new) ∷ []) ≡ flat_map (paragraph_with_id (items ++ new ∷ [])) other
in_order_of-pushed items order other new permutes others =
    let count : length (items ++ new ∷ []) ≡ length items + 1 = length-append items (new ∷ []) in
    ap (in_order_of other) (pushed-in_order items order permutes new)
    ∙ in_order_of-in_order (items ++ new ∷ []) (order ++ (length items + 1) ∷ [])
    (subst (λ n. IsPermutation (range_with_len 1 n) (order ++ (length items + 1) ∷ [])) (sym count) (IsPermutation-pushed items order permutes))
    other (subst (λ n. All (IsUpTo n) other) (sym count) (AreUpTo-order (length items + 1) other others))

-- a change of a paragraph that is not there changes nothing
pub with_held_change-missing : (id : ℕ) (change : HeldParagraph → HeldParagraph) (held : HeldParagraphs) → lookup (nat_eq id) held ≡ None → with_held_change id change held ≡ held
with_held_change-missing id change [] none = refl
with_held_change-missing id change (entry ∷ held) none =
    elim (cases_eq id entry.0) [
      | inl same ↦ absurd (none-some entry.1 (sym none ∙ ap (λ t. cond t (Some entry.1) (lookup (nat_eq id) held)) (eq-eqb id entry.0 same)))
      | inr apart ↦
          let rest : lookup (nat_eq id) held ≡ None = sym (ap (λ t. cond t (Some entry.1) (lookup (nat_eq id) held)) (ne_eqb id entry.0 apart)) ∙ none in
          ap₂ (λ first others. first ∷ others)
          (ap (λ t. cond t (entry.0, change entry.1) entry) (ne_eqb entry.0 id (λ same. apart (sym same))))
          (with_held_change-missing id change held rest)
    ]
