-- Rows in the order of their ids: which of them has the next number, what is so of those before it, and what is reported of them.
use Rattle.std.proofs.Common.{◌≡◌, ℕ, zero, suc, ◌+◌, ◌<◌, ◌≤◌, ℤ, pos, ◌+ℤ◌, ◌≤ℤ◌, ◌<ℤ◌, false, List, [], ◌∷◌, ◌++◌, map, filter, length, take, drop, Some, Ordering, Contains, is_lt, int_cmp, refl, sym, ap, subst, ◌∙◌, arith, inl, inr, slice_get, IsPermutation, IsSortedByKey, Less, length-append, length-take-le, take-append-drop, ap₂}
use Rattle.std.proofs.Math.Seq.{take-length}
use Rattle.std.specs.Cmp.{signed_Decides}
use Rattle.std.specs.List.{range_with_len}
use Rattle.std.specs.Ordering.{MatchOrdering, int_eq}
use Rattle.std.proofs.lemmas.Bool.{cases_lt, cond-true}
use Rattle.std.proofs.lemmas.Cmp.{int_cmp_total, int_ranked}
use Rattle.std.proofs.lemmas.Int.{ints}
use Rattle.std.proofs.lemmas.List.Elements.{Contains-append_cases, Contains-append_left, filter-append}
use Rattle.std.proofs.lemmas.List.Sorted.{Contains-permutation, IsPermutation-sym, length_permutation, ranks_by, sorted_far}
use Rattle.std.proofs.lemmas.Option.{get_or_from_slice_get, slice_get_within}
use Rattle.desk_rebuild.specs.Rows.{IsFirstId, IsWhole}
use Rattle.desk_rebuild.specs.OrderedRows.{AreHeldUpTo, AreInOrder, AreSoundUpTo, IsFirstUnsound, IsNext, IsSoundAt, RowRule}
use Rattle.desk_model.specs.Damage.{IsNumber, rows_with}
use Rattle.desk_model.proofs.Lists.Items.{Contains-there, drop-there, here-at, push-cases}
use Rattle.desk_model.proofs.Lists.Members.{Contains-here, Contains-none}
use Rattle.desk_model.proofs.Lists.NumberedRows.{taken_out}
use Rattle.desk_model.proofs.Lists.Permutations.{IsPermutation-filter, IsPermutation-same}
use Rattle.desk_model.proofs.Lists.RowNumbers.{IsNumber-key, key-number, key-once, numbers, same_number, keys-counted}
use Rattle.desk_model.proofs.Lists.Stable.{at_least, is_le, le_from}
use Rattle.desk_model.proofs.Damage.SameDamage.{IsNumber-moved}
use Rattle.desk_model.proofs.Damage.UndamagedRows.{none-with, place-of, short-list}
use Rattle.desk_model.proofs.Books.HistoryLists.{slice_get-take}

-- what stands after so many stands there at a later place
pub from-drop : {X : Type 0} (i : ℕ) (xs : List X) (x : X) → Contains (drop i xs) x → (j : ℕ) × (i ≤ j) × (slice_get xs j ≡ Some x)
from-drop zero xs x c = let at = place-of xs x c in (at.0, omega arith, at.1)
from-drop (suc i) [] x c = absurd (Contains-none x c)
from-drop (suc i) (y ∷ xs) x c = let rest = from-drop i xs x c in let low = rest.1 in (suc rest.0, omega (arith, low), rest.2)

-- a number that doesn't come before another is no smaller
pub not_more : (a b : ℤ) (order : Ordering) → order ≡ int_cmp b a → is_lt order ≡ false → a ≤ℤ b
not_more a b order is follows = by order follows (int_ranked b a order is)
  where
    by : (order : Ordering) → is_lt order ≡ false → MatchOrdering order (b <ℤ a) (b ≡ a) (a <ℤ b) → a ≤ℤ b
    by Less follows r = absurd (cc)
    by order follows r = omega (arith, ints)

module _ {X : Type 0} (key : X → ℤ) where
  -- a row that is there is counted
  pub some-with : (x : X) (xs : List X) → Contains xs x → 1 ≤ rows_with key (key x) xs
  some-with x xs c =
      let out = taken_out xs x c in
      let test = λ (y : X). int_eq (key y) (key x) in
      let first : length (filter test (x ∷ out.0)) ≡ suc (length (filter test out.0)) =
      ap length (cond-true (test x) (x ∷ filter test out.0) (filter test out.0) ((signed_Decides (key x) (key x)).1 refl)) in
      omega (arith, length_permutation _ _ (IsPermutation-filter test _ _ out.1), first)

  -- ---- rows in order

  -- no row has a greater key than one after it
  pub rising : (xs : List X) → IsSortedByKey key int_cmp xs → (i j : ℕ) (x y : X) → i ≤ j → slice_get xs i ≡ Some x → slice_get xs j ≡ Some y → key x ≤ℤ key y
  rising xs sorted i j x y low at_x at_y =
      let far = sorted_far (λ a b. is_lt (int_cmp (key a) (key b))) (ranks_by int_cmp_total key) xs sorted i j x low (slice_get_within xs j y at_y) in
      not_more (key x) (key y) (int_cmp (key y) (key x)) refl
      (ap₂ (λ (a b : X). is_lt (int_cmp (key a) (key b))) (sym (get_or_from_slice_get xs j y x at_y)) (sym (get_or_from_slice_get xs i x x at_x)) ∙ far)

  pub from-place : (xs : List X) → IsSortedByKey key int_cmp xs → (i : ℕ) (row x : X) → slice_get xs i ≡ Some row → Contains (drop i xs) x → key row ≤ℤ key x
  from-place xs sorted i row x at c = let there = from-drop i xs x c in rising xs sorted i there.0 row x there.1 at there.2

  -- ---- the row after those that have the numbers from one on

  module _ (last : ℕ) (front back : List X) (row : X) (numbered : map key front ≡ numbers 1 (length front))
      (above : (x : X) → Contains (row ∷ back) x → key row ≤ℤ key x) where
    abbrev all : List X
    all = front ++ row ∷ back

    abbrev n : ℕ
    n = length front

    moved : IsPermutation (map key front) (map pos (range_with_len 1 n))
    moved = IsPermutation-same (map key front) (numbers 1 n) numbered

    counted : (id : ℤ) → rows_with key id all ≡ rows_with key id front + rows_with key id (row ∷ back)
    counted id =
        let test = λ (x : X). int_eq (key x) id in
        ap length (filter-append test front (row ∷ back)) ∙ length-append (filter test front) (filter test (row ∷ back))

    -- a row before it has its number, once this one has a greater key
    pub before-number : n ≤ last → (x : X) → Contains front x → ¬ (key row ≤ℤ key x) → IsNumber key last all (key x)
    before-number few x c less =
        let number = IsNumber-key key front n moved last few x c in
        let none = none-with key (key x) (row ∷ back) (λ h. less (subst (λ z. key row ≤ℤ z) h.2 (above h.0 h.1))) in
        record {
          within = number.within;
          once = omega (arith, number.once, none, counted (key x));
          next = elim number.next [
            | inl first ↦ inl first
            | inr before ↦ inr (before.0, Contains-append_left front (row ∷ back) before.0 before.1, before.2)
          ];
        }

    -- it has no number but the next one
    pub only-next : IsNumber key last all (key row) → (n < last) × (key row ≡ pos (n + 1))
    only-next number =
        let k = at_least 1 (key row) number.within.0 in
        let high = le_from k.0 last (subst (λ z. z ≤ℤ pos last) k.1 number.within.1) in
        elim (cases_lt n k.0) [
          | inl more ↦ elim (cases_lt (n + 1) k.0) [
            | inl gap ↦ absurd (elim number.next [
              | inl first ↦ let one = same_number k.0 1 (sym k.1 ∙ first) in omega (arith, one, gap)
              | inr before ↦ elim (Contains-append_cases front (row ∷ back) before.0 before.1) [
                | inl early ↦
                    let j = key-number key front n moved before.0 early in
                    let same = same_number (j.0 + 1) k.0 (ap (λ z. z +ℤ pos 1) (sym j.1) ∙ (before.2 ∙ k.1)) in
                    omega (arith, j.3, same, gap)
                | inr late ↦ let up = above before.0 late in let next = before.2 in omega (arith, ints, up, next)
              ]
            ])
            | inr none ↦ (omega (arith, more, high), k.1 ∙ ap pos (let same : k.0 ≡ n + 1 = omega (arith, more, none) in same))
          ]
          | inr few ↦ absurd (
              let early : rows_with key (key row) front ≡ 1 = subst (λ z. rows_with key z front ≡ 1) (sym k.1) (key-once key front n moved k.0 k.2 few) in
              omega (arith, number.once, counted (key row), early, some-with row (row ∷ back) (Contains-here row back))
              )
        ]

module _ {X : Type 0} (rule : RowRule X) (rows : List X) where
  -- the row after those that were taken
  pub row-at : (taken rest : List X) (row : X) → taken ++ row ∷ rest ≡ rows → slice_get rows (length taken) ≡ Some row
  row-at taken rest row are = ap (λ xs. slice_get xs (length taken)) (sym are) ∙ here-at taken rest row

  pub first-unsound : (count : ℕ) (row : X) (id : ℤ) → AreSoundUpTo rule count rows → slice_get rows count ≡ Some row → rule.id row ≡ id
      → ¬ IsSoundAt rule count row → IsFirstUnsound rule rows id
  first-unsound count row id sound at reported unsound =
      record { index = count; row = row; at = at; reported = reported; before = sound; unsound = unsound }

  sound-more : (count : ℕ) (row : X) → AreSoundUpTo rule count rows → slice_get rows count ≡ Some row → IsSoundAt rule count row → rule.HasUtf8Texts row
      → AreSoundUpTo rule (count + 1) rows
  sound-more count row sound here own texts i r less at =
      elim (cases_lt i count) [
        | inl early ↦ sound i r early at
        | inr last ↦
            let is : count ≡ i = omega (arith, less, last) in
            let both : Some row ≡ Some r = sym here ∙ (ap (slice_get rows) is ∙ at) in
            let same : row ≡ r = cc in
            subst (λ x. IsSoundAt rule i x × rule.HasUtf8Texts x) same (subst (λ k. IsSoundAt rule k row) is own, texts)
      ]

  -- a sound row more, and what is held of it
  pub held-more : {K : Type 0} (IsHeldOf : X → K → Type 0) (count : ℕ) (held : List K) (row : X) (item : K) → AreHeldUpTo rule IsHeldOf count rows held
      → slice_get rows count ≡ Some row → IsSoundAt rule count row → rule.HasUtf8Texts row → IsHeldOf row item → AreHeldUpTo rule IsHeldOf (count + 1) rows (held ++ item ∷ [])
  held-more IsHeldOf count held row item have here own texts of =
      record {
        sound = sound-more count row have.sound here own texts;
        count_is = length-append held (item ∷ []) ∙ ap (λ n. n + 1) have.count_is;
        each = λ i r k at_row at_held.
            elim (push-cases held item i k at_held) [
              | inl early ↦ have.each i r k at_row early.1
              | inr last ↦
                  let is : count ≡ i = sym have.count_is ∙ sym last.0 in
                  let both : Some row ≡ Some r = sym here ∙ (ap (slice_get rows) is ∙ at_row) in
                  let same : row ≡ r = cc in
                  subst (λ x. IsHeldOf x k) same (subst (IsHeldOf row) last.1 of)
            ];
      }

  module _ (count : ℕ) (within : count ≤ length rows) (sound : AreSoundUpTo rule count rows) where
    -- sound rows have the numbers from one on
    in-numbers : map rule.id (take count rows) ≡ numbers 1 count
    in-numbers =
        keys-counted rule.id (take count rows) (λ i row at. let there = slice_get-take rows count i row at in (sound i row there.1 there.0).0.next.1)
        ∙ ap (numbers 1) (length-take-le count rows within)

    -- and are no more than there may be
    pub few-sound : count ≤ rule.most
    few-sound =
        subst (λ n. n ≤ rule.most) (length-take-le count rows within)
        (short-list (take count rows) rule.most (λ i row at. let there = slice_get-take rows count i row at in (sound i row there.1 there.0).0.next.0))

  module _ (sound : AreSoundUpTo rule (length rows) rows) where
    pub all-numbers : map rule.id rows ≡ numbers 1 (length rows)
    all-numbers = ap (map rule.id) (sym (take-length rows)) ∙ in-numbers (length rows) (omega arith) sound

    pub number-in : (row : X) → Contains rows row → IsNumber rule.id rule.most rows (rule.id row)
    number-in row c =
        IsNumber-key rule.id rows (length rows) (IsPermutation-same (map rule.id rows) (numbers 1 (length rows)) all-numbers)
        rule.most (few-sound (length rows) (omega arith) sound) row c

-- ---- what is reported

-- rows, these in the order of their ids, and when one of them is sound: it has a number, and is sound at its index
module _ {X : Type 0} (rule : RowRule X) (rows sorted : List X) (moved : IsPermutation rows sorted) (up : AreInOrder rule.id sorted) (IsSoundRow : X → Type 0)
    (number-of : (row : X) → IsSoundRow row → IsNumber rule.id rule.most rows (rule.id row))
    (sound-row : (index : ℕ) (row : X) → slice_get sorted index ≡ Some row → IsNumber rule.id rule.most rows (rule.id row)
    → IsSoundAt rule index row → rule.HasUtf8Texts row → IsSoundRow row)
    (row-sound : (index : ℕ) (row : X) → slice_get sorted index ≡ Some row → AreSoundUpTo rule index sorted → IsNext rule.most index (rule.id row)
    → IsSoundRow row → rule.IsSound index row) where
  abbrev IsDamaged : ℤ → Type 0
  IsDamaged id = (row : X) × Contains rows row × (rule.id row ≡ id) × ¬ IsSoundRow row

  back : IsPermutation sorted rows
  back = IsPermutation-sym _ _ moved

  back-number : (row : X) → IsNumber rule.id rule.most sorted (rule.id row) → IsNumber rule.id rule.most rows (rule.id row)
  back-number row = IsNumber-moved rule.id sorted rows back rule.most (rule.id row)

  -- where each row is sound, nothing is damaged
  pub whole : AreSoundUpTo rule (length sorted) sorted → IsWhole IsDamaged
  whole sound id damaged =
      let row = damaged.0 in
      let c = Contains-permutation _ _ row moved damaged.1 in
      let place = place-of sorted row c in
      let its = sound place.0 row (slice_get_within sorted place.0 row place.1) place.1 in
      damaged.3 (sound-row place.0 row place.1 (back-number row (number-in rule sorted sound row c)) its.0 its.1)

  module _ (id : ℤ) (first : IsFirstUnsound rule sorted id) where
    abbrev front : List X
    front = take first.index sorted

    abbrev later : List X
    later = drop (first.index + 1) sorted

    left : (drop first.index sorted ≡ first.row ∷ later) × (first.index < length sorted)
    left = drop-there sorted first.index first.row first.at

    fits : first.index ≤ length sorted
    fits = let within = left.1 in omega (arith, within)

    long : length front ≡ first.index
    long = length-take-le first.index sorted fits

    parts : sorted ≡ front ++ first.row ∷ later
    parts = sym (take-append-drop first.index sorted) ∙ ap (λ xs. front ++ xs) left.0

    numbered : map rule.id front ≡ numbers 1 (length front)
    numbered = in-numbers rule sorted first.index fits first.before ∙ ap (numbers 1) (sym long)

    above : (x : X) → Contains (first.row ∷ later) x → rule.id first.row ≤ℤ rule.id x
    above x c = from-place rule.id sorted up first.index first.row x first.at (subst (λ xs. Contains xs x) (sym left.0) c)

    few : length front ≤ rule.most
    few = let most = few-sound rule sorted first.index fits first.before in omega (arith, most, long)

    unsound : ¬ IsSoundRow first.row
    unsound sound =
        let number = IsNumber-moved rule.id rows sorted moved rule.most (rule.id first.row) (number-of first.row sound) in
        let after = only-next rule.id rule.most front later first.row numbered above (subst (λ xs. IsNumber rule.id rule.most xs (rule.id first.row)) parts number) in
        let next : IsNext rule.most first.index (rule.id first.row) = subst (λ n. IsNext rule.most n (rule.id first.row)) long after in
        first.unsound (record { next = next; sound = row-sound first.index first.row first.at first.before next sound })

    -- a row before it, with a smaller id, is sound
    before-sound : (row : X) → Contains front row → ¬ (rule.id first.row ≤ℤ rule.id row) → IsSoundRow row
    before-sound row early away =
        let number = before-number rule.id rule.most front later first.row numbered above few row early away in
        let place = place-of front row early in
        let there = slice_get-take sorted first.index place.0 row place.1 in
        let its = first.before place.0 row there.1 there.0 in
        sound-row place.0 row there.0 (back-number row (subst (λ xs. IsNumber rule.id rule.most xs (rule.id row)) (sym parts) number)) its.0 its.1

    pub tells : IsFirstId IsDamaged id
    tells = (
      (first.row, Contains-permutation _ _ first.row back (Contains-there sorted first.index first.row first.at), first.reported, unsound),
      λ other damaged. elim (is_le id other) [
        | inl le ↦ le
        | inr more ↦
            let row = damaged.0 in
            let away : ¬ (rule.id first.row ≤ℤ rule.id row) =
            λ h. more (subst (λ z. z ≤ℤ other) first.reported (subst (λ z. rule.id first.row ≤ℤ z) damaged.2 h)) in
            let c = subst (λ xs. Contains xs row) parts (Contains-permutation _ _ row moved damaged.1) in
            absurd (elim (Contains-append_cases front (first.row ∷ later) row c) [
              | inr late ↦ away (above row late)
              | inl early ↦ damaged.3 (before-sound row early away)
            ])
      ],
    )
