-- Which places are in numeric mode.
use Rattle.std.proofs.Common.{◌≡◌, ℕ, zero, suc, ◌+◌, ◌-◌, ◌<◌, ◌≤◌, Bool, true, false, cond, List, length, get_or, slice_get, Option, Some, refl, sym, ap, ◌∙◌, arith, inl, inr, ◌&&◌, ◌||◌, ◌==◌, not, add-one}
use Rattle.std.specs.List.{list_all, list_any, range_with_len}
use Rattle.std.specs.Option.{option_map_or}
use Rattle.std.proofs.lemmas.Bool.{cases_Bool, cases_order, both_ways}
use Rattle.std.proofs.lemmas.Bool.Decides.{nat_tests}
use Rattle.std.proofs.lemmas.List.{get_or_read}
use Rattle.std.proofs.Math.Bool.{and-false}
use Rattle.louis_table.specs.Meaning.{Meaning}
use Rattle.louis_translate.specs.Sign.{is_digit_at, is_mode_char, is_mode_char_at, is_nocontract_char, is_nocontract_char_at, goes_on_at, is_number_from, is_in_numeric_mode, IsInNumericMode, follows_number, ends_number}
use Rattle.louis_translate.proofs.Runs.{passes-get_or}

-- ---- tests of neighbouring numbers

pub all_in_range : (p : ℕ → Bool) (a n : ℕ) → ((k : ℕ) → a ≤ k → k < a + n → p k ≡ true) → list_all p (range_with_len a n) ≡ true
all_in_range p a zero h = refl
all_in_range p a (suc n) h =
    rw (h a (omega arith) (omega arith)) (all_in_range p (a + 1) n (λ k more less. h k (omega arith) (omega arith)))

pub in_range_of_all : (p : ℕ → Bool) (a n : ℕ) → list_all p (range_with_len a n) ≡ true → (k : ℕ) → a ≤ k → k < a + n → p k ≡ true
in_range_of_all p a zero h k more less = absurd (omega arith)
in_range_of_all p a (suc n) h k more less =
    elim (cases_Bool (p a)) [
      | inr fails ↦ let never = rw fails at h in absurd (both_ways _ refl never)
      | inl holds ↦ elim (cases_order k a) [
        | inl e ↦ ap p e ∙ holds
        | inr ne ↦ elim ne [
          | inl under ↦ absurd (omega arith)
          | inr over ↦ in_range_of_all p (a + 1) n (rw holds at h) k (omega arith) (omega arith)
        ]
      ]
    ]

any_in_range : (p : ℕ → Bool) (a n k : ℕ) → a ≤ k → k < a + n → p k ≡ true → list_any p (range_with_len a n) ≡ true
any_in_range p a zero k more less h = absurd (omega arith)
any_in_range p a (suc n) k more less h =
    elim (cases_Bool (p a)) [
      | inl holds ↦ rw holds refl
      | inr fails ↦ elim (cases_order k a) [
        | inl e ↦ absurd (both_ways _ fails (ap p (sym e) ∙ h))
        | inr ne ↦ elim ne [
          | inl under ↦ absurd (omega arith)
          | inr over ↦ rw fails (any_in_range p (a + 1) n k (omega arith) (omega arith) h)
        ]
      ]
    ]

in_range_of_any : (p : ℕ → Bool) (a n : ℕ) → list_any p (range_with_len a n) ≡ true → (k : ℕ) × (a ≤ k) × (k < a + n) × (p k ≡ true)
in_range_of_any p a zero h = absurd (both_ways _ refl h)
in_range_of_any p a (suc n) h =
    elim (cases_Bool (p a)) [
      | inl holds ↦ (a, omega arith, omega arith, holds)
      | inr fails ↦
          let rest = in_range_of_any p (a + 1) n (rw fails at h) in
          (rest.0, omega (arith, rest.1), omega (arith, rest.2), rest.3)
    ]

later : (i : ℕ) (x : Bool) → cond (suc i == 0) false x ≡ x
later i x = grind (arith, nat_tests)

-- ---- the mode as a relation

module _ (meaning : Meaning) (print : List ℕ) where
  pub IsInNumericMode-from : (i : ℕ) → is_in_numeric_mode meaning print i ≡ true → IsInNumericMode meaning print i
  IsInNumericMode-from i h =
      let found = in_range_of_any (is_number_from meaning print i) 0 (i + 1) h in
      elim (cases_Bool (is_digit_at meaning print found.0)) [
        | inr fails ↦ let never = rw fails at found.3 in absurd (both_ways _ refl never)
        | inl digit ↦ record {
          from = found.0;
          order = omega (arith, found.2);
          digit = digit;
          goes_on = λ k more less. in_range_of_all (goes_on_at meaning print) found.0 (i + 1 - found.0) (rw digit at found.3) k more (omega (arith, found.2));
        }
      ]

  pub is_in_numeric_mode-from : (i : ℕ) → IsInNumericMode meaning print i → is_in_numeric_mode meaning print i ≡ true
  is_in_numeric_mode-from i h =
      let order = h.order in
      any_in_range (is_number_from meaning print i) 0 (i + 1) h.from (omega arith) (omega arith)
      (rw h.digit (all_in_range (goes_on_at meaning print) h.from (i + 1 - h.from) (λ k more less. h.goes_on k more (omega arith))))

  -- ---- one place further

  mode_of_digit : (i : ℕ) → is_digit_at meaning print i ≡ true → IsInNumericMode meaning print i
  mode_of_digit i digit = record {
    from = i;
    order = omega arith;
    digit = digit;
    goes_on = λ k more less. let e : k ≡ i = omega arith in rw (ap (is_digit_at meaning print) e ∙ digit) refl;
  }

  mode_goes_on : (i : ℕ) → goes_on_at meaning print (suc i) ≡ true → IsInNumericMode meaning print i → IsInNumericMode meaning print (suc i)
  mode_goes_on i on h = let order = h.order in record {
    from = h.from;
    order = omega arith;
    digit = h.digit;
    goes_on = λ k more less. elim (cases_order k (suc i)) [
      | inl e ↦ ap (goes_on_at meaning print) e ∙ on
      | inr ne ↦ elim ne [ inl under ↦ h.goes_on k more (omega arith) | inr over ↦ absurd (omega arith) ]
    ];
  }

  -- if a place that isn't a digit is in numeric mode, so is the one before it
  mode_went_on : (i : ℕ) → is_digit_at meaning print (suc i) ≡ false → IsInNumericMode meaning print (suc i) → IsInNumericMode meaning print i
  mode_went_on i fails h = let order = h.order in elim (cases_order h.from (suc i)) [
    | inl e ↦ absurd (both_ways _ fails (ap (is_digit_at meaning print) (sym e) ∙ h.digit))
    | inr ne ↦ elim ne [
      | inr over ↦ absurd (omega arith)
      | inl under ↦ record {
        from = h.from;
        order = omega arith;
        digit = h.digit;
        goes_on = λ k more less. h.goes_on k more (omega arith);
      }
    ]
  ]

  no_mode : (i : ℕ) → (IsInNumericMode meaning print i → ⊥) → is_in_numeric_mode meaning print i ≡ false
  no_mode i never = elim (cases_Bool (is_in_numeric_mode meaning print i)) [
    | inl holds ↦ absurd (never (IsInNumericMode-from i holds))
    | inr fails ↦ fails
  ]

  pub follows_number-next : (i : ℕ) → follows_number meaning print (suc i) ≡ is_in_numeric_mode meaning print i
  follows_number-next i = later i (is_in_numeric_mode meaning print (suc i - 1)) ∙ ap (is_in_numeric_mode meaning print) (let e : suc i - 1 ≡ i = omega arith in e)

  no_digit : (i : ℕ) → is_digit_at meaning print i ≡ false
      → is_in_numeric_mode meaning print i ≡ (follows_number meaning print i && is_mode_char_at meaning print i)
  no_digit zero fails = no_mode 0 (λ h. let order = h.order in let e : h.from ≡ 0 = omega arith in both_ways _ fails (ap (is_digit_at meaning print) (sym e) ∙ h.digit))
  no_digit (suc i) fails =
      let follows = follows_number-next i in
      elim (cases_Bool (is_in_numeric_mode meaning print i)) [
        | inr never ↦
            no_mode (suc i) (λ h. both_ways _ never (is_in_numeric_mode-from i (mode_went_on i fails h)))
            ∙ rw (follows ∙ never) refl
        | inl was ↦ elim (cases_Bool (is_mode_char_at meaning print (suc i))) [
          | inl on ↦
              is_in_numeric_mode-from (suc i) (mode_goes_on i (rw (fails, on) refl) (IsInNumericMode-from i was))
              ∙ rw (follows ∙ was, on) refl
          | inr off ↦
              no_mode (suc i) (λ h. both_ways _ (rw (fails, off) refl) (h.goes_on (suc i) h.order (omega arith)))
              ∙ rw (follows ∙ was, off) refl
        ]
      ]

  -- a place is in numeric mode if it has a digit, or follows a number with a character that continues it
  pub is_in_numeric_mode-is : (i : ℕ) → is_in_numeric_mode meaning print i
      ≡ (is_digit_at meaning print i || (follows_number meaning print i && is_mode_char_at meaning print i))
  is_in_numeric_mode-is i = elim (cases_Bool (is_digit_at meaning print i)) [
    | inl digit ↦ is_in_numeric_mode-from i (mode_of_digit i digit) ∙ rw digit refl
    | inr fails ↦ no_digit i fails ∙ rw fails refl
  ]

  mode_char_here : (i : ℕ) → i < length print → is_mode_char_at meaning print i ≡ is_mode_char meaning (get_or print i 0)
  mode_char_here i lt = passes-get_or (is_mode_char meaning) print i 0 lt

  -- ---- one step along the print

  -- what follows a place, by the character there
  pub follows_number-step : (i : ℕ) → i < length print → follows_number meaning print (suc i)
      ≡ (is_digit_at meaning print i || (follows_number meaning print i && is_mode_char meaning (get_or print i 0)))
  follows_number-step i lt =
      follows_number-next i ∙ (is_in_numeric_mode-is i
      ∙ ap (λ (b : Bool). is_digit_at meaning print i || (follows_number meaning print i && b)) (mode_char_here i lt))

  -- the same, back from a place that isn't the first
  before : (i : ℕ) → 0 < i → i ≤ length print → follows_number meaning print i
      ≡ (is_digit_at meaning print (i - 1) || (follows_number meaning print (i - 1) && is_mode_char meaning (get_or print (i - 1) 0)))
  before i some le =
      ap (follows_number meaning print) (let e : i ≡ suc (i - 1) = omega arith in e) ∙ follows_number-step (i - 1) (omega arith)

  here : (i c : ℕ) → i < length print → c ≡ get_or print i c → is_mode_char meaning (get_or print i 0) ≡ is_mode_char meaning c
  here i c lt there = ap (is_mode_char meaning) (sym (get_or_read print i c lt there 0))

  pub follows_number-digit : (i : ℕ) → 0 < i → i ≤ length print → is_digit_at meaning print (i - 1) ≡ true → follows_number meaning print i ≡ true
  follows_number-digit i some le digit = before i some le ∙ rw digit refl

  pub follows_number-end : (i c : ℕ) → 0 < i → i ≤ length print → is_digit_at meaning print (i - 1) ≡ false
      → c ≡ get_or print (i - 1) c → is_mode_char meaning c ≡ false → follows_number meaning print i ≡ false
  follows_number-end i c some le none there off =
      before i some le ∙ rw (none, here (i - 1) c (omega arith) there ∙ off) (and-false (follows_number meaning print (i - 1)))

  pub follows_number-back : (i c : ℕ) → 0 < i → i ≤ length print → is_digit_at meaning print (i - 1) ≡ false
      → c ≡ get_or print (i - 1) c → is_mode_char meaning c ≡ true → follows_number meaning print i ≡ follows_number meaning print (i - 1)
  follows_number-back i c some le none there on =
      before i some le ∙ rw (none, here (i - 1) c (omega arith) there ∙ on) (same (follows_number meaning print (i - 1)))
    where
      same : (b : Bool) → (b && true) ≡ b
      same true = refl
      same false = refl

  pub follows_number-after : (i : ℕ) → i < length print → is_digit_at meaning print i ≡ true → follows_number meaning print (i + 1) ≡ true
  follows_number-after i lt digit = ap (follows_number meaning print) (add-one i) ∙ (follows_number-step i lt ∙ rw digit refl)

  pub follows_number-never : (i : ℕ) → i < length print → is_digit_at meaning print i ≡ false → follows_number meaning print i ≡ false
      → follows_number meaning print (i + 1) ≡ false
  follows_number-never i lt none off = ap (follows_number meaning print) (add-one i) ∙ (follows_number-step i lt ∙ rw (none, off) refl)

  -- no number continues over a character that is neither a digit nor one that continues a number
  pub follows_number-off : (i c : ℕ) → slice_get print i ≡ Some c → is_digit_at meaning print i ≡ false → is_mode_char meaning c ≡ false
      → follows_number meaning print (i + 1) ≡ false
  follows_number-off i c there none off =
      ap (follows_number meaning print) (add-one i)
      ∙ (follows_number-next i ∙ (is_in_numeric_mode-is i
      ∙ rw (none, ap (λ (o : Option ℕ). option_map_or (is_mode_char meaning) o false) there ∙ off) (and-false (follows_number meaning print i))))

  pub follows_number-on : (i c : ℕ) → i < length print → is_digit_at meaning print i ≡ false → follows_number meaning print i ≡ true
      → c ≡ get_or print i c → follows_number meaning print (i + 1) ≡ is_mode_char meaning c
  follows_number-on i c lt none on there = ap (follows_number meaning print) (add-one i) ∙ (follows_number-step i lt ∙ rw (none, on) (here i c lt there))

  -- whether a number has ended before a place that has no digit, by the character there
  ends_number-is : (i : ℕ) → i < length print → is_digit_at meaning print i ≡ false → ends_number meaning print i
      ≡ (follows_number meaning print i && (not (is_mode_char meaning (get_or print i 0)) && is_nocontract_char meaning (get_or print i 0)))
  ends_number-is i lt none =
      ap (λ (b : Bool). follows_number meaning print i && not b && is_nocontract_char_at meaning print i)
      (no_digit i none ∙ ap (λ (b : Bool). follows_number meaning print i && b) (mode_char_here i lt))
      ∙ (ap (λ (b : Bool). follows_number meaning print i && not (follows_number meaning print i && is_mode_char meaning (get_or print i 0)) && b)
      (passes-get_or (is_nocontract_char meaning) print i 0 lt)
      ∙ parts (follows_number meaning print i) (is_mode_char meaning (get_or print i 0)) (is_nocontract_char meaning (get_or print i 0)))
    where
      parts : (a b c : Bool) → (a && not (a && b) && c) ≡ (a && (not b && c))
      parts true b c = refl
      parts false b c = refl

  pub ends_number-never : (i : ℕ) → i < length print → is_digit_at meaning print i ≡ false → follows_number meaning print i ≡ false
      → ends_number meaning print i ≡ false
  ends_number-never i lt none off = ends_number-is i lt none ∙ rw off refl

  pub ends_number-here : (i c : ℕ) → i < length print → is_digit_at meaning print i ≡ false → follows_number meaning print i ≡ true
      → c ≡ get_or print i c → ends_number meaning print i ≡ (not (is_mode_char meaning c) && is_nocontract_char meaning c)
  ends_number-here i c lt none on there =
      ends_number-is i lt none ∙ rw on (ap (λ (d : ℕ). not (is_mode_char meaning d) && is_nocontract_char meaning d) (sym (get_or_read print i c lt there 0)))
