-- A table that says nothing of numeric mode has the same signs with it and without.
use Rattle.std.proofs.Common.{◌≡◌, ℕ, zero, suc, ◌-◌, Bool, false, cond, List, [], Option, Some, None, refl, sym, ap, subst, ◌∙◌, arith, ◌&&◌, ◌||◌, ◌==◌, nat_eq, not, slice_get}
use Rattle.std.proofs.lemmas.Bool.Decides.{nat_tests}
use Rattle.std.specs.List.{list_any}
use Rattle.std.specs.Option.{option_map_or}
use Rattle.std.proofs.Math.Path.{fun_ext}
use Rattle.std.proofs.Math.Bool.{and-false, or-false}
use Rattle.louis_table.specs.declared.character_set.CharacterSet.{CharacterSet}
use Rattle.louis_table.specs.declared.character_set.CharacterSet.TheVariants as sets
use Rattle.louis_table.specs.declared.sign.Sign.TheVariants as signs
use Rattle.louis_table.specs.Meaning.{Meaning, sign_cells, set_characters}
use Rattle.louis_translate.specs.Position.{class_at, class_before, is_digit}
use Rattle.louis_translate.specs.Sign.{is_capital_at, is_digit_at, is_mode_char, is_mode_char_at, is_nocontract_char, is_nocontract_char_at, is_in_numeric_mode, follows_number, ends_number, capital_sign, plain_sign_at, sign_at}
use Rattle.louis_translate.specs.Tiling.{TilesBy}
use Rattle.louis_translate.specs.Braille.{braille_by, IsOutputPlaceBy, IsPrintPlaceBy}
use Rattle.louis_translate.specs.Profiles.{AreAlike}
use Rattle.louis_translate.proofs.Numbers.{is_in_numeric_mode-is, follows_number-next}

nowhere : (p : ℕ → Bool) (print : List ℕ) (i : ℕ) → ((c : ℕ) → p c ≡ false) → option_map_or p (slice_get print i) false ≡ false
nowhere p print i h = at (slice_get print i)
  where
    at : (o : Option ℕ) → option_map_or p o false ≡ false
    at None = refl
    at (Some c) = h c

never : {A : Type 0} (i : ℕ) (x y : A) → cond (suc i == 0) x y ≡ y
never i x y = grind (arith, nat_tests)

module _ (meaning : Meaning) (print : List ℕ) (none : (set : CharacterSet) → set_characters meaning set ≡ []) where
  no_mode_char : (i : ℕ) → is_mode_char_at meaning print i ≡ false
  no_mode_char i = nowhere (is_mode_char meaning) print i (λ c. ap (list_any (λ d. nat_eq d c)) (none sets.NumericMode))

  no_nocontract_char : (i : ℕ) → is_nocontract_char_at meaning print i ≡ false
  no_nocontract_char i = nowhere (is_nocontract_char meaning) print i (λ c. ap (list_any (λ d. nat_eq d c)) (none sets.NoContraction))

  digits_alone : (i : ℕ) → is_in_numeric_mode meaning print i ≡ is_digit_at meaning print i
  digits_alone i =
      is_in_numeric_mode-is meaning print i
      ∙ (ap (λ (b : Bool). is_digit_at meaning print i || (follows_number meaning print i && b)) (no_mode_char i)
      ∙ (ap (λ (b : Bool). is_digit_at meaning print i || b) (and-false (follows_number meaning print i)) ∙ or-false (is_digit_at meaning print i)))

  after_digit : (i : ℕ) → follows_number meaning print i ≡ is_digit (class_before meaning print i)
  after_digit zero = refl
  after_digit (suc i) =
      follows_number-next meaning print i
      ∙ (digits_alone i ∙ sym (later i ∙ ap (is_digit_at meaning print) (let e : suc i - 1 ≡ i = omega arith in e)))
    where
      later : (i : ℕ) → is_digit (class_before meaning print (suc i)) ≡ is_digit_at meaning print (suc i - 1)
      later i = ap is_digit (never i None (class_at meaning print (suc i - 1)))

  no_end : (i : ℕ) → ends_number meaning print i ≡ false
  no_end i = ap (λ (b : Bool). follows_number meaning print i && not (is_in_numeric_mode meaning print i) && b) (no_nocontract_char i) ∙ and-false _

  pub same_sign : (i : ℕ) → plain_sign_at meaning print i ≡ sign_at meaning print i
  same_sign i =
      ap (λ (b : Bool). cond (is_digit_at meaning print i) (cond b [] (sign_cells meaning signs.Number))
      (cond (is_capital_at meaning print i) (capital_sign meaning print i) [])) (sym (after_digit i))
      ∙ ap (λ (b : Bool). cond (is_digit_at meaning print i) (cond (follows_number meaning print i) [] (sign_cells meaning signs.Number))
      (cond (is_capital_at meaning print i) (capital_sign meaning print i) (cond b (sign_cells meaning signs.NoContraction) []))) (sym (no_end i))

  pub alike : AreAlike meaning print
  alike =
      let same : plain_sign_at meaning print ≡ sign_at meaning print = fun_ext same_sign in
      let back = sym same in
      record {
        signs = same_sign;
        tilings = λ t. (subst (λ (s : ℕ → List ℕ). TilesBy s meaning print t) same, subst (λ (s : ℕ → List ℕ). TilesBy s meaning print t) back);
        cells = λ t. ap (λ (s : ℕ → List ℕ). braille_by s meaning print t) same;
        outputs = λ t i place. (
          subst (λ (s : ℕ → List ℕ). IsOutputPlaceBy s meaning print t i place) same,
          subst (λ (s : ℕ → List ℕ). IsOutputPlaceBy s meaning print t i place) back,
        );
        inputs = λ t cell place. (
          subst (λ (s : ℕ → List ℕ). IsPrintPlaceBy s meaning print t cell place) same,
          subst (λ (s : ℕ → List ℕ). IsPrintPlaceBy s meaning print t cell place) back,
        );
      }
