use Rattle.std.proofs.Common.{◌≡◌, ◌∙◌, ◌^◌, ◌<◌, ℕ, List, [], Option, Some, None, refl, sym, subst, ap, MatchOption, Ok, Err, Result, unwrap_or}
use Rattle.std.specs.Str.Parse.{ExplainsUnsignedError, HasUnsignedDigitsIfOk, IsNumeral, ParsesUnsigned, digits_value, without_leading_plus}
use Rattle.clap.specs.Words.{Text, found_of, one_of, one_text, rows_of, ReadsOne}
use Rattle.clap.specs.declared.parser.matches.Found.{Found}
use Rattle.clap.proofs.WalkLemmas.{one_text-rows}
use Rattle.desk_words.specs.Action.{Counts}
use Rattle.desk_words.proofs.action.number_of.Goals as goal

module _ (E : Type 0) (G : List ℕ → Result ℕ E → Type 0) (only : (t : List ℕ) (r : Result ℕ E) → G t r → ParsesUnsigned 64 10 t r) (f : Found) (id : Text) where
  unread : one_of id (rows_of f) ≡ None → (number : ℕ) → ¬ Counts (rows_of f) id number
  unread none number h = let e = sym none ∙ h.given in cc

  read : (text : Text) → one_of id (rows_of f) ≡ Some text → (result : Option ℕ) → ReadsOne G text result → MatchOption result ((number : ℕ) → ¬ Counts (rows_of f) id number) (Counts (rows_of f) id)
  read text given (Some number) h =
      let p = only text (Ok number) h in
      record { text = text; given = given; numeral = p.0.0; value = p.1; fits = subst (λ (n : ℕ). n < 2 ^ 64) (sym p.1) p.0.1 }
  read text given None h = λ number counts.
      let e : counts.text ≡ text = ap (λ (o : Option Text). unwrap_or o []) (sym counts.given ∙ given) in
      let numeral : IsNumeral 10 (without_leading_plus text) = subst (λ (t : Text). IsNumeral 10 (without_leading_plus t)) e counts.numeral in
      let fits : digits_value 10 (without_leading_plus text) < 2 ^ 64 =
      subst (λ (t : Text). digits_value 10 (without_leading_plus t) < 2 ^ 64) e (subst (λ (n : ℕ). n < 2 ^ 64) counts.value counts.fits) in
      only text (Err h.0) h.1 (numeral, fits)

  number : (result : Option ℕ) → (one_text f id ≡ None → result ≡ None) → ((t : List ℕ) → one_text f id ≡ Some t → ReadsOne G t result)
      → MatchOption result ((n : ℕ) → ¬ Counts (rows_of f) id n) (Counts (rows_of f) id)
  number result none some = go (one_text f id) refl
    where
      go : (o : Option Text) → one_text f id ≡ o → MatchOption result ((n : ℕ) → ¬ Counts (rows_of f) id n) (Counts (rows_of f) id)
      go None e = rw (none e) (unread (sym (one_text-rows f id) ∙ e))
      go (Some text) e = read text (sym (one_text-rows f id) ∙ e) result (some text e)

pub returns : goal.returns
returns c =
    number _ (λ bs r. ParsesUnsigned 64 10 bs r × ExplainsUnsignedError 10 bs r × HasUnsignedDigitsIfOk bs r) (λ t r g. g.0) (found_of c.args.matches.now) c.args.id.now
    c.get_one.result c.get_one.ensures.none c.get_one.ensures.value
