-- A scan over the rules.
use Rattle.std.proofs.Common.{◌≡◌, ℕ, zero, suc, ◌+◌, ◌<◌, ◌≤◌, ◌⊎◌, List, [], ◌∷◌, length, Option, Some, None, sym, ap, subst, ◌∙◌, arith, inl, inr, rules, slice_get, IsSomeAnd}
use Rattle.std.specs.Option.{option_map_or}
use Rattle.std.proofs.lemmas.Bool.{cases_order}
use Rattle.louis_table.specs.Meaning.{Meaning}
use Rattle.louis_table.specs.declared.rule.Rule.{Rule}
use Rattle.louis_translate.specs.Choice.{Matches, IsCandidate, span, rank, YieldsTo, IsChosen}

-- what is found among the first k rules
pub record BestBelow (meaning : Meaning) (print : List ℕ) (i k : ℕ) (found : Option ℕ) (most : ℕ) : Type 0 where
  pub candidate : IsCandidate meaning print i found
  pub most_is : most ≡ span meaning found
  pub seen : (found ≡ None) ⊎ (rank meaning found < k)
  pub definition : YieldsTo meaning None found
  pub best : (j : ℕ) → j < k → IsCandidate meaning print i (Some j) → YieldsTo meaning (Some j) found

pub BestBelow-none : (meaning : Meaning) (print : List ℕ) (i : ℕ) → BestBelow meaning print i 0 None 1
BestBelow-none meaning print i = search rules

module _ (meaning : Meaning) (print : List ℕ) (i k : ℕ) (found : Option ℕ) (most : ℕ) (rule : Rule) (there : slice_get meaning.rules k ≡ Some rule) (lt : k < length meaning.rules) (b : BestBelow meaning print i k found most) where
  span_is : span meaning (Some k) ≡ length rule.chars
  span_is = ap (λ (o : Option Rule). option_map_or (λ r. length r.chars) o 0) there

  is_there : Matches meaning print i rule → IsCandidate meaning print i (Some k)
  is_there t = subst (λ (o : Option Rule). IsSomeAnd o (Matches meaning print i)) (sym there) t

  was_there : IsCandidate meaning print i (Some k) → Matches meaning print i rule
  was_there h = subst (λ (o : Option Rule). IsSomeAnd o (Matches meaning print i)) there h

  -- a longer rule
  pub BestBelow-longer : Matches meaning print i rule → most < length rule.chars → BestBelow meaning print i (k + 1) (Some k) (length rule.chars)
  BestBelow-longer t more =
      let here = span_is in
      let was = b.most_is in
      record {
        candidate = is_there t;
        most_is = sym span_is;
        seen = inr (omega arith);
        definition = elim b.definition [ inl p ↦ inl (omega arith) | inr p ↦ inl (omega arith) ];
        best = λ j below h. elim (cases_order j k) [
          | inl e ↦ inr (ap (λ (x : ℕ). span meaning (Some x)) e, omega arith)
          | inr ne ↦ elim ne [
            | inl less ↦ elim (b.best j less h) [ inl p ↦ inl (omega arith) | inr p ↦ inl (omega arith) ]
            | inr gt ↦ absurd (omega arith)
          ]
        ];
      }

  -- a rule as long as the definition
  pub BestBelow-first : Matches meaning print i rule → most ≡ length rule.chars → found ≡ None → BestBelow meaning print i (k + 1) (Some k) (length rule.chars)
  BestBelow-first t same none =
      let here = span_is in
      let was : most ≡ 1 = b.most_is ∙ ap (span meaning) none in
      record {
        candidate = is_there t;
        most_is = sym span_is;
        seen = inr (omega arith);
        definition = inr (omega arith, omega arith);
        best = λ j below h. elim (cases_order j k) [
          | inl e ↦ inr (ap (λ (x : ℕ). span meaning (Some x)) e, omega arith)
          | inr ne ↦ elim ne [
            | inl less ↦
                let old : YieldsTo meaning (Some j) None = subst (λ (o : Option ℕ). YieldsTo meaning (Some j) o) none (b.best j less h) in
                elim old [ inl p ↦ inl (omega arith) | inr p ↦ absurd (omega arith) ]
            | inr gt ↦ absurd (omega arith)
          ]
        ];
      }

  -- a rule that is passed over
  pub BestBelow-pass : (Matches meaning print i rule → YieldsTo meaning (Some k) found) → BestBelow meaning print i (k + 1) found most
  BestBelow-pass f =
      record {
        candidate = b.candidate;
        most_is = b.most_is;
        seen = elim b.seen [ inl e ↦ inl e | inr p ↦ inr (omega arith) ];
        definition = b.definition;
        best = λ j below h. elim (cases_order j k) [
          | inl e ↦ subst (λ (x : ℕ). YieldsTo meaning (Some x) found) (sym e) (f (was_there (subst (λ (x : ℕ). IsCandidate meaning print i (Some x)) e h)))
          | inr ne ↦ elim ne [
            | inl less ↦ b.best j less h
            | inr gt ↦ absurd (omega arith)
          ]
        ];
      }

  pub YieldsTo-shorter : length rule.chars < most → YieldsTo meaning (Some k) found
  YieldsTo-shorter h = let here = span_is in let was = b.most_is in inl (omega arith)

  -- a rule without characters is shorter than what was found
  pub YieldsTo-empty : length rule.chars ≡ 0 → YieldsTo meaning (Some k) found
  YieldsTo-empty h =
      let here = span_is in
      let was = b.most_is in
      elim b.definition [ inl p ↦ inl (omega arith) | inr p ↦ inl (omega arith) ]

  pub YieldsTo-later : most ≡ length rule.chars → (found ≡ None → ⊥) → YieldsTo meaning (Some k) found
  YieldsTo-later e ne = let here = span_is in let was = b.most_is in elim b.seen [ inl n ↦ absurd (ne n) | inr p ↦ inr (omega arith, omega arith) ]

pub candidate_below : (meaning : Meaning) (print : List ℕ) (i k : ℕ) → IsCandidate meaning print i (Some k) → k < length meaning.rules
candidate_below meaning print i k h = below meaning.rules k h
  where
    below : (rules : List Rule) (k : ℕ) → IsSomeAnd (slice_get rules k) (Matches meaning print i) → k < length rules
    below [] k h = absurd h
    below (r ∷ rules) zero h = omega arith
    below (r ∷ rules) (suc k) h = let l = below rules k h in omega arith

pub BestBelow-all : (meaning : Meaning) (print : List ℕ) (i k : ℕ) (found : Option ℕ) (most : ℕ) → length meaning.rules ≤ k → BestBelow meaning print i k found most → IsChosen meaning print i found
BestBelow-all meaning print i k found most le b =
    record { candidate = b.candidate; first = all }
  where
    all : (d : Option ℕ) → IsCandidate meaning print i d → YieldsTo meaning d found
    all None h = b.definition
    all (Some j) h = let l = candidate_below meaning print i j h in b.best j (omega arith) h
