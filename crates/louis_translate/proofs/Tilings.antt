-- Tilings: one for each print.
use Rattle.std.proofs.Common.{◌≡◌, ℕ, zero, suc, ◌+◌, ◌-◌, ◌<◌, ◌≤◌, ◌⊎◌, List, [], ◌∷◌, ◌++◌, length, Option, Some, None, refl, sym, ap, subst, ◌∙◌, arith, inl, inr, rules, slice_get, true, false, ◌&&◌, nat_lt, if◌then◌else◌, Decides, add-one}
use Rattle.std.specs.List.{list_all, range_with_len}
use Rattle.std.specs.Option.{option_map_or}
use Rattle.std.proofs.lemmas.Bool.{cases_order, cases_Bool, both_ways, eqb-true, eq-eqb, ltb-true, lt-ltb}
use Rattle.std.proofs.lemmas.Bool.Decides.{nat_tests}
use Rattle.std.proofs.lemmas.Slice.Eq.{bytes_eq-Decides}
use Rattle.std.proofs.lemmas.List.{nil_from_length}
use Rattle.louis_table.specs.Meaning.{Meaning}
use Rattle.louis_table.specs.declared.rule.Rule.{Rule}
use Rattle.louis_translate.specs.declared.choices.Choice.{Choice}
use Rattle.louis_translate.specs.Sign.{sign_at}
use Rattle.louis_translate.specs.Choice.{Matches, IsCandidate, span, rank, YieldsTo, IsChosen}
use Rattle.louis_translate.specs.Left.{has_no_sign, matches, to_beat, goes_before, chosen_of, choice_at, some_from, choices_from}
use Rattle.louis_translate.specs.Tiling.{IsChoiceAt, Covers, Tiles}
use Rattle.louis_translate.proofs.Best.{BestBelow, BestBelow-none, BestBelow-longer, BestBelow-first, BestBelow-pass, BestBelow-all, YieldsTo-shorter, YieldsTo-later, YieldsTo-empty, candidate_below}
use Rattle.louis_translate.proofs.Numbers.{all_in_range, in_range_of_all}
use Rattle.louis_translate.proofs.Spans.{span-positive, span-fits}

-- ---- one choice at a place

same_rank : (meaning : Meaning) (print : List ℕ) (i : ℕ) (c d : Option ℕ) → IsCandidate meaning print i c → IsCandidate meaning print i d → rank meaning c ≡ rank meaning d → c ≡ d
same_rank meaning print i None None h k e = refl
same_rank meaning print i None (Some b) h k e = let l = candidate_below meaning print i b k in absurd (omega arith)
same_rank meaning print i (Some a) None h k e = let l = candidate_below meaning print i a h in absurd (omega arith)
same_rank meaning print i (Some a) (Some b) h k e = ap Some e

pub one_chosen : (meaning : Meaning) (print : List ℕ) (i : ℕ) (c d : Option ℕ) → IsChosen meaning print i c → IsChosen meaning print i d → c ≡ d
one_chosen meaning print i c d h k = search (rules, same_rank)

pub same_choice : (meaning : Meaning) (print : List ℕ) (i : ℕ) (c d : Choice) → IsChoiceAt meaning print i c → IsChoiceAt meaning print i d → c ≡ d
same_choice meaning print i c d h k =
    let rule : c.rule ≡ d.rule = one_chosen meaning print i c.rule d.rule h.chosen k.chosen in
    let start : c.start ≡ d.start = h.start ∙ sym k.start in
    let end : c.end ≡ d.end = h.end ∙ (ap (λ (o : Option ℕ). i + span meaning o) rule ∙ sym k.end) in
    made c.rule c.start c.end d.rule d.start d.end rule start end
  where
    made : (r : Option ℕ) (s e : ℕ) (r' : Option ℕ) (s' e' : ℕ) → r ≡ r' → s ≡ s' → e ≡ e' → (let x : Choice = record { rule = r; start = s; end = e } in x) ≡ record { rule = r'; start = s'; end = e' }
    made r s e r' s' e' p q t = rw (p, q, t) refl

-- ---- at most one tiling

pub one_cover : (meaning : Meaning) (print : List ℕ) (i : ℕ) (t u : List Choice) → Covers meaning print i t (length print) → Covers meaning print i u (length print) → t ≡ u
one_cover meaning print i [] [] h k = refl
one_cover meaning print i [] (d ∷ u) h k = absurd (omega arith)
one_cover meaning print i (c ∷ t) [] h k = absurd (omega arith)
one_cover meaning print i (c ∷ t) (d ∷ u) h k =
    let same : c ≡ d = same_choice meaning print i c d h.1 k.1 in
    let rest : Covers meaning print c.end u (length print) = subst (λ (x : Choice). Covers meaning print x.end u (length print)) (sym same) k.2 in
    ap (λ (x : Choice). x ∷ t) same ∙ ap (λ (xs : List Choice). d ∷ xs) (one_cover meaning print c.end t u h.2 rest)

-- the chosen one stands at the front of what covers the rest of the print
pub Covers-next : (meaning : Meaning) (print : List ℕ) (i : ℕ) (t : List Choice) (c : Choice) → Covers meaning print i t (length print) → i < length print → IsChoiceAt meaning print i c → (u : List Choice) × (t ≡ c ∷ u) × Covers meaning print c.end u (length print)
Covers-next meaning print i [] c h lt d = absurd (omega arith)
Covers-next meaning print i (x ∷ t) c h lt d =
    let same : x ≡ c = same_choice meaning print i x c h.1 d in
    (t, ap (λ (y : Choice). y ∷ t) same, subst (λ (y : Choice). Covers meaning print y.end t (length print)) same h.2)

-- ---- what choices cover

pub Covers-push : (meaning : Meaning) (print : List ℕ) (i j : ℕ) (t : List Choice) (c : Choice) → Covers meaning print i t j → j < length print → IsChoiceAt meaning print j c → Covers meaning print i (t ++ c ∷ []) c.end
Covers-push meaning print i j [] c h lt d = subst (λ (x : ℕ). (x < length print) × IsChoiceAt meaning print x c × (c.end ≡ c.end)) (sym h) (lt, d, refl)
Covers-push meaning print i j (x ∷ t) c h lt d = (h.0, h.1, Covers-push meaning print x.end j t c h.2 lt d)

pub Covers-append : (meaning : Meaning) (print : List ℕ) (i j k : ℕ) (t u : List Choice) → Covers meaning print i t j → Covers meaning print j u k → Covers meaning print i (t ++ u) k
Covers-append meaning print i j k [] u h l = subst (λ (x : ℕ). Covers meaning print x u k) (sym h) l
Covers-append meaning print i j k (x ∷ t) u h l = (h.0, h.1, Covers-append meaning print x.end j k t u h.2 l)

-- ---- the tiling as a function

no_signs_decide : (meaning : Meaning) (print : List ℕ) (i n : ℕ)
    → Decides (list_all (has_no_sign meaning print) (range_with_len (i + 1) (n - 1))) ((k : ℕ) → i < k → k < i + n → sign_at meaning print k ≡ [])
no_signs_decide meaning print i n = (
  (λ all k more less. nil_from_length (sign_at meaning print k) (eqb-true _ _ (in_range_of_all (has_no_sign meaning print) (i + 1) (n - 1) all k (omega arith) (omega arith)))),
  (λ each. all_in_range (has_no_sign meaning print) (i + 1) (n - 1) (λ k more less. eq-eqb _ _ (ap length (each k (omega arith) (omega arith))))),
)

matches_tells : (meaning : Meaning) (print : List ℕ) (i : ℕ) (rule : Rule)
    → ((matches meaning print i rule ≡ true) × Matches meaning print i rule) ⊎ ((matches meaning print i rule ≡ false) × (Matches meaning print i rule → ⊥))
matches_tells meaning print i rule = search (rules, bytes_eq-Decides, no_signs_decide, cases_Bool, both_ways)

at_place : (rs : List Rule) (k : ℕ) → k < length rs → (r : Rule) × (slice_get rs k ≡ Some r)
at_place [] k h = absurd (omega arith)
at_place (r ∷ rs) zero h = (r, refl)
at_place (r ∷ rs) (suc k) h = at_place rs k (omega arith)

not_less : (a b : ℕ) → nat_lt a b ≡ false → b ≤ a
not_less a b fails = search rules

module _ (meaning : Meaning) (print : List ℕ) (i : ℕ) where
  -- what was found, after one more rule
  step_best : (k : ℕ) (found : Option ℕ) (most : ℕ) → k < length meaning.rules → BestBelow meaning print i k found most
      → (n : ℕ) × BestBelow meaning print i (k + 1) (if goes_before meaning print i k found then Some k else found) n
  step_best k found most lt b =
      let at = at_place meaning.rules k lt in
      let rule = at.0 in
      let is : goes_before meaning print i k found ≡ (matches meaning print i rule && nat_lt (to_beat meaning found) (length rule.chars)) =
      ap (λ (o : Option Rule). option_map_or (λ r. matches meaning print i r && nat_lt (to_beat meaning found) (length r.chars)) o false) at.1 in
      elim (matches_tells meaning print i rule) [
        | inr fails ↦
            let passed : goes_before meaning print i k found ≡ false = is ∙ rw fails.0 refl in
            (most, rw passed (BestBelow-pass meaning print i k found most rule at.1 lt b (λ m. absurd (fails.1 m))))
        | inl holds ↦ elim (cases_Bool (nat_lt (to_beat meaning found) (length rule.chars))) [
          | inl longer ↦
              let taken : goes_before meaning print i k found ≡ true = is ∙ rw (holds.0, longer) refl in
              (length rule.chars, rw taken (better found most rule at.1 lt b holds.1 (ltb-true _ _ longer)))
          | inr not ↦
              let passed : goes_before meaning print i k found ≡ false = is ∙ rw (holds.0, not) refl in
              (most, rw passed (BestBelow-pass meaning print i k found most rule at.1 lt b (λ _. worse found most rule at.1 lt b not)))
        ]
      ]
    where
      better : (found : Option ℕ) (most : ℕ) (rule : Rule) → slice_get meaning.rules k ≡ Some rule → k < length meaning.rules → BestBelow meaning print i k found most
          → Matches meaning print i rule → to_beat meaning found < length rule.chars → BestBelow meaning print i (k + 1) (Some k) (length rule.chars)
      better None most rule there lt b m more =
          let one = b.most_is in
          elim (cases_order most (length rule.chars)) [
            | inl same ↦ BestBelow-first meaning print i k None most rule there lt b m same refl
            | inr ne ↦ elim ne [ inl less ↦ BestBelow-longer meaning print i k None most rule there lt b m less | inr gt ↦ absurd (omega arith) ]
          ]
      better (Some j) most rule there lt b m more = let was = b.most_is in BestBelow-longer meaning print i k (Some j) most rule there lt b m (omega arith)

      worse : (found : Option ℕ) (most : ℕ) (rule : Rule) → slice_get meaning.rules k ≡ Some rule → k < length meaning.rules → BestBelow meaning print i k found most
          → nat_lt (to_beat meaning found) (length rule.chars) ≡ false → YieldsTo meaning (Some k) found
      worse None most rule there lt b not =
          let le : length rule.chars ≤ 0 = not_less _ _ not in YieldsTo-empty meaning print i k None most rule there lt b (omega arith)
      worse (Some j) most rule there lt b not =
          let le : length rule.chars ≤ span meaning (Some j) = not_less _ _ not in
          let was = b.most_is in
          elim (cases_order most (length rule.chars)) [
            | inl same ↦ YieldsTo-later meaning print i k (Some j) most rule there lt b same (λ e. cc)
            | inr ne ↦ elim ne [ inl less ↦ absurd (omega arith) | inr gt ↦ YieldsTo-shorter meaning print i k (Some j) most rule there lt b gt ]
          ]

  best_of : (k : ℕ) → k ≤ length meaning.rules → (n : ℕ) × BestBelow meaning print i k (chosen_of meaning print i k) n
  best_of zero h = (1, BestBelow-none meaning print i)
  best_of (suc k) h =
      let b = best_of k (omega arith) in
      let s = step_best k (chosen_of meaning print i k) b.0 (omega arith) b.1 in
      (s.0, rw (← add-one) s.1)

  pub choice_at-chosen : IsChoiceAt meaning print i (choice_at meaning print i)
  choice_at-chosen =
      let b = best_of (length meaning.rules) (omega arith) in
      record { start = refl; end = refl; chosen = BestBelow-all meaning print i (length meaning.rules) _ b.0 (omega arith) b.1 }

module _ (meaning : Meaning) (print : List ℕ) where
  some_from-covers : (n i : ℕ) → i ≤ length print → length print - i ≤ n → Covers meaning print i (some_from meaning print n i) (length print)
  some_from-covers zero i h m = omega arith
  some_from-covers (suc n) i h m =
      elim (cases_order i (length print)) [
        | inl e ↦ let after : nat_lt i (length print) ≡ false = grind (arith, nat_tests) in rw after e
        | inr ne ↦ elim ne [
          | inl lt ↦
              let before : nat_lt i (length print) ≡ true = lt-ltb i (length print) lt in
              let is = choice_at-chosen meaning print i in
              let positive = span-positive meaning print i _ is.chosen in
              let within = span-fits meaning print i _ lt is.chosen.candidate in
              rw before (lt, is, some_from-covers n (choice_at meaning print i).end (omega arith) (omega arith))
          | inr gt ↦ absurd (omega arith)
        ]
      ]

  -- from each place on the print is covered
  pub choices_from-covers : (i : ℕ) → i ≤ length print → Covers meaning print i (choices_from meaning print i) (length print)
  choices_from-covers i h = some_from-covers (length print) i h (omega arith)

  -- the chosen one is the first of what is left
  pub choices_from-next : (i : ℕ) (c : Choice) → i < length print → IsChoiceAt meaning print i c
      → choices_from meaning print i ≡ c ∷ choices_from meaning print c.end
  choices_from-next i c lt is =
      let next = Covers-next meaning print i (choices_from meaning print i) c (choices_from-covers i (omega arith)) lt is in
      let end : c.end ≤ length print = let e = is.end in let within = span-fits meaning print i c.rule lt is.chosen.candidate in omega arith in
      next.1 ∙ ap (λ (t : List Choice). c ∷ t) (one_cover meaning print c.end next.0 (choices_from meaning print c.end) next.2 (choices_from-covers c.end end))

pub one_tiling : (meaning : Meaning) (print : List ℕ) → (t : List Choice) × Tiles meaning print t × ((u : List Choice) → Tiles meaning print u → u ≡ t)
one_tiling meaning print =
    let t = choices_from meaning print 0 in
    let tiles = choices_from-covers meaning print 0 (omega arith) in
    (t, tiles, λ u h. one_cover meaning print 0 u t h tiles)
