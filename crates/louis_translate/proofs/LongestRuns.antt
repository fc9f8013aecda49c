-- The run around a capital is the longest interval of capitals there.
use Rattle.std.proofs.Common.{◌≡◌, ℕ, zero, suc, ◌-◌, ◌<◌, ◌≤◌, true, false, List, length, take, get_or, sym, ap, ◌∙◌, arith, inl, inr}
use Rattle.std.specs.List.{suffix_len}
use Rattle.std.proofs.lemmas.Bool.{cases_Bool, cases_order}
use Rattle.std.proofs.lemmas.Bool.Decides.{nat_tests}
use Rattle.std.proofs.lemmas.List.Sums.{suffix_len-take_no, suffix_len-take_yes}
use Rattle.louis_table.specs.Meaning.{Meaning}
use Rattle.louis_translate.specs.Sign.{is_capital, is_capital_at, run_end, run_start, AreCapitals, IsRun}
use Rattle.louis_translate.proofs.Runs.{is_capital_at-run, passes-below, passes-get_or, run_end-inside, run_end-end}

module _ (meaning : Meaning) (print : List ℕ) where
  -- the run before a place grows with a capital, and begins anew after any other character
  start_after_capital : (i : ℕ) → is_capital_at meaning print i ≡ true → run_start meaning print (suc i) ≡ run_start meaning print i
  start_after_capital i capital =
      let lt = passes-below (is_capital meaning) print i capital in
      let at : suc i - 1 ≡ i = omega arith in
      let here : is_capital meaning (get_or print (suc i - 1) 0) ≡ true = ap (λ (k : ℕ). is_capital meaning (get_or print k 0)) at ∙ (sym (passes-get_or (is_capital meaning) print i 0 lt) ∙ capital) in
      let grows = suffix_len-take_yes (is_capital meaning) print (suc i) 0 (omega arith) (omega arith) here in
      let same : suffix_len (is_capital meaning) (take (suc i - 1) print) ≡ suffix_len (is_capital meaning) (take i print) = ap (λ (k : ℕ). suffix_len (is_capital meaning) (take k print)) at in
      omega arith

  start_after_other : (i : ℕ) → i < length print → is_capital_at meaning print i ≡ false → run_start meaning print (suc i) ≡ suc i
  start_after_other i lt other =
      let at : suc i - 1 ≡ i = omega arith in
      let here : is_capital meaning (get_or print (suc i - 1) 0) ≡ false = ap (λ (k : ℕ). is_capital meaning (get_or print k 0)) at ∙ (sym (passes-get_or (is_capital meaning) print i 0 lt) ∙ other) in
      let none = suffix_len-take_no (is_capital meaning) print (suc i) 0 (omega arith) (omega arith) here in
      omega arith

  capitals_from_start : (i : ℕ) → i ≤ length print → AreCapitals meaning print (run_start meaning print i) i
  capitals_from_start zero le k more less = absurd (omega arith)
  capitals_from_start (suc i) le k more less =
      elim (cases_Bool (is_capital_at meaning print i)) [
        | inr other ↦ let start = start_after_other i (omega arith) other in absurd (omega arith)
        | inl capital ↦
            let start = start_after_capital i capital in
            elim (cases_order k i) [
              | inl e ↦ ap (is_capital_at meaning print) e ∙ capital
              | inr ne ↦ elim ne [ inl under ↦ capitals_from_start i (omega arith) k (omega arith) under | inr over ↦ absurd (omega arith) ]
            ]
      ]

  start_first : (i c : ℕ) → c ≤ i → AreCapitals meaning print c i → run_start meaning print i ≤ c
  start_first zero c le capitals = omega arith
  start_first (suc i) c le capitals =
      elim (cases_order c (suc i)) [
        | inl e ↦ omega arith
        | inr ne ↦ elim ne [
          | inr over ↦ absurd (omega arith)
          | inl under ↦
              let start = start_after_capital i (capitals i (omega arith) (omega arith)) in
              let rest = start_first i c (omega arith) (λ k more less. capitals k more (omega arith)) in
              omega arith
        ]
      ]

  end_last : (i d : ℕ) → i < d → AreCapitals meaning print i d → d ≤ run_end meaning print i
  end_last i d lt capitals =
      elim (cases_order d (run_end meaning print i)) [
        | inl e ↦ omega arith
        | inr ne ↦ elim ne [
          | inl under ↦ omega arith
          | inr over ↦
              let there = sym (is_capital_at-run meaning print (run_end meaning print i)) ∙ capitals (run_end meaning print i) (omega arith) over in
              let end = run_end-end meaning print i in
              absurd (grind (arith, nat_tests))
        ]
      ]

  capitals_to_end : (i : ℕ) → AreCapitals meaning print i (run_end meaning print i)
  capitals_to_end i k more less =
      let end = run_end-inside meaning print i k more less in
      is_capital_at-run meaning print k ∙ grind (arith, nat_tests)

pub IsRun-run : (meaning : Meaning) (print : List ℕ) (i : ℕ) → is_capital_at meaning print i ≡ true → IsRun meaning print i (run_start meaning print i) (run_end meaning print i)
IsRun-run meaning print i capital =
    let within = passes-below (is_capital meaning) print i capital in
    let to : i < run_end meaning print i = grind (arith, nat_tests, is_capital_at-run meaning print i) in
    record {
      from = omega arith;
      to = to;
      capitals = λ k more less. elim (cases_order k i) [
        | inl e ↦ ap (is_capital_at meaning print) e ∙ capital
        | inr ne ↦ elim ne [
          | inl under ↦ capitals_from_start meaning print i (omega arith) k more under
          | inr over ↦ capitals_to_end meaning print i k (omega arith) less
        ]
      ];
      longest = λ c d from to capitals. (start_first meaning print i c from (λ k more less. capitals k more (omega arith)), end_last meaning print i d to (λ k more less. capitals k (omega arith) less));
    }
