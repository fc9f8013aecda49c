-- Runs of elements that pass a test.
use Rattle.std.proofs.Common.{◌≡◌, ℕ, zero, suc, ◌+◌, ◌-◌, ◌<◌, ◌≤◌, Bool, true, false, List, [], ◌∷◌, length, take, drop, get_or, refl, ap, ◌∙◌, arith, inl, inr, rules, slice_get, nat_le, nat_lt, map, Some, drop-cons, drop-drop}
use Rattle.std.specs.List.{prefix_len}
use Rattle.std.specs.Option.{option_map_or}
use Rattle.std.proofs.lemmas.Bool.{both_ways, cases_Bool, cases_order, lt-ltb}
use Rattle.std.proofs.lemmas.Bool.Decides.{nat_tests}
use Rattle.std.proofs.Math.Bool.{and-false}
use Rattle.louis_table.specs.declared.sign.Sign.TheVariants.{Capital}
use Rattle.louis_table.specs.Meaning.{Meaning, sign_cells}
use Rattle.louis_translate.specs.Sign.{capital_sign, is_capital, is_capital_at, run_end, run_start, sign_at}

-- a test at a place of a list
pub passes-below : {X : Type 0} (p : X → Bool) (xs : List X) (i : ℕ) → option_map_or p (slice_get xs i) false ≡ true → i < length xs
passes-below p [] i h = cc
passes-below p (x ∷ xs) zero h = omega arith
passes-below p (x ∷ xs) (suc i) h = let rest = passes-below p xs i h in omega arith

pub passes-get_or : {X : Type 0} (p : X → Bool) (xs : List X) (i : ℕ) (d : X) → i < length xs → option_map_or p (slice_get xs i) false ≡ p (get_or xs i d)
passes-get_or p [] i d h = absurd (omega arith)
passes-get_or p (x ∷ xs) zero d h = refl
passes-get_or p (x ∷ xs) (suc i) d h = passes-get_or p xs i d (omega arith)

-- a run begins where an element passes
passes_at : {X : Type 0} (p : X → Bool) (xs : List X) (i : ℕ) → option_map_or p (slice_get xs i) false ≡ nat_lt 0 (prefix_len p (drop i xs))
passes_at p [] zero = refl
passes_at p [] (suc i) = refl
passes_at p (x ∷ xs) zero = elim (cases_Bool (p x)) [ inl e ↦ rw e (grind (arith, nat_tests)) | inr e ↦ rw e refl ]
passes_at p (x ∷ xs) (suc i) = passes_at p xs i

-- inside a run, the rest of it is the run
prefix_len-drop_inside : {X : Type 0} (p : X → Bool) (xs : List X) (j : ℕ) → j ≤ prefix_len p xs → prefix_len p (drop j xs) + j ≡ prefix_len p xs
prefix_len-drop_inside p xs zero h = omega arith
prefix_len-drop_inside p [] (suc j) h = absurd (omega arith)
prefix_len-drop_inside p (x ∷ xs) (suc j) h =
    elim (cases_Bool (p x)) [
      | inl e ↦
          let here = rw e at h in
          let rest = prefix_len-drop_inside p xs j (omega arith) in
          rw e (omega arith)
      | inr e ↦ let here = rw e at h in absurd (omega arith)
    ]

-- a capital stands where a run goes on
pub is_capital_at-run : (meaning : Meaning) (print : List ℕ) (i : ℕ) → is_capital_at meaning print i ≡ nat_lt i (run_end meaning print i)
is_capital_at-run meaning print i = search (rules, passes_at, nat_tests)

-- each place of a run has its end
pub run_end-inside : (meaning : Meaning) (print : List ℕ) (i k : ℕ) → i ≤ k → k < run_end meaning print i → run_end meaning print k ≡ run_end meaning print i
run_end-inside meaning print i k le lt =
    let p = is_capital meaning in
    let there : drop (k - i) (drop i print) ≡ drop k print = drop-drop (k - i) i print ∙ ap (λ (n : ℕ). drop n print) (omega arith) in
    let inside = prefix_len-drop_inside p (drop i print) (k - i) (omega arith) in
    let same : prefix_len p (drop (k - i) (drop i print)) ≡ prefix_len p (drop k print) = ap (prefix_len p) there in
    omega arith

-- no capital stands at the end of a run
pub run_end-end : (meaning : Meaning) (print : List ℕ) (i : ℕ) → run_end meaning print (run_end meaning print i) ≡ run_end meaning print i
run_end-end meaning print i =
    let n = prefix_len (is_capital meaning) (drop i print) in
    let inside = prefix_len-drop_inside (is_capital meaning) (drop i print) n (omega arith) in
    let same : prefix_len (is_capital meaning) (drop n (drop i print)) ≡ prefix_len (is_capital meaning) (drop (i + n) print) = ap (prefix_len (is_capital meaning)) (drop-drop n i print) in
    omega arith

-- the sign of a print that is known under another name
pub sign_at-same : (meaning table : Meaning) (print p : List ℕ) (i k : ℕ) → meaning ≡ table → print ≡ p → i ≡ k → sign_at table p k ≡ sign_at meaning print i
sign_at-same meaning table print p i k e f h = rw (e, f, h) refl

-- characters that a folded print has from a place on begin with the character there
pub first_folded : (fold : ℕ → ℕ) (print : List ℕ) (i : ℕ) (chars : List ℕ) → i < length print → map fold (take (length chars) (drop i print)) ≡ chars → 0 < length chars → slice_get chars 0 ≡ Some (fold (get_or print i 0))
first_folded fold print i [] lt e h = absurd (omega arith)
first_folded fold print i (c ∷ chars) lt e h = search (rules, drop-cons)

-- ---- a capital alone

-- if no capital stands before and none after, the run is no longer than its place
pub run_end-alone : (meaning : Meaning) (print : List ℕ) (i : ℕ) → is_capital_at meaning print (i + 1) ≡ false → run_end meaning print i ≤ i + 1
run_end-alone meaning print i off = search (rules, cases_order, run_end-inside, both_ways, is_capital_at-run, lt-ltb)

pub capital_sign-alone : (meaning : Meaning) (print : List ℕ) (i : ℕ) → (run_start meaning print i < i → ⊥) → is_capital_at meaning print (i + 1) ≡ false
    → capital_sign meaning print i ≡ sign_cells meaning Capital
capital_sign-alone meaning print i first off = search (rules, run_end-alone, nat_le, nat_tests, nat_lt, and-false)
