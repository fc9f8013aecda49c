-- The longest front of a tiling that fits in a room.
use Rattle.std.proofs.Common.{◌≡◌, ℕ, ◌+◌, ◌<◌, ◌≤◌, List, [], ◌∷◌, ◌++◌, length, refl, sym, ap, subst, arith, inl, inr, rules, flat_map, append-nil, length-append}
use Rattle.std.proofs.lemmas.Bool.{cases_order}
use Rattle.louis_table.specs.Meaning.{Meaning}
use Rattle.louis_translate.specs.declared.choices.Choice.{Choice}
use Rattle.louis_translate.specs.Tiling.{Covers, IsChoiceAt}
use Rattle.louis_translate.specs.Position.{AreDefined}
use Rattle.louis_translate.specs.Braille.{cells_of, braille, IsPart}
use Rattle.louis_translate.specs.Left.{choices_from}
use Rattle.louis_translate.proofs.Spans.{span-fits}
use Rattle.louis_translate.proofs.Tilings.{Covers-append, choices_from-covers}

-- a longer front of the same choices has the cells of the next choice too
longer_has_more : (f : Choice → List ℕ) (t more less rest : List Choice) (c : Choice) → t ++ c ∷ rest ≡ more ++ less → length t < length more → length (flat_map f t) + length (f c) ≤ length (flat_map f more)
longer_has_more f [] [] less rest c e lt = absurd (omega arith)
longer_has_more f [] (x ∷ more) less rest c e lt = search (rules, length-append)
longer_has_more f (y ∷ t) [] less rest c e lt = absurd (omega arith)
longer_has_more f (y ∷ t) (x ∷ more) less rest c e lt =
    let same : y ≡ x = cc in
    let tail : t ++ c ∷ rest ≡ more ++ less = cc in
    let after = longer_has_more f t more less rest c tail (omega arith) in
    let here = ap (λ (z : Choice). length (f z)) same in
    omega (arith, length-append (f y) (flat_map f t), length-append (f x) (flat_map f more))

-- all choices fit
pub IsPart-whole : (meaning : Meaning) (print : List ℕ) (room i used : ℕ) (t : List Choice) (cells : List ℕ) → AreDefined meaning print → Covers meaning print 0 t i → i ≡ length print → used ≡ i → cells ≡ braille meaning print t → length cells ≤ room → IsPart meaning print room cells used
IsPart-whole meaning print room i used t cells defined covers whole end made fits = search (rules, append-nil, length-append)

-- the next choice doesn't fit
pub IsPart-cut : (meaning : Meaning) (print : List ℕ) (room i used : ℕ) (t : List Choice) (c : Choice) (cells : List ℕ) → AreDefined meaning print → Covers meaning print 0 t i → i < length print → IsChoiceAt meaning print i c → used ≡ i → cells ≡ braille meaning print t → length cells ≤ room → room < length cells + length (cells_of meaning print c) → IsPart meaning print room cells used
IsPart-cut meaning print room i used t c cells defined covers lt next end made fits over =
    let within = span-fits meaning print i c.rule lt next.chosen.candidate in
    let last = next.end in
    let rest = choices_from meaning print c.end in
    let many : length cells ≡ length (braille meaning print t) = ap length made in
    record {
      defined = defined;
      choices = t ++ c ∷ rest;
      front = t;
      tiles = Covers-append meaning print 0 i (length print) t (c ∷ rest) covers (lt, next, choices_from-covers meaning print c.end (omega arith));
      is_front = record {
        others = c ∷ rest;
        parts = refl;
        fits = omega arith;
        longest = λ more less e h. elim (cases_order (length more) (length t)) [
          | inl same ↦ omega arith
          | inr other ↦ elim other [
            | inl less ↦ omega arith
            | inr longer ↦ let has = longer_has_more (cells_of meaning print) t more less rest c e longer in absurd (omega arith)
          ]
        ];
      };
      covers = subst (λ (n : ℕ). Covers meaning print 0 t n) (sym end) covers;
      cells_are = made;
    }
