-- The places as lists that grow choice by choice: those of one more choice, and what the lists have at a place. `Braille`
-- says what the places mean.
use Rattle.std.proofs.Common.{◌≡◌, ℕ, ◌+◌, ◌-◌, ◌<◌, ◌≤◌, List, [], ◌∷◌, ◌++◌, length, replicate, get_or, refl, sym, ap, subst, ◌∙◌, append_assoc, add_assoc, zero-add, arith, inl, inr, rules, flat_map}
use Rattle.std.proofs.Math.ListN.{get_or-append}
use Rattle.std.proofs.lemmas.Bool.{cases_lt}
use Rattle.std.proofs.lemmas.List.{append-nil, length-append, length-replicate, get_or-append_right, get_or-replicate}
use Rattle.std.proofs.lemmas.List.Concat.{flat_map-append}
use Rattle.louis_table.specs.Meaning.{Meaning}
use Rattle.louis_translate.specs.declared.choices.Choice.{Choice}
use Rattle.louis_translate.specs.Tiling.{Covers, Tiles}
use Rattle.louis_translate.specs.Position.{AreDefined}
use Rattle.louis_translate.specs.Braille.{cells_of, braille, IsAmong, Holds, IsPrintPlace, IsTranslation}

-- for each place, how many cells the choices before the one that covers it have, where n come before these choices
abbrev pub outputs_from : Meaning → List ℕ → ℕ → List Choice → List ℕ
outputs_from meaning print n [] = []
outputs_from meaning print n (choice ∷ choices) =
    replicate (choice.end - choice.start) n ++ outputs_from meaning print (n + length (cells_of meaning print choice)) choices

-- for each cell, the start of the choice that made it
abbrev pub inputs_of : Meaning → List ℕ → List Choice → List ℕ
inputs_of meaning print choices = flat_map (λ choice. replicate (length (cells_of meaning print choice)) choice.start) choices

-- ---- one more choice

pub flat_map-push : {X A : Type 0} (f : X → List A) (xs : List X) (x : X) → flat_map f (xs ++ x ∷ []) ≡ flat_map f xs ++ f x
flat_map-push {A = A} f xs x = flat_map-append f xs (x ∷ []) ∙ ap (λ (t : List A). flat_map f xs ++ t) (append-nil (f x))

pub outputs_from-push : (meaning : Meaning) (print : List ℕ) (n : ℕ) (t : List Choice) (c : Choice) → outputs_from meaning print n (t ++ c ∷ []) ≡ outputs_from meaning print n t ++ replicate (c.end - c.start) (n + length (braille meaning print t))
outputs_from-push meaning print n [] c = append-nil (replicate (c.end - c.start) n) ∙ ap (λ (m : ℕ). replicate (c.end - c.start) m) (omega arith)
outputs_from-push meaning print n (x ∷ t) c = search (rules, add_assoc, length-append, append_assoc, (outputs_from-push meaning print (n + length (cells_of meaning print x)) t c))

-- ---- the places in the lists

pub Covers-le : (meaning : Meaning) (print : List ℕ) (i j : ℕ) (t : List Choice) → Covers meaning print i t j → i ≤ j
Covers-le meaning print i j [] h = omega arith
Covers-le meaning print i j (c ∷ t) h = let e = h.1.end in let rest = Covers-le meaning print c.end j t h.2 in omega arith

-- the list of output places has as many places as the choices cover
outputs-count : (meaning : Meaning) (print : List ℕ) (n i j : ℕ) (t : List Choice) → Covers meaning print i t j → i + length (outputs_from meaning print n t) ≡ j
outputs-count meaning print n i j [] h = (omega arith)
outputs-count meaning print n i j (c ∷ t) h =
    let made = length (cells_of meaning print c) in
    let rest = outputs-count meaning print (n + made) c.end j t h.2 in
    omega (arith, h.1.start, h.1.end, length-append (replicate (c.end - c.start) n) (outputs_from meaning print (n + made) t), length-replicate (c.end - c.start) n)

-- at a place that the choices cover it has how many cells come before its choice
outputs-at : (meaning : Meaning) (print : List ℕ) (n i j k : ℕ) (t : List Choice) → Covers meaning print i t j → i ≤ k → k < j
    → (before : List Choice) × (choice : Choice) × IsAmong t before choice × Holds choice k
    × (get_or (outputs_from meaning print n t) (k - i) 0 ≡ n + length (braille meaning print before))
outputs-at meaning print n i j k [] h le lt = absurd (omega arith)
outputs-at meaning print n i j k (c ∷ t) h le lt =
    let start = h.1.start in
    let end = h.1.end in
    let made = length (cells_of meaning print c) in
    let count = length-replicate (c.end - c.start) n in
    elim (cases_lt k c.end) [
      | inl here ↦ (
        [],
        c,
        record { after = t; parts = refl },
        (omega arith, here),
        get_or-append (replicate (c.end - c.start) n) (outputs_from meaning print (n + made) t) 0 (k - i) (omega arith)
            ∙ (get_or-replicate (c.end - c.start) (k - i) n 0 (omega arith) ∙ (let e : n ≡ n + 0 = omega arith in e)),
      )
      | inr past ↦
          let rest = outputs-at meaning print (n + made) c.end j k t h.2 past lt in (
            c ∷ rest.0,
            rest.1,
            record { after = rest.2.after; parts = ap (λ (xs : List Choice). c ∷ xs) rest.2.parts },
            rest.3,
            get_or-append_right (replicate (c.end - c.start) n) (outputs_from meaning print (n + made) t) (c.end - c.start) (k - i) 0 count (omega arith)
                ∙ (ap (λ (m : ℕ). get_or (outputs_from meaning print (n + made) t) m 0) (let e : k - i - (c.end - c.start) ≡ k - c.end = omega arith in e)
                ∙ (rest.4 ∙ (add_assoc n made (length (braille meaning print rest.0))
                ∙ ap (λ (m : ℕ). n + m) (sym (length-append (cells_of meaning print c) (braille meaning print rest.0)))))),
          )
    ]

-- the list of print places has as many places as there are cells
inputs-count : (meaning : Meaning) (print : List ℕ) (t : List Choice) → length (inputs_of meaning print t) ≡ length (braille meaning print t)
inputs-count meaning print [] = refl
inputs-count meaning print (c ∷ t) = search (rules, length-append, length-replicate, (inputs-count meaning print t))

-- at a cell it has the start of the choice that made it
inputs-at : (meaning : Meaning) (print : List ℕ) (t : List Choice) (cell : ℕ) → cell < length (braille meaning print t)
    → IsPrintPlace meaning print t cell (get_or (inputs_of meaning print t) cell 0)
inputs-at meaning print [] cell lt = absurd (omega arith)
inputs-at meaning print (c ∷ t) cell lt =
    let made = length (cells_of meaning print c) in
    let count = length-replicate made c.start in
    let all = length-append (cells_of meaning print c) (braille meaning print t) in
    elim (cases_lt cell made) [
      | inl here ↦ (
        c,
        record { before = []; among = record { after = t; parts = refl }; from = omega arith; to = omega arith },
        get_or-append (replicate made c.start) (inputs_of meaning print t) 0 cell (omega arith) ∙ get_or-replicate made cell c.start 0 here,
      )
      | inr past ↦
          let rest = inputs-at meaning print t (cell - made) (omega arith) in
          let found = rest.1 in
          let from = found.from in
          let to = found.to in
          let before = length-append (cells_of meaning print c) (braille meaning print found.before) in (
            rest.0,
            record {
              before = c ∷ found.before;
              among = record { after = found.among.after; parts = ap (λ (xs : List Choice). c ∷ xs) found.among.parts };
              from = omega arith;
              to = omega arith;
            },
            get_or-append_right (replicate made c.start) (inputs_of meaning print t) made cell 0 count past ∙ rest.2,
          )
    ]

-- the lists that the choices of a tiling make are the translation
pub IsTranslation-lists : (meaning : Meaning) (print : List ℕ) (t : List Choice) (cells outputs inputs : List ℕ) → AreDefined meaning print → Tiles meaning print t → cells ≡ braille meaning print t → outputs ≡ outputs_from meaning print 0 t → inputs ≡ inputs_of meaning print t → IsTranslation meaning print cells outputs inputs
IsTranslation-lists meaning print t cells outputs inputs defined tiles made first second =
    let count = outputs-count meaning print 0 0 (length print) t tiles in
    record {
      defined = defined;
      choices = t;
      tiles = tiles;
      cells_are = made;
      output_count = ap length first ∙ (let e : length (outputs_from meaning print 0 t) ≡ length print = omega arith in e);
      outputs_are = λ i lt.
          let found = outputs-at meaning print 0 0 (length print) i t tiles (omega arith) lt in
          let same : i - 0 ≡ i = omega arith in
          record {
            before = found.0;
            choice = found.1;
            among = found.2;
            holds = found.3;
            place_is =
                ap (λ (xs : List ℕ). get_or xs i 0) first
                ∙ (ap (λ (k : ℕ). get_or (outputs_from meaning print 0 t) k 0) (sym same)
                ∙ (found.4 ∙ zero-add (length (braille meaning print found.0))));
          };
      input_count = ap length second ∙ (inputs-count meaning print t ∙ sym (ap length made));
      inputs_are = λ cell lt.
          subst (λ (xs : List ℕ). IsPrintPlace meaning print t cell (get_or xs cell 0)) (sym second)
          (inputs-at meaning print t cell (subst (λ (xs : List ℕ). cell < length xs) made lt));
    }
