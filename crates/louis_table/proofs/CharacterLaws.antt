-- The characters that are read are those that are spelled.
use Rattle.std.proofs.Common.{◌≡◌, ℕ, zero, suc, ◌+◌, ◌*◌, ◌<◌, ◌≤◌, Bool, true, false, cond, eqb, ltb, List, [], ◌∷◌, ◌++◌, length, take, drop, Option, Some, None, option_map, refl, sym, ap, subst, ◌∙◌, ◌⊎◌, inl, inr, arith, append_assoc, rules, option_and_then, take-append-drop, length-take, length-append, take_at, drop_at}
use Rattle.std.specs.List.{AllByRecursion}
use Rattle.std.specs.Char.{digit_value}
use lib.Utf8.{scalar}
use Rattle.std.proofs.lemmas.Bool.{eqb-true, eqb-false, ne_eqb, ltb-true, ltb-false, lt-ltb, le-ltb}
use Rattle.louis_table.specs.Characters.{escape_character, escape_digits, spelled_after, Writes, itself, escape, number, Spells}
use Rattle.louis_table.specs.Steps.Characters.{with_rest, hex_value, scalar_from, number_at, escape_by, character_at, characters_within, characters_in}

-- which way a test went
pub chosen : {A : Type 0} (b : Bool) (x y z : A) → cond b x y ≡ z → ((b ≡ true) × (x ≡ z)) ⊎ ((b ≡ false) × (y ≡ z))
chosen true x y z e = inl (refl, e)
chosen false x y z e = inr (refl, e)

-- ---- numbers

abbrev AreDigits : List ℕ → Type 0
AreDigits = AllByRecursion (λ d. digit_value d < 16)

hex_value-spelled : (n : ℕ) (digits : List ℕ) (v : ℕ) → hex_value n digits ≡ Some v → AreDigits digits × (spelled_after n digits ≡ v)
hex_value-spelled n [] v e = (tt, cc)
hex_value-spelled n (d ∷ ds) v e =
    elim (chosen (ltb (digit_value d) 16) _ _ _ e) [
      | inl p ↦ let h = hex_value-spelled (16 * n + digit_value d) ds v p.1 in ((ltb-true _ _ p.0, h.0), h.1)
      | inr p ↦ absurd cc
    ]

spelled-hex_value : (n : ℕ) (digits : List ℕ) → AreDigits digits → hex_value n digits ≡ Some (spelled_after n digits)
spelled-hex_value n [] h = refl
spelled-hex_value n (d ∷ ds) h = rw (lt-ltb (digit_value d) 16 h.0) (spelled-hex_value (16 * n + digit_value d) ds h.1)

scalar_from-Some : (o : Option ℕ) (c : ℕ) → scalar_from o ≡ Some c → (o ≡ Some c) × (scalar c ≡ true)
scalar_from-Some None c e = absurd cc
scalar_from-Some (Some v) c e = search rules

with_rest-Some : (o : Option ℕ) (rest : List ℕ) (c : ℕ) (back : List ℕ) → with_rest o rest ≡ Some (c, back) → (o ≡ Some c) × (rest ≡ back)
with_rest-Some None rest c back e = absurd cc
with_rest-Some (Some v) rest c back e = search rules

-- the character was read as it is written at the front
abbrev pub ReadsFront : List ℕ → ℕ → List ℕ → Type 0
ReadsFront text character rest = (front : List ℕ) × (text ≡ front ++ rest) × Writes front character

number_at-reads : (letter count : ℕ) (text : List ℕ) (c : ℕ) (rest : List ℕ) → escape_digits letter ≡ Some count → number_at count text ≡ Some (c, rest)
    → ReadsFront (92 ∷ letter ∷ text) c rest
number_at-reads letter count text c rest b e =
    elim (chosen (ltb (length text) count) _ _ _ e) [
      | inl p ↦ absurd cc
      | inr p ↦
          let w = with_rest-Some (scalar_from (hex_value 0 (take count text))) (drop count text) c rest p.1 in
          let s = scalar_from-Some (hex_value 0 (take count text)) c w.0 in
          let h = hex_value-spelled 0 (take count text) c s.0 in
          let long : count ≤ length text = ltb-false _ _ p.0 in
          let same : count ≡ length (take count text) = omega (arith, length-take count text) in
          let parts : text ≡ take count text ++ rest = sym (ap (λ (t : List ℕ). take count text ++ t) (sym w.1) ∙ take-append-drop count text) in (
            92 ∷ letter ∷ take count text,
            ap (λ (t : List ℕ). 92 ∷ letter ∷ t) parts,
            number letter (take count text) (b ∙ ap Some same) h.0 h.1 s.1 refl,
          )
    ]

escape_by-reads : (letter c : ℕ) (text rest : List ℕ) (o d : Option ℕ) → escape_character letter ≡ o → escape_digits letter ≡ d → escape_by o d text ≡ Some (c, rest)
    → ReadsFront (92 ∷ letter ∷ text) c rest
escape_by-reads letter c text rest (Some v) d e f h =
    let w = with_rest-Some (Some v) text c rest h in
    (92 ∷ letter ∷ [], ap (λ (t : List ℕ). 92 ∷ letter ∷ t) w.1, escape letter (e ∙ w.0) refl)
escape_by-reads letter c text rest None (Some count) e f h = number_at-reads letter count text c rest f h
escape_by-reads letter c text rest None None e f h = absurd cc

escape_at-reads : (c : ℕ) (text rest : List ℕ) → character_at (92 ∷ text) ≡ Some (c, rest) → ReadsFront (92 ∷ text) c rest
escape_at-reads c [] rest e = absurd cc
escape_at-reads c (letter ∷ text) rest e = escape_by-reads letter c text rest (escape_character letter) (escape_digits letter) refl refl e

pub character_at-reads : (text : List ℕ) (c : ℕ) (rest : List ℕ) → character_at text ≡ Some (c, rest) → ReadsFront text c rest
character_at-reads [] c rest e = absurd cc
character_at-reads (x ∷ text) c rest e =
    elim (chosen (eqb x 92) _ _ _ e) [
      | inl p ↦ subst (λ (y : ℕ). ReadsFront (y ∷ text) c rest) (sym (eqb-true x 92 p.0)) (escape_at-reads c text rest p.1)
      | inr p ↦
          let w = with_rest-Some (Some x) text c rest p.1 in
          let same : x ≡ c = cc in
          (x ∷ [], ap (λ (t : List ℕ). x ∷ t) w.1, itself (λ (h : c ≡ 92). eqb-false x 92 p.0 (same ∙ h)) (ap (λ (y : ℕ). y ∷ []) same))
    ]

-- an escape by number has no letter of a shorter one
escape_digits-escaped : (letter count : ℕ) → escape_digits letter ≡ Some count → escape_character letter ≡ None
escape_digits-escaped letter count e = search rules

pub character_at-Writes : (front rest : List ℕ) (c : ℕ) → Writes front c → character_at (front ++ rest) ≡ Some (c, rest)
character_at-Writes front rest c (itself ne e) = rw e (rw (ne_eqb c 92 ne) refl)
character_at-Writes front rest c (escape letter s e) = rw e (ap (λ (o : Option ℕ). escape_by o (escape_digits letter) rest) s)
character_at-Writes front rest c (number letter digits counted are v s e) =
    rw e
    (ap (λ (o : Option ℕ). escape_by o (escape_digits letter) (digits ++ rest)) (escape_digits-escaped letter (length digits) counted)
    ∙ (ap (λ (o : Option ℕ). escape_by None o (digits ++ rest)) counted ∙ whole))
  where
    long : length digits ≤ length (digits ++ rest)
    long = omega (arith, length-append digits rest)

    whole : number_at (length digits) (digits ++ rest) ≡ Some (c, rest)
    whole = rw (le-ltb _ _ long, take_at digits rest (length digits) refl, drop_at digits rest (length digits) refl, spelled-hex_value 0 digits are, v) (rw s refl)

-- ---- all characters of an operand

pub Writes-some : (front : List ℕ) (c : ℕ) → Writes front c → 0 < length front
Writes-some front c (itself ne e) = rw e (omega arith)
Writes-some front c (escape letter s e) = rw e (omega arith)
Writes-some front c (number letter digits counted are v s e) = rw e (omega arith)

pub and_then_some : {A B : Type 0} (f : A → Option B) (o : Option A) (y : B) → option_and_then f o ≡ Some y → (x : A) × (o ≡ Some x) × (f x ≡ Some y)
and_then_some f None y e = absurd cc
and_then_some f (Some x) y e = (x, refl, e)

pub map_some : {A B : Type 0} (f : A → B) (o : Option A) (y : B) → option_map f o ≡ Some y → (x : A) × (o ≡ Some x) × (f x ≡ y)
map_some f None y e = absurd cc
map_some f (Some x) y e = (x, refl, cc)

characters_within-Spells : (n : ℕ) (text cs : List ℕ) → characters_within n text ≡ Some cs → Spells text cs
characters_within-Spells n [] cs e = let none : [] ≡ cs = cc in subst (Spells []) none refl
characters_within-Spells zero (x ∷ text) cs e = absurd cc
characters_within-Spells (suc n) (x ∷ text) cs e =
    let found = and_then_some (λ (f : ℕ × List ℕ). option_map (λ more. f.0 ∷ more) (characters_within n f.1)) (character_at (x ∷ text)) cs e in
    let more = map_some (λ (rest : List ℕ). found.0.0 ∷ rest) (characters_within n found.0.1) cs found.2 in
    let front = character_at-reads (x ∷ text) found.0.0 found.0.1 found.1 in
    subst (Spells (x ∷ text)) more.2 (front.0, found.0.1, front.1, front.2, characters_within-Spells n found.0.1 more.0 more.1)

Spells-characters_within : (n : ℕ) (text cs : List ℕ) → length text ≤ n → Spells text cs → characters_within n text ≡ Some cs
Spells-characters_within n text [] le s = ap (characters_within n) s
Spells-characters_within n [] (c ∷ cs) le s = let some = Writes-some s.0 c s.3 in absurd (omega (arith, length-append s.0 s.1, ap length s.2))
Spells-characters_within zero (x ∷ text) (c ∷ cs) le s = absurd (omega arith)
Spells-characters_within (suc n) (x ∷ text) (c ∷ cs) le s =
    let some : 0 < length s.0 = Writes-some s.0 c s.3 in
    let read : character_at (x ∷ text) ≡ Some (c, s.1) = ap character_at s.2 ∙ character_at-Writes s.0 s.1 c s.3 in
    let more : characters_within n s.1 ≡ Some cs = Spells-characters_within n s.1 cs (omega (arith, length-append s.0 s.1, ap length s.2)) s.4 in
    ap (option_and_then (λ (f : ℕ × List ℕ). option_map (λ more. f.0 ∷ more) (characters_within n f.1))) read
    ∙ ap (option_map (λ (rest : List ℕ). c ∷ rest)) more

pub characters_in-Spells : (text cs : List ℕ) → characters_in text ≡ Some cs → Spells text cs
unfolding characters_in
characters_in-Spells text cs e = characters_within-Spells (length text) text cs e

pub Spells-characters_in : (text cs : List ℕ) → Spells text cs → characters_in text ≡ Some cs
unfolding characters_in
Spells-characters_in text cs s = Spells-characters_within (length text) text cs (omega arith) s

-- ---- character by character

-- what was read of the operand, and what the rest gives, make its characters
pub record SpellsOn (operand front rest : List ℕ) : Type 0 where
  pub most : ℕ
  pub enough : length rest ≤ most
  pub whole : characters_in operand ≡ option_map (λ more. front ++ more) (characters_within most rest)

map_nothing : (o : Option (List ℕ)) → o ≡ option_map (λ more. [] ++ more) o
map_nothing None = refl
map_nothing (Some more) = refl

pub SpellsOn-none : (operand : List ℕ) → SpellsOn operand [] operand
unfolding characters_in
SpellsOn-none operand = record { most = length operand; enough = omega arith; whole = map_nothing (characters_within (length operand) operand) }

map_twice : (front : List ℕ) (c : ℕ) (o : Option (List ℕ)) → option_map (λ more. front ++ more) (option_map (λ more. c ∷ more) o) ≡ option_map (λ more. (front ++ c ∷ []) ++ more) o
map_twice front c None = refl
map_twice front c (Some more) = ap Some (sym (append_assoc front (c ∷ []) more))

pub SpellsOn-more : (operand front rest after : List ℕ) (c : ℕ) → SpellsOn operand front rest → character_at rest ≡ Some (c, after) → length after < length rest → SpellsOn operand (front ++ c ∷ []) after
SpellsOn-more operand front [] after c s e lt = absurd (omega arith)
SpellsOn-more operand front (x ∷ rest) after c s e lt = by s.most s.enough s.whole
  where
    by : (n : ℕ) → length (x ∷ rest) ≤ n → characters_in operand ≡ option_map (λ more. front ++ more) (characters_within n (x ∷ rest)) → SpellsOn operand (front ++ c ∷ []) after
    by zero le w = absurd (omega arith)
    by (suc n) le w =
        record {
          most = n;
          enough = omega arith;
          whole = w
              ∙ (ap (λ (o : Option (ℕ × List ℕ)). option_map (λ more. front ++ more) (option_and_then (λ (f : ℕ × List ℕ). option_map (λ more. f.0 ∷ more) (characters_within n f.1)) o)) e
              ∙ map_twice front c (characters_within n after));
        }
