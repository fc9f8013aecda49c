-- What a definition more leaves as it was, and where signs and sets stand.
use Rattle.std.proofs.Common.{◌≡◌, ◌≢◌, ℕ, Bool, true, false, cond, List, [], ◌∷◌, ◌++◌, Some, None, refl, sym, ap, ◌∙◌, rules, map, nat_eq, slice_index_or, append-nil, eq-eqb, ne_eqb}
use Rattle.std.specs.Map.{lookup}
use Rattle.std.proofs.Math.Path.{fun_ext}
use Rattle.louis_table.specs.declared.definition.Definition.{Definition}
use Rattle.louis_table.specs.declared.character_set.CharacterSet.{CharacterSet}
use Rattle.louis_table.specs.declared.character_set.CharacterSet.TheVariants as sets
use Rattle.louis_table.specs.declared.sign.Sign.{Sign}
use Rattle.louis_table.specs.declared.sign.Sign.TheVariants as signs
use Rattle.louis_table.specs.Meaning.{Meaning, every_sign, sign_place, every_set, set_place, definition_of, sign_cells, set_characters}
use Rattle.louis_table.specs.Table.{Entry, Announces, Collects, is_same_sign, is_same_set, cells_for, characters_for}
use Rattle.louis_table.specs.Steps.Table.{with_definition, signs_with, sets_with}

lookup-absent : {X : Type 0} (p : ℕ → Bool) (xs ys : List (ℕ × X)) → lookup p xs ≡ None → lookup p (xs ++ ys) ≡ lookup p ys
lookup-absent p [] ys e = refl
lookup-absent p ((k, x) ∷ xs) ys e = by (p k) e (lookup-absent p xs ys)
  where
    by : (b : Bool) → cond b (Some x) (lookup p xs) ≡ None → (lookup p xs ≡ None → lookup p (xs ++ ys) ≡ lookup p ys) → cond b (Some x) (lookup p (xs ++ ys)) ≡ lookup p ys
    by true e rec = absurd cc
    by false e rec = rec e

-- a character that is not defined isn't by the definition of another
pub definition_of-other : (meaning : Meaning) (character other : ℕ) (definition : Definition) → definition_of meaning other ≡ None → character ≢ other
    → definition_of (with_definition meaning character definition) other ≡ None
definition_of-other meaning character other definition e ne =
    lookup-absent (nat_eq other) meaning.definitions ((character, definition) ∷ []) e
    ∙ ap (λ (b : Bool). cond b (Some definition) None) (ne_eqb other character (λ h. ne (sym h)))

-- ---- signs and sets

module _ {X : Type 0} (none : X) where
  at_sign : (f : Sign → X) (sign : Sign) → slice_index_or (map f every_sign) (sign_place sign) none ≡ f sign
  at_sign f signs.Number = refl
  at_sign f signs.Capital = refl
  at_sign f signs.CapitalWord = refl
  at_sign f signs.NoContraction = refl

  at_set : (f : CharacterSet → X) (set : CharacterSet) → slice_index_or (map f every_set) (set_place set) none ≡ f set
  at_set f sets.NumericMode = refl
  at_set f sets.NoContraction = refl

nothing_more : {K : Type 0} (f : K → List ℕ) (keys : List K) → map f keys ≡ map (λ key. f key ++ []) keys
nothing_more {K} f keys = ap (λ (g : K → List ℕ). map g keys) (fun_ext (λ key. sym (append-nil (f key))))

-- an entry adds to each sign and each set what it gives to it
pub signs_with-each : (f : Sign → List ℕ) (entry : Entry) → signs_with (map f every_sign) entry ≡ map (λ sign. f sign ++ cells_for sign entry) every_sign
signs_with-each f (Announces sign cells) = search rules
signs_with-each f entry = nothing_more f every_sign

pub sets_with-each : (f : CharacterSet → List ℕ) (entry : Entry) → sets_with (map f every_set) entry ≡ map (λ set. f set ++ characters_for set entry) every_set
sets_with-each f (Collects set text) = search rules
sets_with-each f entry = nothing_more f every_set

-- a meaning with these cells for each sign has them for this one
pub sign_cells-map : (meaning : Meaning) (f : Sign → List ℕ) → meaning.signs ≡ map f every_sign → (sign : Sign) → sign_cells meaning sign ≡ f sign
sign_cells-map meaning f e sign = ap (λ (all : List (List ℕ)). slice_index_or all (sign_place sign) []) e ∙ at_sign [] f sign

pub set_characters-map : (meaning : Meaning) (f : CharacterSet → List ℕ) → meaning.sets ≡ map f every_set → (set : CharacterSet) → set_characters meaning set ≡ f set
set_characters-map meaning f e set = ap (λ (all : List (List ℕ)). slice_index_or all (set_place set) []) e ∙ at_set [] f set

pub own_sign : (sign : Sign) → is_same_sign sign sign ≡ true
own_sign sign = eq-eqb _ _ refl

pub own_set : (set : CharacterSet) → is_same_set set set ≡ true
own_set set = eq-eqb _ _ refl

-- signs at one place are one
pub same_sign : (one other : Sign) → is_same_sign one other ≡ true → one ≡ other
same_sign one other e = search rules

pub same_set : (one other : CharacterSet) → is_same_set one other ≡ true → one ≡ other
same_set one other e = search rules
