-- The fields of a line, taken off one after another.
use Rattle.std.proofs.Common.{◌≡◌, ℕ, ◌<◌, Bool, true, false, not, List, [], ◌∷◌, length, refl, sym, ap, ◌∙◌, arith, cond, eqb, Bor}
use Rattle.std.specs.Prelude.{Option, Some, None, is_some, unwrap_or}
use Rattle.std.specs.List.{position_or_len, before_first, after_first, onto_first}
use Rattle.std.proofs.lemmas.List.Splits.{slice_split_none, slice_split_first, join_with_byte-slice_split}
use Rattle.std.proofs.lemmas.List.Sums.{fails_before_first}
use Rattle.desk_line.specs.Fields.{fields_of, fields_in_rest, line_of_fields}
use Rattle.desk_line.specs.ReadingSteps.{is_end}

-- a line with a blank
pub fields-at-blank : (line field rest : List ℕ) → position_or_len (λ b. eqb b 32) line < length line
    → field ≡ before_first (λ b. eqb b 32) line → rest ≡ after_first (λ b. eqb b 32) line → fields_of line ≡ field ∷ fields_of rest
fields-at-blank line field rest lt f r =
    slice_split_first (λ b. eqb b 32) line 0 lt
    ∙ (ap (λ (x : List ℕ). x ∷ fields_of (after_first (λ b. eqb b 32) line)) (sym f) ∙ ap (λ (x : List ℕ). field ∷ fields_of x) (sym r))

-- a line without one
pub fields-without-blank : (line : List ℕ) → position_or_len (λ b. eqb b 32) line ≡ length line → fields_of line ≡ line ∷ []
fields-without-blank line e =
    slice_split_none (λ b. eqb b 32) line (λ k d lt. fails_before_first (λ b. eqb b 32) line k d (omega arith))

-- a line has a field
onto-some : (x : ℕ) (parts : List (List ℕ)) → onto_first x parts ≡ [] → ⊥
onto-some x [] e = cc
onto-some x (part ∷ parts) e = cc

cons-some : (b : Bool) (x : ℕ) (parts : List (List ℕ)) → cond b ([] ∷ parts) (onto_first x parts) ≡ [] → ⊥
cons-some true x parts e = cc
cons-some false x parts e = onto-some x parts e

pub has-field : (line : List ℕ) → fields_of line ≡ [] → ⊥
has-field [] e = cc
has-field (b ∷ line) e = cons-some (eqb b 32) b (fields_of line) e

-- whether fields are left
end-of : (fields : List (List ℕ)) → (fields ≡ [] → ⊥) → is_end fields ≡ false
end-of [] some = absurd (some refl)
end-of (field ∷ fields) some = refl

pub none-left : (rest : Option (Bor (List ℕ))) (fields : List (List ℕ)) (r : Bool) → fields_in_rest rest ≡ fields → is_some rest ≡ not r
    → r ≡ is_end fields
none-left None fields true e b = ap is_end e
none-left None fields false e b = absurd cc
none-left (Some line) fields true e b = absurd cc
none-left (Some line) fields false e b = sym (end-of fields (λ f. has-field line.now (e ∙ f)))

-- the fields that are left, joined
pub rest-joined : (rest : Option (Bor (List ℕ))) (other : Bor (List ℕ)) → other.now ≡ [] → (unwrap_or rest other).now ≡ line_of_fields (fields_in_rest rest)
rest-joined None other e = e
rest-joined (Some line) other e = sym (join_with_byte-slice_split 32 line.now)
