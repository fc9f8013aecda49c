-- Each definition and each rule of a table that a text means has at least one cell.
use Rattle.std.proofs.Common.{◌≡◌, ◌≢◌, ℕ, zero, suc, ◌+◌, List, [], ◌∷◌, ◌++◌, Option, Some, None, Contains, refl, sym, subst, inl, inr, arith, rules, map, nat_eq, slice_get}
use Rattle.std.specs.List.{AllByRecursion, flat_map}
use Rattle.std.proofs.lemmas.List.Elements.{Contains-append_right}
use Rattle.std.specs.Map.{lookup}
use Rattle.std.proofs.lemmas.Bool.{cases_Bool}
use Rattle.louis_table.specs.declared.definition.Definition.{Definition}
use Rattle.louis_table.specs.declared.rule.Rule.{Rule}
use Rattle.louis_table.specs.Meaning.{Meaning, HasCells, definition_of, fold_of}
use Rattle.louis_table.specs.Profile.{Profile}
use Rattle.louis_table.specs.Table.{Entry, Defines, Pairs, Replaces, Announces, Collects, GiveFrom, definitions_in, cells_in_definition, rule_cells, rules_in, IsLacking, MeansIn}

-- ---- what a line gives

abbrev MakesCells : Entry → Type 0
MakesCells (Defines character defined) = defined.cells ≢ []
MakesCells (Pairs upper upper_cells lower lower_cells) = (upper_cells ≢ []) × (lower_cells ≢ [])
MakesCells (Replaces kind text cells) = (text ≢ []) × ((written : List ℕ) → cells ≡ Some written → written ≢ [])
MakesCells (Announces sign cells) = Unit {0}
MakesCells (Collects set text) = Unit {0}

-- ---- what the lines give

all_append : {X : Type 0} (P : X → Type 0) (xs ys : List X) → AllByRecursion P xs → AllByRecursion P ys → AllByRecursion P (xs ++ ys)
all_append P [] ys h k = k
all_append P (x ∷ xs) ys h k = (h.0, all_append P xs ys h.1 k)

all_at : {X : Type 0} (P : X → Type 0) (xs : List X) (k : ℕ) (x : X) → AllByRecursion P xs → slice_get xs k ≡ Some x → P x
all_at P [] k x h e = cc
all_at P (y ∷ xs) zero x h e = subst P (let same : y ≡ x = cc in same) h.0
all_at P (y ∷ xs) (suc k) x h e = all_at P xs k x h.1 e

all_of_each : {X : Type 0} (P : X → Type 0) (xs : List X) → ((x : X) → Contains xs x → P x) → AllByRecursion P xs
all_of_each P [] h = tt
all_of_each P (x ∷ xs) h = (h x (0, omega arith, refl), all_of_each P xs (λ y c. h y (Contains-append_right (x ∷ []) xs y c)))

entries-cells : (profile : Profile) (n : ℕ) (lines : List (List ℕ)) (entries : List (ℕ × Entry)) → GiveFrom profile n lines entries
    → AllByRecursion (λ e. MakesCells e.1) entries
entries-cells profile n [] entries h = subst (AllByRecursion (λ (e : ℕ × Entry). MakesCells e.1)) (sym h) tt
entries-cells profile n (line ∷ lines) entries (inl (says, h)) = entries-cells profile (n + 1) lines entries h
entries-cells profile n (line ∷ lines) entries (inr (entry, rest, gives, e, h)) = search (rules, (entries-cells profile (n + 1) lines rest h))

abbrev HasSome : Definition → Type 0
HasSome defined = defined.cells ≢ []

definition-cells : (entry : Entry) → MakesCells entry → AllByRecursion (λ d. HasSome d.1) (definitions_in entry)
definition-cells (Defines character defined) h = (h, tt)
definition-cells (Pairs upper upper_cells lower lower_cells) h = (h.0, (h.1, tt))
definition-cells entry h = tt

definitions-cells : (entries : List (ℕ × Entry)) → AllByRecursion (λ e. MakesCells e.1) entries
    → AllByRecursion (λ d. HasSome d.1) (flat_map (λ e. definitions_in e.1) entries)
definitions-cells [] h = tt
definitions-cells (e ∷ entries) h = search (rules, definition-cells, (definitions-cells entries h.1))

found-cells : (c : ℕ) (definitions : List (ℕ × Definition)) (defined : Definition) → AllByRecursion (λ d. HasSome d.1) definitions
    → lookup (nat_eq c) definitions ≡ Some defined → HasSome defined
found-cells c [] defined h e = cc
found-cells c ((d, first) ∷ definitions) defined h e =
    elim (cases_Bool (nat_eq c d)) [
      | inl same ↦ let found : Some first ≡ Some defined = rw same at e in subst HasSome (let one : first ≡ defined = cc in one) h.0
      | inr other ↦ found-cells c definitions defined h.1 (rw other at e)
    ]

-- ---- rules

joined_cells : (xs ys : List ℕ) → xs ≢ [] → xs ++ ys ≢ []
joined_cells [] ys some = λ e. some refl
joined_cells (x ∷ xs) ys some = λ e. cc

module _ (meaning : Meaning) (known : (c : ℕ) (defined : Definition) → definition_of meaning c ≡ Some defined → HasSome defined) where
  defined-cells : (c : ℕ) → definition_of meaning c ≢ None → cells_in_definition (definition_of meaning c) ≢ []
  defined-cells c some = at (definition_of meaning c) refl
    where
      at : (o : Option Definition) → definition_of meaning c ≡ o → cells_in_definition o ≢ []
      at None e = absurd (some e)
      at (Some defined) e = known c defined e

  spelled-cells : (text : List ℕ) → text ≢ [] → ((c : ℕ) → Contains text c → definition_of meaning (fold_of meaning c) ≢ None)
      → rule_cells meaning (map (fold_of meaning) text) None ≢ []
  spelled-cells [] some all = λ e. some refl
  spelled-cells (c ∷ text) some all =
      joined_cells _ _ (defined-cells (fold_of meaning c) (all c (0, omega arith, refl)))

  rule-cells : (n : ℕ) (entry : Entry) → MakesCells entry → (IsLacking meaning entry → ⊥) → AllByRecursion (λ r. r.cells ≢ []) (rules_in meaning (n, entry))
  rule-cells n (Replaces kind text None) h complete = (spelled-cells text h.0 (λ c there none. complete (c, there, none)), tt)
  rule-cells n (Replaces kind text (Some cells)) h complete = (h.1 cells refl, tt)
  rule-cells n entry h complete = tt

  rules-cells : (entries : List (ℕ × Entry)) → AllByRecursion (λ e. MakesCells e.1) entries → AllByRecursion (λ e. IsLacking meaning e.1 → ⊥) entries
      → AllByRecursion (λ r. r.cells ≢ []) (flat_map (rules_in meaning) entries)
  rules-cells [] h complete = tt
  rules-cells ((n, entry) ∷ entries) h complete =
      all_append (λ (r : Rule). r.cells ≢ []) (rules_in meaning (n, entry)) (flat_map (rules_in meaning) entries)
      (rule-cells n entry h.0 complete.0) (rules-cells entries h.1 complete.1)

pub has_cells : (profile : Profile) (bytes : List ℕ) (meaning : Meaning) → MeansIn profile bytes meaning → HasCells meaning
has_cells profile bytes meaning means =
    let all = entries-cells profile 1 _ means.entries means.given in
    let known : (c : ℕ) (defined : Definition) → definition_of meaning c ≡ Some defined → HasSome defined =
    λ c defined e. found-cells c meaning.definitions defined
    (subst (AllByRecursion (λ (d : ℕ × Definition). HasSome d.1)) (sym means.made.definitions) (definitions-cells means.entries all)) e in
    let complete = all_of_each (λ (e : ℕ × Entry). IsLacking meaning e.1 → ⊥) means.entries (λ e there. means.is_complete e.0 e.1 there) in
    record {
      definitions = known;
      rules = λ k rule there. all_at (λ (r : Rule). r.cells ≢ []) meaning.rules k rule
          (subst (AllByRecursion (λ (r : Rule). r.cells ≢ [])) (sym means.made.rules) (rules-cells meaning known means.entries all complete)) there;
    }
