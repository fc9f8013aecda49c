-- A table that a text means has few cells in each definition, each rule and each sign: none has more than its lines can hold.
use Rattle.std.proofs.Common.{◌≡◌, ℕ, zero, suc, ◌+◌, ◌*◌, ◌<◌, ◌≤◌, Bool, true, false, cond, List, [], ◌∷◌, ◌++◌, length, map, Option, Some, None, refl, sym, ap, subst, ◌∙◌, inl, inr, append_assoc, length-append, arith, rules, nat_eq, All, IfSome, flat_map}
use Rattle.std.proofs.lemmas.Bool.{cases_lt}
use Rattle.std.proofs.lemmas.List.{length-map}
use Rattle.std.proofs.lemmas.List.Concat.{length-flat_map}
use Rattle.std.proofs.lemmas.List.Elements.{All-nil, All-cons, All-head, All-tail, All-append, All-weaker}
use Rattle.std.proofs.lemmas.List.Sums.{sum_by-le}
use Rattle.std.proofs.lemmas.Map.Entries.{All-lookup}
use Rattle.std.proofs.lemmas.Grind.{common_steps}
use Rattle.cell_core.specs.Dots.{Dots, blank, dotted}
use Rattle.louis_table.specs.declared.definition.Definition.{Definition}
use Rattle.louis_table.specs.declared.rule.Rule.{Rule}
use Rattle.louis_table.specs.declared.sign.Sign.{Sign}
use Rattle.louis_table.specs.Characters.{Spells}
use Rattle.louis_table.specs.Fields.{Begins, HasFields}
use Rattle.louis_table.specs.Meaning.{Meaning, definition_of, fold_of, sign_cells}
use Rattle.louis_table.specs.Profile.{Profile}
use Rattle.louis_table.specs.Table.{Entry, Defines, Pairs, Replaces, Announces, Collects, PairDots, RuleDots, GivesEntry, definition_line, pair_line, rule_line, sign_line, set_line, GiveFrom, IsFault, long_line, line_too_many, HasCause, on_line, definitions_in, cells_in_definition, cells_for, rule_cells, rules_in, is_same_sign, MeansIn, text_lines, most_lines, most_line_characters}
use Rattle.louis_table.proofs.MeaningLaws.{sign_cells-map}

split_at : {X : Type 0} (n : ℕ) (xs : List X) → n < length xs → (before : List X) × (x : X) × (after : List X) × (xs ≡ before ++ x ∷ after) × (length before ≡ n)
split_at n [] lt = absurd (omega (arith, lt))
split_at zero (x ∷ xs) lt = ([], x, xs, refl, refl)
split_at (suc n) (x ∷ xs) lt =
    let r = split_at n xs (omega (arith, lt)) in
    (x ∷ r.0, r.1, r.2, ap (λ ys. x ∷ ys) r.3, ap suc r.4)

-- ---- how much is written in a field

cells-short : (text cells : List ℕ) → Dots text cells → length cells ≤ length text
cells-short text [] dots = absurd dots
cells-short text (cell ∷ []) (blank e mask) = let size = ap length e in omega (arith, size)
cells-short [] (cell ∷ []) (dotted some lists) = absurd (some refl)
cells-short (c ∷ text) (cell ∷ []) (dotted some lists) = omega arith
cells-short text (cell ∷ next ∷ cells) (first, rest, e, here, dots) = search (rules, length-append, (cells-short rest (next ∷ cells) dots))

characters-short : (text characters : List ℕ) → Spells text characters → length characters ≤ length text
characters-short text [] e = omega arith
characters-short text (character ∷ characters) (front, rest, e, here, spells) = search (rules, length-append, (characters-short rest characters spells))

begins-short : (text field rest : List ℕ) → Begins text field rest → (length field ≤ length text) × (length rest ≤ length text)
begins-short text field rest b = search (rules, length-append)

second-short : (line name field : List ℕ) (fields : List (List ℕ)) → HasFields line (name ∷ field ∷ fields) → length field ≤ length line
second-short line name field fields h = omega (arith, (begins-short line name h.0 h.1).1, (begins-short h.0 field h.2.0 h.2.1).0)

third-short : (line name other field : List ℕ) (fields : List (List ℕ)) → HasFields line (name ∷ other ∷ field ∷ fields) → length field ≤ length line
third-short line name other field fields h = omega (arith, (begins-short line name h.0 h.1).1, second-short h.0 other field fields h.2)

-- ---- what a line gives

abbrev FewCells : Entry → Type 0
FewCells (Defines character defined) = length defined.cells ≤ 1000
FewCells (Pairs upper upper_cells lower lower_cells) = (length upper_cells ≤ 1000) × (length lower_cells ≤ 1000)
FewCells (Replaces kind text cells) = (length text ≤ 1000) × ((written : List ℕ) → cells ≡ Some written → length written ≤ 1000)
FewCells (Announces sign cells) = length cells ≤ 1000
FewCells (Collects set text) = Unit {0}

pair-few : (dots upper lower : List ℕ) → length dots ≤ 1000 → PairDots dots upper lower → (length upper ≤ 1000) × (length lower ≤ 1000)
pair-few dots upper lower short (inl (d, e)) = search (rules, cells-short)
pair-few dots upper lower short (inr (first, second, e, d, d')) = search (rules, cells-short, length-append)

rule-dots-few : (dots : List ℕ) (cells : Option (List ℕ)) → length dots ≤ 1000 → RuleDots dots cells → (written : List ℕ) → cells ≡ Some written → length written ≤ 1000
rule-dots-few dots None short d written e = cc
rule-dots-few dots (Some cells) short d written e = search (rules, cells-short)

gives-few : (profile : Profile) (line : List ℕ) (entry : Entry) → length line ≤ 1000 → GivesEntry profile line entry → FewCells entry
gives-few profile line entry short (definition_line class characters dots c cells has h s d e) = grind (arith, common_steps, cells-short, third-short)
gives-few profile line entry short (pair_line characters dots upper lower upper_cells lower_cells has h s d e) =
    let field = third-short line _ characters dots [] h in
    subst FewCells (sym e) (pair-few dots upper_cells lower_cells (omega (arith, field, short)) d)
gives-few profile line entry short (rule_line kind characters dots text cells has h s d e) = grind (arith, common_steps, third-short, second-short, characters-short, rule-dots-few)
gives-few profile line entry short (sign_line sign dots cells has h d e) = grind (arith, common_steps, cells-short, second-short)
gives-few profile line entry short (set_line set characters text has h s e) = subst FewCells (sym e) tt

module _ (profile : Profile) (all : List (List ℕ)) (sound : (n cause : ℕ) → HasCause profile all n cause → ⊥) where
  no_fault : (before : List (List ℕ)) (line : List ℕ) (after : List (List ℕ)) → all ≡ before ++ line ∷ after → (cause : ℕ) → IsFault profile before line cause → ⊥
  no_fault before line after parts cause fault = sound (length before + 1) cause (on_line before line after parts refl fault)

  line-short : (before : List (List ℕ)) (line : List ℕ) (after : List (List ℕ)) → all ≡ before ++ line ∷ after → length line ≤ 1000
  line-short before line after parts =
      elim (cases_lt most_line_characters (length line)) [
        | inl over ↦ absurd (no_fault before line after parts 8 (long_line over refl))
        | inr few ↦ few
      ]

  entries-few : (before lines : List (List ℕ)) (n : ℕ) (entries : List (ℕ × Entry)) → all ≡ before ++ lines → GiveFrom profile n lines entries
      → All (λ e. FewCells e.1) entries
  entries-few before [] n entries parts h = subst (All (λ (e : ℕ × Entry). FewCells e.1)) (sym h) (All-nil (λ (e : ℕ × Entry). FewCells e.1))
  entries-few before (line ∷ lines) n entries parts (inl (says, h)) =
      entries-few (before ++ line ∷ []) lines (n + 1) entries (parts ∙ sym (append_assoc before (line ∷ []) lines)) h
  entries-few before (line ∷ lines) n entries parts (inr (entry, rest, gives, e, h)) =
      subst (All (λ (x : ℕ × Entry). FewCells x.1)) (sym e)
      (All-cons (λ (x : ℕ × Entry). FewCells x.1) (n, entry) rest (gives-few profile line entry (line-short before line lines parts) gives)
      (entries-few (before ++ line ∷ []) lines (n + 1) rest (parts ∙ sym (append_assoc before (line ∷ []) lines)) h))

  lines-few : length all ≤ 20000
  lines-few =
      elim (cases_lt most_lines (length all)) [
        | inl over ↦
            let r = split_at most_lines all over in
            let full = r.4 in
            absurd (no_fault r.0 r.1 r.2 r.3 8 (line_too_many (omega (arith, full)) refl))
        | inr few ↦ few
      ]

entries-count : (profile : Profile) (n : ℕ) (lines : List (List ℕ)) (entries : List (ℕ × Entry)) → GiveFrom profile n lines entries → length entries ≤ length lines
entries-count profile n [] entries h = let e = ap length h in omega (arith, e)
entries-count profile n (line ∷ lines) entries (inl (says, h)) = let few = entries-count profile (n + 1) lines entries h in omega (arith, few)
entries-count profile n (line ∷ lines) entries (inr (entry, rest, gives, e, h)) = search (rules, (entries-count profile (n + 1) lines rest h))

-- ---- the table that entries make

joined-few : {X : Type 0} (f : X → List ℕ) (most : ℕ) (xs : List X) → All (λ x. length (f x) ≤ most) xs → length (flat_map f xs) ≤ length xs * most
joined-few f most xs all = subst (λ (n : ℕ). n ≤ length xs * most) (sym (length-flat_map f xs)) (sum_by-le (λ x. length (f x)) most xs all)

pub all_joined : {X Y : Type 0} (P : Y → Type 0) (f : X → List Y) (xs : List X) → All (λ x. All P (f x)) xs → All P (flat_map f xs)
all_joined P f [] all = All-nil P
all_joined {X} P f (x ∷ xs) all =
    All-append P (f x) (flat_map f xs) (All-head (λ (y : X). All P (f y)) x xs all) (all_joined P f xs (All-tail (λ (y : X). All P (f y)) x xs all))

abbrev FewDefined : ℕ × Definition → Type 0
FewDefined d = length d.1.cells ≤ 1000

definition-few : (entry : Entry) → FewCells entry → All FewDefined (definitions_in entry)
definition-few (Defines character defined) h = All-cons FewDefined (character, defined) [] h (All-nil FewDefined)
definition-few (Pairs upper upper_cells lower lower_cells) h = search rules
definition-few entry h = All-nil FewDefined

sign-few : (sign : Sign) (entry : Entry) → FewCells entry → length (cells_for sign entry) ≤ 1000
sign-few sign (Announces other cells) h = by (is_same_sign sign other)
  where
    by : (b : Bool) → length (cond b cells []) ≤ 1000
    by true = h
    by false = omega arith
sign-few sign entry h = omega arith

abbrev FewOfRule : Rule → Type 0
FewOfRule rule = length rule.cells ≤ 1000000

module _ (meaning : Meaning) (known : All FewDefined meaning.definitions) where
  defined-few : (c : ℕ) → length (cells_in_definition (definition_of meaning c)) ≤ 1000
  defined-few c = by (definition_of meaning c) (All-lookup (λ (d : Definition). length d.cells ≤ 1000) (nat_eq c) meaning.definitions known)
    where
      by : (o : Option Definition) → IfSome o (λ d. length d.cells ≤ 1000) → length (cells_in_definition o) ≤ 1000
      by None h = omega arith
      by (Some d) h = h

  rule-few : (n : ℕ) (entry : Entry) → FewCells entry → All FewOfRule (rules_in meaning (n, entry))
  rule-few n (Replaces kind text None) h =
      All-cons FewOfRule _ [] (few) (All-nil FewOfRule)
    where
      few : length (rule_cells meaning (map (fold_of meaning) text) None) ≤ 1000000
      few =
          let each = joined-few (λ (c : ℕ). cells_in_definition (definition_of meaning c)) 1000 (map (fold_of meaning) text) (λ k d lt. defined-few _) in
          omega (arith, each, length-map text (fold_of meaning), h.0)
  rule-few n (Replaces kind text (Some cells)) h = All-cons FewOfRule _ [] (let few = h.1 cells refl in omega (arith, few)) (All-nil FewOfRule)
  rule-few n entry h = All-nil FewOfRule

-- how many cells stand in each definition, each rule and each sign at most
pub record HasFewCells (meaning : Meaning) : Type 0 where
  pub definitions : All (λ d. length d.1.cells ≤ 1000) meaning.definitions
  pub rules : All (λ rule. length rule.cells ≤ 1000000) meaning.rules
  pub signs : (sign : Sign) → length (sign_cells meaning sign) ≤ 20000000

pub few_cells : (profile : Profile) (bytes : List ℕ) (meaning : Meaning) → MeansIn profile bytes meaning → HasFewCells meaning
few_cells profile bytes meaning means =
    let all : All (λ (e : ℕ × Entry). FewCells e.1) means.entries = entries-few profile (text_lines bytes) means.is_sound [] (text_lines bytes) 1 means.entries refl means.given in
    let known : All FewDefined meaning.definitions =
    subst (All FewDefined) (sym means.made.definitions)
    (all_joined FewDefined (λ (e : ℕ × Entry). definitions_in e.1) means.entries
    (All-weaker (λ (e : ℕ × Entry). FewCells e.1) (λ (e : ℕ × Entry). All FewDefined (definitions_in e.1)) (λ e h. definition-few e.1 h) means.entries all)) in
    let count = entries-count profile 1 (text_lines bytes) means.entries means.given in
    let lines = lines-few profile (text_lines bytes) means.is_sound in
    record {
      definitions = known;
      rules = subst (All FewOfRule) (sym means.made.rules)
          (all_joined FewOfRule (rules_in meaning) means.entries
          (All-weaker (λ (e : ℕ × Entry). FewCells e.1) (λ (e : ℕ × Entry). All FewOfRule (rules_in meaning e)) (λ e h. rule-few meaning known e.0 e.1 h) means.entries all));
      signs = λ sign.
          let e = ap length (sign_cells-map meaning (λ sign. flat_map (λ e. cells_for sign e.1) means.entries) means.made.signs sign) in
          let each = joined-few (λ (e : ℕ × Entry). cells_for sign e.1) 1000 means.entries
          (All-weaker (λ (e : ℕ × Entry). FewCells e.1) (λ (e : ℕ × Entry). length (cells_for sign e.1) ≤ 1000) (λ e h. sign-few sign e.1 h) means.entries all) in
          omega (arith, e, each, count, lines);
    }
