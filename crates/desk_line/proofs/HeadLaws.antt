-- What is read of a head line is what it says, and what it says is read.
use Rattle.std.proofs.Common.{◌≡◌, ℕ, ◌&&◌, eqb, leb, List, [], ◌∷◌, length, Option, Some, None, option_map, refl, sym, ap, ◌∙◌, ◌⊎◌, inl, inr}
use Rattle.std.specs.Str.{is_utf8}
use Rattle.std.proofs.lemmas.Bool.{leb-true, and_parts, eqb-true, cond-false, cases_Bool}
use Rattle.std.proofs.lemmas.Str.{IsUtf8-from_is_utf8}
use Rattle.desk_line.specs.declared.read.Head.{Head}
use Rattle.desk_line.specs.declared.read.Head.TheVariants.{Do, Ask}
use Rattle.desk_line.specs.declared.directive.Directive.{Directive}
use Rattle.desk_line.specs.Fields.{fields_of}
use Rattle.desk_line.specs.Commands.{SaysDirective}
use Rattle.desk_line.specs.HeadLine.{Expects, nothing, expected, Says, does, asks}
use Rattle.desk_ends.specs.Limits.{most_line_bytes}
use Rattle.desk_line.specs.Lines.{CanBeHead}
use Rattle.desk_line.specs.ReadingSteps.{number_in, directive_by, directive_in, query_in, or_else, command_in, head_in, head_of}
use Rattle.desk_line.proofs.HeadLines.{head-of-text, some-none, unfound}
use Rattle.desk_line.proofs.OperandLaws.{made-of-both, taken, number-read, number-found}
use Rattle.desk_line.proofs.CommandLaws.{asked-unsaid, directive-read, directive-read-by, directive-found, query-read, query-found}
use Rattle.louis_table.proofs.CharacterLaws.{chosen, map_some}

else-read : {A : Type 0} (p q : Option A) (z : A) → or_else p q ≡ Some z → (p ≡ Some z) ⊎ ((p ≡ None) × (q ≡ Some z))
else-read None q z e = inr (refl, e)
else-read (Some x) q z e = inl e

-- a command without an expected version
plain-read : (word : List ℕ) (fields : List (List ℕ)) (head : Head) → option_map (λ directive. Do directive None) (directive_by word fields) ≡ Some head
    → (directive : Directive) × SaysDirective (word ∷ fields) directive × (head ≡ Do directive None)
plain-read word fields head e =
    let m = map_some (λ (directive : Directive). Do directive None) (directive_by word fields) head e in
    (m.0, directive-read-by word fields m.0 m.1, sym m.2)

-- a command and what is expected
abbrev Commands : List (List ℕ) → Head → Type 0
Commands fields head = (expect : Option ℕ) × (command : List (List ℕ)) × (directive : Directive) × Expects fields expect command × SaysDirective command directive × (head ≡ Do directive expect)

plain : (word : List ℕ) (fields : List (List ℕ)) (head : Head) → option_map (λ directive. Do directive None) (directive_by word fields) ≡ Some head → Commands (word ∷ fields) head
plain word fields head e = let h = plain-read word fields head e in (None, word ∷ fields, h.0, nothing refl refl, h.1, h.2)

command-read : (fields : List (List ℕ)) (head : Head) → command_in fields ≡ Some head → Commands fields head
command-read [] head e = absurd cc
command-read ([] ∷ fields) head e = plain [] fields head e
command-read ((b ∷ word) ∷ fields) head e =
    elim (chosen (eqb b 64) _ _ _ e) [
      | inl p ↦
          let m = made-of-both (λ version directive. Do directive (Some version)) (number_in word) (directive_in fields) head p.1 in
          (Some m.0, fields, m.1, expected word m.0 (number-read word m.0 m.2) (ap (λ (c : ℕ). (c ∷ word) ∷ fields) (eqb-true b 64 p.0)) refl, directive-read fields m.1 m.3, sym m.4)
      | inr p ↦ plain (b ∷ word) fields head p.1
    ]

-- ---- what is read is said

pub head-read : (line : List ℕ) (head : Head) → head_of line ≡ Some head → Says line head
unfolding head_in
head-read line head e =
    let h = taken (leb (length line) most_line_bytes && is_utf8 line) (head_in (fields_of line)) head e in
    let tests = and_parts (leb (length line) most_line_bytes) (is_utf8 line) h.0 in
    let text : CanBeHead line = record { short = leb-true (length line) most_line_bytes tests.0; utf8 = IsUtf8-from_is_utf8 line tests.1 } in
    elim (else-read (option_map Ask (query_in (fields_of line))) (command_in (fields_of line)) head h.1) [
      | inl p ↦ let m = map_some Ask (query_in (fields_of line)) head p in asks m.0 text (query-read (fields_of line) m.0 m.1) (sym m.2)
      | inr p ↦ let c = command-read (fields_of line) head p.1 in does c.0 c.1 c.2 text c.3 c.4 c.5
    ]

-- ---- what is said is read

no-query : (fields : List (List ℕ)) (directive : Directive) → directive_in fields ≡ Some directive → query_in fields ≡ None
no-query fields directive found =
    unfound (query_in fields) (λ query e. some-none directive (directive_in fields) found (asked-unsaid fields query e))

-- no command's word begins with an at sign
signed-unsaid : (word : List ℕ) (fields : List (List ℕ)) → directive_in ((64 ∷ word) ∷ fields) ≡ None
unfolding directive_in
signed-unsaid word fields = refl

no-version : (fields : List (List ℕ)) (directive : Directive) → directive_in fields ≡ Some directive
    → command_in fields ≡ option_map (λ directive. Do directive None) (directive_in fields)
unfolding directive_in
no-version [] directive e = refl
no-version ([] ∷ fields) directive e = refl
no-version ((b ∷ word) ∷ fields) directive e =
    elim (cases_Bool (eqb b 64)) [
      | inl t ↦ absurd (some-none directive (directive_in ((b ∷ word) ∷ fields)) e
          (ap (λ (c : ℕ). directive_in ((c ∷ word) ∷ fields)) (eqb-true b 64 t) ∙ signed-unsaid word fields))
      | inr f ↦ cond-false (eqb b 64) _ _ f
    ]

-- after a version stands no query
no-query-expected : (number : List ℕ) (command : List (List ℕ)) → query_in ((64 ∷ number) ∷ command) ≡ None
unfolding query_in
no-query-expected number command = refl

command-found : (fields : List (List ℕ)) (expect : Option ℕ) (command : List (List ℕ)) (directive : Directive)
    → Expects fields expect command → SaysDirective command directive → head_in fields ≡ Some (Do directive expect)
unfolding head_in
command-found fields expect command directive (nothing none e) says =
    let found = directive-found command directive says in
    ap head_in e
    ∙ (rw (no-query command directive found, no-version command directive found, found) (ap (λ (x : Option ℕ). (let h : Option Head = Some (Do directive x) in h)) (sym none)))
command-found fields expect command directive (expected number wanted n e some) says =
    ap head_in e
    ∙ (rw (no-query-expected number command, number-found number wanted n, directive-found command directive says) (ap (λ (x : Option ℕ). (let h : Option Head = Some (Do directive x) in h)) (sym some)))

pub head-found : (line : List ℕ) (head : Head) → Says line head → head_of line ≡ Some head
unfolding head_in
head-found line head (does expect command directive text ex says is) =
    head-of-text line text.short text.utf8 ∙ (command-found (fields_of line) expect command directive ex says ∙ ap Some (sym is))
head-found line head (asks query text says is) =
    head-of-text line text.short text.utf8 ∙ (rw (query-found (fields_of line) query says) refl ∙ ap Some (sym is))
