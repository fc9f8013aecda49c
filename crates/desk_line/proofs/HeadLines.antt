-- What the bytes of a line have to be before anything is read of them, and the command after an expected version.
use Rattle.std.proofs.Common.{◌≡◌, ◌≢◌, ℕ, ◌<◌, ◌≤◌, Bool, true, false, ◌&&◌, List, [], ◌∷◌, length, cond, leb, eqb, arith, refl, ap, ◌∙◌, inl, inr, option_map}
use Rattle.std.specs.Prelude.{Option, None, Some}
use Rattle.std.specs.Str.{IsUtf8, is_utf8}
use Rattle.std.proofs.lemmas.Bool.{le-leb, leb-true, eqb-true, cond-false, cases_Bool}
use Rattle.std.proofs.lemmas.Str.{is_utf8-from_IsUtf8, IsUtf8-from_is_utf8}
use Rattle.desk_line.specs.declared.read.Head.TheVariants.{Do}
use Rattle.desk_line.specs.declared.directive.Directive.{Directive}
use Rattle.desk_line.specs.Fields.{fields_of}
use Rattle.desk_ends.specs.Limits.{most_line_bytes}
use Rattle.desk_line.specs.ReadingSteps.{head_in, head_of, command_after, command_in, expecting, first_and_others, number_in, directive_by, directive_in}

pub some-is : {A : Type 0} (x y : A) → Some x ≡ Some y → x ≡ y
some-is x y e = cc

pub some-none : {A : Type 0} (x : A) (o : Option A) → o ≡ Some x → o ≡ None → ⊥
some-none x o s n = cc

-- what isn't there
pub unfound : {A : Type 0} (o : Option A) → ((x : A) → o ≡ Some x → ⊥) → o ≡ None
unfound None h = refl
unfound (Some x) h = absurd (h x refl)

-- a test of two parts
tested : {A : Type 0} (a b : Bool) (x : Option A) → a ≡ true → b ≡ true → cond (a && b) x None ≡ x
tested true true x e f = refl
tested true false x e f = absurd cc
tested false b x e f = absurd cc

untested : {A : Type 0} (a b : Bool) (x : Option A) → (a ≡ true → b ≡ true → ⊥) → cond (a && b) x None ≡ None
untested true true x h = absurd (h refl refl)
untested true false x h = refl
untested false b x h = refl

pub head-of-text : (line : List ℕ) → length line ≤ most_line_bytes → IsUtf8 line → head_of line ≡ head_in (fields_of line)
head-of-text line short text =
    tested (leb (length line) most_line_bytes) (is_utf8 line) (head_in (fields_of line)) (le-leb (length line) most_line_bytes short) (is_utf8-from_IsUtf8 line text)

pub head-of-long : (line : List ℕ) → most_line_bytes < length line → head_of line ≡ None
head-of-long line long =
    untested (leb (length line) most_line_bytes) (is_utf8 line) (head_in (fields_of line)) (λ e f. let h = leb-true (length line) most_line_bytes e in absurd (omega arith))

pub head-of-bytes : (line : List ℕ) → ¬ IsUtf8 line → head_of line ≡ None
head-of-bytes line bytes =
    untested (leb (length line) most_line_bytes) (is_utf8 line) (head_in (fields_of line)) (λ e f. bytes (IsUtf8-from_is_utf8 line f))

pub expecting-is : (number word : List ℕ) (fields others : List (List ℕ)) (version : ℕ) (directive : Directive) → number_in number ≡ Some version
    → first_and_others fields ≡ Some (word, others) → directive_by word others ≡ Some directive → expecting number fields ≡ Some (Do directive (Some version))
unfolding directive_in
expecting-is number word [] others version directive n f o = absurd cc
expecting-is number word (x ∷ xs) others version directive n f o =
    let both = some-is (x, xs) (word, others) f in
    let at_word : x ≡ word = ap (λ (p : List ℕ × List (List ℕ)). p.0) both in
    let at_others : xs ≡ others = ap (λ (p : List ℕ × List (List ℕ)). p.1) both in
    rw (n, at_word, at_others, o)

-- a command before whose word stands no at sign
plain-after : (word : List ℕ) (fields : List (List ℕ)) → ((version : List ℕ) → word ≢ 64 ∷ version)
    → command_after word fields ≡ option_map (λ directive. Do directive None) (directive_by word fields)
plain-after [] fields none = refl
plain-after (b ∷ word) fields none =
    elim (cases_Bool (eqb b 64)) [
      | inl t ↦ absurd (none word (ap (λ (c : ℕ). c ∷ word) (eqb-true b 64 t)))
      | inr f ↦ cond-false (eqb b 64) _ _ f
    ]

-- the first field and the others of a command
command-first : (word : List ℕ) (fields others : List (List ℕ)) → first_and_others fields ≡ Some (word, others) → command_in fields ≡ command_after word others
command-first word [] others f = absurd cc
command-first word (x ∷ xs) others f =
    let both = some-is (x, xs) (word, others) f in
    ap command_in (ap (λ (p : List ℕ × List (List ℕ)). p.0 ∷ p.1) both)

pub plain-is : (word : List ℕ) (fields others : List (List ℕ)) (directive : Option Directive) → first_and_others fields ≡ Some (word, others) → directive_by word others ≡ directive
    → ((version : List ℕ) → word ≢ 64 ∷ version) → command_in fields ≡ option_map (λ o. Do o None) directive
plain-is word fields others directive f o none =
    command-first word fields others f ∙ (plain-after word others none ∙ ap (option_map (λ o. Do o None)) o)

pub expected-is : (word version : List ℕ) (fields others : List (List ℕ)) → first_and_others fields ≡ Some (word, others) → word ≡ 64 ∷ version
    → command_in fields ≡ expecting version others
expected-is word version fields others f e = command-first word fields others f ∙ ap (λ (w : List ℕ). command_after w others) e
