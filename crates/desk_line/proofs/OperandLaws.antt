-- What is read of a field is what the field stands for.
use Rattle.std.proofs.Common.{◌≡◌, ℕ, ◌<◌, ◌≤◌, Bool, true, false, cond, ◌&&◌, leb, ltb, List, [], ◌∷◌, length, Option, Some, None, option_map, codes, refl, sym, ap, subst, ◌∙◌, ◌⊎◌, inl, inr, arith}
use Rattle.std.specs.Option.{option_and_then}
use Rattle.std.specs.List.{list_all}
use Rattle.std.specs.Char.{is_ascii_digit, digit_value}
use Rattle.std.specs.Str.{bytes_eq, chars}
use Rattle.std.specs.Str.Parse.{AllDigits, digits_value}
use Rattle.std.proofs.lemmas.Bool.{lt-ltb, ltb-true, le-leb, leb-true, and_parts, and_from, cond-true, cond-false, cases_Bool}
use Rattle.std.proofs.lemmas.Slice.Eq.{bytes_eq-Decides}
use Rattle.std.proofs.lemmas.Str.{digit_value_digit}
use Rattle.std.proofs.lemmas.Str.Parse.{digit_from_value}
use Rattle.louis_table.specs.Table.{most_lines}
use Rattle.louis_table.proofs.CharacterLaws.{chosen, map_some, and_then_some}
use Rattle.desk_model.specs.declared.command.Anchor.{Anchor}
use Rattle.desk_model.specs.declared.command.Anchor.TheVariants.{Front, End, Para}
use Rattle.desk_model.specs.declared.style.Style.{Style}
use Rattle.desk_model.specs.declared.style.Style.TheVariants.{Body, Heading}
use Rattle.desk_line.specs.Fields.{IsName, IsNumber, IsAnchor, front, end, after, IsStyle, body, heading, IsFlag, on, off}
use Rattle.desk_line.specs.Limits.{most_digits, most_number}
use Rattle.desk_line.specs.ReadingSteps.{of_both, name_in, number_in, small_number, count_in, few_lines, anchor_in, style_in, flag_in}
use Rattle.desk_line.proofs.DigitValues.{digit-in-range}
use Rattle.desk_line.proofs.HeadLines.{some-is, some-none}

-- ---- tests

-- a test without an else
pub taken : {A : Type 0} (b : Bool) (x : Option A) (z : A) → cond b x None ≡ Some z → (b ≡ true) × (x ≡ Some z)
taken true x z e = (refl, e)
taken false x z e = absurd cc

-- a word by its test
pub word-is : (field word : List ℕ) → bytes_eq field word ≡ true → field ≡ word
word-is field word t = (bytes_eq-Decides field word).0 t

-- one of two words, each of which stands for a value
one-of-two : {A : Type 0} (field this that : List ℕ) (x y z : A) → cond (bytes_eq field this) (Some x) (cond (bytes_eq field that) (Some y) None) ≡ Some z
    → ((field ≡ this) × (z ≡ x)) ⊎ ((field ≡ that) × (z ≡ y))
one-of-two field this that x y z e =
    elim (chosen (bytes_eq field this) _ _ _ e) [
      | inl p ↦ inl (word-is field this p.0, sym (some-is x z p.1))
      | inr p ↦ let q = taken (bytes_eq field that) (Some y) z p.1 in inr (word-is field that q.0, sym (some-is y z q.1))
    ]

-- both of what two give
pub made-of-both : {A B C : Type 0} (make : A → B → C) (p : Option A) (q : Option B) (z : C) → of_both make p q ≡ Some z
    → (x : A) × (y : B) × (p ≡ Some x) × (q ≡ Some y) × (make x y ≡ z)
made-of-both make None q z e = absurd cc
made-of-both make (Some x) None z e = absurd cc
made-of-both make (Some x) (Some y) z e = (x, y, refl, refl, some-is (make x y) z e)

-- ---- names

pub name-read : (field name : List ℕ) → name_in field ≡ Some name → IsName field × (name ≡ chars field)
name-read [] name e = absurd cc
name-read (b ∷ field) name e = (λ n. cc, sym (some-is (chars (b ∷ field)) name e))

pub name-found : (field name : List ℕ) → IsName field × (name ≡ chars field) → name_in field ≡ Some name
name-found [] name h = absurd (h.0 refl)
name-found (b ∷ field) name h = ap Some (sym h.1)

-- ---- numbers

digits-all : (field : List ℕ) → list_all is_ascii_digit field ≡ true → AllDigits 10 field
digits-all [] e = tt
digits-all (c ∷ field) e =
    let parts = and_parts (is_ascii_digit c) (list_all is_ascii_digit field) e in
    let range = digit-in-range c parts.0 in
    let value = digit_value_digit c range in
    (omega arith, digits-all field parts.1)

digit-tested : (c : ℕ) → digit_value c < 10 → is_ascii_digit c ≡ true
digit-tested c h =
    let range = digit_from_value c h in
    and_from (leb 48 c) (leb c 57) (le-leb 48 c range.0) (le-leb c 57 range.1)

all-tested : (field : List ℕ) → AllDigits 10 field → list_all is_ascii_digit field ≡ true
all-tested [] h = refl
all-tested (c ∷ field) h = and_from (is_ascii_digit c) (list_all is_ascii_digit field) (digit-tested c h.0) (all-tested field h.1)

small-is : (value number : ℕ) → small_number value ≡ Some number → (value ≤ most_number) × (value ≡ number)
small-is value number e =
    let h = taken (leb value most_number) (Some value) number e in
    (leb-true value most_number h.0, some-is value number h.1)

pub number-read : (field : List ℕ) (number : ℕ) → number_in field ≡ Some number → IsNumber field number
unfolding number_in
number-read field number e =
    let h = taken (ltb 0 (length field) && leb (length field) most_digits && list_all is_ascii_digit field) (small_number (digits_value 10 field)) number e in
    let all = and_parts (ltb 0 (length field) && leb (length field) most_digits) (list_all is_ascii_digit field) h.0 in
    let lengths = and_parts (ltb 0 (length field)) (leb (length field) most_digits) all.0 in
    let value = small-is (digits_value 10 field) number h.1 in
    record {
      numeral = (ltb-true 0 (length field) lengths.0, digits-all field all.1);
      short = leb-true (length field) most_digits lengths.1;
      value = sym value.1;
      small = subst (λ (n : ℕ). n ≤ most_number) value.1 value.0;
    }

pub number-found : (field : List ℕ) (number : ℕ) → IsNumber field number → number_in field ≡ Some number
unfolding number_in
number-found field number h =
    cond-true (ltb 0 (length field) && leb (length field) most_digits && list_all is_ascii_digit field) (small_number (digits_value 10 field)) None
    (and_from (ltb 0 (length field) && leb (length field) most_digits) (list_all is_ascii_digit field)
    (and_from (ltb 0 (length field)) (leb (length field) most_digits) (lt-ltb 0 (length field) h.numeral.0) (le-leb (length field) most_digits h.short))
    (all-tested field h.numeral.1))
    ∙ (cond-true (leb (digits_value 10 field) most_number) (Some (digits_value 10 field)) None
    (le-leb (digits_value 10 field) most_number (subst (λ (n : ℕ). n ≤ most_number) h.value h.small))
    ∙ ap Some (sym h.value))

-- ---- numbers of lines

pub count-read : (field : List ℕ) (count : ℕ) → count_in field ≡ Some count → IsNumber field count × (count ≤ most_lines)
unfolding count_in
count-read field count e =
    let h = and_then_some few_lines (number_in field) count e in
    let few = taken (leb h.0 most_lines) (Some h.0) count h.2 in
    let same = some-is h.0 count few.1 in
    (subst (IsNumber field) same (number-read field h.0 h.1), subst (λ (n : ℕ). n ≤ most_lines) same (leb-true h.0 most_lines few.0))

pub count-found : (field : List ℕ) (count : ℕ) → IsNumber field count → count ≤ most_lines → count_in field ≡ Some count
unfolding count_in
count-found field count h few =
    ap (option_and_then few_lines) (number-found field count h) ∙ cond-true (leb count most_lines) (Some count) None (le-leb count most_lines few)

-- ---- anchors

pub anchor-read : (field : List ℕ) (anchor : Anchor) → anchor_in field ≡ Some anchor → IsAnchor field anchor
unfolding anchor_in
anchor-read field anchor e =
    elim (chosen (bytes_eq field (codes "front")) _ _ _ e) [
      | inl p ↦ front (word-is field (codes "front") p.0) (sym (some-is Front anchor p.1))
      | inr p ↦ elim (chosen (bytes_eq field (codes "end")) _ _ _ p.1) [
        | inl q ↦ end (word-is field (codes "end") q.0) (sym (some-is End anchor q.1))
        | inr q ↦ let m = map_some Para (number_in field) anchor q.1 in after m.0 (number-read field m.0 m.1) (sym m.2)
      ]
    ]

-- ---- styles and flags

pub style-read : (field : List ℕ) (style : Style) → style_in field ≡ Some style → IsStyle field style
unfolding style_in
style-read field style e =
    elim (one-of-two field (codes "body") (codes "heading") Body Heading style e) [ inl p ↦ body p.0 p.1 | inr p ↦ heading p.0 p.1 ]

pub style-found : (field : List ℕ) (style : Style) → IsStyle field style → style_in field ≡ Some style
unfolding style_in
style-found field style (body e is) = ap style_in e ∙ ap Some (sym is)
style-found field style (heading e is) = ap style_in e ∙ ap Some (sym is)

pub flag-read : (field : List ℕ) (set : Bool) → flag_in field ≡ Some set → IsFlag field set
unfolding flag_in
flag-read field set e =
    elim (one-of-two field (codes "on") (codes "off") true false set e) [ inl p ↦ on p.0 p.1 | inr p ↦ off p.0 p.1 ]

pub flag-found : (field : List ℕ) (set : Bool) → IsFlag field set → flag_in field ≡ Some set
unfolding flag_in
flag-found field set (on e is) = ap flag_in e ∙ ap Some (sym is)
flag-found field set (off e is) = ap flag_in e ∙ ap Some (sym is)

-- digits aren't a word
not-a-word : (field word : List ℕ) (number : ℕ) → IsNumber field number → number_in word ≡ None → bytes_eq field word ≡ false
not-a-word field word number h none =
    elim (cases_Bool (bytes_eq field word)) [
      | inl t ↦ let e = word-is field word t in absurd (some-none number (number_in field) (number-found field number h) (ap number_in e ∙ none))
      | inr f ↦ f
    ]

pub anchor-found : (field : List ℕ) (anchor : Anchor) → IsAnchor field anchor → anchor_in field ≡ Some anchor
unfolding anchor_in number_in
anchor-found field anchor (front e is) = ap anchor_in e ∙ ap Some (sym is)
anchor-found field anchor (end e is) = ap anchor_in e ∙ ap Some (sym is)
anchor-found field anchor (after id h is) =
    cond-false _ _ _ (not-a-word field (codes "front") id h refl)
    ∙ (cond-false _ _ _ (not-a-word field (codes "end") id h refl)
    ∙ (ap (option_map Para) (number-found field id h) ∙ ap Some (sym is)))
