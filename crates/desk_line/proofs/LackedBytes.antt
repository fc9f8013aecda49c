-- Texts in which a byte doesn't stand.
use Rattle.std.proofs.Common.{◌≡◌, ◌≢◌, ℕ, zero, suc, ◌+◌, ◌/◌, ◌%◌, ◌<◌, Bool, true, false, not, cond, eqb, ltb, List, [], ◌∷◌, get_or, sym, ◌∙◌, inl, inr, arith}
use Rattle.std.specs.Prelude.{decimal}
use Rattle.std.specs.Char.{encode_utf8}
use Rattle.std.specs.Fmt.{digits, digits_onto, digit_glyph}
use Rattle.std.specs.List.{All, AllByRecursion, list_all}
use Rattle.std.proofs.lemmas.Bool.{and_parts, cases_Bool, eq-eqb, eqb-true, not-true}
use Rattle.std.proofs.lemmas.List.Elements.{All-append, All-cons, All-from_get_or, All-head, All-nil, All-tail}
use Rattle.std.proofs.lemmas.List.{append-nil}
use Rattle.std.proofs.lemmas.Str.{inside_one}
use Rattle.louis_table.proofs.LineLaws.{IsOneLine}
use Rattle.desk_line.specs.Fields.{line_of_fields}
use Rattle.desk_line.specs.ReplyLines.{shown_text}

pub other-byte : (b byte : ℕ) → b ≢ byte → eqb b byte ≡ false
other-byte b byte n = elim (cases_Bool (eqb b byte)) [ inl t ↦ absurd (n (eqb-true b byte t)) | inr f ↦ f ]

-- the byte doesn't stand in the text
abbrev pub Lacks : ℕ → List ℕ → Type 0
Lacks byte text = All (λ b. eqb b byte ≡ false) text

-- a text without a line feed
pub one-line : (text : List ℕ) → Lacks 10 text → IsOneLine text
one-line [] h = tt
one-line (b ∷ text) h = (All-head (λ x. eqb x 10 ≡ false) b text h, one-line text (All-tail (λ x. eqb x 10 ≡ false) b text h))

-- a text of its own, by a test
pub lacks : (byte : ℕ) (text : List ℕ) → list_all (λ b. not (eqb b byte)) text ≡ true → Lacks byte text
lacks byte [] e = All-nil (λ b. eqb b byte ≡ false)
lacks byte (b ∷ text) e =
    let parts = and_parts (not (eqb b byte)) (list_all (λ x. not (eqb x byte)) text) e in
    All-cons (λ x. eqb x byte ≡ false) b text (not-true (eqb b byte) parts.0) (lacks byte text parts.1)

module _ (byte : ℕ) where
  abbrev Other : ℕ → Type 0
  Other b = eqb b byte ≡ false

  -- ---- characters

  module _ (ascii : byte < 128) where
    pub Lacks-encode : (c : ℕ) → eqb c byte ≡ false → Lacks byte (encode_utf8 c)
    Lacks-encode c other =
        All-from_get_or Other (encode_utf8 c) 0
        (λ k within. other-byte (get_or (encode_utf8 c) k 0) byte
        (λ same.
        let low : get_or (encode_utf8 c) k 0 < 128 = omega arith in
        let is = inside_one c [] (encode_utf8 c) k (sym (append-nil (encode_utf8 c))) within low in
        let e = eq-eqb c byte (is ∙ same) in cc))

    pub Lacks-shown : (text : List ℕ) → All (λ c. eqb c byte ≡ false) text → Lacks byte (shown_text text)
    Lacks-shown [] h = All-nil Other
    Lacks-shown (c ∷ text) h =
        All-append Other (encode_utf8 c) (shown_text text) (Lacks-encode c (All-head Other c text h)) (Lacks-shown text (All-tail Other c text h))

  -- ---- numbers

  module _ (low : byte < 48) where
    glyph-other : (d : ℕ) (b : Bool) → Other (cond b (48 + d) (87 + d))
    glyph-other d true = other-byte (48 + d) byte (λ e. omega arith)
    glyph-other d false = other-byte (87 + d) byte (λ e. omega arith)

    Lacks-glyph : (d : ℕ) (text : List ℕ) → Lacks byte text → Lacks byte (digit_glyph false d ∷ text)
    Lacks-glyph d text h = All-cons Other (digit_glyph false d) text (glyph-other d (ltb d 10)) h

    Lacks-onto : (k n : ℕ) (text : List ℕ) → Lacks byte text → Lacks byte (digits_onto k 10 false n text)
    Lacks-onto zero n text h = h
    Lacks-onto (suc k) n text h = by (eqb (n / 10) 0) (Lacks-onto k (n / 10) (digit_glyph false (n % 10) ∷ text) (Lacks-glyph (n % 10) text h))
      where
        by : (b : Bool) → Lacks byte (digits_onto k 10 false (n / 10) (digit_glyph false (n % 10) ∷ text))
            → Lacks byte (cond b (digit_glyph false (n % 10) ∷ text) (digits_onto k 10 false (n / 10) (digit_glyph false (n % 10) ∷ text)))
        by true others = Lacks-glyph (n % 10) text h
        by false others = others

    pub Lacks-decimal : (n : ℕ) → Lacks byte (decimal n)
    unfolding digits
    Lacks-decimal n = Lacks-onto 64 n [] (All-nil Other)

  -- ---- fields

  module _ (no_blank : 32 ≢ byte) where
    pub Lacks-joined : (fields : List (List ℕ)) → AllByRecursion (Lacks byte) fields → Lacks byte (line_of_fields fields)
    Lacks-joined [] h = All-nil Other
    Lacks-joined (f ∷ []) h = h.0
    Lacks-joined (f ∷ g ∷ fields) h =
        All-append Other f (32 ∷ line_of_fields (g ∷ fields)) h.0
        (All-cons Other 32 (line_of_fields (g ∷ fields)) (other-byte 32 byte no_blank) (Lacks-joined (g ∷ fields) h.1))
