-- Fields as they are written, and the lines that they make.
use Rattle.std.proofs.Common.{◌≡◌, ◌≢◌, ℕ, zero, suc, ◌^◌, ◌<◌, ◌≤◌, Bool, true, false, eqb, ltb, List, [], ◌∷◌, ◌++◌, codes, refl, sym, ap, ◌∙◌, arith, lit<, lit≤}
use Rattle.std.specs.Prelude.{decimal}
use Rattle.std.specs.List.{All, AllByRecursion, list_all}
use Rattle.std.specs.Str.{IsAscii, IsUtf8, chars}
use Rattle.std.proofs.lemmas.Bool.{and_parts, ltb-true}
use Rattle.std.proofs.lemmas.Fmt.{IsAscii-decimal, decimal_is_IsNumeral, length-decimal-le}
use Rattle.std.proofs.lemmas.List.Elements.{All-cons, All-nil, All-weaker}
use Rattle.std.proofs.lemmas.List.Splits.{join_with_byte-slice_split, slice_split_at, slice_split_none}
use Rattle.std.proofs.lemmas.Str.{IsUtf8-append, IsUtf8-from_ascii, IsUtf8-nil, chars-nil}
use Rattle.desk_model.specs.declared.command.Anchor.{Anchor}
use Rattle.desk_model.specs.declared.command.Anchor.TheVariants.{Front, End, Para}
use Rattle.desk_model.specs.declared.style.Style.{Style}
use Rattle.desk_model.specs.declared.style.Style.TheVariants.{Body, Heading}
use Rattle.desk_model.proofs.Rows.BookRows.{encoded-text, spelled-encoded}
use Rattle.desk_line.specs.Commands.{is_visible}
use Rattle.desk_line.specs.Fields.{IsAnchor, IsFlag, IsNumber, IsStyle, after, body, end, fields_of, front, heading, line_of_fields, off, on}
use Rattle.desk_line.specs.Operands.{IsOneLineText, IsSmall, IsSmallAnchor, IsWord, anchor_field}
use Rattle.desk_line.specs.ReplyLines.{shown_text, style_word, word_if}
use Rattle.desk_line.proofs.LackedBytes.{Lacks, Lacks-decimal, Lacks-joined, Lacks-shown, other-byte}

-- ---- fields

-- a field that can stand in a head line
pub record IsPlain (field : List ℕ) : Type 0 where
  pub utf8 : IsUtf8 field
  pub lone : Lacks 10 field

-- one that can stand before others
pub record IsClosed (field : List ℕ) : Type 0 where
  pub plain : IsPlain field
  pub whole : Lacks 32 field

visible-other : (byte b : ℕ) → byte ≤ 32 → is_visible b ≡ true → eqb b byte ≡ false
visible-other byte b low e =
    let h = ltb-true 32 b (and_parts (ltb 32 b) (ltb b 128) e).0 in
    other-byte b byte (λ same. omega arith)

visible-lacks : (byte : ℕ) (word : List ℕ) → byte ≤ 32 → list_all is_visible word ≡ true → Lacks byte word
visible-lacks byte [] low e = All-nil (λ b. eqb b byte ≡ false)
visible-lacks byte (b ∷ word) low e =
    let parts = and_parts (is_visible b) (list_all is_visible word) e in
    All-cons (λ x. eqb x byte ≡ false) b word (visible-other byte b low parts.0) (visible-lacks byte word low parts.1)

visible-ascii : (word : List ℕ) → list_all is_visible word ≡ true → IsAscii word
visible-ascii [] e i = lit< tt
visible-ascii (b ∷ word) e zero =
    let parts = and_parts (is_visible b) (list_all is_visible word) e in
    ltb-true b 128 (and_parts (ltb 32 b) (ltb b 128) parts.0).1
visible-ascii (b ∷ word) e (suc i) = visible-ascii word (and_parts (is_visible b) (list_all is_visible word) e).1 i

-- a word of the language
pub word-closed : (word : List ℕ) → list_all is_visible word ≡ true → IsClosed word
word-closed word e = record {
  plain = record { utf8 = IsUtf8-from_ascii word (visible-ascii word e); lone = visible-lacks 10 word (lit≤ tt) e };
  whole = visible-lacks 32 word (lit≤ tt) e;
}

small-wide : (number : ℕ) → IsSmall number → number < 2 ^ 64
small-wide number small = omega arith

pub number-closed : (number : ℕ) → IsSmall number → IsClosed (decimal number)
number-closed number small = record {
  plain = record {
    utf8 = IsUtf8-from_ascii (decimal number) (IsAscii-decimal number (small-wide number small));
    lone = Lacks-decimal 10 (lit< tt) number;
  };
  whole = Lacks-decimal 32 (lit< tt) number;
}

pub number-written : (number : ℕ) → IsSmall number → IsNumber (decimal number) number
number-written number small =
    let numeral = decimal_is_IsNumeral number (small-wide number small) in
    record {
      numeral = numeral.0;
      short = length-decimal-le 16 number (lit< tt) (omega arith) (small-wide number small);
      value = sym numeral.1;
      small = small;
    }

-- ---- texts

text-lacks : (byte : ℕ) (text : List ℕ) → byte < 128 → All (λ c. c ≢ byte) text → Lacks byte (shown_text text)
text-lacks byte text low h = Lacks-shown byte low text (All-weaker (λ c. c ≢ byte) (λ c. eqb c byte ≡ false) (λ c n. other-byte c byte n) text h)

pub text-plain : (text : List ℕ) → IsOneLineText text → IsPlain (shown_text text)
text-plain text h = record { utf8 = encoded-text text h.characters; lone = text-lacks 10 text (lit< tt) h.no_feed }

pub name-closed : (name : List ℕ) → IsWord name → IsClosed (shown_text name)
name-closed name h = record { plain = text-plain name h.text; whole = text-lacks 32 name (lit< tt) h.no_blank }

pub name-spelled : (name : List ℕ) → IsWord name → chars (shown_text name) ≡ name
name-spelled name h = spelled-encoded name h.text.characters

pub name-some : (name : List ℕ) → IsWord name → shown_text name ≢ []
name-some name h e = h.some (sym (name-spelled name h) ∙ (ap chars e ∙ chars-nil))

-- ---- lines of fields

pub line-plain : (fields : List (List ℕ)) → AllByRecursion IsPlain fields → IsPlain (line_of_fields fields)
line-plain fields h = record { utf8 = all-utf8 fields h; lone = Lacks-joined 10 (λ e. omega arith) fields (all-lone fields h) }
  where
    all-lone : (fs : List (List ℕ)) → AllByRecursion IsPlain fs → AllByRecursion (Lacks 10) fs
    all-lone [] p = tt
    all-lone (f ∷ fs) p = (p.0.lone, all-lone fs p.1)

    all-utf8 : (fs : List (List ℕ)) → AllByRecursion IsPlain fs → IsUtf8 (line_of_fields fs)
    all-utf8 [] p = IsUtf8-nil
    all-utf8 (f ∷ []) p = p.0.utf8
    all-utf8 (f ∷ g ∷ fs) p =
        IsUtf8-append f (32 ∷ line_of_fields (g ∷ fs)) p.0.utf8
        (IsUtf8-append (32 ∷ []) (line_of_fields (g ∷ fs)) (IsUtf8-from_ascii (32 ∷ []) blank-ascii) (all-utf8 (g ∷ fs) p.1))
      where
        blank-ascii : IsAscii (32 ∷ [])
        blank-ascii zero = lit< tt
        blank-ascii (suc i) = lit< tt

-- the fields of a line are those that are joined, and those of its last
fields-joined : (fields : List (List ℕ)) (last : List ℕ) → AllByRecursion (Lacks 32) fields
    → fields_of (line_of_fields (fields ++ last ∷ [])) ≡ fields ++ fields_of last
fields-joined [] last h = refl
fields-joined (f ∷ []) last h = slice_split_at (λ b. eqb b 32) f 32 last h.0 refl
fields-joined (f ∷ g ∷ fields) last h =
    slice_split_at (λ b. eqb b 32) f 32 (line_of_fields (g ∷ (fields ++ last ∷ []))) h.0 refl
    ∙ ap (λ (fs : List (List ℕ)). f ∷ fs) (fields-joined (g ∷ fields) last h.1)

fields-closed : (fields : List (List ℕ)) (last : List ℕ) → AllByRecursion (Lacks 32) fields → Lacks 32 last
    → fields_of (line_of_fields (fields ++ last ∷ [])) ≡ fields ++ last ∷ []
fields-closed fields last h l =
    fields-joined fields last h ∙ ap (λ (fs : List (List ℕ)). fields ++ fs) (slice_split_none (λ b. eqb b 32) last l)

text-joined : (text : List ℕ) → line_of_fields (fields_of text) ≡ text
text-joined text = join_with_byte-slice_split 32 text

pub rest-spelled : (text : List ℕ) → IsOneLineText text → chars (line_of_fields (fields_of (shown_text text))) ≡ text
rest-spelled text t = ap chars (text-joined (shown_text text)) ∙ spelled-encoded text t.characters

-- the fields make a line that is plain, and these stand between its blanks
pub record IsLine (fields all : List (List ℕ)) : Type 0 where
  pub plain : IsPlain (line_of_fields fields)
  pub splits : fields_of (line_of_fields fields) ≡ all

closed-plain : (fields : List (List ℕ)) (last : List ℕ) → AllByRecursion IsClosed fields → IsPlain last → AllByRecursion IsPlain (fields ++ last ∷ [])
closed-plain [] last h l = (l, tt)
closed-plain (f ∷ fields) last h l = (h.0.plain, closed-plain fields last h.1 l)

closed-whole : (fields : List (List ℕ)) → AllByRecursion IsClosed fields → AllByRecursion (Lacks 32) fields
closed-whole [] h = tt
closed-whole (f ∷ fields) h = (h.0.whole, closed-whole fields h.1)

-- the last of them may have blanks
pub line-with-text : (fields : List (List ℕ)) (text : List ℕ) → AllByRecursion IsClosed fields → IsPlain text → IsLine (fields ++ text ∷ []) (fields ++ fields_of text)
line-with-text fields text h t = record {
  plain = line-plain (fields ++ text ∷ []) (closed-plain fields text h t);
  splits = fields-joined fields text (closed-whole fields h);
}

-- or none has
pub line-closed : (fields : List (List ℕ)) (last : List ℕ) → AllByRecursion IsClosed fields → IsClosed last → IsLine (fields ++ last ∷ []) (fields ++ last ∷ [])
line-closed fields last h l = record {
  plain = line-plain (fields ++ last ∷ []) (closed-plain fields last h l.plain);
  splits = fields-closed fields last (closed-whole fields h) l.whole;
}

-- ---- anchors, styles and flags

pub anchor-closed : (anchor : Anchor) → IsSmallAnchor anchor → IsClosed (anchor_field anchor)
anchor-closed Front h = word-closed (codes "front") refl
anchor-closed End h = word-closed (codes "end") refl
anchor-closed (Para id) h = number-closed id h

pub anchor-written : (anchor : Anchor) → IsSmallAnchor anchor → IsAnchor (anchor_field anchor) anchor
anchor-written Front h = front refl refl
anchor-written End h = end refl refl
anchor-written (Para id) h = after id (number-written id h) refl

pub style-closed : (look : Style) → IsClosed (style_word look)
style-closed Body = word-closed (codes "body") refl
style-closed Heading = word-closed (codes "heading") refl

pub style-written : (look : Style) → IsStyle (style_word look) look
style-written Body = body refl refl
style-written Heading = heading refl refl

pub flag-closed : (flag : Bool) → IsClosed (word_if flag (codes "on") (codes "off"))
flag-closed true = word-closed (codes "on") refl
flag-closed false = word-closed (codes "off") refl

pub flag-written : (flag : Bool) → IsFlag (word_if flag (codes "on") (codes "off")) flag
flag-written true = on refl refl
flag-written false = off refl refl
