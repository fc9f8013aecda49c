-- What is read of a dots operand is what the grammar says, both ways.
use Rattle.std.proofs.Common.{◌≡◌, ◌≢◌, ℕ, ◌+◌, ◌-◌, ◌<◌, ◌≤◌, ◌↔◌, false, eqb, List, [], ◌∷◌, ◌++◌, length, Option, Some, None, refl, sym, ap, ◌∙◌, subst, arith, inl, inr, encode_utf8_all, option_map, IsAscii}
use Rattle.std.specs.List.{All, join_with_byte, slice_split}
use Rattle.std.proofs.lemmas.Bool.{and_from, and_parts, not-true, not_from_false, cases_Bool, cond-true, eqb-true, eqb-false, le-leb, leb-true, ne_eqb}
use Rattle.std.proofs.lemmas.List.Elements.{All-append, All-cons, All-nil}
use Rattle.std.proofs.lemmas.Str.{encodes-IsAscii, encodes_same}
use Rattle.std.proofs.lemmas.Str.Ascii.{IsAscii-from_all}
use Rattle.std.proofs.lemmas.List.Splits.{join_with_byte-slice_split, length-slice_split, slice_split_at, slice_split_none}
use Rattle.std.proofs.lemmas.Option.{cond_some, none-some, option_and_then_some, same_Some}
use Rattle.cell_core.specs.Cell.{HasDot, dot_value}
use Rattle.cell_core.specs.Dots.{Dots, ListsDots, SpellsCell, blank, dotted}
use Rattle.cell_core.specs.Reading.{cell_in, cells_in, cells_of, is_hyphen, with_digit, with_digits}
use Rattle.cell_core.proofs.MaskLaws.{AreApart, AreApart-moved_left, AreApart-moved_right, AreApart-zero_left, AreApart-zero_right, bit_at-added_same}

-- ---- the dots of one cell

-- a digit that names a dot of its own
abbrev pub NamesNewDot : ℕ → ℕ → Type 0
NamesNewDot mask digit = (49 ≤ digit) × (digit ≤ 56) × (¬ HasDot mask (digit - 48))

pub with_digit-new : (mask digit : ℕ) → NamesNewDot mask digit → with_digit mask digit ≡ Some (dot_value (digit - 48) + mask)
with_digit-new mask digit h =
    cond-true _ _ _ (and_from _ _ (and_from _ _ (le-leb 49 digit h.0) (le-leb digit 56 h.1)) (not_from_false _ (ne_eqb _ 1 h.2)))

NamesNewDot-from_with_digit : (mask digit more : ℕ) → with_digit mask digit ≡ Some more → NamesNewDot mask digit × (dot_value (digit - 48) + mask ≡ more)
NamesNewDot-from_with_digit mask digit more e =
    let found = cond_some _ _ _ e in
    let parts = and_parts _ _ found.0 in
    let range = and_parts _ _ parts.0 in
    ((leb-true 49 digit range.0, leb-true digit 56 range.1, eqb-false _ 1 (not-true _ parts.1)), found.1)

ListsDots-from_with_digits : (digits : List ℕ) (seen all : ℕ) → with_digits seen digits ≡ Some all → (mask : ℕ) × ListsDots digits mask × AreApart seen mask × (all ≡ seen + mask)
ListsDots-from_with_digits [] seen all e = let same : seen ≡ all = cc in (0, refl, AreApart-zero_right seen, omega arith)
ListsDots-from_with_digits (digit ∷ digits) seen all e =
    option_and_then_some (λ more. with_digits more digits) (with_digit seen digit) all e
    (λ more first later.
    let new = NamesNewDot-from_with_digit seen digit more first in
    let rest = ListsDots-from_with_digits digits more all later in
    let dot : ℕ = digit - 48 in
    let apart : AreApart (dot_value dot + seen) rest.0 = subst (λ (m : ℕ). AreApart m rest.0) (sym new.1) rest.2 in
    let fresh : ¬ HasDot rest.0 dot = apart (dot - 1) (bit_at-added_same seen dot new.0.2) in (
      dot_value dot + rest.0,
      (dot, rest.0, omega arith, omega arith, omega arith, rest.1, fresh, refl),
      AreApart-moved_right seen rest.0 dot new.0.2 fresh apart,
      omega arith,
    ))

with_digits-from_ListsDots : (digits : List ℕ) (seen mask : ℕ) → ListsDots digits mask → AreApart seen mask → with_digits seen digits ≡ Some (seen + mask)
with_digits-from_ListsDots [] seen mask none apart = ap Some (omega arith)
with_digits-from_ListsDots (digit ∷ digits) seen mask lists apart =
    let dot : ℕ = digit - 48 in
    let is : lists.0 ≡ dot = omega arith in
    let fresh : ¬ HasDot lists.1 dot = subst (λ (k : ℕ). ¬ HasDot lists.1 k) is lists.6 in
    let sum : mask ≡ dot_value dot + lists.1 = lists.7 ∙ ap (λ (k : ℕ). dot_value k + lists.1) is in
    let both : AreApart seen (dot_value dot + lists.1) = subst (AreApart seen) sum apart in
    let new : ¬ HasDot seen dot = λ had. both (dot - 1) had (bit_at-added_same lists.1 dot fresh) in
    rw (with_digit-new seen digit (omega arith, omega arith, new))
    (with_digits-from_ListsDots digits (dot_value dot + seen) lists.1 lists.5 (AreApart-moved_left seen lists.1 dot new fresh both)
    ∙ ap Some (omega arith))

-- ---- one cell

-- a text of digits that list the dots of a mask
ListsDots-whole : (digits : List ℕ) (mask : ℕ) → with_digits 0 digits ≡ Some mask → ListsDots digits mask
ListsDots-whole digits mask e =
    let found = ListsDots-from_with_digits digits 0 mask e in
    let same : found.0 ≡ mask = omega arith in
    subst (ListsDots digits) same found.1

with_digits-whole : (digits : List ℕ) (mask : ℕ) → ListsDots digits mask → with_digits 0 digits ≡ Some mask
with_digits-whole digits mask lists = with_digits-from_ListsDots digits 0 mask lists (AreApart-zero_left mask) ∙ ap Some (omega arith)

SpellsCell-from_cell_in : (text : List ℕ) (mask : ℕ) → cell_in text ≡ Some mask → SpellsCell text mask
SpellsCell-from_cell_in [] mask e = absurd cc
SpellsCell-from_cell_in (digit ∷ []) mask e =
    elim (cases_Bool (eqb digit 48)) [
      | inl zero ↦
          let none : Some 0 ≡ Some mask = rw zero at e in
          let is : digit ≡ 48 = eqb-true digit 48 zero in
          blank (ap (λ (c : ℕ). c ∷ []) is) cc
      | inr other ↦ dotted (λ h. cc) (ListsDots-whole (digit ∷ []) mask (rw other at e))
    ]
SpellsCell-from_cell_in (digit ∷ next ∷ digits) mask e = dotted (λ h. cc) (ListsDots-whole (digit ∷ next ∷ digits) mask e)

cell_in-from_ListsDots : (text : List ℕ) (mask : ℕ) → text ≢ [] → ListsDots text mask → cell_in text ≡ Some mask
cell_in-from_ListsDots [] mask some lists = absurd (some refl)
cell_in-from_ListsDots (digit ∷ []) mask some lists =
    rw (ne_eqb digit 48 (λ h. omega arith)) (with_digits-whole (digit ∷ []) mask lists)
cell_in-from_ListsDots (digit ∷ next ∷ digits) mask some lists = with_digits-whole (digit ∷ next ∷ digits) mask lists

cell_in-from_SpellsCell : (text : List ℕ) (mask : ℕ) → SpellsCell text mask → cell_in text ≡ Some mask
cell_in-from_SpellsCell text mask (blank is none) = rw (is, none) refl
cell_in-from_SpellsCell text mask (dotted some lists) = cell_in-from_ListsDots text mask some lists

-- ---- cells between hyphens

abbrev pub IsDotDigit : ℕ → Type 0
IsDotDigit c = (48 ≤ c) × (c ≤ 56)

ListsDots-digits : (digits : List ℕ) (mask : ℕ) → ListsDots digits mask → All IsDotDigit digits
ListsDots-digits [] mask none = All-nil IsDotDigit
ListsDots-digits (digit ∷ digits) mask lists = All-cons IsDotDigit digit digits (omega arith, omega arith) (ListsDots-digits digits lists.1 lists.5)

SpellsCell-digits : (text : List ℕ) (mask : ℕ) → SpellsCell text mask → All IsDotDigit text
SpellsCell-digits text mask (blank is none) = rw is (All-cons IsDotDigit 48 [] (omega arith, omega arith) (All-nil IsDotDigit))
SpellsCell-digits text mask (dotted some lists) = ListsDots-digits text mask lists

no_hyphen : (text : List ℕ) (mask : ℕ) → SpellsCell text mask → All (λ c. is_hyphen c ≡ false) text
no_hyphen text mask spells k d within = let digit = SpellsCell-digits text mask spells k d within in ne_eqb _ 45 (λ h. omega arith)

Dots-cons : (first rest cells : List ℕ) (cell : ℕ) → SpellsCell first cell → Dots rest cells → Dots (first ++ 45 ∷ rest) (cell ∷ cells)
Dots-cons first rest [] cell spells dots = absurd dots
Dots-cons first rest (next ∷ cells) cell spells dots = (first, rest, refl, spells, dots)

option_map_some : {A B : Type 0} (f : A → B) (o : Option A) (y : B) → option_map f o ≡ Some y → (x : A) × (o ≡ Some x) × (f x ≡ y)
option_map_some f None y e = absurd cc
option_map_some f (Some x) y e = (x, refl, cc)

Dots-from_cells_of : (pieces : List (List ℕ)) (cells : List ℕ) → pieces ≢ [] → cells_of pieces ≡ Some cells → Dots (join_with_byte 45 pieces) cells
Dots-from_cells_of [] cells some e = absurd (some refl)
Dots-from_cells_of (piece ∷ []) cells some e =
    option_and_then_some (λ cell. Some (cell ∷ [])) (cell_in piece) cells e
    (λ cell read is.
    let same : cell ∷ [] ≡ cells = cc in
    subst (Dots piece) same (SpellsCell-from_cell_in piece cell read))
Dots-from_cells_of (piece ∷ next ∷ pieces) cells some e =
    option_and_then_some (λ cell. option_map (λ more. cell ∷ more) (cells_of (next ∷ pieces))) (cell_in piece) cells e
    (λ cell read is.
    let found = option_map_some (λ more. cell ∷ more) (cells_of (next ∷ pieces)) cells is in
    let rest = Dots-from_cells_of (next ∷ pieces) found.0 (λ h. cc) found.1 in
    subst (Dots (join_with_byte 45 (piece ∷ next ∷ pieces))) found.2
    (Dots-cons piece (join_with_byte 45 (next ∷ pieces)) found.0 cell (SpellsCell-from_cell_in piece cell read) rest))

-- what is read is spelled so
pub Dots-from_cells_in : (text cells : List ℕ) → cells_in text ≡ Some cells → Dots text cells
Dots-from_cells_in text cells e =
    let some : slice_split is_hyphen text ≢ [] = λ h. omega (arith, length-slice_split is_hyphen text, ap length h) in
    subst (λ (t : List ℕ). Dots t cells) (join_with_byte-slice_split 45 text) (Dots-from_cells_of (slice_split is_hyphen text) cells some e)

-- what is spelled so is read
pub cells_in-from_Dots : (text cells : List ℕ) → Dots text cells → cells_in text ≡ Some cells
cells_in-from_Dots text [] dots = absurd dots
cells_in-from_Dots text (cell ∷ []) dots =
    rw (slice_split_none is_hyphen text (no_hyphen text cell dots), cell_in-from_SpellsCell text cell dots) refl
cells_in-from_Dots text (cell ∷ next ∷ cells) dots =
    rw (dots.2, slice_split_at is_hyphen dots.0 45 dots.1 (no_hyphen dots.0 cell dots.3) refl, cell_in-from_SpellsCell dots.0 cell dots.3, cells_in-from_Dots dots.1 (next ∷ cells) dots.4) refl

-- a text is a dots operand of at most one list of cells
pub same_from_Dots : (text cells others : List ℕ) → Dots text cells → Dots text others → cells ≡ others
same_from_Dots text cells others dots again = same_Some cells others (sym (cells_in-from_Dots text cells dots) ∙ cells_in-from_Dots text others again)

-- where nothing is read, no cells are spelled
pub no_Dots : (text : List ℕ) → cells_in text ≡ None → (cells : List ℕ) → ¬ Dots text cells
no_Dots text none cells dots = none-some cells (sym none ∙ cells_in-from_Dots text cells dots)

-- ---- characters and bytes

Dots-digits : (text cells : List ℕ) → Dots text cells → All (λ c. c < 128) text
Dots-digits text [] dots = absurd dots
Dots-digits text (cell ∷ []) dots = λ k d within. let digit = SpellsCell-digits text cell dots k d within in omega arith
Dots-digits text (cell ∷ next ∷ cells) dots =
    rw dots.2
    (All-append (λ c. c < 128) dots.0 (45 ∷ dots.1)
    (λ k d within. let digit = SpellsCell-digits dots.0 cell dots.3 k d within in omega arith)
    (All-cons (λ c. c < 128) 45 dots.1 (omega arith) (Dots-digits dots.1 (next ∷ cells) dots.4)))

-- a dots operand is ASCII
pub IsAscii-from_Dots : (text cells : List ℕ) → Dots text cells → IsAscii text
IsAscii-from_Dots text cells dots = IsAscii-from_all text (Dots-digits text cells dots)

-- a dots operand has the same cells as characters and as the bytes of them
pub Dots-encoded : (characters cells : List ℕ) → Dots (encode_utf8_all characters) cells ↔ Dots characters cells
Dots-encoded characters cells = (
  λ dots. subst (λ (t : List ℕ). Dots t cells) (encodes_same (encode_utf8_all characters) characters (encodes-IsAscii (encode_utf8_all characters) (IsAscii-from_Dots (encode_utf8_all characters) cells dots))) dots,
  λ dots. rw (encodes-IsAscii characters (IsAscii-from_Dots characters cells dots)) dots,
)
