-- A line that is read: its line feed, its ending, and what is kept of it.
use Rattle.std.proofs.Common.{◌≡◌, ◌≢◌, ℕ, suc, ◌-◌, ◌<◌, ◌≤◌, true, false, List, [], ◌∷◌, ◌++◌, length, take, Some, None, refl, sym, ap, ◌∙◌, append_assoc, inl, inr, arith, rules, EachIndex, slice_index}
use Rattle.std.specs.Io.BufRead.{ends_with_byte, strip_last}
use Rattle.std.proofs.Math.Seq.{get_or-append_seam, take-append_seam}
use Rattle.std.proofs.lemmas.Bool.{and_from, and_parts, cases_Bool, cases_lt, cond-false, cond-true, eq-eqb, eqb-true, le-leb, lt-leb, lt-ltb, ltb-true, ne_eqb}
use Rattle.std.proofs.lemmas.List.{length-append, take_all, take_more}
use Rattle.std.proofs.lemmas.Grind.{common_steps}
use Rattle.louis_table.specs.Lines.{lines_of}
use Rattle.louis_table.proofs.LineLaws.{pieces_of-last, pieces_of-line}
use Rattle.desk_ends.specs.Limits.{most_line_bytes}
use Rattle.desk_ends.specs.Lines.{EndsLine, HasNoFeed, IsFed, IsLine, kept_line, with_bytes, without_ending}

-- ---- line feeds

pub no-feed : (bytes : List ℕ) → EachIndex bytes (λ k. slice_index bytes k ≢ 10) → HasNoFeed bytes
no-feed [] none = tt
no-feed (b ∷ bytes) none = (ne_eqb b 10 (none 0 (omega arith)), no-feed bytes (λ k lt. none (suc k) (omega arith)))

pub no-feed-append : (these those : List ℕ) → HasNoFeed these → HasNoFeed those → HasNoFeed (these ++ those)
no-feed-append [] those first later = later
no-feed-append (b ∷ these) those first later = (first.0, no-feed-append these those first.1 later)

pub fed-ends : (bytes : List ℕ) → IsFed bytes → EndsLine bytes
fed-ends bytes (front, is, none) = (front, is)

pub ends-append : (these those : List ℕ) → EndsLine those → EndsLine (these ++ those)
ends-append these those (front, is) = (these ++ front, ap (λ (t : List ℕ). these ++ t) is ∙ sym (append_assoc these front (10 ∷ [])))

pub fed-append : (these those : List ℕ) → HasNoFeed these → IsFed those → IsFed (these ++ those)
fed-append these those none (front, is, later) =
    (these ++ front, ap (λ (t : List ℕ). these ++ t) is ∙ sym (append_assoc these front (10 ∷ [])), no-feed-append these front none later)

fed-some : (front : List ℕ) → front ++ 10 ∷ [] ≢ []
fed-some [] e = cc
fed-some (b ∷ front) e = cc

pub ends-some : (bytes : List ℕ) → EndsLine bytes → bytes ≢ []
ends-some bytes (front, is) none = fed-some front (sym is ∙ none)

-- ---- the ending of a line

no-feed-last : (front : List ℕ) → ¬ HasNoFeed (front ++ 10 ∷ [])
no-feed-last [] none = absurd (let h : true ≡ false = none.0 in cc)
no-feed-last (b ∷ front) none = no-feed-last front none.1

last_byte : (xs : List ℕ) → ends_with_byte 10 xs ≡ true → xs ≡ take (length xs - 1) xs ++ 10 ∷ []
last_byte xs e = search (rules, ltb-true, and_parts, eqb-true, take_all, take_more)

strip-none : (bytes : List ℕ) → HasNoFeed bytes → strip_last 10 bytes ≡ bytes
strip-none bytes none = grind (arith, common_steps, cases_Bool, no-feed-last, last_byte, cond-false)

strip-fed : (front : List ℕ) → strip_last 10 (front ++ 10 ∷ []) ≡ front
strip-fed front = grind (arith, common_steps, length-append, cond-true, and_from, lt-ltb, eq-eqb, get_or-append_seam, take-append_seam)

-- a line that is read is the first of all
pub fed-first : (bytes later : List ℕ) → IsFed bytes → lines_of (bytes ++ later) ≡ without_ending bytes ∷ lines_of later
fed-first bytes later (front, is, none) = search (rules, append_assoc, pieces_of-line, strip-fed)

fed-line : (bytes : List ℕ) → IsFed bytes → lines_of bytes ≡ without_ending bytes ∷ []
fed-line bytes (front, is, none) = search (rules, pieces_of-line, strip-fed)

pub lone-line : (bytes : List ℕ) → HasNoFeed bytes → bytes ≢ [] → lines_of bytes ≡ without_ending bytes ∷ []
lone-line [] none some = absurd (some refl)
lone-line (b ∷ bytes) none some = search (rules, pieces_of-last, strip-none)

pub one-line : (bytes : List ℕ) → IsLine bytes → bytes ≢ [] → lines_of bytes ≡ without_ending bytes ∷ []
one-line bytes (inl fed) some = fed-line bytes fed
one-line bytes (inr none) some = lone-line bytes none some

-- ---- what is kept of a line

pub kept_line-none : (bytes : List ℕ) → None ≡ kept_line bytes → 65538 < length bytes
kept_line-none bytes is = search rules

pub kept_line-some : (bytes held : List ℕ) → Some held ≡ kept_line bytes → held ≡ bytes
kept_line-some bytes held is = search rules

pub with_bytes-kept : (these those : List ℕ) → with_bytes (kept_line these) those ≡ kept_line (these ++ those)
with_bytes-kept these those = search (rules, cases_lt, length-append, cond-false, lt-leb, cond-true, le-leb)

strip-few : (byte : ℕ) (xs : List ℕ) → length xs ≤ suc (length (strip_last byte xs))
strip-few byte xs = search rules

-- a line that isn't kept is too long
pub long-line : (bytes : List ℕ) → None ≡ kept_line bytes → most_line_bytes < length (without_ending bytes)
long-line bytes is = omega (arith, kept_line-none bytes is, strip-few 10 bytes, strip-few 13 (strip_last 10 bytes))
