-- Each line has an answer, and each input an output.
use Rattle.std.proofs.Common.{◌≡◌, ℕ, zero, suc, ◌<◌, ◌≤◌, ◌⊎◌, false, List, [], ◌∷◌, ◌++◌, length, Option, Some, None, refl, sym, ap, ◌∙◌, append_assoc, arith, inl, inr, IsSome, is_some, slice_index, flat_map}
use Rattle.std.specs.Str.{chars, is_utf8}
use Rattle.std.proofs.lemmas.Bool.{cases_Bool, cases_lt, cases_order, both_ways}
use Rattle.std.proofs.lemmas.Str.{IsUtf8-from_is_utf8, is_utf8-from_IsUtf8}
use Rattle.louis_table.specs.declared.definition.Definition.{Definition}
use Rattle.louis_table.specs.Lines.{lines_of}
use Rattle.louis_table.specs.Meaning.{Meaning, definition_of}
use Rattle.louis_translate.specs.Position.{AreDefined, IsFirstUndefined}
use Rattle.louis_translate.specs.Braille.{braille}
use Rattle.louis_translate.specs.declared.choices.Choice.{Choice}
use Rattle.louis_translate.specs.Tiling.{Tiles}
use Rattle.louis_translate.proofs.Tilings.{one_tiling}
use Rattle.desk_ends.specs.Cells.{text_of}
use Rattle.desk_ends.specs.Limits.{most_line_bytes}
use Rattle.desk_translate.specs.declared.answer.NoBraille.{NoBraille}
use Rattle.desk_translate.specs.declared.answer.NoBraille.TheVariants.{NoText, TooLong, Undefined}
use Rattle.desk_translate.specs.NoBraille.{IsPrint, IsRefused, refusal_text}
use Rattle.desk_translate.proofs.Undefined.{IsFirstUndefined-one}
use Rattle.desk_translate.specs.Reply.{AnswersPrint, AreAnswers, IsAnswer, IsOutput, IsText, refusal, refusal_at, undefined, shown, no_text, too_long, a_print}

is_some-none : (o : Option Definition) → is_some o ≡ false → o ≡ None
is_some-none None e = refl
is_some-none (Some d) e = cc

defined_or : (meaning : Meaning) (print : List ℕ) → AreDefined meaning print ⊎ ((place : ℕ) × IsFirstUndefined meaning print place)
defined_or meaning print = below (length print) (omega arith)
  where
    below : (n : ℕ) → n ≤ length print → ((i : ℕ) → i < n → IsSome (definition_of meaning (slice_index print i))) ⊎ ((place : ℕ) × IsFirstUndefined meaning print place)
    below zero le = inl (λ i lt. absurd (omega arith))
    below (suc n) le =
        elim (below n (omega arith)) [
          | inr found ↦ inr found
          | inl all ↦ elim (cases_Bool (is_some (definition_of meaning (slice_index print n)))) [
            | inl some ↦ inl (λ i lt. elim (cases_order i n) [
              | inl e ↦ ap (λ (k : ℕ). is_some (definition_of meaning (slice_index print k))) e ∙ some
              | inr ne ↦ elim ne [ inl less ↦ all i less | inr more ↦ absurd (omega arith) ]
            ])
            | inr none ↦ inr (n, record { within = omega arith; undefined = is_some-none _ none; before = all })
          ]
        ]

text_or : (line : List ℕ) → IsText line ⊎ ¬ IsText line
text_or line =
    elim (cases_lt most_line_bytes (length line)) [
      | inl long ↦ inr (λ text. let short = text.0 in absurd (omega arith))
      | inr short ↦ elim (cases_Bool (is_utf8 line)) [
        | inl e ↦ inl (short, IsUtf8-from_is_utf8 line e)
        | inr e ↦ inr (λ text. absurd (both_ways _ e (is_utf8-from_IsUtf8 line text.1)))
      ]
    ]

answer_to_print : (meaning : Meaning) (print : List ℕ) → (answer : List ℕ) × AnswersPrint meaning print answer
answer_to_print meaning print =
    elim (defined_or meaning print) [
      | inl all ↦ let t = one_tiling meaning print in (text_of (braille meaning print t.0), shown all t.0 t.1 refl)
      | inr found ↦ (refusal_at 7 found.0, undefined found.0 found.1 refl)
    ]

some_answer : (meaning : Meaning) (line : List ℕ) → (answer : List ℕ) × IsAnswer meaning line answer
some_answer meaning line =
    elim (text_or line) [
      | inr not ↦ (refusal 1, no_text not refl)
      | inl text ↦ elim (cases_lt 4000 (length (chars line))) [
        | inl many ↦ (refusal 14, too_long text many refl)
        | inr few ↦ let p = answer_to_print meaning (chars line) in (p.0, a_print text few p.1)
      ]
    ]

-- a function that answers each line
pub answer_to : Meaning → List ℕ → List ℕ
answer_to meaning line = (some_answer meaning line).0

pub is-answer : (meaning : Meaning) (line : List ℕ) → IsAnswer meaning line (answer_to meaning line)
unfolding answer_to
is-answer meaning line = (some_answer meaning line).1

-- the answers to all lines of an input, in order
abbrev pub output_of : Meaning → List ℕ → List ℕ
output_of meaning input = flat_map (λ line. answer_to meaning line ++ 10 ∷ []) (lines_of input)

AreAnswers-all : (meaning : Meaning) (lines : List (List ℕ)) → AreAnswers meaning lines (flat_map (λ line. answer_to meaning line ++ 10 ∷ []) lines)
AreAnswers-all meaning [] = refl
AreAnswers-all meaning (line ∷ lines) =
    let rest = flat_map (λ l. answer_to meaning l ++ 10 ∷ []) lines in
    (answer_to meaning line, rest, is-answer meaning line, AreAnswers-all meaning lines, append_assoc (answer_to meaning line) (10 ∷ []) rest)

pub IsOutput-output_of : (meaning : Meaning) (input : List ℕ) → IsOutput meaning input (output_of meaning input)
IsOutput-output_of meaning input = AreAnswers-all meaning (lines_of input)

-- ---- by the line

-- the answer to a line that is print whose characters are all defined
pub shown_answer : (meaning : Meaning) (line answer : List ℕ) → IsPrint meaning line → IsAnswer meaning line answer
    → (choices : List Choice) × Tiles meaning (chars line) choices × (answer ≡ text_of (braille meaning (chars line) choices))
shown_answer meaning line answer print (no_text not e) = absurd (not print.0)
shown_answer meaning line answer print (too_long text many e) = let few = print.1 in absurd (omega arith)
shown_answer meaning line answer print (a_print text few (undefined place first e)) =
    let some = sym (ap is_some first.undefined) ∙ print.2 place first.within in absurd cc
shown_answer meaning line answer print (a_print text few (shown all choices tiles e)) = (choices, tiles, e)

-- the answer to a line that is refused
pub refused_answer : (meaning : Meaning) (line answer : List ℕ) (why : NoBraille) → IsRefused meaning line why → IsAnswer meaning line answer → answer ≡ refusal_text why
refused_answer meaning line answer NoText not (no_text also e) = e
refused_answer meaning line answer NoText not (too_long text many e) = absurd (not text)
refused_answer meaning line answer NoText not (a_print text few p) = absurd (not text)
refused_answer meaning line answer TooLong long (no_text not e) = absurd (not long.0)
refused_answer meaning line answer TooLong long (too_long text many e) = e
refused_answer meaning line answer TooLong long (a_print text few p) = let many = long.1 in absurd (omega arith)
refused_answer meaning line answer (Undefined place) found (no_text not e) = absurd (not found.0)
refused_answer meaning line answer (Undefined place) found (too_long text many e) = let few = found.1 in absurd (omega arith)
refused_answer meaning line answer (Undefined place) found (a_print text few (undefined other first e)) =
    e ∙ ap (refusal_at 7) (IsFirstUndefined-one meaning (chars line) other place first found.2)
refused_answer meaning line answer (Undefined place) found (a_print text few (shown all choices tiles e)) =
    let some = sym (ap is_some found.2.undefined) ∙ all place found.2.within in absurd cc

-- the answer to a line of too many bytes
pub long_answer : (meaning : Meaning) (line answer : List ℕ) → most_line_bytes < length line → IsAnswer meaning line answer → answer ≡ refusal 1
long_answer meaning line answer long (no_text not e) = e
long_answer meaning line answer long (too_long text many e) = let short = text.0 in absurd (omega arith)
long_answer meaning line answer long (a_print text few p) = let short = text.0 in absurd (omega arith)
