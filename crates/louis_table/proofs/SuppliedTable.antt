-- What the supplied table means, by reading it line by line.
use Rattle.std.proofs.Common.{◌≡◌, ℕ, ◌+◌, ◌<◌, true, List, [], ◌∷◌, ◌++◌, Option, Some, None, Result, Ok, Err, length, refl, sym, ap, subst, ◌∙◌, inl, inr, rules, arith, map, nat_lt, chars}
use Rattle.std.specs.List.{All, list_all}
use Rattle.std.proofs.lemmas.Bool.{both_ways, cases_Bool, ltb-true}
use Rattle.std.proofs.lemmas.List.{length_push}
use Rattle.std.proofs.lemmas.List.Elements.{All-cons, All-nil}
use Rattle.std.proofs.lemmas.Str.{chars-IsAscii, IsUtf8-from_ascii}
use Rattle.std.proofs.lemmas.Str.Ascii.{IsAscii-from_all}
use Rattle.std.proofs.lemmas.Grind.{common_steps}
use Rattle.louis_table.specs.declared.character_set.CharacterSet.TheVariants.{NumericMode, NoContraction}
use Rattle.louis_table.specs.declared.en.TheConstants.{EN}
use Rattle.louis_table.specs.declared.pending.PendingEntry.{PendingEntry}
use Rattle.louis_table.specs.declared.pending.PendingEntry.TheVariants as pending
use Rattle.louis_table.specs.Lines.{lines_of}
use Rattle.louis_table.specs.Meaning.{Meaning}
use Rattle.louis_table.specs.SuppliedTable.{english, english_set}
use Rattle.louis_table.specs.Table.{Entry, Means, text_lines}
use Rattle.louis_table.specs.Steps.Characters.{characters_in}
use Rattle.louis_table.specs.Steps.Opcode.{opcode_named}
use Rattle.louis_table.specs.Steps.Dots.{pair_in}
use Rattle.louis_table.specs.Steps.Table.{no_meaning, with_given}
use Rattle.louis_table.specs.Steps.Line.{judge_line, line_gives, entry_at, entry_verdict}
use Rattle.louis_table.specs.Steps.Draft.{written_in}
use Rattle.louis_table.specs.Steps.Read.{LinesGive, LinesMean, judge}
use Rattle.louis_table.proofs.OneMeaning.{LinesMean-Means}
use Rattle.louis_table.proofs.ReadingLaws.{Reached, Reached-none, Reached-more, Reached-all}

-- ---- reading as a function

-- a table so far, and the rules and sets that are written in it
abbrev pub Read : Type 0
Read = Meaning × List PendingEntry

abbrev pub after_line : Read → ℕ → Result (Option Entry) ℕ → Option Read
after_line read n (Ok given) = Some (with_given read.0 given, read.1 ++ written_in (n + 1) given)
after_line read n (Err cause) = None

abbrev pub after_lines : Option Read → ℕ → List (List ℕ) → Option Read
after_lines None n lines = None
after_lines (Some read) n [] = Some read
after_lines (Some read) n (line ∷ lines) = after_lines (after_line read n (judge read.0 n line)) (n + 1) lines

-- what is read of lines without a fault is what they give
after_lines-give : (lines before rest : List (List ℕ)) (read : Read) → Reached lines before rest read.0 read.1 → (all : Read)
    → after_lines (Some read) (length before) rest ≡ Some all → LinesGive lines all.0 all.1
after_lines-give lines before [] read r all e =
    let same : read ≡ all = cc in
    subst (λ (x : Read). LinesGive lines x.0 x.1) same (Reached-all lines before read.0 read.1 r)
after_lines-give lines before (line ∷ rest) read r all e =
    by (judge read.0 (length before) line) refl e (λ old new reached more. after_lines-give lines old rest new reached all more)
  where
    by : (v : Result (Option Entry) ℕ) → judge read.0 (length before) line ≡ v → after_lines (after_line read (length before) v) (length before + 1) rest ≡ Some all
        → ((old : List (List ℕ)) (new : Read) → Reached lines old rest new.0 new.1 → after_lines (Some new) (length old) rest ≡ Some all → LinesGive lines all.0 all.1)
        → LinesGive lines all.0 all.1
    by (Ok given) j e more =
        let new : Read = (with_given read.0 given, read.1 ++ written_in (length before + 1) given) in
        more (before ++ line ∷ []) new (Reached-more lines before rest line read.0 read.1 r given new.0 new.1 j refl refl)
        (subst (λ (n : ℕ). after_lines (Some new) n rest ≡ Some all) (sym (length_push before line)) e)
    by (Err cause) j e more = cc

-- ---- ASCII

are_ascii : (bytes : List ℕ) → list_all (λ b. nat_lt b 128) bytes ≡ true → All (λ b. b < 128) bytes
are_ascii [] h = All-nil (λ c. c < 128)
are_ascii (b ∷ bytes) h = grind (arith, common_steps, cases_Bool, nat_lt, All-cons, ltb-true, both_ways)

same_lines : (lines : List (List ℕ)) → list_all (list_all (λ b. nat_lt b 128)) lines ≡ true → map chars lines ≡ lines
same_lines [] h = refl
same_lines (line ∷ lines) h =
    elim (cases_Bool (list_all (λ b. nat_lt b 128) line)) [
      | inl holds ↦
          ap (λ (first : List ℕ). first ∷ map chars lines) (chars-IsAscii line (IsAscii-from_all line (are_ascii line holds)))
          ∙ ap (λ (others : List (List ℕ)). line ∷ others) (same_lines lines (rw holds at h))
      | inr fails ↦ let never = rw fails at h in absurd (both_ways _ refl never)
    ]

-- ---- the supplied table

english_sets : List PendingEntry
english_sets =
    pending.Set (record { line = 59; characters = english_set NumericMode }) ∷ pending.Set (record { line = 61; characters = english_set NoContraction }) ∷ []

english_read : after_lines (Some (no_meaning, [])) 0 (lines_of EN.now) ≡ Some (english, english_sets)
unfolding english_sets judge judge_line line_gives opcode_named entry_at characters_in entry_verdict pair_in
english_read = refl

english_lines : text_lines EN.now ≡ lines_of EN.now
english_lines = same_lines (lines_of EN.now) refl

english_lines_mean : LinesMean (text_lines EN.now) english
unfolding english_sets
english_lines_mean =
    record {
      all = english_sets;
      gives = subst (λ (lines : List (List ℕ)). LinesGive lines english english_sets) (sym english_lines)
          (after_lines-give (lines_of EN.now) [] (lines_of EN.now) (no_meaning, []) (Reached-none (lines_of EN.now) no_meaning [] refl refl) (english, english_sets) english_read);
      complete = refl;
      rules = refl;
    }

pub english_means : Means EN.now english
english_means = search (rules, LinesMean-Means, IsUtf8-from_ascii, IsAscii-from_all, are_ascii, english_lines_mean)
