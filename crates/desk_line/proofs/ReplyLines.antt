-- Each line of a reply to a query but the last begins with a bar, since no text of a sound book has a line feed.
use Rattle.std.proofs.Common.{◌≡◌, ℕ, ◌+◌, Bool, true, false, ◌||◌, eqb, List, [], ◌∷◌, ◌++◌, length, get_or, take, map, codes, refl, sym, ap, subst, ◌∙◌, append_assoc, inl, inr, arith, lit<}
use Rattle.std.specs.Prelude.{decimal, not}
use Rattle.std.specs.List.{All, AllByRecursion, enumerate_from, flat_map, list_all}
use Rattle.std.proofs.lemmas.List.Elements.{All-cons, All-filter, All-head, All-map, All-nil, All-tail, All-weaker}
use Rattle.std.proofs.lemmas.Option.{slice_get-get_or}
use Rattle.cell_core.specs.Cell.{braille_character}
use Rattle.louis_table.specs.Lines.{pieces_of}
use Rattle.louis_table.proofs.LineLaws.{pieces_of-line}
use Rattle.desk_model.specs.declared.style.Style.{Style}
use Rattle.desk_model.specs.declared.style.Style.TheVariants.{Body, Heading}
use Rattle.desk_model.specs.Book.{Book, Entry, Corrects, Undoes, Mark, Paragraph}
use Rattle.desk_model.specs.ValidNames.{is_name_character, is_proofreader_character}
use Rattle.desk_model.specs.Print.{print_of}
use Rattle.desk_model.specs.Codes.{code_of}
use Rattle.desk_model.specs.Sound.{IsSound, IsSoundEntry, IsSoundMark, IsSoundParagraph}
use Rattle.desk_model.specs.BookTexts.{IsUnbarred, is_barred}
use Rattle.desk_model.proofs.Callers.{IsSoundParagraph-found, IsSoundTable-found, unbarred-print}
use Rattle.desk_ends.specs.Cells.{text_of}
use Rattle.desk_line.specs.declared.request.Query.{Query}
use Rattle.desk_line.specs.Fields.{line_of_fields}
use Rattle.desk_line.specs.ReplyLines.{BeginsWith, EndsAfterBars, RepliesToQuery, ShowsLines, print, braille, history, marks, where_is, whence, list, version, shown, refused, details, entry_line, list_line, mark_line, shown_line, shown_text, style_word, word_and, word_if}
use Rattle.desk_line.proofs.LackedBytes.{Lacks, Lacks-decimal, Lacks-joined, Lacks-shown, lacks, one-line, other-byte}

-- a line without a line feed
abbrev Lone : List ℕ → Type 0
Lone line = Lacks 10 line

line_of_fields-lone : (fields : List (List ℕ)) → AllByRecursion Lone fields → Lone (line_of_fields fields)
line_of_fields-lone = Lacks-joined 10 (λ e. omega arith)

number-lone : (n : ℕ) → Lone (decimal n)
number-lone = Lacks-decimal 10 (lit< tt)

text-lone : (text : List ℕ) → All (λ c. eqb c 10 ≡ false) text → Lone (shown_text text)
text-lone = Lacks-shown 10 (lit< tt)

-- ---- characters

first-false : (a b c : Bool) → (a || b || c) ≡ false → a ≡ false
first-false true b c e = absurd cc
first-false false b c e = refl

unbarred-lone : (text : List ℕ) → IsUnbarred text → Lone (shown_text text)
unbarred-lone text h =
    text-lone text
    (All-weaker (λ c. is_barred c ≡ false) (λ c. eqb c 10 ≡ false) (λ c e. first-false (eqb c 10) (eqb c 13) (eqb c 0) e) text h)

proofreader-other : (c : ℕ) → is_proofreader_character c ≡ true → eqb c 10 ≡ false
proofreader-other c e =
    other-byte c 10 (λ at. let h : is_proofreader_character 10 ≡ true = ap is_proofreader_character (sym at) ∙ e in cc)

name-other : (c : ℕ) → is_name_character c ≡ true → eqb c 10 ≡ false
name-other c e = other-byte c 10 (λ at. let h : is_name_character 10 ≡ true = ap is_name_character (sym at) ∙ e in cc)

braille-lone : (cells : List ℕ) → Lone (text_of cells)
braille-lone cells =
    text-lone (map braille_character cells)
    (All-map (λ c. eqb c 10 ≡ false) braille_character cells (λ k d within. other-byte (braille_character (get_or cells k d)) 10 (λ e. omega arith)))

-- ---- histories

entry-lone : (original : List ℕ) (before : List Entry) (entry : Entry) → IsSoundEntry original before entry
    → (n : ℕ) → Lone (entry_line (n, entry))
entry-lone original before (Corrects r []) sound n =
    line_of_fields-lone (decimal n ∷ codes "correct" ∷ decimal r.start ∷ decimal r.count ∷ shown_text r.text ∷ [])
    (number-lone n, (lacks 10 (codes "correct") refl, (number-lone r.start, (number-lone r.count, (unbarred-lone r.text sound.1.unbarred, tt)))))
entry-lone original before (Corrects r (c ∷ who)) sound n =
    line_of_fields-lone (decimal n ∷ codes "correct-by" ∷ shown_text (c ∷ who) ∷ decimal r.start ∷ decimal r.count ∷ shown_text r.text ∷ []) (
      number-lone n,
      (
        lacks 10 (codes "correct-by") refl,
        (
          text-lone (c ∷ who) (All-weaker (λ x. is_proofreader_character x ≡ true) (λ x. eqb x 10 ≡ false) proofreader-other (c ∷ who) sound.2.characters),
          (number-lone r.start, (number-lone r.count, (unbarred-lone r.text sound.1.unbarred, tt))),
        ),
      ),
    )
entry-lone original before (Undoes undone) sound n =
    line_of_fields-lone (decimal n ∷ codes "undo" ∷ decimal undone ∷ []) (number-lone n, (lacks 10 (codes "undo") refl, (number-lone undone, tt)))

-- an entry's line, whatever number it has
abbrev HasLoneLine : Entry → Type 0
HasLoneLine entry = (n : ℕ) → Lone (entry_line (n, entry))

entries-lone : (n : ℕ) (entries : List Entry) → All HasLoneLine entries → All (λ item. Lone (entry_line item)) (enumerate_from n entries)
entries-lone n [] h = All-nil (λ (item : ℕ × Entry). Lone (entry_line item))
entries-lone n (entry ∷ entries) h =
    All-cons (λ (item : ℕ × Entry). Lone (entry_line item)) (n, entry) (enumerate_from (n + 1) entries) (All-head HasLoneLine entry entries h n)
    (entries-lone (n + 1) entries (All-tail HasLoneLine entry entries h))

-- ---- the lines that a sound book shows

style-lone : (style : Style) → Lone (style_word style)
style-lone Body = lacks 10 (codes "body") refl
style-lone Heading = lacks 10 (codes "heading") refl

-- one of two words by a flag
either-lone : (this other : List ℕ) → list_all (λ b. not (eqb b 10)) this ≡ true → list_all (λ b. not (eqb b 10)) other ≡ true → (set : Bool) → Lone (word_if set this other)
either-lone this other one two true = lacks 10 this one
either-lone this other one two false = lacks 10 other two

module _ (book : Book) (sound : IsSound book) where
  mark-lone : (mark : Mark) → IsSoundMark book mark → Lone (mark_line mark)
  mark-lone mark s =
      line_of_fields-lone (decimal mark.id ∷ decimal mark.start ∷ decimal mark.end ∷ word_if mark.resolved (codes "resolved") (codes "open") ∷ word_if mark.touched (codes "touched") (codes "kept") ∷ shown_text mark.note ∷ []) (
        number-lone mark.id,
        (
          number-lone mark.start,
          (
            number-lone mark.end,
            (either-lone (codes "resolved") (codes "open") refl refl mark.resolved, (either-lone (codes "touched") (codes "kept") refl refl mark.touched, (unbarred-lone mark.note s.clean.unbarred, tt))),
          ),
        ),
      )

  list_line-lone : (p : Paragraph) → IsSoundParagraph book p → Lone (list_line p)
  list_line-lone p s =
      line_of_fields-lone (decimal p.id ∷ shown_text p.table ∷ style_word p.style ∷ word_if p.begins_volume (codes "volume") (codes "-") ∷ word_if p.struck (codes "struck") (codes "live") ∷ decimal (length (print_of p)) ∷ []) (
        number-lone p.id,
        (
          text-lone p.table (All-weaker (λ c. is_name_character c ≡ true) (λ c. eqb c 10 ≡ false) name-other p.table (IsSoundTable-found book sound p.table s.text s.found).named.characters),
          (style-lone p.style, (either-lone (codes "volume") (codes "-") refl refl p.begins_volume, (either-lone (codes "struck") (codes "live") refl refl p.struck, (number-lone (length (print_of p)), tt)))),
        ),
      )

  history-lone : (p : Paragraph) → IsSoundParagraph book p → All HasLoneLine p.history
  history-lone p s k d within n =
      entry-lone p.original (take k p.history) (get_or p.history k d)
      (s.history.entries k (get_or p.history k d) (slice_get-get_or p.history k d within)) n

  one : (line : List ℕ) → Lone line → All Lone (line ∷ [])
  one line h = All-cons Lone line [] h (All-nil Lone)

  shown-lone : (query : Query) (lines : List (List ℕ)) → ShowsLines book query lines → All Lone lines
  shown-lone query lines (print id p q found is) =
      subst (All Lone) (sym is) (one (shown_text (print_of p)) (unbarred-lone (print_of p) (unbarred-print book p (IsSoundParagraph-found book sound id p found))))
  shown-lone query lines (braille id p cells q found b is) = subst (All Lone) (sym is) (one (text_of cells) (braille-lone cells))
  shown-lone query lines (history id p q found is) =
      subst (All Lone) (sym is)
      (All-map Lone entry_line (enumerate_from 1 p.history) (entries-lone 1 p.history (history-lone p (IsSoundParagraph-found book sound id p found))))
  shown-lone query lines (marks id p q found is) =
      subst (All Lone) (sym is)
      (All-map Lone mark_line _ (All-filter _ (λ mark. Lone (mark_line mark)) book.marks (All-weaker (IsSoundMark book) (λ mark. Lone (mark_line mark)) mark-lone book.marks sound.marks)))
  shown-lone query lines (where_is id place cell p q found o is) = subst (All Lone) (sym is) (one (decimal cell) (number-lone cell))
  shown-lone query lines (whence id cell place p q found o is) = subst (All Lone) (sym is) (one (decimal place) (number-lone place))
  shown-lone query lines (list q is) =
      subst (All Lone) (sym is)
      (All-map Lone list_line book.paragraphs (All-weaker (IsSoundParagraph book) (λ p. Lone (list_line p)) list_line-lone book.paragraphs sound.paragraphs))
  shown-lone query lines (version q is) = subst (All Lone) (sym is) (All-nil Lone)

-- ---- the lines of a reply

-- a line after a bar and a blank
abbrev after_bar : List ℕ → List ℕ
after_bar line = line_of_fields (codes "|" ∷ line ∷ [])

bar-lone : (line : List ℕ) → Lone line → Lone (after_bar line)
bar-lone line h = line_of_fields-lone (codes "|" ∷ line ∷ []) (lacks 10 (codes "|") refl, (h, tt))

pieces-shown : (lines : List (List ℕ)) (rest : List ℕ) → All Lone lines
    → pieces_of (flat_map shown_line lines ++ rest) ≡ map after_bar lines ++ pieces_of rest
pieces-shown [] rest h = refl
pieces-shown (line ∷ lines) rest h =
    let front = after_bar line in
    let later = flat_map shown_line lines in
    ap pieces_of (ap (λ (t : List ℕ). t ++ rest) (append_assoc front (10 ∷ []) later) ∙ append_assoc front (10 ∷ later) rest)
    ∙ (pieces_of-line front (later ++ rest) (one-line front (bar-lone line (All-head Lone line lines h)))
    ∙ ap (λ (ls : List (List ℕ)). front ∷ ls) (pieces-shown lines rest (All-tail Lone line lines h)))

bars-after : (lines : List (List ℕ)) → All (BeginsWith (codes "| ")) (map after_bar lines)
bars-after [] = All-nil (BeginsWith (codes "| "))
bars-after (line ∷ lines) = All-cons (BeginsWith (codes "| ")) (after_bar line) (map after_bar lines) (line, refl) (bars-after lines)

numbers-lone : (numbers : List ℕ) → AllByRecursion Lone (map decimal numbers)
numbers-lone [] = tt
numbers-lone (n ∷ numbers) = (number-lone n, numbers-lone numbers)

-- a word and numbers after it are one line
pieces-word : (word : List ℕ) (numbers : List ℕ) → Lone word → pieces_of (word_and word numbers) ≡ line_of_fields (word ∷ map decimal numbers) ∷ []
pieces-word word numbers h =
    let line = line_of_fields (word ∷ map decimal numbers) in
    pieces_of-line line [] (one-line line (line_of_fields-lone (word ∷ map decimal numbers) (h, numbers-lone numbers)))

pub after-bars : (book : Book) (query : Query) (text : List ℕ) → IsSound book → RepliesToQuery book query text → EndsAfterBars text
after-bars book query text sound (shown lines shows is) = record {
  others = map after_bar lines;
  last = line_of_fields (codes "end" ∷ decimal book.version ∷ []);
  lines = ap pieces_of is
      ∙ (pieces-shown lines (word_and (codes "end") (book.version ∷ [])) (shown-lone book sound query lines shows)
      ∙ ap (λ (ls : List (List ℕ)). map after_bar lines ++ ls) (pieces-word (codes "end") (book.version ∷ []) (lacks 10 (codes "end") refl)));
  bars = bars-after lines;
  word = inl (decimal book.version, refl);
}
after-bars book query text sound (refused refusal refuses is) = record {
  others = [];
  last = line_of_fields (codes "no" ∷ decimal (code_of refusal) ∷ map decimal (details refusal));
  lines = ap pieces_of is ∙ pieces-word (codes "no") (code_of refusal ∷ details refusal) (lacks 10 (codes "no") refl);
  bars = All-nil (BeginsWith (codes "| "));
  word = inr (line_of_fields (decimal (code_of refusal) ∷ map decimal (details refusal)), refl);
}
