-- Histories, marks, refusals and their order, worked by the definitions alone: they say what these rows say, and not only what the code does.
use Rattle.std.proofs.Common.{◌≡◌, ℕ, ◌≤◌, Bool, true, false, List, [], ◌∷◌, ◌++◌, Ok, map, refl, sym, subst, arith, lit<, lit≤, Some, None}
use Rattle.std.specs.Str.{IsUtf8, chars}
use Rattle.std.proofs.lemmas.List.Elements.{All-cons, All-nil}
use lib.Utf8.{encode}
use Rattle.louis_table.specs.declared.definition.Class.TheVariants.{Letter}
use Rattle.louis_table.specs.declared.definition.Definition.{Definition}
use Rattle.louis_table.specs.declared.fault.TableFault.{TableFault}
use Rattle.louis_table.specs.Lines.{lines_of}
use Rattle.louis_table.specs.Meaning.{Meaning}
use Rattle.louis_table.specs.Steps.Characters.{characters_in}
use Rattle.louis_table.specs.Steps.Opcode.{opcode_named}
use Rattle.louis_table.specs.Steps.Table.{no_meaning, with_given}
use Rattle.louis_table.specs.Steps.Line.{entry_at, entry_verdict, judge_line, line_gives}
use Rattle.louis_table.specs.Steps.Read.{LinesMean, judge}
use Rattle.louis_table.specs.Table.{Defines, Means}
use Rattle.louis_table.proofs.OneMeaning.{LinesMean-Means}
use Rattle.louis_table.proofs.ReadingLaws.{Reached-all, Reached-more, Reached-none}
use Rattle.louis_translate.specs.Position.{IsFirstUndefined}
use Rattle.desk_model.specs.declared.command.Command.{Command}
use Rattle.desk_model.specs.declared.refusal.Limit.TheVariants.{Tables, Paragraphs, Entries, Marks, Version}
use Rattle.desk_model.specs.declared.refusal.Refusal.{Refusal}
use Rattle.desk_model.specs.declared.refusal.Refusal.TheVariants.{Moved, BadName, BadReader, BadText, NoParagraph, NoTable, NoMark, Struck, NotStruck, Resolved, BadSpan, NothingToUndo, TooLong, Full, BadTable, Undefined, Untranslatable, NoMemory}
use Rattle.desk_model.specs.declared.command.Command.TheVariants.{Correct, Undo, Strike, Restore}
use Rattle.desk_model.specs.declared.style.Style.TheVariants.{Body}
use Rattle.desk_model.specs.Book.{Book, Paragraph, Replacement, Entry, Corrects, Undoes, Mark, new_mark}
use Rattle.desk_model.specs.Print.{corrected_print, newest, stack}
use Rattle.desk_model.specs.Marks.{mark_moved, mark_moved_back}
use Rattle.desk_model.specs.Judging.{Passes}
use Rattle.desk_model.specs.ValidNames.{IsProofreaderName, is_proofreader_character}
use Rattle.desk_model.specs.Refusals.{IsRefused, new_print, print_to_translate}
use Rattle.desk_model.specs.Limits.{most_entries, most_print}
use Rattle.desk_model.specs.Codes.{code_of}
use Rattle.desk_model.specs.Named.{number_of}
use Rattle.desk_model.specs.NextBook.{Makes}
use Rattle.desk_model.specs.BookTexts.{IsUnbarred, is_barred}
use Rattle.desk_model.specs.Ranks.{bad_table_rank, bad_text_rank, rank, undefined_rank}
use Rattle.desk_model.proofs.Commands.Expecting.{moved}
use Rattle.desk_model.proofs.Commands.Judging.{IsRefused-passes, Passes-past}
use Rattle.desk_model.proofs.Commands.Ranks.{passes_to, past_text, to_rank, past_fit, past_lengths, past_one, past_there, past_version, not_longer}

-- `The cat`
abbrev the_cat : List ℕ
the_cat = 84 ∷ 104 ∷ 101 ∷ 32 ∷ 99 ∷ 97 ∷ 116 ∷ []

-- `dog` in place of `cat`
abbrev dog : Replacement
dog = record { start = 4; count = 3; text = 100 ∷ 111 ∷ 103 ∷ [] }

the-dog : corrected_print the_cat (Corrects dog [] ∷ []) ≡ 84 ∷ 104 ∷ 101 ∷ 32 ∷ 100 ∷ 111 ∷ 103 ∷ []
the-dog = refl

the-cat-again : corrected_print the_cat (Corrects dog [] ∷ Undoes 1 ∷ []) ≡ the_cat
the-cat-again = refl

nothing-to-undo : newest (Corrects dog [] ∷ Undoes 1 ∷ []) ≡ None
nothing-to-undo = refl

-- correct, undo, correct, correct, undo: entry 4 is taken back, and entry 3 is in force
abbrev s_put : Replacement
s_put = record { start = 7; count = 0; text = 115 ∷ [] }

abbrev the_s_put : List Entry
the_s_put = Corrects dog [] ∷ Undoes 1 ∷ Corrects s_put [] ∷ Corrects dog [] ∷ []

fourth-in-force : newest the_s_put ≡ Some (4, dog)
fourth-in-force = refl

third-in-force : stack (the_s_put ++ Undoes 4 ∷ []) ≡ (3, s_put) ∷ []
third-in-force = refl

the-cats : corrected_print the_cat (the_s_put ++ Undoes 4 ∷ []) ≡ the_cat ++ 115 ∷ []
the-cats = refl

-- ---- marks

-- a mark with the note `look`
abbrev look : (start end : ℕ) → Bool → Mark
look start end touched = record (new_mark 1 1 start end (108 ∷ 111 ∷ 111 ∷ 107 ∷ [])) { touched = touched }

abbrev put : (start count : ℕ) → List ℕ → Replacement
put start count text = record { start = start; count = count; text = text }

-- `x` before it moves it, `i` in place of a character of it touches it
before-it : mark_moved (put 0 0 (120 ∷ [])) (look 0 3 false) ≡ look 1 4 false
before-it = refl

within-it : mark_moved (put 2 1 (105 ∷ [])) (look 1 4 false) ≡ look 1 4 true
within-it = refl

-- both taken back, the newest first: it stands where it stood, and is touched for good
taken-back : mark_moved_back (put 0 0 (120 ∷ [])) (mark_moved_back (put 2 1 (105 ∷ [])) (look 1 4 true)) ≡ look 0 3 true
taken-back = refl

-- a replacement just after it leaves it, one of all that it covers leaves it empty and touched
after-it : mark_moved (put 7 0 (115 ∷ [])) (look 4 7 false) ≡ look 4 7 false
after-it = refl

around-it : mark_moved (put 0 9 []) (look 5 8 false) ≡ look 0 0 true
around-it = refl

-- taken back, what is restored stands after the empty mark
came-again : mark_moved_back (put 0 9 []) (look 0 0 true) ≡ look 0 0 true
came-again = refl

-- six marks at the edges of a replacement of `[2, 4)` by one character: ending at its start, over its start, on the same
-- places, over its end, beginning at its end, and around it
at-the-edges : map (mark_moved (put 2 2 (98 ∷ []))) (look 0 2 false ∷ look 1 3 false ∷ look 2 4 false ∷ look 3 5 false ∷ look 4 6 false ∷ look 0 6 false ∷ [])
    ≡ look 0 2 false ∷ look 1 3 true ∷ look 2 3 true ∷ look 2 4 true ∷ look 3 5 false ∷ look 0 5 true ∷ []
at-the-edges = refl

-- and after it is taken back: what came again belongs to the marks that were touched, so the second and the fourth are
-- longer than at first
at-the-edges-again : map (mark_moved_back (put 2 2 (98 ∷ []))) (look 0 2 false ∷ look 1 3 true ∷ look 2 3 true ∷ look 2 4 true ∷ look 3 5 false ∷ look 0 5 true ∷ [])
    ≡ look 0 2 false ∷ look 1 4 true ∷ look 2 4 true ∷ look 2 5 true ∷ look 4 6 false ∷ look 0 6 true ∷ []
at-the-edges-again = refl

-- an empty mark stays before what is new at its place, and is touched only from both sides
empty-mark : map (λ r. mark_moved r (look 1 1 false)) (put 1 0 (99 ∷ []) ∷ put 0 1 (98 ∷ 98 ∷ []) ∷ put 1 1 [] ∷ put 0 2 [] ∷ [])
    ≡ look 1 1 false ∷ look 2 2 false ∷ look 1 1 false ∷ look 0 0 true ∷ []
empty-mark = refl

-- ---- refusals

abbrev fault : TableFault
fault = record { line = 1; cause = 1 }

-- the refusals in the order in which they are reported
abbrev refusals : List Refusal
refusals =
    Moved 0 ∷ BadName ∷ BadReader ∷ BadText 0 ∷ NoParagraph ∷ NoTable ∷ NoMark ∷ Struck ∷ NotStruck ∷ Resolved ∷ BadSpan ∷ NothingToUndo
    ∷ TooLong ∷ Full Tables ∷ Full Paragraphs ∷ Full Entries ∷ Full Marks ∷ Full Version ∷ BadTable fault ∷ Undefined 0
    ∷ Untranslatable 0 0 ∷ NoMemory ∷ []

codes-by-rank : map code_of refusals ≡ 16 ∷ 17 ∷ 18 ∷ 6 ∷ 2 ∷ 3 ∷ 4 ∷ 11 ∷ 12 ∷ 13 ∷ 5 ∷ 10 ∷ 14 ∷ 15 ∷ 15 ∷ 15 ∷ 15 ∷ 15 ∷ 8 ∷ 7 ∷ 9 ∷ 90 ∷ []
codes-by-rank = refl

ranks-rise : map rank refusals ≡ 0 ∷ 10 ∷ 15 ∷ 20 ∷ 30 ∷ 40 ∷ 50 ∷ 60 ∷ 70 ∷ 80 ∷ 90 ∷ 100 ∷ 110 ∷ 120 ∷ 130 ∷ 140 ∷ 150 ∷ 160 ∷ 170 ∷ 180 ∷ 190 ∷ 200 ∷ []
ranks-rise = refl

-- ---- commands on a book

-- a book with one paragraph, `The cat`
abbrev cat_book : (version : ℕ) → List Entry → Bool → Book
cat_book version history struck = record {
  version = version;
  tables = [];
  paragraphs = record { id = 1; table = 101 ∷ 110 ∷ []; original = the_cat; history = history; style = Body; begins_volume = false; struck = struck } ∷ [];
  marks = [];
}

-- after a correction and an undo
abbrev taken_back_book : Book
taken_back_book = cat_book 4 (Corrects dog [] ∷ Undoes 1 ∷ []) false

-- each answers the number of the next entry of the history
numbers-of-entries : map (λ command. number_of taken_back_book command) (Correct 1 0 0 [] [] ∷ Undo 1 ∷ Correct 2 0 0 [] [] ∷ Strike 1 ∷ []) ≡ Some 3 ∷ Some 3 ∷ None ∷ None ∷ []
numbers-of-entries = refl

-- a replacement by `x`, without a name, is checked by what its paragraph is
x-passes : (book : Book) (id start count : ℕ) → Passes book None (Correct id start count (120 ∷ []) []) (rank NoParagraph)
x-passes book id start count =
    let named : IsProofreaderName [] = record { short = lit≤ tt; characters = All-nil (λ character. is_proofreader_character character ≡ true) } in
    let unbarred : IsUnbarred (120 ∷ []) = All-cons (λ character. is_barred character ≡ false) 120 [] refl (All-nil (λ character. is_barred character ≡ false)) in
    let command = Correct id start count (120 ∷ []) [] in
    past_text book command (120 ∷ [])
    (Passes-past book None command BadReader bad_text_rank refl (passes_to book command (rank BadReader) refl) (λ bad. bad named)) refl unbarred

-- a replacement of the ninth character of seven, an expected version 9 at version 4, and an undo where no correction is in
-- force
abbrev x_past_the_end : Command
x_past_the_end = Correct 1 8 1 (120 ∷ []) []

past-the-print : IsRefused taken_back_book None x_past_the_end BadSpan
past-the-print =
    let book = taken_back_book in
    let fit = past_fit book x_past_the_end 1 refl refl refl (x-passes book 1 8 1) _ refl refl in
    IsRefused-passes book None x_past_the_end (rank BadSpan) BadSpan (to_rank book x_past_the_end (rank NotStruck) (rank BadSpan) refl fit) refl (lit< tt)

another-version : IsRefused taken_back_book (Some 9) (Undo 1) (Moved 4)
another-version = moved taken_back_book (Some 9) (Undo 1) 4 (record { expected = 9; given = refl; other = λ same. omega arith; reported = refl })

none-in-force : IsRefused taken_back_book None (Undo 1) NothingToUndo
none-in-force =
    let passes = past_fit taken_back_book (Undo 1) 1 refl refl refl (passes_to taken_back_book (Undo 1) (rank NoParagraph) refl) _ refl refl in
    IsRefused-passes taken_back_book None (Undo 1) (rank NothingToUndo) NothingToUndo (to_rank taken_back_book (Undo 1) (rank NotStruck) (rank NothingToUndo) refl passes) refl refl

-- what a strike and a restoring make, and that neither is accepted again, nor a correction while the paragraph is struck
makes-struck : Makes (cat_book 2 [] false) (Strike 1) (cat_book 3 [] true)
makes-struck = refl

makes-restored : Makes (cat_book 3 [] true) (Restore 1) (cat_book 4 [] false)
makes-restored = refl

struck-already : IsRefused (cat_book 3 [] true) None (Strike 1) Struck
struck-already =
    let book = cat_book 3 [] true in
    let there = past_there book (Strike 1) 1 refl refl refl (passes_to book (Strike 1) (rank NoParagraph) refl) _ refl in
    IsRefused-passes book None (Strike 1) (rank Struck) Struck there refl refl

corrected_print-while-struck : IsRefused (cat_book 3 [] true) None (Correct 1 0 0 (120 ∷ []) []) Struck
corrected_print-while-struck =
    let book = cat_book 3 [] true in
    let command = Correct 1 0 0 (120 ∷ []) [] in
    let there = past_there book command 1 refl refl refl (x-passes book 1 0 0) _ refl in
    IsRefused-passes book None command (rank Struck) Struck there refl refl

restored-already : IsRefused (cat_book 4 [] false) None (Restore 1) NotStruck
restored-already =
    let book = cat_book 4 [] false in
    let there = past_one book (Restore 1) 1 _ refl refl (passes_to book (Restore 1) (rank NoParagraph) refl) in
    IsRefused-passes book None (Restore 1) (rank NotStruck) NotStruck (to_rank book (Restore 1) (rank NoTable) (rank NotStruck) refl there) refl refl

-- `letter a 1` and `letter b 12`, a table that defines no `c`
abbrev a_line : List ℕ
a_line = 108 ∷ 101 ∷ 116 ∷ 116 ∷ 101 ∷ 114 ∷ 32 ∷ 97 ∷ 32 ∷ 49 ∷ []

abbrev b_line : List ℕ
b_line = 108 ∷ 101 ∷ 116 ∷ 116 ∷ 101 ∷ 114 ∷ 32 ∷ 98 ∷ 32 ∷ 49 ∷ 50 ∷ []

abbrev ab_text : List ℕ
ab_text = a_line ++ 10 ∷ b_line ++ 10 ∷ []

-- the letter by one cell
abbrev letter_by : ℕ → Definition
letter_by mask = record { class = Letter; cells = mask ∷ [] }

abbrev ab_meaning : Meaning
ab_meaning = with_given (with_given no_meaning (Some (Defines 97 (letter_by 1)))) (Some (Defines 98 (letter_by 3)))

a-read : judge no_meaning 0 a_line ≡ Ok (Some (Defines 97 (letter_by 1)))
unfolding judge judge_line line_gives opcode_named entry_at characters_in entry_verdict
a-read = refl

b-read : judge (with_given no_meaning (Some (Defines 97 (letter_by 1)))) 1 b_line ≡ Ok (Some (Defines 98 (letter_by 3)))
unfolding judge judge_line line_gives opcode_named entry_at characters_in entry_verdict
b-read = refl

ab-lines : map chars (lines_of ab_text) ≡ a_line ∷ b_line ∷ []
unfolding chars
ab-lines = refl

ab-is-text : IsUtf8 ab_text
unfolding encode
ab-is-text = (ab_text, (refl, refl))

ab-means : Means ab_text ab_meaning
ab-means =
    let lines : List (List ℕ) = a_line ∷ b_line ∷ [] in
    let none = Reached-none lines no_meaning [] refl refl in
    let one = Reached-more lines [] (b_line ∷ []) a_line no_meaning [] none (Some (Defines 97 (letter_by 1))) (with_given no_meaning (Some (Defines 97 (letter_by 1)))) [] a-read refl refl in
    let both = Reached-more lines (a_line ∷ []) [] b_line _ [] one (Some (Defines 98 (letter_by 3))) ab_meaning [] b-read refl refl in
    let mean : LinesMean lines ab_meaning = record { all = []; gives = Reached-all lines lines ab_meaning [] both; complete = refl; rules = refl } in
    LinesMean-Means ab_text ab_text ab-is-text refl ab_meaning (subst (λ (ls : List (List ℕ)). LinesMean ls ab_meaning) (sym ab-lines) mean)

-- `c`, corrected to `a` and given the table `ab`: an undo is checked by that table, for the print `c`
abbrev c_corrected : Paragraph
c_corrected = record { id = 1; table = 97 ∷ 98 ∷ []; original = 99 ∷ []; history = Corrects (put 0 1 (97 ∷ [])) [] ∷ []; style = Body; begins_volume = false; struck = false }

abbrev retabled_book : Book
retabled_book = record {
  version = 5;
  tables = (97 ∷ 98 ∷ [], ab_text) ∷ [];
  paragraphs = c_corrected ∷ [];
  marks = [];
}

by-the-table-of-now : print_to_translate retabled_book (Undo 1) ≡ Some (99 ∷ [], 97 ∷ 98 ∷ [])
by-the-table-of-now = refl

-- so it is refused: the first character of that print has no definition there
undo-not-defined : IsRefused retabled_book None (Undo 1) (Undefined 0)
undo-not-defined =
    let book = retabled_book in
    let p = c_corrected in
    let fit = to_rank book (Undo 1) (rank NotStruck) (rank NothingToUndo) refl (past_fit book (Undo 1) 1 refl refl refl (passes_to book (Undo 1) (rank NoParagraph) refl) p refl refl) in
    let passes = Passes-past book None (Undo 1) NothingToUndo (rank TooLong) refl fit
    (λ none. cc none) in
    let short = past_lengths book (Undo 1) passes (λ l. l) (not_longer most_print (new_print book (Undo 1)) (99 ∷ []) refl (lit≤ tt)) (λ l. l) in
    let few = Passes-past book None (Undo 1) (Full Entries) (rank (Full Marks)) refl (to_rank book (Undo 1) (rank (Full Tables)) (rank (Full Entries)) refl short)
    (λ full. let many : most_entries ≤ 1 = full in omega arith) in
    let left = to_rank book (Undo 1) bad_table_rank undefined_rank refl (past_version book (Undo 1) (rank (Full Marks)) few refl (lit< tt)) in
    let first : IsFirstUndefined ab_meaning (99 ∷ []) 0 = record { within = lit< tt; undefined = refl; before = λ i lt. absurd (omega arith) } in
    IsRefused-passes book None (Undo 1) undefined_rank (Undefined 0) left refl
    (record { print = 99 ∷ []; name = 97 ∷ 98 ∷ []; print_is = refl; text = ab_text; meaning = ab_meaning; found = refl; means = ab-means; first = first })
