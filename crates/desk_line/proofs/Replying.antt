-- What is put for a reply is its text.
use Rattle.std.proofs.Common.{◌≡◌, ◌≢◌, ◌⊎◌, inl, inr, ℕ, Bor, Bool, Some, None, List, [], ◌∷◌, ◌++◌, length, Option, refl, sym, ap, ◌∙◌}
use Rattle.std.specs.Prelude.{codes, decimal}
use Rattle.std.specs.List.{flat_map}
use Rattle.std.specs.Str.{chars}
use Rattle.std.proofs.lemmas.List.{append-nil}
use Rattle.std.proofs.lemmas.Str.{chars-nil}
use Rattle.desk_ends.specs.Sending.{Transmits}
use Rattle.desk_ends.proofs.Sending.{Transmits-same}
use Rattle.desk_line.specs.Fields.{line_of_fields}
use Rattle.desk_model.specs.declared.refusal.Refusal.{Refusal}
use Rattle.desk_model.specs.declared.refusal.Refusal.TheVariants as refusals
use Rattle.desk_model.specs.declared.history_item.Done.TheVariants.{Corrected, TookBack}
use Rattle.desk_model.specs.Codes.{code_of}
use Rattle.desk_model.specs.Book.{Book, Entry, Corrects, Undoes, Mark, Paragraph, Replacement, paragraph_of}
use Rattle.desk_model.specs.Print.{print_of}
use Rattle.desk_model.specs.HistoryItems.{TellsOf}
use Rattle.desk_model.specs.Translation.{LacksCell, LacksPlace}
use Rattle.desk_line.specs.declared.request.Query.{Query}
use Rattle.desk_line.specs.declared.request.Query.TheVariants as queries
use Rattle.desk_line.specs.ReplyLines.{Refuses, no_paragraph, no_place, no_cell, paragraph_asked, ShowsLines, correction_line, details, entry_line, line_of, list_line, mark_line, style_word, refusal_line, shown_line, shown_text, word_and, word_if}

-- a refusal by its code and its details
pub refusal-text : (refusal : Refusal) (code : ℕ) (numbers : List ℕ) → code ≡ code_of refusal → numbers ≡ details refusal
    → word_and (codes "no") (code ∷ numbers) ≡ refusal_line refusal
refusal-text refusal code numbers c d =
    ap (λ (n : ℕ). word_and (codes "no") (n ∷ numbers)) c ∙ ap (λ (ns : List ℕ). word_and (codes "no") (code_of refusal ∷ ns)) d

-- the end of what a query shows
abbrev pub end_text : ℕ → List ℕ
end_text n = word_and (codes "end") (n ∷ [])

-- one line of a query
pub shown-one : {F : Type 0} {a b : Option (List ℕ)} (was : List ℕ) {held : List ℕ} (book : Book) (query : Query) (line : List ℕ) {whole : Bool}
    → ShowsLines book query (line ∷ []) → Transmits F a b (was ++ shown_line line) held whole
    → (lines : List (List ℕ)) × ShowsLines book query lines × Transmits F a b (was ++ flat_map shown_line lines) held whole
shown-one was book query line shows s = (line ∷ [], shows, Transmits-same was (sym (append-nil (shown_line line))) s)

-- ---- one line

pub mark-fields : (reported : Mark) (id start end state touch note : List ℕ) → id ≡ decimal reported.id → start ≡ decimal reported.start → end ≡ decimal reported.end
    → state ≡ word_if reported.resolved (codes "resolved") (codes "open") → touch ≡ word_if reported.touched (codes "touched") (codes "kept") → note ≡ shown_text reported.note
    → line_of (codes "|" ∷ id ∷ start ∷ end ∷ state ∷ touch ∷ note ∷ []) ≡ shown_line (mark_line reported)
mark-fields reported id start end state touch note a b c d e f = rw (a, b, c, d, e, f) refl

pub list_line-fields : (reported : Paragraph) (id table style volume life size : List ℕ) → id ≡ decimal reported.id → table ≡ shown_text reported.table
    → style ≡ style_word reported.style → volume ≡ word_if reported.begins_volume (codes "volume") (codes "-") → life ≡ word_if reported.struck (codes "struck") (codes "live") → size ≡ decimal (length (print_of reported))
    → line_of (codes "|" ∷ id ∷ table ∷ style ∷ volume ∷ life ∷ size ∷ []) ≡ shown_line (list_line reported)
list_line-fields reported id table style volume life size a b c d e f = rw (a, b, c, d, e, f) refl

-- an entry with its parts as bytes: a correction by nobody, one by a proofreader, and an undo
pub unnamed-fields : (entry : Entry) (number start count : ℕ) (text who : Bor (List ℕ)) → TellsOf entry (Corrected start count text who) → who.now ≡ []
    → (n first size body : List ℕ) → n ≡ decimal number → first ≡ decimal start → size ≡ decimal count → body ≡ shown_text (chars text.now)
    → line_of (codes "|" ∷ n ∷ codes "correct" ∷ first ∷ size ∷ body ∷ []) ≡ shown_line (entry_line (number, entry))
unnamed-fields (Corrects r name) number start count text who tells none n first size body a b c d =
    let nobody : name ≡ [] = sym tells.3 ∙ (ap chars none ∙ chars-nil) in
    rw (a, b, c, d, tells.0, tells.1, tells.2, nobody) refl
unnamed-fields (Undoes m) number start count text who tells none n first size body a b c d = absurd tells

correction-named : (number : ℕ) (r : Replacement) (name : List ℕ) → name ≢ []
    → correction_line number r name
    ≡ line_of_fields (decimal number ∷ codes "correct-by" ∷ shown_text name ∷ decimal r.start ∷ decimal r.count ∷ shown_text r.text ∷ [])
correction-named number r [] some = absurd (some refl)
correction-named number r (c ∷ name) some = refl

pub named-fields : (entry : Entry) (number start count : ℕ) (text who : Bor (List ℕ)) → TellsOf entry (Corrected start count text who) → who.now ≢ []
    → (n proofreader first size body : List ℕ) → n ≡ decimal number → proofreader ≡ shown_text (chars who.now) → proofreader ≡ who.now → first ≡ decimal start → size ≡ decimal count
    → body ≡ shown_text (chars text.now)
    → line_of (codes "|" ∷ n ∷ codes "correct-by" ∷ proofreader ∷ first ∷ size ∷ body ∷ []) ≡ shown_line (entry_line (number, entry))
named-fields (Corrects r name) number start count text who tells some n proofreader first size body a w v b c d =
    let named : name ≢ [] = λ e. some (sym v ∙ (w ∙ ap shown_text (tells.3 ∙ e))) in
    rw (correction-named number r name named, a, w, b, c, d, tells.0, tells.1, tells.2, tells.3) refl
named-fields (Undoes m) number start count text who tells some n proofreader first size body a w v b c d = absurd tells

pub undo-fields : (entry : Entry) (number undone : ℕ) → TellsOf entry (TookBack undone) → (n took : List ℕ) → n ≡ decimal number → took ≡ decimal undone
    → line_of (codes "|" ∷ n ∷ codes "undo" ∷ took ∷ []) ≡ shown_line (entry_line (number, entry))
undo-fields (Corrects r who) number undone tells n took a b = absurd tells
undo-fields (Undoes m) number undone tells n took a b = rw (a, b, tells) refl

-- ---- refusals of queries

pub no-paragraph-asked : (book : Book) (query : Query) (id : ℕ) (refusal : Refusal) → paragraph_asked query ≡ Some id
    → (refusal ≡ refusals.NoParagraph) × (paragraph_of book id ≡ None) → Refuses book query refusal
no-paragraph-asked book query id refusal asks h = no_paragraph id asks h.1 h.0

-- a refusal with nothing but its code
pub no-details : (refusal : Refusal)
    → (refusal ≡ refusals.BadName) ⊎ ((refusal ≡ refusals.BadReader) ⊎ ((refusal ≡ refusals.NoParagraph) ⊎ ((refusal ≡ refusals.NoTable)
    ⊎ ((refusal ≡ refusals.NoMark) ⊎ ((refusal ≡ refusals.Struck) ⊎ ((refusal ≡ refusals.NotStruck) ⊎ ((refusal ≡ refusals.Resolved)
    ⊎ ((refusal ≡ refusals.BadSpan) ⊎ ((refusal ≡ refusals.NothingToUndo) ⊎ ((refusal ≡ refusals.TooLong) ⊎ (refusal ≡ refusals.NoMemory)))))))))))
    → [] ≡ details refusal
no-details refusal (inl e) = sym (ap details e)
no-details refusal (inr (inl e)) = sym (ap details e)
no-details refusal (inr (inr (inl e))) = sym (ap details e)
no-details refusal (inr (inr (inr (inl e)))) = sym (ap details e)
no-details refusal (inr (inr (inr (inr (inl e))))) = sym (ap details e)
no-details refusal (inr (inr (inr (inr (inr (inl e)))))) = sym (ap details e)
no-details refusal (inr (inr (inr (inr (inr (inr (inl e))))))) = sym (ap details e)
no-details refusal (inr (inr (inr (inr (inr (inr (inr (inl e)))))))) = sym (ap details e)
no-details refusal (inr (inr (inr (inr (inr (inr (inr (inr (inl e))))))))) = sym (ap details e)
no-details refusal (inr (inr (inr (inr (inr (inr (inr (inr (inr (inl e)))))))))) = sym (ap details e)
no-details refusal (inr (inr (inr (inr (inr (inr (inr (inr (inr (inr (inl e))))))))))) = sym (ap details e)
no-details refusal (inr (inr (inr (inr (inr (inr (inr (inr (inr (inr (inr e))))))))))) = sym (ap details e)

-- the refusals of a place, and of a cell
pub place-refused : (book : Book) (id place : ℕ) (query : Query) (refusal : Refusal) → query ≡ queries.WhereIs id place
    → ((refusal ≡ refusals.NoParagraph) × (paragraph_of book id ≡ None)) ⊎ ((refusal ≡ refusals.BadSpan) × LacksPlace book id place) → Refuses book query refusal
place-refused book id place query refusal e (inl h) = no_paragraph id (ap paragraph_asked e) h.1 h.0
place-refused book id place query refusal e (inr h) = no_place id place e h.1 h.0

pub cell-refused : (book : Book) (id cell : ℕ) (query : Query) (refusal : Refusal) → query ≡ queries.Whence id cell
    → ((refusal ≡ refusals.NoParagraph) × (paragraph_of book id ≡ None)) ⊎ ((refusal ≡ refusals.BadSpan) × LacksCell book id cell) → Refuses book query refusal
cell-refused book id cell query refusal e (inl h) = no_paragraph id (ap paragraph_asked e) h.1 h.0
cell-refused book id cell query refusal e (inr h) = no_cell id cell e h.1 h.0
