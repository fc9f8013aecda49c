-- What a command gives and names, which decides its refusals, the number that it answers and the
-- rows that it may change.
use Rattle.std.specs.Prelude.{ℕ, ◌+◌, Bool, true, false, List, [], ◌∷◌, length, Option, Some, None, IfSome, option_map}
use Rattle.desk_model.specs.BookTexts.{AreCharacters, normal_form}
use Rattle.desk_model.specs.declared.command.Anchor.{Anchor}
use Rattle.desk_model.specs.declared.command.Anchor.TheVariants.{Front, End, Para}
use Rattle.desk_model.specs.declared.command.Command.{Command}
use Rattle.desk_model.specs.declared.command.Command.TheVariants.{Table, TypeIn, Correct, Undo, Mark, Resolve, Strike}
use Rattle.desk_model.specs.declared.command.Command.TheVariants.{Restore, Style, Volume, Retable, Move}
use Rattle.desk_model.specs.Book.{Book, Paragraph, paragraph_of}
use Rattle.desk_model.specs.Print.{print_of, print_undone, with_replacement}
use Rattle.desk_model.specs.NextBook.{next_id, next_mark, replacement_by}
use Rattle.desk_model.specs.Ranks.{bad_table_rank, rank, undefined_rank}
use Rattle.desk_model.specs.declared.refusal.Refusal.TheVariants.{NoMemory, TooLong}

-- ---- what it may name

-- characters of a paragraph's print up to a place, or so many cells of its braille from a place on
pub data Span : Type 0 where
  Characters : (id end : ℕ) → Span
  Cells : (id cell count : ℕ) → Span

-- a paragraph that gets other braille: a new one with this print, by the table with this name; the
-- one with this id, by the print that it would have, if it can have one; or the one with this id,
-- by the table with this name
pub data Translated : Type 0 where
  Typed : (print table : List ℕ) → Translated
  Changed : (id : ℕ) → (Paragraph → Option (List ℕ)) → Translated
  Retabled : (id : ℕ) (table : List ℕ) → Translated

-- What a command gives and names. What it doesn't name is None, [] or false.
pub record Named : Type 0 where
  -- the name of the table that it adds or replaces, and the text
  pub table_given : Option (List ℕ × List ℕ)
  -- a text that is given, which may have no barred character
  pub text_given : Option (List ℕ)
  -- the name of a proofreader that is given
  pub proofreader_given : Option (List ℕ)
  -- a text that is typed or replaces another, as it is stored
  pub text_stored : Option (List ℕ)
  -- the note of a new mark
  pub note_given : Option (List ℕ)
  -- where a paragraph is to stand
  pub place_given : Option Anchor
  -- the mark that it speaks of
  pub mark_named : Option ℕ
  -- the paragraph whose history gets an entry
  pub history_grown : Option ℕ
  -- the paragraph whose style, or one of whose flags, it sets
  pub flags_set : Option ℕ
  -- whether it makes a new paragraph
  pub adds_paragraph : Bool
  -- the paragraphs that it speaks of
  pub paragraphs_named : List ℕ
  -- the table that a paragraph is to use
  pub table_named : Option (List ℕ)
  -- the paragraph that it can't act on while that is struck
  pub live_paragraph : Option ℕ
  -- the paragraph that it can't act on unless that is struck
  pub struck_paragraph : Option ℕ
  -- the characters that it replaces or the cells that it marks
  pub span_named : Option Span
  -- the paragraph whose newest correction it takes back
  pub paragraph_undone : Option ℕ
  -- the paragraph whose print, or whose table, it changes, or that it adds
  pub paragraph_translated : Option Translated
  -- the number that it answers, in each book
  pub number_answered : Book → Option ℕ
  -- the first rank of refusals that is checked after it has allocated, if it allocates
  pub rank_after_asking : Option ℕ

-- what a command names that names nothing: each field by its default
abbrev pub nothing_named : Named
nothing_named = record {
  table_given = None;
  text_given = None;
  proofreader_given = None;
  text_stored = None;
  note_given = None;
  place_given = None;
  mark_named = None;
  history_grown = None;
  flags_set = None;
  adds_paragraph = false;
  paragraphs_named = [];
  table_named = None;
  live_paragraph = None;
  struck_paragraph = None;
  span_named = None;
  paragraph_undone = None;
  paragraph_translated = None;
  number_answered = λ book. None;
  rank_after_asking = None;
}

-- ---- each command

-- the paragraph after which another is to stand
abbrev pub paragraph_before : Anchor → List ℕ
paragraph_before Front = []
paragraph_before End = []
paragraph_before (Para id) = id ∷ []

-- the number of the next entry in the history of the paragraph with this id, if that is there
abbrev pub next_entry : ℕ → Book → Option ℕ
next_entry id book = option_map (λ paragraph. length paragraph.history + 1) (paragraph_of book id)

-- A command allocates before it checks a table's text, the length of a text in its normal form, or
-- the print of an undo; a new mark, the braille by another table and a new order it allocates when
-- nothing is left to check.
abbrev pub named_by : Command → Named
named_by (Table name text) =
    record nothing_named { table_given = Some (name, text); rank_after_asking = Some bad_table_rank }
named_by (TypeIn anchor table text) = record nothing_named {
  text_given = Some text;
  text_stored = Some (normal_form text);
  place_given = Some anchor;
  adds_paragraph = true;
  paragraphs_named = paragraph_before anchor;
  table_named = Some table;
  paragraph_translated = Some (Typed (normal_form text) table);
  number_answered = λ book. Some (next_id book);
  rank_after_asking = Some (rank TooLong);
}
named_by (Correct id start count text who) = record nothing_named {
  text_given = Some text;
  proofreader_given = Some who;
  text_stored = Some (normal_form text);
  history_grown = Some id;
  paragraphs_named = id ∷ [];
  live_paragraph = Some id;
  span_named = Some (Characters id (start + count));
  paragraph_translated =
      Some (Changed id (λ p. Some (with_replacement (print_of p) (replacement_by start count text))));
  number_answered = next_entry id;
  rank_after_asking = Some (rank TooLong);
}
named_by (Undo id) = record nothing_named {
  history_grown = Some id;
  paragraphs_named = id ∷ [];
  live_paragraph = Some id;
  paragraph_undone = Some id;
  paragraph_translated = Some (Changed id print_undone);
  number_answered = next_entry id;
  rank_after_asking = Some undefined_rank;
}
named_by (Mark id cell count note) = record nothing_named {
  text_given = Some note;
  note_given = Some note;
  paragraphs_named = id ∷ [];
  live_paragraph = Some id;
  span_named = Some (Cells id cell count);
  number_answered = λ book. Some (next_mark book);
  rank_after_asking = Some (rank NoMemory);
}
named_by (Resolve id) = record nothing_named { mark_named = Some id }
named_by (Strike id) =
    record nothing_named { flags_set = Some id; paragraphs_named = id ∷ []; live_paragraph = Some id }
named_by (Restore id) =
    record nothing_named { flags_set = Some id; paragraphs_named = id ∷ []; struck_paragraph = Some id }
named_by (Style id style) = record nothing_named { flags_set = Some id; paragraphs_named = id ∷ [] }
named_by (Volume id begins) = record nothing_named { flags_set = Some id; paragraphs_named = id ∷ [] }
named_by (Retable id table) = record nothing_named {
  paragraphs_named = id ∷ [];
  table_named = Some table;
  live_paragraph = Some id;
  paragraph_translated = Some (Retabled id table);
  rank_after_asking = Some (rank NoMemory);
}
named_by (Move id anchor) = record nothing_named {
  place_given = Some anchor;
  paragraphs_named = id ∷ paragraph_before anchor;
  rank_after_asking = Some (rank NoMemory);
}

-- ---- what follows from what is named

-- the number that is answered: a new paragraph's or mark's id, or the number of a new entry of a
-- history
abbrev pub number_of : Book → Command → Option ℕ
number_of book command = (named_by command).number_answered book

-- each text that the command adds to the book is of characters
abbrev pub HasCharacters : Command → Type 0
HasCharacters command =
    IfSome (named_by command).text_stored AreCharacters × IfSome (named_by command).proofreader_given AreCharacters
    × IfSome (named_by command).note_given AreCharacters
