-- How much a book may have.
use Rattle.std.specs.Prelude.{ℕ}

-- the greatest version, 2 to the 53rd
abbrev pub most_version : ℕ
most_version = 9007199254740992

-- tables of a book
abbrev pub most_tables : ℕ
most_tables = 16

-- characters of a table's name
abbrev pub most_name : ℕ
most_name = 32

-- paragraphs of a book, struck ones counted
abbrev pub most_paragraphs : ℕ
most_paragraphs = 20000

-- characters of a print
abbrev pub most_print : ℕ
most_print = 4000

-- entries of a paragraph's history
abbrev pub most_entries : ℕ
most_entries = 10000

-- marks of a book
abbrev pub most_marks : ℕ
most_marks = 100000

-- characters of a note
abbrev pub most_note : ℕ
most_note = 500

-- characters of a proofreader's name
abbrev pub most_proofreader : ℕ
most_proofreader = 40
