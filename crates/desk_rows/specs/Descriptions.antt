-- The tables of a book's file, each described once.
use Rattle.std.specs.Prelude.{ℕ, suc, zero, Bool, true, false, List, [], ◌∷◌, codes, Option, Some, None, ◌==◌}
use Rattle.std.specs.List.{list_any}
use Rattle.sqlite_value.specs.declared.keys.Order.{Order}
use Rattle.sqlite_value.specs.Keys.{plain}
use Rattle.sqlite_schema.specs.declared.schema.Kind.{Kind}
use Rattle.sqlite_schema.specs.declared.schema.Kind.TheVariants.{Integer, Text, Blob, Any}
use Rattle.sqlite_schema.specs.declared.schema.Column.{Column}
use Rattle.sqlite_schema.specs.declared.schema.Table.{Table}
use Rattle.desk_parts.specs.declared.file_table.FileTable.{FileTable}
use Rattle.desk_parts.specs.declared.file_table.FileTable.TheVariants as tables
use Rattle.sql_tables.specs.Tables.{needed, plain_table}
use Rattle.desk_rows.specs.declared.texts.TheConstants.{CREATE_BOOK, CREATE_TAB, CREATE_PARA, CREATE_MARK, CREATE_CACHE}
use Rattle.desk_rows.specs.declared.texts.TheConstants.{CREATE_NAMED_CORR, READ_BOOKS, READ_TABS, READ_PARAS}
use Rattle.desk_rows.specs.declared.texts.TheConstants.{READ_CORRS, READ_MARKS, READ_CACHES, READ_NAMED_CORRS, PUT_BOOK}
use Rattle.desk_rows.specs.declared.texts.TheConstants.{PUT_TAB, PUT_PARA, PUT_MARK, PUT_CACHE, PUT_NAMED_CORR}

-- A table as it is declared, and the texts of its statements.
pub record Description : Type 0 where
  pub name : List ℕ
  pub columns : List Column
  pub key : Option ℕ
  pub primary : List ℕ
  pub uniques : List (List ℕ)
  pub orders : List Order
  -- whether its rows are ever changed, and not only added
  pub is_changed : Bool
  -- whether it is made and written
  pub is_written : Bool
  -- the columns of a row as its tree keeps it, with the rowid first, that are its row
  pub own : List ℕ
  -- those that the query shows, and of these those that it sorts by
  pub shown : List ℕ
  pub sorted : List ℕ
  pub create : List ℕ
  pub read : List ℕ
  pub put : List ℕ

-- A table without its name and its texts, whose key is its first column and the rowid, and whose
-- rows are changed. A row as its tree keeps it has nothing at the key's place among the columns,
-- which stand after the rowid.
abbrev pub by_number : List Column → (places : List ℕ) → Description
by_number columns places = record {
  name = [];
  columns = columns;
  key = Some 0;
  primary = 0 ∷ [];
  uniques = [];
  orders = [];
  is_changed = true;
  is_written = true;
  own = places;
  shown = places;
  sorted = 0 ∷ [];
  create = [];
  read = [];
  put = [];
}

-- One whose rowid is hidden, with the columns at these places as its key, and with its row after
-- the rowid.
abbrev pub by_columns : List Column → (key places : List ℕ) → Description
by_columns columns key places = record {
  name = [];
  columns = columns;
  key = None;
  primary = key;
  uniques = key ∷ [];
  orders = plain ∷ [];
  is_changed = true;
  is_written = true;
  own = places;
  shown = places;
  sorted = [];
  create = [];
  read = [];
  put = [];
}

-- One of entries of histories, with these columns besides their own. Entries are only added, in the
-- order of their two keys.
abbrev pub by_entry : List Column → (places : List ℕ) → Description
by_entry columns places =
    record (by_columns
    (needed (codes "para") Integer ∷ needed (codes "seq") Integer ∷ needed (codes "kind") Integer
    ∷ needed (codes "start") Integer ∷ needed (codes "len") Integer ∷ needed (codes "body") Text ∷ columns)
    (1 ∷ 2 ∷ []) places)
    { is_changed = false; sorted = 0 ∷ 1 ∷ [] }

-- The tables of a book's file in either format: `corr` only in the first, where nothing writes it,
-- and `corr2` only in the second.
abbrev pub description_of : FileTable → Description
description_of tables.Book =
    record (by_number (needed (codes "id") Integer ∷ needed (codes "format") Integer
    ∷ needed (codes "version") Integer ∷ []) (0 ∷ 2 ∷ 3 ∷ [])) {
      name = codes "book";
      create = CREATE_BOOK.now;
      read = READ_BOOKS.now;
      put = PUT_BOOK.now;
    }
description_of tables.Tab =
    record (by_columns (needed (codes "name") Text ∷ needed (codes "body") Blob ∷ []) (1 ∷ []) (1 ∷ 2 ∷ [])) {
      name = codes "tab";
      shown = 0 ∷ 1 ∷ 2 ∷ [];
      sorted = 1 ∷ [];
      create = CREATE_TAB.now;
      read = READ_TABS.now;
      put = PUT_TAB.now;
    }
description_of tables.Para =
    record (by_number (needed (codes "id") Integer ∷ needed (codes "place") Integer ∷ needed (codes "tab") Text
    ∷ needed (codes "original") Text ∷ needed (codes "print") Text
    ∷ needed (codes "style") Integer ∷ needed (codes "volume") Integer
    ∷ needed (codes "struck") Integer ∷ []) (0 ∷ 2 ∷ 3 ∷ 4 ∷ 5 ∷ 6 ∷ 7 ∷ 8 ∷ [])) {
      name = codes "para";
      create = CREATE_PARA.now;
      read = READ_PARAS.now;
      put = PUT_PARA.now;
    }
description_of tables.Corr =
    record (by_entry [] (1 ∷ 2 ∷ 3 ∷ 4 ∷ 5 ∷ 6 ∷ [])) {
      name = codes "corr";
      is_written = false;
      read = READ_CORRS.now;
    }
description_of tables.Mark =
    record (by_number (needed (codes "id") Integer ∷ needed (codes "para") Integer ∷ needed (codes "start") Integer
    ∷ needed (codes "stop") Integer ∷ needed (codes "note") Text
    ∷ needed (codes "touched") Integer ∷ needed (codes "resolved") Integer ∷ []) (0 ∷ 2 ∷ 3 ∷ 4 ∷ 5 ∷ 6 ∷ 7 ∷ [])) {
      name = codes "mark";
      create = CREATE_MARK.now;
      read = READ_MARKS.now;
      put = PUT_MARK.now;
    }
description_of tables.Cache =
    record (by_number (needed (codes "para") Integer ∷ needed (codes "cells") Blob ∷ []) (0 ∷ 2 ∷ [])) {
      name = codes "cache";
      create = CREATE_CACHE.now;
      read = READ_CACHES.now;
      put = PUT_CACHE.now;
    }
description_of tables.NamedCorr =
    record (by_entry (needed (codes "who") Text ∷ []) (1 ∷ 2 ∷ 3 ∷ 4 ∷ 5 ∷ 6 ∷ 7 ∷ [])) {
      name = codes "corr2";
      create = CREATE_NAMED_CORR.now;
      read = READ_NAMED_CORRS.now;
      put = PUT_NAMED_CORR.now;
    }

-- the table in this tree
abbrev pub table_of : FileTable → ℕ → Table
table_of t =
    plain_table (description_of t).name (description_of t).columns (description_of t).key (description_of t).primary
    (description_of t).uniques (description_of t).orders

-- what stands at a place of a row as its tree keeps it
abbrev pub kind_at : List Column → ℕ → Kind
kind_at cs zero = Integer
kind_at [] (suc at) = Any
kind_at (c ∷ cs) (suc zero) = c.kind
kind_at (c ∷ cs) (suc (suc at)) = kind_at cs (suc at)

-- a column of this kind holds texts
abbrev pub is_text : Kind → Bool
is_text Text = true
is_text _ = false

-- whether the query shows the rowid
abbrev pub shows_rowid : FileTable → Bool
shows_rowid t = list_any (λ at. at == 0) (description_of t).shown

-- whether the table has a column of texts
abbrev pub has_texts : FileTable → Bool
has_texts t = list_any (λ c. is_text c.kind) (description_of t).columns
