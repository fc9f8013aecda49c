-- Which format a file is of whose rows were found.
use Rattle.std.proofs.Common.{◌≡◌, ◌⊎◌, Bool, ◌&&◌, true, refl, sym, subst, inl, inr}
use Rattle.std.proofs.lemmas.Bool.{and_parts, not-true}
use Rattle.sqlite_schema.specs.declared.schema.Schema.{Schema}
use Rattle.sqlite.specs.State.{State}
use Rattle.desk_parts.specs.declared.file_table.FileTable.{FileTable}
use Rattle.desk_parts.specs.declared.file_table.FileTable.TheVariants as tables
use Rattle.desk_parts.specs.FileRows.{FileRows}
use Rattle.desk_rows.specs.Contents.{Contents}
use Rattle.desk_store.specs.Formats.{Format, IsExact, IsOfEither, IsOfFormat, IsPresent, named, presence, unnamed}
use Rattle.desk_store.specs.Found.{AreFileRows, format_kept}
use Rattle.desk_rows.specs.Layout.{Layout}
use Rattle.desk_store.specs.Opening.{has_tables}
use Rattle.desk_rows.specs.States.{ShowsContents}
use Rattle.desk_rows.specs.Tables.{is_there}
use Rattle.desk_store.proofs.Opened.{has_in_both, is_here}

three : (a b c : Bool) → (a && b && c) ≡ true → (a ≡ true) × (b ≡ true) × (c ≡ true)
three a b c is = let all = and_parts (a && b) c is in let first = and_parts a b all.0 in (first.0, first.1, all.1)

module _ (s : Schema) where
  shared : (f : Format) → has_tables f s ≡ true
      → (is_there s tables.Tab ≡ true) × (is_there s tables.Para ≡ true) × (is_there s tables.Mark ≡ true)
  shared unnamed is = three (is_there s tables.Tab) (is_there s tables.Para) (is_there s tables.Mark) (and_parts _ _ is).0
  shared named is = three (is_there s tables.Tab) (is_there s tables.Para) (is_there s tables.Mark) (and_parts _ _ is).0

  -- a table that the format needs is there, and none that it can't have
  there_in : (f : Format) → is_there s tables.Book ≡ true → has_tables f s ≡ true
      → (t : FileTable) → IsPresent (presence f t) (is_there s t) (is_there s t)
  there_in unnamed book is tables.Corr = (refl, (and_parts (is_there s tables.Corr) _ (and_parts _ _ is).1).0)
  there_in named book is tables.Corr = tt
  there_in unnamed book is tables.NamedCorr = (refl, not-true _ (and_parts (is_there s tables.Corr) _ (and_parts _ _ is).1).1)
  there_in named book is tables.NamedCorr = (refl, (and_parts _ _ is).1)
  there_in f book is tables.Book = (refl, book)
  there_in f book is tables.Tab = (refl, (shared f is).0)
  there_in f book is tables.Para = (refl, (shared f is).1)
  there_in f book is tables.Mark = (refl, (shared f is).2)
  there_in f book is t = refl

exact_of : (l : Layout) → IsExact l → (f : Format) → is_there l.schema tables.Book ≡ true → has_tables f l.schema ≡ true → IsOfFormat f l
exact_of l exact f book is t =
    subst (λ (has : Bool). IsPresent (presence f t) has (is_there l.schema t)) (sym (exact t)) (there_in l.schema f book is t)

-- rows were found, so the tables of their format are there
pub of_format : (s : State) (rows : FileRows) (l : Layout) (c : Contents) → AreFileRows s rows → (IsExact l ⊎ IsOfEither l) → ShowsContents l c s → (format : Format) × IsOfFormat format l
of_format s rows l c are (inr of) shows = of
of_format s rows l c are (inl exact) shows =
    let format = format_kept rows.entries in (
      format,
      exact_of l exact format (subst (λ (x : Schema). is_there x tables.Book ≡ true) shows.schema are.book)
          (subst (λ (x : Schema). has_tables format x ≡ true) shows.schema are.tables),
    )

pub books_there : (f : Format) (l : Layout) → IsOfFormat f l → is_there l.schema tables.Book ≡ true
books_there f l of = is_here (has_in_both f l tables.Book of refl)
