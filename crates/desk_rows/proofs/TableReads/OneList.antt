-- The rows of a table are those of one list, up to their order.
use Rattle.std.proofs.Common.{◌≡◌, List, [], ◌∷◌, map, refl, sym, ap₂, subst, IsPermutation}
use Rattle.std.specs.Coded.{Coded, codes}
use Rattle.std.proofs.lemmas.List.Sorted.{IsPermutation-sym, IsPermutation-trans}
use Rattle.sqlite_value.specs.Order.{Row}
use Rattle.sqlite_trees.proofs.ListLemmas.{pull_back}
use Rattle.sql_tables.specs.Rows.{Lists}
use Rattle.desk_rows.specs.Rows.{columns_of}
use Rattle.desk_parts.specs.declared.file_table.FileTable.{FileTable}
use Rattle.desk_parts.specs.declared.file_table.FileTable.TheVariants as tables
use Rattle.desk_parts.specs.Rows.{RowOf}

-- a row is known by its columns, and so are rows in turn
one_row : (t : FileTable) (x y : RowOf t) → columns_of t x ≡ columns_of t y → x ≡ y
one_row tables.Book x y same = let coded : Coded (RowOf tables.Book) = hlevel codes in coded.inj x y (cc)
one_row t x y same = let coded : Coded (RowOf t) = hlevel codes in coded.inj x y (cc)

same_rows : (t : FileTable) (xs ys : List (RowOf t)) → map (columns_of t) xs ≡ map (columns_of t) ys → xs ≡ ys
same_rows t [] [] same = refl
same_rows t [] (y ∷ ys) same = absurd (cc)
same_rows t (x ∷ xs) [] same = absurd (cc)
same_rows t (x ∷ xs) (y ∷ ys) same = ap₂ (λ (z : RowOf t) zs. z ∷ zs) (one_row t x y (cc)) (same_rows t xs ys (cc))

pub one_list : (t : FileTable) (columns : Row → Row) (xs ys : List (RowOf t)) (rows : List Row) → Lists (columns_of t) columns xs rows → Lists (columns_of t) columns ys rows → IsPermutation xs ys
one_list t columns xs ys rows p q =
    let back = pull_back (columns_of t) _ _ (IsPermutation-trans _ _ _ p (IsPermutation-sym _ _ q)) xs refl in
    subst (IsPermutation xs) (sym (same_rows t ys back.0 back.2)) back.1
