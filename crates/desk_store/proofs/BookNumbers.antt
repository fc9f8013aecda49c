-- Rows that show a book differ by their numbers.
use Rattle.std.proofs.Common.{◌≡◌, ℕ, ◌+◌, ℤ, pos, List, [], ◌∷◌, map, refl, sym, subst, ◌∙◌, IsPermutation, nat_eq, false}
use Rattle.std.specs.List.{AllByRecursion, IsDistinct, enumerate_from}
use Rattle.std.specs.Ordering.{int_eq}
use Rattle.std.proofs.lemmas.Cmp.{int_eq_equiv}
use Rattle.std.proofs.lemmas.Simd.{map-map}
use Rattle.std.proofs.lemmas.List.Sorted.{IsPermutation-map, IsPermutation-sym}
use Rattle.std.proofs.lemmas.Map.Keys.{IsDistinct-IsPermutation}
use Rattle.desk_model.specs.Book.{Book, Mark, Paragraph}
use Rattle.desk_parts.specs.declared.file_table.FileTable.TheVariants as tables
use Rattle.desk_parts.specs.FileRows.{FileRows, spelled}
use Rattle.desk_parts.specs.Rows.{Mark as MarkRow, Para, ParaCells}
use Rattle.desk_model.specs.Shows.{Shows, mark_row_of, para_of}
use Rattle.desk_model.proofs.Rows.ParaRows.{paras_of}
use Rattle.desk_model.proofs.Callers.{IsDistinct-numbers, IsDistinct-range, int_eq-pos}
use Rattle.desk_store.specs.BookFile.{HaveOwnNumbers}
use Rattle.desk_rows.specs.Whole.{DifferBy}

-- ---- numbers of a book as those of rows

all_apart : (n : ℕ) (ns : List ℕ) → AllByRecursion (λ m. nat_eq n m ≡ false) ns → AllByRecursion (λ k. int_eq (pos n) k ≡ false) (map pos ns)
all_apart n [] all = tt
all_apart n (m ∷ ms) all = (int_eq-pos n m ∙ all.0, all_apart n ms all.1)

rows_apart : (ns : List ℕ) → IsDistinct nat_eq ns → IsDistinct int_eq (map pos ns)
unfolding IsDistinct
rows_apart [] apart = tt
rows_apart (n ∷ ns) apart = (all_apart n ns apart.0, rows_apart ns apart.1)

moved : (ns : List ℕ) (ks : List ℤ) → IsDistinct nat_eq ns → IsPermutation (map pos ns) ks → IsDistinct int_eq ks
moved ns ks apart other = IsDistinct-IsPermutation int_eq (λ x y. int_eq_equiv.symm x y) (map pos ns) ks other (rows_apart ns apart)

-- rows differ by their numbers if spelling their texts leaves these, and they are the numbers of a list that has none twice
differ : {X : Type 0} (key : X → ℤ) (spelled : X → X) (rows shown : List X) (ns : List ℕ) → map key (map spelled rows) ≡ map key rows
    → IsPermutation (map spelled rows) shown → map key shown ≡ map pos ns → IsDistinct nat_eq ns → DifferBy key rows
differ key spelled rows shown ns same other is apart =
    let there = IsPermutation-map key (map spelled rows) shown other in
    let back = IsPermutation-sym (map key (map spelled rows)) (map key shown) there in
    moved ns (map key rows) apart (subst (λ ks. IsPermutation ks (map key rows)) is (subst (IsPermutation (map key shown)) same back))

-- ---- the parts of a book

para_numbers : (place : ℕ) (ps : List Paragraph) → map (λ (p : Para). p.id) (map para_of (enumerate_from place ps)) ≡ map pos (map (λ (p : Paragraph). p.id) ps)
para_numbers place [] = refl
para_numbers place (p ∷ ps) = let more = para_numbers (place + 1) ps in cc

mark_numbers : (ms : List Mark) → map (λ (m : MarkRow). m.id) (map mark_row_of ms) ≡ map pos (map (λ (m : Mark). m.id) ms)
mark_numbers ms = map-map (λ (m : MarkRow). m.id) mark_row_of ms ∙ sym (map-map pos (λ (m : Mark). m.id) ms)

pub differ_by_numbers : (rows : FileRows) (book : Book) → Shows rows book → HaveOwnNumbers rows
unfolding IsDistinct
differ_by_numbers rows book shows =
    let sound = shows.sound in
    let ids = IsDistinct-numbers _ (map (λ (p : Paragraph). p.id) book.paragraphs) sound.ids in
    record {
      books = subst (DifferBy (λ b. b.id)) (sym shows.row) (tt, tt);
      paras = differ (λ (p : Para). p.id) (spelled tables.Para) rows.paras (paras_of book.paragraphs) _ (map-map (λ (p : Para). p.id) (spelled tables.Para) rows.paras)
          shows.paragraphs (para_numbers 1 book.paragraphs) ids;
      marks = differ (λ (m : MarkRow). m.id) (spelled tables.Mark) rows.marks (map mark_row_of book.marks) _ (map-map (λ (m : MarkRow). m.id) (spelled tables.Mark) rows.marks)
          shows.marks (mark_numbers book.marks) (subst (IsDistinct nat_eq) (sym sound.numbers) (IsDistinct-range 1 _));
      caches = λ caches there.
          let cached = shows.caches caches there in
          let numbers = sym (map-map pos (λ (p : Paragraph). p.id) book.paragraphs) in
          moved (map (λ (p : Paragraph). p.id) book.paragraphs) (map (λ (c : ParaCells). c.para) caches) ids
          (subst (λ ks. IsPermutation ks (map (λ (c : ParaCells). c.para) caches)) numbers (IsPermutation-sym _ _ cached.one_each));
    }
