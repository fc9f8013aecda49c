-- A row of cells, filled from the pieces of a text one after another.
use Rattle.std.proofs.Common.{◌≡◌, ℕ, suc, ◌+◌, ◌<◌, ◌≤◌, List, [], ◌∷◌, ◌++◌, length, get_or, take, drop, set, Option, Some, None, refl, sym, ap, ◌∙◌, arith, append_assoc, add-one, length-append, drop-cons, option_map}
use Rattle.std.specs.List.{slice_split}
use Rattle.std.proofs.lemmas.List.{append-nil, drop_all, length-set, take-append-le, take_all, take_more_set}
use Rattle.cell_core.specs.Dots.{most_cells}
use Rattle.cell_core.specs.Reading.{HasRead, cell_in, cells_of, is_hyphen}

-- this many pieces were read as cells, and the row has the first cells, as far as it has room
pub record ReadSoFar (pieces : List (List ℕ)) (row : List ℕ) (count : ℕ) : Type 0 where
  pub cells : List ℕ
  pub counted : count ≡ length cells
  pub kept : take count row ≡ take (length row) cells
  pub left : cells_of pieces ≡ option_map (λ more. cells ++ more) (cells_of (drop count pieces))

-- a piece that stands at a place, at the head of what is left
cells_of-drop : (pieces : List (List ℕ)) (count : ℕ) (piece : List ℕ) → count < length pieces → piece ≡ get_or pieces count piece → cells_of (drop count pieces) ≡ cells_of (piece ∷ drop (count + 1) pieces)
cells_of-drop pieces count piece within is =
    ap cells_of (drop-cons pieces count piece within ∙ ap (λ (p : List ℕ). p ∷ drop (suc count) pieces) (sym is)) ∙ rw add-one refl

option_map-push : (cells : List ℕ) (cell : ℕ) (o : Option (List ℕ)) → option_map (λ more. cells ++ more) (option_map (λ more. cell ∷ more) o) ≡ option_map (λ more. (cells ++ cell ∷ []) ++ more) o
option_map-push cells cell None = refl
option_map-push cells cell (Some more) = ap Some (sym (append_assoc cells (cell ∷ []) more))

left_more : (pieces : List (List ℕ)) (row : List ℕ) (count : ℕ) (piece : List ℕ) (cell : ℕ) (h : ReadSoFar pieces row count) → count < length pieces → piece ≡ get_or pieces count piece → cell_in piece ≡ Some cell → cells_of pieces ≡ option_map (λ more. (h.cells ++ cell ∷ []) ++ more) (cells_of (drop (count + 1) pieces))
left_more pieces row count piece cell h within is read =
    h.left ∙ (ap (option_map (λ more. h.cells ++ more)) (cells_of-drop pieces count piece within is)
    ∙ rw read (option_map-push h.cells cell (cells_of (drop (count + 1) pieces))))

-- one more cell, if there is room
pub ReadSoFar-more_kept : (pieces : List (List ℕ)) (row : List ℕ) (count : ℕ) (piece : List ℕ) (cell : ℕ) → ReadSoFar pieces row count → count < length pieces → piece ≡ get_or pieces count piece → cell_in piece ≡ Some cell → count < length row → ReadSoFar pieces (set row count cell) (count + 1)
ReadSoFar-more_kept pieces row count piece cell h within is read room =
    let size = length-append h.cells (cell ∷ []) in
    let counted = h.counted in
    record {
      cells = h.cells ++ cell ∷ [];
      counted = omega arith;
      kept =
          take_more_set row count cell room
          ∙ (ap (λ (front : List ℕ). front ++ cell ∷ []) (h.kept ∙ take_all (length row) h.cells (omega arith))
          ∙ rw length-set (sym (take_all (length row) (h.cells ++ cell ∷ []) (omega arith))));
      left = left_more pieces row count piece cell h within is read;
    }

-- one more cell, past the row
pub ReadSoFar-more_past : (pieces : List (List ℕ)) (row : List ℕ) (count : ℕ) (piece : List ℕ) (cell : ℕ) → ReadSoFar pieces row count → count < length pieces → piece ≡ get_or pieces count piece → cell_in piece ≡ Some cell → length row ≤ count → ReadSoFar pieces row (count + 1)
ReadSoFar-more_past pieces row count piece cell h within is read full =
    let size = length-append h.cells (cell ∷ []) in
    let counted = h.counted in
    record {
      cells = h.cells ++ cell ∷ [];
      counted = omega arith;
      kept =
          take_all (count + 1) row (omega arith)
          ∙ (sym (take_all count row full)
          ∙ (h.kept ∙ sym (take-append-le (length row) h.cells (cell ∷ []) (omega arith))));
      left = left_more pieces row count piece cell h within is read;
    }

-- a piece that isn't a cell
pub cells_of-at_none : (pieces : List (List ℕ)) (row : List ℕ) (count : ℕ) (piece : List ℕ) → ReadSoFar pieces row count → count < length pieces → piece ≡ get_or pieces count piece → cell_in piece ≡ None → cells_of pieces ≡ None
cells_of-at_none pieces row count piece h within is bad =
    h.left ∙ (ap (option_map (λ more. h.cells ++ more)) (cells_of-drop pieces count piece within is) ∙ rw bad refl)

-- all pieces
pub HasRead-all : (text row : List ℕ) (count : ℕ) → ReadSoFar (slice_split is_hyphen text) row count → length (slice_split is_hyphen text) ≤ count → length row ≡ most_cells → HasRead text row count
HasRead-all text row count h all room =
    record {
      cells = h.cells;
      read = h.left ∙ (rw (drop_all count (slice_split is_hyphen text) all) (ap Some (append-nil h.cells)));
      counted = h.counted;
      kept = h.kept ∙ ap (λ (n : ℕ). take n h.cells) room;
    }

-- a row has all cells that it has room for
pub HasRead-take : (text row : List ℕ) (count : ℕ) → (h : HasRead text row count) → count ≤ most_cells → take count row ≡ h.cells
HasRead-take text row count h room = let counted = h.counted in h.kept ∙ take_all most_cells h.cells (omega arith)
