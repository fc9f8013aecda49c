-- Masks against the cells of pieces, one piece after the other.
use Rattle.std.proofs.Common.{◌≡◌, ℕ, List, [], ◌∷◌, ◌++◌, refl, sym, ap, ◌∙◌, append_assoc, append-nil, map, Option, Some, None, IfNone}
use Rattle.std.proofs.lemmas.List.Concat.{flat_map-append}
use Rattle.louis_table.specs.Meaning.{Meaning}
use Rattle.louis_translate.specs.declared.choices.Choice.{Choice}
use Rattle.louis_translate.specs.declared.pieces.Piece.{Piece}
use Rattle.louis_translate.specs.Braille.{braille, cells_of}
use Rattle.louis_translate.specs.Items.{PieceItem, item_of, made_by}
use Rattle.louis_translate.specs.Tiling.{Tiles}
use Rattle.louis_translate.proofs.PieceLists.{CellsSoFar, CellsSoFar-all, CellsSoFar-next, CellsSoFar-start, Left-next, Left-one}
use Rattle.louis_translate.proofs.Tilings.{one_cover}
use Rattle.desk_memory.specs.Braille.{AreCellsOf}

same_front : (front xs ys : List ℕ) → front ++ xs ≡ front ++ ys → xs ≡ ys
same_front [] xs ys e = e
same_front (x ∷ front) xs ys e = same_front front xs ys (cc)

-- where the first part stands in front, and the second not after it, both together don't stand in front
pub not_both : {X : Type 0} (masks first second left : List ℕ) (r : Option X) → masks ≡ first ++ left → IfNone r ((rest : List ℕ) → ¬ (left ≡ second ++ rest))
    → IfNone r ((rest : List ℕ) → ¬ (masks ≡ (first ++ second) ++ rest))
not_both masks first second left (Some x) is none = tt
not_both masks first second left None is none =
    λ rest e. none rest (same_front first left (second ++ rest) (sym is ∙ (e ∙ append_assoc first second rest)))

module _ (meaning : Meaning) (print : List ℕ) where
  -- a print has one braille
  pub one_braille : (cells others : List ℕ) → AreCellsOf meaning print cells → AreCellsOf meaning print others → cells ≡ others
  one_braille cells others (choices, tiles, is) (other, tiled, are) =
      is ∙ (ap (braille meaning print) (one_cover meaning print 0 choices other tiles tiled) ∙ sym are)

  -- what is left of the masks stands after the cells of the choices before those left
  pub record IsBehind (left : List PieceItem) (masks rest : List ℕ) : Type 0 where
    pub cells : List ℕ
    pub so_far : CellsSoFar meaning print left cells
    pub parts : masks ≡ cells ++ rest

  pub IsBehind-start : (left : List PieceItem) (masks : List ℕ) → ((choices : List Choice) → Tiles meaning print choices → left ≡ map (made_by meaning print) choices) → IsBehind left masks masks
  IsBehind-start left masks made = record { cells = []; so_far = CellsSoFar-start meaning print left made; parts = refl }

  pub IsBehind-next : (left : List PieceItem) (masks rest : List ℕ) (piece : Piece) (after : List PieceItem) (others : List ℕ) → IsBehind left masks rest → left ≡ item_of piece ∷ after
      → rest ≡ (piece.sign.now ++ piece.own.now) ++ others → IsBehind after masks others
  IsBehind-next left masks rest piece after others b e is = record {
    cells = (b.cells ++ piece.sign.now) ++ piece.own.now;
    so_far = CellsSoFar-next meaning print left b.cells piece after b.so_far e;
    parts = b.parts
        ∙ (ap (λ (t : List ℕ). b.cells ++ t) is
        ∙ (sym (append_assoc b.cells (piece.sign.now ++ piece.own.now) others)
        ∙ ap (λ (t : List ℕ). t ++ others) (sym (append_assoc b.cells piece.sign.now piece.own.now))));
  }

  -- where the masks are the braille, the cells of the next piece stand in front of what is left
  pub IsBehind-goes_on : (left : List PieceItem) (masks rest : List ℕ) (piece : Piece) (after : List PieceItem) → IsBehind left masks rest → left ≡ item_of piece ∷ after
      → AreCellsOf meaning print masks → (others : List ℕ) × (rest ≡ (piece.sign.now ++ piece.own.now) ++ others)
  IsBehind-goes_on left masks rest piece after b e are =
      let l = b.so_far.so_far in
      let next = Left-next meaning print left l piece after e in
      let one = Left-one meaning print left l are.0 are.1 in
      let all : b.cells ++ rest ≡ b.cells ++ braille meaning print l.rest =
      sym b.parts ∙ (are.2 ∙ (ap (braille meaning print) (sym one) ∙ (flat_map-append (cells_of meaning print) l.before l.rest ∙ ap (λ (t : List ℕ). t ++ braille meaning print l.rest) (sym b.so_far.are)))) in (
        braille meaning print next.others,
        same_front b.cells rest (braille meaning print l.rest) all
            ∙ (ap (braille meaning print) next.first ∙ ap (λ (t : List ℕ). t ++ braille meaning print next.others) (sym next.cells)),
      )

  pub IsBehind-ends : (left : List PieceItem) (masks rest : List ℕ) → IsBehind left masks rest → left ≡ [] → rest ≡ [] → AreCellsOf meaning print masks
  IsBehind-ends left masks rest b none empty =
      CellsSoFar-all meaning print left masks
      (record { so_far = b.so_far.so_far; are = b.parts ∙ (ap (λ (t : List ℕ). b.cells ++ t) empty ∙ (append-nil b.cells ∙ b.so_far.are)) }) none

  pub IsBehind-empty : (left : List PieceItem) (masks rest : List ℕ) → IsBehind left masks rest → left ≡ [] → AreCellsOf meaning print masks → rest ≡ []
  IsBehind-empty left masks rest b none are =
      let own = CellsSoFar-all meaning print left b.cells b.so_far none in
      same_front b.cells rest [] (sym b.parts ∙ (one_braille masks b.cells are own ∙ sym (append-nil b.cells)))
