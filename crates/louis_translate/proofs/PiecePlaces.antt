-- The cells and places of the pieces so far.
use Rattle.std.proofs.Common.{◌≡◌, ℕ, ◌+◌, ◌-◌, ◌<◌, ◌≤◌, List, [], ◌∷◌, ◌++◌, length, replicate, refl, sym, ap, ◌∙◌, append_assoc, zero-add, arith, map, length-append}
use Rattle.louis_table.specs.Meaning.{Meaning}
use Rattle.louis_translate.specs.declared.choices.Choice.{Choice}
use Rattle.louis_translate.specs.declared.pieces.Piece.{Piece}
use Rattle.louis_translate.specs.Position.{AreDefined}
use Rattle.louis_translate.specs.Tiling.{Tiles}
use Rattle.louis_translate.specs.Braille.{cells_of, braille, IsPart, IsTranslation}
use Rattle.louis_translate.specs.Items.{PieceItem, item_of, made_by}
use Rattle.louis_translate.proofs.Fronts.{IsPart-whole, IsPart-cut}
use Rattle.louis_translate.proofs.PieceLists.{Left, Left-start, Left-next, Left-step, Left-all, Left-end, braille-next, count-next}
use Rattle.louis_translate.proofs.PlaceLists.{outputs_from, inputs_of, flat_map-push, outputs_from-push, IsTranslation-lists}

module _ (meaning : Meaning) (print : List ℕ) where
  -- ---- all of them

  -- the cells and places of the choices before what is left
  pub record PlacesSoFar (left : List PieceItem) (cells outputs inputs : List ℕ) : Type 0 where
    pub so_far : Left meaning print left
    pub cells_are : cells ≡ braille meaning print so_far.before
    pub outputs_are : outputs ≡ outputs_from meaning print 0 so_far.before
    pub inputs_are : inputs ≡ inputs_of meaning print so_far.before

  pub PlacesSoFar-start : (left : List PieceItem) → ((choices : List Choice) → Tiles meaning print choices → left ≡ map (made_by meaning print) choices) → PlacesSoFar left [] [] []
  PlacesSoFar-start left made = record { so_far = Left-start meaning print left made; cells_are = refl; outputs_are = refl; inputs_are = refl }

  module _ (left : List PieceItem) (cells outputs inputs : List ℕ) (piece : Piece) (after : List PieceItem) (done : PlacesSoFar left cells outputs inputs) (e : left ≡ item_of piece ∷ after) where
    -- a choice doesn't end before its start
    pub PlacesSoFar-order : piece.choice.start ≤ piece.choice.end
    PlacesSoFar-order =
        let next = Left-next meaning print left done.so_far piece after e in
        omega (arith, next.choice.start, next.choice.end)

    pub PlacesSoFar-next : (more more_outputs more_inputs : List ℕ) (from to : ℕ)
        → more ≡ (cells ++ piece.sign.now) ++ piece.own.now → from ≡ length cells → to ≡ length more
        → more_outputs ≡ outputs ++ replicate (piece.choice.end - piece.choice.start) from
        → more_inputs ≡ inputs ++ replicate (to - from) piece.choice.start → PlacesSoFar after more more_outputs more_inputs
    PlacesSoFar-next more more_outputs more_inputs from to grown from_is to_is outputs_grow inputs_grow =
        let l = done.so_far in
        let next = Left-next meaning print left l piece after e in
        let own = count-next meaning print left l piece after next in
        let all : more ≡ cells ++ (piece.sign.now ++ piece.own.now) = grown ∙ append_assoc cells piece.sign.now piece.own.now in
        let before : from ≡ length (braille meaning print l.before) = from_is ∙ ap length done.cells_are in
        let count : length more ≡ length cells + (length piece.sign.now + length piece.own.now) =
        ap length all
        ∙ (length-append cells (piece.sign.now ++ piece.own.now) ∙ ap (λ (n : ℕ). length cells + n) (length-append piece.sign.now piece.own.now)) in
        let many : to - from ≡ length (cells_of meaning print piece.choice) = omega arith in
        record {
          so_far = Left-step meaning print left l piece after next;
          cells_are = all
              ∙ (ap (λ (t : List ℕ). t ++ (piece.sign.now ++ piece.own.now)) done.cells_are ∙ sym (braille-next meaning print left l piece after next));
          outputs_are = outputs_grow
              ∙ (ap (λ (t : List ℕ). t ++ replicate (piece.choice.end - piece.choice.start) from) done.outputs_are
              ∙ (ap (λ (n : ℕ). outputs_from meaning print 0 l.before ++ replicate (piece.choice.end - piece.choice.start) n) (before ∙ sym (zero-add (length (braille meaning print l.before))))
              ∙ sym (outputs_from-push meaning print 0 l.before piece.choice)));
          inputs_are = inputs_grow
              ∙ (ap (λ (t : List ℕ). t ++ replicate (to - from) piece.choice.start) done.inputs_are
              ∙ (ap (λ (n : ℕ). inputs_of meaning print l.before ++ replicate n piece.choice.start) many
              ∙ sym (flat_map-push (λ x. replicate (length (cells_of meaning print x)) x.start) l.before piece.choice)));
        }

  pub PlacesSoFar-all : (left : List PieceItem) (cells outputs inputs : List ℕ) → PlacesSoFar left cells outputs inputs → left ≡ [] → AreDefined meaning print
      → IsTranslation meaning print cells outputs inputs
  PlacesSoFar-all left cells outputs inputs done e defined =
      IsTranslation-lists meaning print done.so_far.before cells outputs inputs defined (Left-all meaning print left done.so_far e) done.cells_are done.outputs_are done.inputs_are

  -- ---- those that fit in a room

  -- the cells of the choices before what is left, and how many characters they cover
  pub record PartSoFar (left : List PieceItem) (cells : List ℕ) (used : ℕ) : Type 0 where
    pub so_far : Left meaning print left
    pub used_is : used ≡ so_far.place
    pub cells_are : cells ≡ braille meaning print so_far.before

  pub PartSoFar-start : (left : List PieceItem) → ((choices : List Choice) → Tiles meaning print choices → left ≡ map (made_by meaning print) choices) → PartSoFar left [] 0
  PartSoFar-start left made = record { so_far = Left-start meaning print left made; used_is = refl; cells_are = refl }

  pub PartSoFar-next : (left : List PieceItem) (cells : List ℕ) (used : ℕ) (piece : Piece) (after : List PieceItem) → PartSoFar left cells used → left ≡ item_of piece ∷ after
      → (more : List ℕ) → more ≡ (cells ++ piece.sign.now) ++ piece.own.now → PartSoFar after more piece.choice.end
  PartSoFar-next left cells used piece after done e more grown =
      let next = Left-next meaning print left done.so_far piece after e in
      record {
        so_far = Left-step meaning print left done.so_far piece after next;
        used_is = refl;
        cells_are = grown ∙ (append_assoc cells piece.sign.now piece.own.now
            ∙ (ap (λ (t : List ℕ). t ++ (piece.sign.now ++ piece.own.now)) done.cells_are
            ∙ sym (braille-next meaning print left done.so_far piece after next)));
      }

  module _ (room : ℕ) (left : List PieceItem) (cells : List ℕ) (used : ℕ) (done : PartSoFar left cells used) (defined : AreDefined meaning print) (fits : length cells ≤ room) where
    pub PartSoFar-all : left ≡ [] → IsPart meaning print room cells used
    PartSoFar-all e =
        let l = done.so_far in
        IsPart-whole meaning print room l.place used l.before cells defined l.front (Left-end meaning print left l e) done.used_is done.cells_are fits

    -- the next piece doesn't fit
    pub PartSoFar-cut : (piece : Piece) (after : List PieceItem) → left ≡ item_of piece ∷ after → room < length cells + (length piece.sign.now + length piece.own.now)
        → IsPart meaning print room cells used
    PartSoFar-cut piece after e over =
        let l = done.so_far in
        let next = Left-next meaning print left l piece after e in
        let count = count-next meaning print left l piece after next in
        IsPart-cut meaning print room l.place used l.before piece.choice cells defined l.front next.within next.choice done.used_is done.cells_are fits (omega arith)
