-- One place of a print, or one cell, sought along the pieces.
use Rattle.std.proofs.Common.{◌≡◌, ℕ, ◌+◌, ◌-◌, ◌<◌, ◌≤◌, ◌^◌, List, [], ◌∷◌, ◌++◌, length, refl, sym, ap, subst, ◌∙◌, append_assoc, arith, map, length-append}
use Rattle.std.proofs.lemmas.List.Concat.{flat_map-append}
use Rattle.louis_table.specs.Meaning.{Meaning}
use Rattle.louis_translate.specs.declared.choices.Choice.{Choice}
use Rattle.louis_translate.specs.declared.pieces.Piece.{Piece}
use Rattle.louis_translate.specs.Items.{PieceItem, item_of, made_by}
use Rattle.louis_translate.specs.Tiling.{Tiles}
use Rattle.louis_translate.specs.Braille.{cells_of, braille, IsAmong, IsOutputPlace, MakesCell}
use Rattle.louis_translate.proofs.PieceLists.{Left, Left-start, Left-one, Left-next, Left-step, Left-all, Left-end, Next, braille-next, count-next, parts-next}
use Rattle.louis_translate.proofs.Tilings.{one_cover}

module _ (meaning : Meaning) (print : List ℕ) where
  -- the next piece's choice is one of the tiling
  module _ (left : List PieceItem) (l : Left meaning print left) (piece : Piece) (after : List PieceItem) (next : Next meaning print left l piece after) where
    among : IsAmong (l.before ++ l.rest) l.before piece.choice
    among = record { after = next.others; parts = parts-next meaning print left l piece after next }

    -- how many cells come before those after it
    count-before : length (braille meaning print (l.before ++ piece.choice ∷ []))
        ≡ length (braille meaning print l.before) + (length piece.sign.now + length piece.own.now)
    count-before =
        ap length (braille-next meaning print left l piece after next)
        ∙ (length-append (braille meaning print l.before) (piece.sign.now ++ piece.own.now)
        ∙ ap (λ (n : ℕ). length (braille meaning print l.before) + n) (length-append piece.sign.now piece.own.now))

    -- and how many there are at least
    count-all : length (braille meaning print l.before) + (length piece.sign.now + length piece.own.now)
        ≤ length (braille meaning print (l.before ++ l.rest))
    count-all =
        let all : length (braille meaning print (l.before ++ l.rest))
        ≡ length (braille meaning print (l.before ++ piece.choice ∷ [])) + length (braille meaning print next.others) =
        ap (λ (t : List Choice). length (braille meaning print t))
        (parts-next meaning print left l piece after next ∙ sym (append_assoc l.before (piece.choice ∷ []) next.others))
        ∙ (ap length (flat_map-append (cells_of meaning print) (l.before ++ piece.choice ∷ []) next.others)
        ∙ length-append (braille meaning print (l.before ++ piece.choice ∷ [])) (braille meaning print next.others)) in
        omega (arith, count-before)

  -- ---- the cells before a place

  -- the place comes no earlier than what is left, before which there are so many cells
  pub record OutputLeft (place : ℕ) (left : List PieceItem) (before : ℕ) : Type 0 where
    pub so_far : Left meaning print left
    pub from : so_far.place ≤ place
    pub count : before ≡ length (braille meaning print so_far.before)

  pub OutputLeft-start : (place : ℕ) (left : List PieceItem) → ((choices : List Choice) → Tiles meaning print choices → left ≡ map (made_by meaning print) choices) → OutputLeft place left 0
  OutputLeft-start place left made = record { so_far = Left-start meaning print left made; from = omega arith; count = refl }

  -- after the last piece the place is past the print
  pub OutputLeft-past : (place : ℕ) (left : List PieceItem) (before : ℕ) → OutputLeft place left before → left ≡ [] → length print ≤ place
  OutputLeft-past place left before o e = let end = Left-end meaning print left o.so_far e in omega (arith, o.from)

  module _ (place : ℕ) (left : List PieceItem) (before : ℕ) (piece : Piece) (after : List PieceItem) (o : OutputLeft place left before) (e : left ≡ item_of piece ∷ after) where
    output_next : Next meaning print left o.so_far piece after
    output_next = Left-next meaning print left o.so_far piece after e

    -- its cells can be counted with those before
    pub OutputLeft-fits : ((choices : List Choice) × Tiles meaning print choices × (length (braille meaning print choices) < 2 ^ 64))
        → before + (length piece.sign.now + length piece.own.now) < 2 ^ 64
    OutputLeft-fits (choices, tiles, fits) =
        let same = ap (λ (t : List Choice). length (braille meaning print t)) (Left-one meaning print left o.so_far choices tiles) in
        omega (arith, count-all left o.so_far piece after output_next, o.count)

    pub OutputLeft-step : piece.choice.end ≤ place → OutputLeft place after (before + (length piece.sign.now + length piece.own.now))
    OutputLeft-step past =
        let count = count-before left o.so_far piece after output_next in
        record { so_far = Left-step meaning print left o.so_far piece after output_next; from = past; count = omega (arith, o.count) }

    pub OutputLeft-found : place < piece.choice.end → (choices : List Choice) → Tiles meaning print choices → IsOutputPlace meaning print choices place before
    OutputLeft-found to choices tiles =
        let start = output_next.choice.start in
        subst (λ (t : List Choice). IsOutputPlace meaning print t place before) (Left-one meaning print left o.so_far choices tiles)
        (record {
          before = o.so_far.before;
          choice = piece.choice;
          among = among left o.so_far piece after output_next;
          holds = (omega (arith, o.from), to);
          place_is = o.count;
        })

  -- ---- the choice of a cell

  -- so many cells are left up to a cell
  pub record PrintLeft (cell : ℕ) (left : List PieceItem) (n : ℕ) : Type 0 where
    pub so_far : Left meaning print left
    pub count : cell ≡ length (braille meaning print so_far.before) + n

  pub PrintLeft-start : (cell : ℕ) (left : List PieceItem) → ((choices : List Choice) → Tiles meaning print choices → left ≡ map (made_by meaning print) choices) → PrintLeft cell left cell
  PrintLeft-start cell left made = record { so_far = Left-start meaning print left made; count = omega arith }

  module _ (cell : ℕ) (left : List PieceItem) (n : ℕ) (piece : Piece) (after : List PieceItem) (p : PrintLeft cell left n) (e : left ≡ item_of piece ∷ after) where
    print_next : Next meaning print left p.so_far piece after
    print_next = Left-next meaning print left p.so_far piece after e

    pub PrintLeft-step : length piece.sign.now + length piece.own.now ≤ n → PrintLeft cell after (n - length piece.sign.now - length piece.own.now)
    PrintLeft-step past =
        let count = count-before left p.so_far piece after print_next in
        record { so_far = Left-step meaning print left p.so_far piece after print_next; count = omega (arith, p.count) }

    pub PrintLeft-found : n < length piece.sign.now + length piece.own.now
        → (choices : List Choice) → Tiles meaning print choices → MakesCell meaning print choices piece.choice cell
    PrintLeft-found within choices tiles =
        let own = count-next meaning print left p.so_far piece after print_next in
        subst (λ (t : List Choice). MakesCell meaning print t piece.choice cell) (Left-one meaning print left p.so_far choices tiles)
        (record {
          before = p.so_far.before;
          among = among left p.so_far piece after print_next;
          from = omega (arith, p.count);
          to = omega (arith, p.count);
        })

  -- after the last choice there is no cell left
  pub PrintLeft-past : (cell : ℕ) (left : List PieceItem) (n : ℕ) → PrintLeft cell left n → left ≡ [] → (choices : List Choice) → Tiles meaning print choices
      → length (braille meaning print choices) ≤ cell
  PrintLeft-past cell left n p e choices tiles =
      let all = one_cover meaning print 0 p.so_far.before choices (Left-all meaning print left p.so_far e) tiles in
      let count = ap (λ (t : List Choice). length (braille meaning print t)) all in
      omega (arith, p.count)
