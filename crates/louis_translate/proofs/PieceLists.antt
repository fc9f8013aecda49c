-- What is left of the pieces of a print, and of the choices that make them.
use Rattle.std.proofs.Common.{◌≡◌, ℕ, ◌+◌, ◌<◌, List, [], ◌∷◌, ◌++◌, length, refl, sym, ap, subst, ◌∙◌, append_assoc, map, flat_map, append-nil, length-append}
use Rattle.louis_table.specs.Meaning.{Meaning}
use Rattle.louis_translate.specs.declared.choices.Choice.{Choice}
use Rattle.louis_translate.specs.declared.pieces.Piece.{Piece}
use Rattle.louis_translate.specs.Tiling.{Covers, IsChoiceAt, Tiles}
use Rattle.louis_translate.specs.Braille.{cells_of, braille}
use Rattle.louis_translate.specs.Items.{PieceItem, item_of, made_by, made_cells}
use Rattle.louis_translate.proofs.PlaceLists.{flat_map-push}
use Rattle.louis_translate.proofs.Tilings.{Covers-append, Covers-push, one_cover, one_tiling}

module _ (meaning : Meaning) (print : List ℕ) where
  -- these pieces are left of a print: what the choices from a place on make
  pub record Left (left : List PieceItem) : Type 0 where
    pub before : List Choice
    pub rest : List Choice
    pub place : ℕ
    pub front : Covers meaning print 0 before place
    pub covers : Covers meaning print place rest (length print)
    pub are : left ≡ map (made_by meaning print) rest

  abbrev pub Left-start : (left : List PieceItem) → ((choices : List Choice) → Tiles meaning print choices → left ≡ map (made_by meaning print) choices) → Left left
  Left-start left made =
      let tiling = one_tiling meaning print in
      record { before = []; rest = tiling.0; place = 0; front = refl; covers = tiling.1; are = made tiling.0 tiling.1 }

  -- the choices so far and those left are the tiling
  pub Left-tiles : (left : List PieceItem) (l : Left left) → Tiles meaning print (l.before ++ l.rest)
  Left-tiles left l = Covers-append meaning print 0 l.place (length print) l.before l.rest l.front l.covers

  pub Left-one : (left : List PieceItem) (l : Left left) (choices : List Choice) → Tiles meaning print choices → l.before ++ l.rest ≡ choices
  Left-one left l choices tiles = one_cover meaning print 0 (l.before ++ l.rest) choices (Left-tiles left l) tiles

  -- the choice of the next piece is the first of those left
  pub record Next (left : List PieceItem) (l : Left left) (piece : Piece) (after : List PieceItem) : Type 0 where
    pub others : List Choice
    pub within : l.place < length print
    pub choice : IsChoiceAt meaning print l.place piece.choice
    pub first : l.rest ≡ piece.choice ∷ others
    pub covers : Covers meaning print piece.choice.end others (length print)
    pub cells : piece.sign.now ++ piece.own.now ≡ cells_of meaning print piece.choice
    pub are : after ≡ map (made_by meaning print) others

  pub Left-next : (left : List PieceItem) (l : Left left) (piece : Piece) (after : List PieceItem) → left ≡ item_of piece ∷ after → Next left l piece after
  Left-next left l piece after e = next l.rest refl
    where
      next : (rest : List Choice) → l.rest ≡ rest → Next left l piece after
      next [] none =
          let ends : item_of piece ∷ after ≡ [] = sym e ∙ (l.are ∙ ap (map (made_by meaning print)) none) in
          cc
      next (c ∷ others) some =
          let both : item_of piece ∷ after ≡ made_by meaning print c ∷ map (made_by meaning print) others =
          sym e ∙ (l.are ∙ ap (map (made_by meaning print)) some) in
          let made : item_of piece ≡ made_by meaning print c = cc in
          let others_are : after ≡ map (made_by meaning print) others = cc in
          let same : piece.choice ≡ c = ap (λ (m : PieceItem). m.choice) made in
          let from = subst (λ (t : List Choice). Covers meaning print l.place t (length print)) some l.covers in
          record {
            others = others;
            within = from.0;
            choice = subst (λ (x : Choice). IsChoiceAt meaning print l.place x) (sym same) from.1;
            first = some ∙ ap (λ (x : Choice). x ∷ others) (sym same);
            covers = subst (λ (x : Choice). Covers meaning print x.end others (length print)) (sym same) from.2;
            cells = ap made_cells made ∙ ap (cells_of meaning print) (sym same);
            are = others_are;
          }

  module _ (left : List PieceItem) (l : Left left) (piece : Piece) (after : List PieceItem) (next : Next left l piece after) where
    abbrev pub Left-step : Left after
    Left-step = record {
      before = l.before ++ piece.choice ∷ [];
      rest = next.others;
      place = piece.choice.end;
      front = Covers-push meaning print 0 l.place l.before piece.choice l.front next.within next.choice;
      covers = next.covers;
      are = next.are;
    }

    -- its cells
    pub braille-next : braille meaning print (l.before ++ piece.choice ∷ []) ≡ braille meaning print l.before ++ (piece.sign.now ++ piece.own.now)
    braille-next =
        flat_map-push (cells_of meaning print) l.before piece.choice
        ∙ ap (λ (cells : List ℕ). braille meaning print l.before ++ cells) (sym next.cells)

    -- how many they are
    pub count-next : length (cells_of meaning print piece.choice) ≡ length piece.sign.now + length piece.own.now
    count-next = ap length (sym next.cells) ∙ length-append piece.sign.now piece.own.now

    -- the parts of the tiling around it
    pub parts-next : l.before ++ l.rest ≡ l.before ++ piece.choice ∷ next.others
    parts-next = ap (λ (t : List Choice). l.before ++ t) next.first

  -- after the last piece the choices so far are all
  pub Left-all : (left : List PieceItem) (l : Left left) → left ≡ [] → Tiles meaning print l.before
  Left-all left l e = subst (λ (t : List Choice). Tiles meaning print t) (ap (λ (t : List Choice). l.before ++ t) (none l.rest (sym l.are ∙ e)) ∙ append-nil l.before) (Left-tiles left l)
    where
      none : (rest : List Choice) → map (made_by meaning print) rest ≡ [] → rest ≡ []
      none [] h = refl
      none (c ∷ rest) h = cc

  -- and they cover the whole print
  pub Left-end : (left : List PieceItem) (l : Left left) → left ≡ [] → l.place ≡ length print
  Left-end left l e = ends l.rest l.covers (sym l.are ∙ e)
    where
      ends : (rest : List Choice) → Covers meaning print l.place rest (length print) → map (made_by meaning print) rest ≡ [] → l.place ≡ length print
      ends [] h none = h
      ends (c ∷ rest) h none = cc

  -- ---- the cells of all

  -- what choices make has their cells
  pub braille-made : (choices : List Choice) → flat_map made_cells (map (made_by meaning print) choices) ≡ braille meaning print choices
  braille-made [] = refl
  braille-made (choice ∷ choices) = ap (λ (cells : List ℕ). cells_of meaning print choice ++ cells) (braille-made choices)

  -- ---- the cells so far

  -- these are the cells of the choices before what is left
  pub record CellsSoFar (left : List PieceItem) (cells : List ℕ) : Type 0 where
    pub so_far : Left left
    pub are : cells ≡ braille meaning print so_far.before

  pub CellsSoFar-start : (left : List PieceItem) → ((choices : List Choice) → Tiles meaning print choices → left ≡ map (made_by meaning print) choices) → CellsSoFar left []
  CellsSoFar-start left made = record { so_far = Left-start left made; are = refl }

  pub CellsSoFar-next : (left : List PieceItem) (cells : List ℕ) (piece : Piece) (after : List PieceItem) → CellsSoFar left cells → left ≡ item_of piece ∷ after
      → CellsSoFar after ((cells ++ piece.sign.now) ++ piece.own.now)
  CellsSoFar-next left cells piece after done e =
      let next = Left-next left done.so_far piece after e in
      record {
        so_far = Left-step left done.so_far piece after next;
        are = append_assoc cells piece.sign.now piece.own.now
            ∙ (ap (λ (t : List ℕ). t ++ (piece.sign.now ++ piece.own.now)) done.are
            ∙ sym (braille-next left done.so_far piece after next));
      }

  pub CellsSoFar-all : (left : List PieceItem) (cells : List ℕ) → CellsSoFar left cells → left ≡ [] → (choices : List Choice) × Tiles meaning print choices × (cells ≡ braille meaning print choices)
  CellsSoFar-all left cells done e = (done.so_far.before, Left-all left done.so_far e, done.are)
