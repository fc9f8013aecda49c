-- The braille of a print, piece by piece.
use Rattle.std.proofs.Common.{◌≡◌, ℕ, Bool, true, false, List, [], ◌∷◌, ◌++◌, Option, refl, sym, ap, subst, ◌∙◌, append_assoc, encode_utf8, flat_map, append-nil}
use Rattle.std.proofs.lemmas.Grind.{flat_map-append}
use Rattle.cell_core.specs.Cell.{braille_character}
use Rattle.louis_translate.specs.declared.choices.Choice.{Choice}
use Rattle.louis_translate.specs.declared.pieces.Piece.{Piece}
use Rattle.louis_translate.specs.Items.{PieceItem, item_of, made_cells}
use Rattle.louis_translate.proofs.PlaceLists.{flat_map-push}
use Rattle.desk_ends.specs.Cells.{text_of}
use Rattle.desk_ends.specs.Sending.{Transmits}
use Rattle.desk_ends.proofs.Encoding.{text_of-append}
use Rattle.desk_ends.proofs.Sending.{Sending, Sending-done, Sending-fails, Sending-more, Sending-same}

-- the cells of the pieces that are left are still to come
abbrev pub Putting : List PieceItem → (old now : Option (List ℕ)) → (block whole : List ℕ) → Type 0
Putting left old now block whole = Sending old now block (text_of (flat_map made_cells left)) whole

pub Putting-done : (F : Type 0) (left : List PieceItem) (a b : Option (List ℕ)) (block whole : List ℕ) (ok : Bool) → Putting left a b block whole → left ≡ [] → ok ≡ true → Transmits F a b whole block ok
Putting-done F left a b block whole ok put end t =
    Sending-done F a b block whole ok (Sending-same a b block _ [] whole put (ap (λ (rest : List PieceItem). text_of (flat_map made_cells rest)) end)) t

module _ (left : List PieceItem) (piece : Piece) (after : List PieceItem) (first : left ≡ item_of piece ∷ after) where
  -- the piece is next
  Putting-next : (a b : Option (List ℕ)) (block whole : List ℕ) → Putting left a b block whole
      → Sending a b block (text_of piece.sign.now ++ (text_of piece.own.now ++ text_of (flat_map made_cells after))) whole
  Putting-next a b block whole put =
      Sending-same a b block _ _ whole put
      (ap (λ (rest : List PieceItem). text_of (flat_map made_cells rest)) first
      ∙ (text_of-append (piece.sign.now ++ piece.own.now) (flat_map made_cells after)
      ∙ (ap (λ (text : List ℕ). text ++ text_of (flat_map made_cells after)) (text_of-append piece.sign.now piece.own.now)
      ∙ append_assoc (text_of piece.sign.now) (text_of piece.own.now) (text_of (flat_map made_cells after)))))

  module _ (F : Type 0) (a b c : Option (List ℕ)) (block held whole : List ℕ) (ok : Bool) (put : Putting left a b block whole) (sign : Transmits F b c (block ++ text_of piece.sign.now) held ok) where
    -- its sign isn't sent
    pub Putting-no_sign : (keep : List ℕ) (ok' : Bool) → ok ≡ false → ok' ≡ false → Transmits F a c whole keep ok'
    Putting-no_sign keep ok' f f' =
        Sending-fails F a b c block held _ whole ok (Putting-next a b block whole put) (text_of piece.sign.now) _ refl sign keep ok' f f'

    module _ (t : ok ≡ true) (d : Option (List ℕ)) (more : List ℕ) (last : Bool) (own : Transmits F c d (held ++ text_of piece.own.now) more last) where
      -- its own cells aren't
      pub Putting-no_own : (keep : List ℕ) (ok' : Bool) → last ≡ false → ok' ≡ false → Transmits F a d whole keep ok'
      Putting-no_own keep ok' f f' =
          let signed = Sending-more F a b c block held _ whole ok (Putting-next a b block whole put) (text_of piece.sign.now) _ refl sign t in
          Sending-fails F a c d held more _ whole last signed (text_of piece.own.now) _ refl own keep ok' f f'

      -- both are
      pub Putting-piece : last ≡ true → Putting after a d more whole
      Putting-piece u =
          let signed = Sending-more F a b c block held _ whole ok (Putting-next a b block whole put) (text_of piece.sign.now) _ refl sign t in
          Sending-more F a c d held more _ whole last signed (text_of piece.own.now) _ refl own u

-- ---- a run of lone cells

-- what was sent is followed by a piece
Sending-followed : (a b : Option (List ℕ)) (block whole piece : List ℕ) → Sending a b block [] whole → Sending a b block piece (whole ++ piece)
Sending-followed a b block whole piece done =
    record {
      out = done.out;
      appends = done.appends;
      sends = sym (append_assoc done.out block piece)
          ∙ ap (λ (t : List ℕ). t ++ piece) (ap (λ (t : List ℕ). done.out ++ t) (sym (append-nil block)) ∙ done.sends);
    }

-- what a lone cell shows
abbrev pub lone : Choice → ℕ → PieceItem
lone choice cell = record { choice = choice; sign = []; own = cell ∷ [] }

-- the pieces that were put before one more, which is a lone cell
module _ (F : Type 0) (a b c : Option (List ℕ)) (from block held : List ℕ) (taken : List PieceItem) (choice : Choice) (cell : ℕ) (ok : Bool)
    (done : Sending a b block [] (from ++ text_of (flat_map made_cells taken))) (put : Transmits F b c (block ++ encode_utf8 (braille_character cell)) held ok) where
  grown : (from ++ text_of (flat_map made_cells taken)) ++ encode_utf8 (braille_character cell) ≡ from ++ text_of (flat_map made_cells (taken ++ lone choice cell ∷ []))
  grown =
      append_assoc from (text_of (flat_map made_cells taken)) (encode_utf8 (braille_character cell))
      ∙ ap (λ (t : List ℕ). from ++ t)
      (ap (λ (t : List ℕ). text_of (flat_map made_cells taken) ++ t) (sym (append-nil (encode_utf8 (braille_character cell))))
      ∙ (sym (text_of-append (flat_map made_cells taken) (cell ∷ [])) ∙ ap text_of (sym (flat_map-push made_cells taken (lone choice cell)))))

  followed : Sending a b block (encode_utf8 (braille_character cell)) (from ++ text_of (flat_map made_cells (taken ++ lone choice cell ∷ [])))
  followed =
      subst (λ (t : List ℕ). Sending a b block (encode_utf8 (braille_character cell)) t) grown
      (Sending-followed a b block (from ++ text_of (flat_map made_cells taken)) (encode_utf8 (braille_character cell)) done)

  -- it is put
  pub Sending-cell : ok ≡ true → Sending a c held [] (from ++ text_of (flat_map made_cells (taken ++ lone choice cell ∷ [])))
  Sending-cell =
      Sending-more F a b c block held (encode_utf8 (braille_character cell)) (from ++ text_of (flat_map made_cells (taken ++ lone choice cell ∷ []))) ok followed
      (encode_utf8 (braille_character cell)) [] (sym (append-nil (encode_utf8 (braille_character cell)))) put

  -- it isn't
  pub Sending-no_cell : (keep : List ℕ) (ok' : Bool) → ok ≡ false → ok' ≡ false → Transmits F a c (from ++ text_of (flat_map made_cells (taken ++ lone choice cell ∷ []))) keep ok'
  Sending-no_cell =
      Sending-fails F a b c block held (encode_utf8 (braille_character cell)) (from ++ text_of (flat_map made_cells (taken ++ lone choice cell ∷ []))) ok followed
      (encode_utf8 (braille_character cell)) [] (sym (append-nil (encode_utf8 (braille_character cell)))) put

-- some first pieces go out
module _ (F : Type 0) (a b c : Option (List ℕ)) (block held whole : List ℕ) (left others taken : List PieceItem) (ok : Bool) (put : Putting left a b block whole)
    (parts : left ≡ taken ++ others) (puts : Transmits F b c (block ++ text_of (flat_map made_cells taken)) held ok) where
  text_is : text_of (flat_map made_cells left) ≡ text_of (flat_map made_cells taken) ++ text_of (flat_map made_cells others)
  text_is =
      ap (λ (t : List PieceItem). text_of (flat_map made_cells t)) parts
      ∙ (ap text_of (flat_map-append made_cells taken others) ∙ text_of-append (flat_map made_cells taken) (flat_map made_cells others))

  pub Putting-first : ok ≡ true → Putting others a c held whole
  Putting-first =
      Sending-more F a b c block held (text_of (flat_map made_cells left)) whole ok put
      (text_of (flat_map made_cells taken)) (text_of (flat_map made_cells others)) text_is puts

  pub Putting-no_first : (keep : List ℕ) (ok' : Bool) → ok ≡ false → ok' ≡ false → Transmits F a c whole keep ok'
  Putting-no_first =
      Sending-fails F a b c block held (text_of (flat_map made_cells left)) whole ok put
      (text_of (flat_map made_cells taken)) (text_of (flat_map made_cells others)) text_is puts
