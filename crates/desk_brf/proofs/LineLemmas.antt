-- Words as they are put on a line.
use Rattle.std.proofs.Common.{◌≡◌, ℕ, ◌+◌, ◌<◌, List, [], ◌∷◌, ◌++◌, length, refl, sym, ap, subst, ◌∙◌, append_assoc, length-append, arith}
use Rattle.std.proofs.lemmas.List.{append-nil}
use Rattle.std.proofs.lemmas.List.Concat.{flat_map-append}
use Rattle.desk_brf.specs.Placing.{IsAscii, IsLine, cells_of_pieces}
use Rattle.desk_brf.specs.Laying.{with_blanks, AddsWords, FillsLine, LaysLine}
use Rattle.desk_brf.proofs.AsciiLemmas.{ascii-append, ascii-one}

pub AddsWords-none : (used : ℕ) (words left : List (List ℕ)) (old : List ℕ) → left ≡ words → AddsWords used words left old old used
AddsWords-none used words left old same =
    record { pieces = []; parts = sym same; after_is = omega arith; bytes = []; ascii = refl; adds = sym (append-nil old) }

pub with_blanks-push : (pieces : List (List ℕ)) (next : List ℕ) → with_blanks (pieces ++ next ∷ []) ≡ with_blanks pieces ++ 0 ∷ next
with_blanks-push pieces next =
    flat_map-append (λ (piece : List ℕ). 0 ∷ piece) pieces (next ∷ [])
    ∙ ap (λ (cells : List ℕ). with_blanks pieces ++ 0 ∷ cells) (append-nil next)

-- one word more
pub AddsWords-more : (used : ℕ) (words left others : List (List ℕ)) (next old mid new : List ℕ) (after later : ℕ)
    → AddsWords used words left old mid after → left ≡ next ∷ others
    → ((bytes : List ℕ) × (new ≡ (mid ++ 32 ∷ []) ++ bytes) × IsAscii next bytes) → later ≡ after + (length next + 1)
    → AddsWords used words others old new later
AddsWords-more used words left others next old mid new after later added front (bytes, adds, ascii) later_is =
    let led_is = with_blanks-push added.pieces next in
    let size : length (with_blanks added.pieces ++ 0 ∷ next) ≡ length (with_blanks added.pieces) + length (0 ∷ next) = length-append (with_blanks added.pieces) (0 ∷ next) in
    let after_is = added.after_is in
    let length_is : length (with_blanks (added.pieces ++ next ∷ [])) ≡ length (with_blanks added.pieces) + (length next + 1) = ap length led_is ∙ (size ∙ omega arith) in
    record {
      pieces = added.pieces ++ next ∷ [];
      parts = added.parts ∙ (ap (λ (ws : List (List ℕ)). added.pieces ++ ws) front ∙ sym (append_assoc added.pieces (next ∷ []) others));
      after_is = omega (arith, length_is, after_is, later_is);
      bytes = added.bytes ++ (32 ∷ bytes);
      ascii = subst (λ (cells : List ℕ). IsAscii cells (added.bytes ++ (32 ∷ bytes))) (sym led_is)
          (ascii-append (with_blanks added.pieces) (0 ∷ next) added.bytes (32 ∷ bytes) added.ascii (ascii-append (0 ∷ []) next (32 ∷ []) bytes (ascii-one 0 32 refl) ascii));
      adds = adds ∙ (append_assoc mid (32 ∷ []) bytes ∙ (ap (λ (xs : List ℕ). xs ++ (32 ∷ bytes)) added.adds ∙ append_assoc old added.bytes (32 ∷ bytes)));
    }

pub cells_of_pieces-led : (first : List ℕ) (pieces : List (List ℕ)) → cells_of_pieces (first ∷ pieces) ≡ first ++ with_blanks pieces
cells_of_pieces-led first [] = sym (append-nil first)
cells_of_pieces-led first (next ∷ pieces) = ap (λ (cells : List ℕ). first ++ 0 ∷ cells) (cells_of_pieces-led next pieces)

-- a line of a word and of those put after it
pub LaysLine-whole : (room : ℕ) (words rest left : List (List ℕ)) (first old mid new bytes : List ℕ) → words ≡ first ∷ rest
    → mid ≡ old ++ bytes → IsAscii first bytes → FillsLine room (length first) rest left mid new → LaysLine room words left old new
LaysLine-whole room words rest left first old mid new bytes front adds ascii fill =
    let added = fill.added in
    let pieces = first ∷ added.pieces in
    let joined_is = cells_of_pieces-led first added.pieces in
    let after_is = added.after_is in
    let fits = fill.fits in
    let size : length (cells_of_pieces pieces) ≡ length first + length (with_blanks added.pieces) = ap length joined_is ∙ length-append first (with_blanks added.pieces) in
    record {
      pieces = pieces;
      is_line = IsLine.whole (front ∙ ap (λ (ws : List (List ℕ)). first ∷ ws) added.parts) (omega arith) (omega (arith, size, fits, after_is))
          (λ next others e.
          let led_is = ap length (with_blanks-push added.pieces next) ∙ length-append (with_blanks added.pieces) (0 ∷ next) in
          let all : length (cells_of_pieces (pieces ++ next ∷ [])) ≡ length first + length (with_blanks (added.pieces ++ next ∷ [])) =
          ap length (cells_of_pieces-led first (added.pieces ++ next ∷ [])) ∙ length-append first (with_blanks (added.pieces ++ next ∷ [])) in
          let full = fill.full next others e in
          omega (arith, led_is, all, full, after_is));
      bytes = bytes ++ added.bytes;
      ascii = subst (λ (cells : List ℕ). IsAscii cells (bytes ++ added.bytes)) (sym joined_is) (ascii-append first (with_blanks added.pieces) bytes added.bytes ascii added.ascii);
      adds = added.adds ∙ (ap (λ (xs : List ℕ). xs ++ added.bytes) adds ∙ append_assoc old bytes added.bytes);
    }

-- a line of the front of a word
pub LaysLine-cut : (room : ℕ) (words left others : List (List ℕ)) (front back old new bytes : List ℕ) → words ≡ (front ++ back) ∷ others
    → length front ≡ room → 0 < length back → left ≡ back ∷ others → new ≡ old ++ bytes → IsAscii front bytes → LaysLine room words left old new
LaysLine-cut room words left others front back old new bytes e at some rest adds ascii =
    record {
      pieces = front ∷ [];
      is_line = IsLine.cut front back others e at some refl rest;
      bytes = bytes;
      ascii = ascii;
      adds = adds;
    }
