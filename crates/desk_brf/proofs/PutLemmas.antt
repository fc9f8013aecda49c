-- The lines of a paragraph as they are sent.
use Rattle.std.proofs.Common.{◌≡◌, ℕ, ◌+◌, ◌-◌, ◌<◌, ◌≤◌, Bool, true, false, List, [], ◌∷◌, ◌++◌, length, Option, refl, sym, ap, subst, arith}
use Rattle.std.specs.Prelude.{replicate}
use Rattle.std.proofs.lemmas.Bool.{both_ways}
use Rattle.desk_ends.specs.Sending.{Transmits}
use Rattle.desk_ends.proofs.Sending.{Sending, Sending-none, Sending-same, Sending-more, Sending-fails, Sending-done}
use Rattle.desk_brf.specs.PageLayout.{Layout}
use Rattle.desk_brf.specs.Laying.{LaysLine, PutsLines, page_end, bytes_of_lines, AreLaid}
use Rattle.desk_brf.specs.Pages.{with_ending}
use Rattle.desk_brf.specs.Placing.{IsText, cells_of_pieces, first_indent, other_indent}
use Rattle.desk_brf.specs.Words.{words}
use Rattle.desk_model.specs.declared.style.Style.{Style}
use Rattle.desk_model.specs.declared.style.Style.TheVariants.{Body, Heading}
use Rattle.desk_brf.proofs.AsciiLemmas.{ascii-append, ascii-blanks}
use Rattle.desk_brf.specs.Volume.{IsSixDot}
use Rattle.desk_brf.proofs.ExistLemmas.{AreWords, placed-some}
use Rattle.desk_brf.proofs.PlacingLemmas.{placed-first, line-none}

-- some lines of the words are sent, and others are left
pub record Putting (old now : Option (List ℕ)) (layout : Layout) (first other indent : ℕ) (all_words words : List (List ℕ)) (start lines : ℕ) : Type 0 where
  pub all : List (List ℕ)
  pub placed : AreLaid layout.width first other all_words all
  pub left : List (List ℕ)
  pub placed_left : AreLaid layout.width indent other words left
  pub sending : Sending old now [] (bytes_of_lines layout lines left) (bytes_of_lines layout start all)
  pub count : lines + length left ≡ start + length all

pub Putting-none : (a : Option (List ℕ)) (layout : Layout) (first other : ℕ) (words : List (List ℕ)) (start : ℕ) → first < layout.width → other < layout.width
    → AreWords IsSixDot words → Putting a a layout first other first words words start start
Putting-none a layout first other words start narrow narrow' all =
    let p = placed-some layout.width first other words narrow narrow' all in
    record { all = p.0; placed = p.1; left = p.0; placed_left = p.1; sending = Sending-none a [] (bytes_of_lines layout start p.0) (bytes_of_lines layout start p.0) refl; count = refl }

module _ (F : Type 0) (a b c : Option (List ℕ)) (layout : Layout) (first other indent : ℕ) (all_words words rest : List (List ℕ)) (start lines : ℕ)
    (was : Putting a b layout first other indent all_words words start lines) (line : List ℕ) (laid : LaysLine (layout.width - indent) words rest (replicate indent 32) line) (ok : Bool)
    (s : Transmits F b c (with_ending line ++ page_end layout (lines + 1)) [] ok) where
  is_text : IsText indent laid.pieces line
  is_text =
      subst (IsText indent laid.pieces) (sym laid.adds)
      (ascii-append (replicate indent 0) (cells_of_pieces laid.pieces) (replicate indent 32) laid.bytes (ascii-blanks indent) laid.ascii)

  next : (more : List (List ℕ)) × (was.left ≡ line ∷ more) × AreLaid layout.width other other rest more
  next = placed-first layout.width indent other words laid.pieces rest was.left line laid.is_line is_text was.placed_left

  parts : bytes_of_lines layout lines was.left ≡ (with_ending line ++ page_end layout (lines + 1)) ++ bytes_of_lines layout (lines + 1) next.0
  parts = ap (bytes_of_lines layout lines) next.1

  pub Putting-more : ok ≡ true → Putting a c layout first other other all_words rest start (lines + 1)
  Putting-more t =
      let size = ap length next.1 in
      let count = was.count in
      record {
        all = was.all;
        placed = was.placed;
        left = next.0;
        placed_left = next.2;
        sending = Sending-more F a b c [] [] (bytes_of_lines layout lines was.left) (bytes_of_lines layout start was.all) ok was.sending (with_ending line ++ page_end layout (lines + 1))
            (bytes_of_lines layout (lines + 1) next.0) parts s t;
        count = omega (arith, size, count);
      }

  pub Putting-fails : (after : ℕ) (reported : Bool) → ok ≡ false → reported ≡ false → PutsLines F a c layout first other all_words start after reported
  Putting-fails after reported f f' =
      record {
        lines = was.all;
        placed = was.placed;
        sent = Sending-fails F a b c [] [] (bytes_of_lines layout lines was.left) (bytes_of_lines layout start was.all) ok was.sending (with_ending line ++ page_end layout (lines + 1))
            (bytes_of_lines layout (lines + 1) next.0) parts s [] reported f f';
        count = λ whole. absurd (both_ways reported f' whole);
      }

none-left : (width first other : ℕ) (lines : List (List ℕ)) → AreLaid width first other [] lines → lines ≡ []
none-left width first other [] none = refl
none-left width first other (line ∷ lines) (p, l, is, text, placed) = absurd (line-none (width - first) p l is)

pub Putting-done : (F : Type 0) (a b : Option (List ℕ)) (layout : Layout) (first other indent : ℕ) (all_words words : List (List ℕ)) (start lines : ℕ)
    → Putting a b layout first other indent all_words words start lines → words ≡ [] → PutsLines F a b layout first other all_words start lines true
Putting-done F a b layout first other indent all_words words start lines was none =
    let left = none-left layout.width indent other was.left (subst (λ (ws : List (List ℕ)). AreLaid layout.width indent other ws was.left) none was.placed_left) in
    let size = ap length left in
    let count = was.count in
    record {
      lines = was.all;
      placed = was.placed;
      sent = Sending-done F a b [] (bytes_of_lines layout start was.all) true (Sending-same a b [] (bytes_of_lines layout lines was.left) [] (bytes_of_lines layout start was.all) was.sending (ap (bytes_of_lines layout lines) left)) refl;
      count = λ _. omega (arith, size, count);
    }

pub first_indent-small : (style : Style) → first_indent style ≤ 4
first_indent-small Body = omega arith
first_indent-small Heading = omega arith

pub other_indent-small : (style : Style) → other_indent style ≤ 4
other_indent-small Body = omega arith
other_indent-small Heading = omega arith

pub Putting-same : (a b : Option (List ℕ)) (layout : Layout) (first other indent indent' : ℕ) (all_words words : List (List ℕ)) (start lines lines' : ℕ) → indent ≡ indent' → lines ≡ lines'
    → Putting a b layout first other indent all_words words start lines → Putting a b layout first other indent' all_words words start lines'
Putting-same a b layout first other indent indent' all_words words start lines lines' e f p =
    subst (λ k. Putting a b layout first other k all_words words start lines') e (subst (λ k. Putting a b layout first other indent all_words words start k) f p)

pub words-none : (cells : List ℕ) → length cells ≡ 0 → words cells ≡ []
words-none [] e = refl
words-none (c ∷ cells) e = absurd (omega (arith, e))
