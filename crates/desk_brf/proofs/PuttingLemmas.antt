-- The paragraphs of a volume as they are sent, one after another.
use Rattle.std.proofs.Common.{◌≡◌, ℕ, ◌+◌, ◌-◌, ◌<◌, Bool, true, false, List, [], ◌∷◌, ◌++◌, length, Option, refl, sym, ap, subst, ◌∙◌, length-append, arith}
use Rattle.std.specs.Prelude.{All}
use Rattle.std.proofs.lemmas.Bool.{both_ways}
use Rattle.std.proofs.lemmas.List.Elements.{All-head, All-tail}
use Rattle.louis_table.specs.Meaning.{Meaning}
use Rattle.louis_table.specs.Table.{Means}
use Rattle.louis_table.proofs.OneMeaning.{one_meaning}
use Rattle.louis_translate.specs.declared.choices.Choice.{Choice}
use Rattle.louis_translate.specs.Braille.{braille}
use Rattle.louis_translate.specs.Tiling.{Tiles}
use Rattle.louis_translate.proofs.Tilings.{one_tiling}
use Rattle.desk_model.specs.Book.{Book, Paragraph}
use Rattle.desk_model.specs.Print.{print_of}
use Rattle.desk_model.specs.Translation.{IsBraille}
use Rattle.desk_ends.specs.Sending.{Transmits}
use Rattle.desk_ends.proofs.Sending.{Sending, Sending-none, Sending-same, Sending-more, Sending-fails, Sending-done}
use Rattle.desk_brf.specs.PageLayout.{Layout}
use Rattle.desk_brf.specs.Laying.{PutsParagraph, PutsParagraphs, bytes_of_lines}
use Rattle.desk_brf.specs.Placing.{ArePlaced, AreTexts, first_indent, other_indent}
use Rattle.desk_brf.specs.Volume.{AreLines, HasSixDotCells, IsSixDot, gap_before}
use Rattle.desk_brf.specs.Words.{words}
use Rattle.desk_brf.proofs.ExistLemmas.{placed-some, words-are}
use Rattle.desk_brf.proofs.ParagraphLemmas.{bytes_of_lines-append}
use Rattle.desk_brf.proofs.PlacingLemmas.{placing-one, text-one, laid-placed}
use Rattle.desk_brf.proofs.PutLemmas.{first_indent-small, other_indent-small}

abbrev Line : Type 0
Line = List ℕ

-- ---- one braille, and one placing of it

pub one_braille : (book : Book) (paragraph : Paragraph) (cells others : List ℕ) → IsBraille book paragraph cells → IsBraille book paragraph others → cells ≡ others
one_braille book paragraph cells others (meaning, choices, by, is) (meaning', choices', by', is') =
    let found = by.found in
    let found' = by'.found in
    let text : by.text ≡ by'.text = cc in
    let same : meaning ≡ meaning' = one_meaning by'.text meaning meaning' (subst (λ (t : List ℕ). Means t meaning) text by.means) by'.means in
    let print = print_of paragraph in
    let tiles : Tiles meaning' print choices = subst (λ (m : Meaning). Tiles m print choices) same by.tiles in
    let one = one_tiling meaning' print in
    let chosen : choices ≡ choices' = one.2 choices tiles ∙ sym (one.2 choices' by'.tiles) in
    is ∙ (ap (λ (m : Meaning). braille m print choices) same ∙ (ap (λ (cs : List Choice). braille meaning' print cs) chosen ∙ sym is'))

texts-one : (first other : ℕ) (placing : List (List Line)) (lines others : List Line) → AreTexts first other placing lines → AreTexts first other placing others → lines ≡ others
texts-one first other [] lines others h k = h ∙ sym k
texts-one first other (pieces ∷ placing) lines others (line, rest, parts, is, texts) (line', rest', parts', is', texts') =
    parts
    ∙ (ap (λ (x : Line). x ∷ rest) (text-one first pieces pieces line line' refl is is')
    ∙ (ap (λ (xs : List Line). line' ∷ xs) (texts-one other other placing rest rest' texts texts') ∙ sym parts'))

pub lines-one : (width first other : ℕ) (ws : List Line) (lines others : List Line) → ArePlaced width first other ws lines → ArePlaced width first other ws others → lines ≡ others
lines-one width first other ws lines others (placing, is, texts) (placing', is', texts') =
    let same : placing ≡ placing' = placing-one (width - first) (width - other) ws placing placing' is is' in
    texts-one first other placing' lines others (subst (λ (p : List (List Line)). AreTexts first other p lines) same texts) texts'

-- ---- the lines of paragraphs of six-dot cells

module _ (book : Book) (layout : Layout) (wide : 4 < layout.width) where
  pub lines-some : (before : ℕ) (paragraphs : List Paragraph) → All (HasSixDotCells book) paragraphs → (lines : List Line) × AreLines book layout before paragraphs lines
  lines-some before [] all = ([], refl)
  lines-some before (paragraph ∷ paragraphs) all =
      let here = All-head (HasSixDotCells book) paragraph paragraphs all in
      let style = paragraph.style in
      let small = first_indent-small style in
      let other_small = other_indent-small style in
      let own = placed-some layout.width (first_indent style) (other_indent style) (words here.0) (omega (arith, small, wide)) (omega (arith, other_small, wide))
      (words-are IsSixDot here.0 here.2) in
      let whole = gap_before layout before style own.0 ++ own.0 in
      let rest = lines-some (before + length whole) paragraphs (All-tail (HasSixDotCells book) paragraph paragraphs all) in
      (whole ++ rest.0, (here.0, own.0, rest.0, here.1, laid-placed layout.width (first_indent style) (other_indent style) (words here.0) own.0 own.1, (refl, rest.1)))

-- the braille of the first of paragraphs of six-dot cells has such cells
pub braille-six_dot : (book : Book) (left others : List Paragraph) (paragraph : Paragraph) (cells : List ℕ) → All (HasSixDotCells book) left → left ≡ paragraph ∷ others
    → IsBraille book paragraph cells → All IsSixDot cells
braille-six_dot book left others paragraph cells all front is =
    let here = All-head (HasSixDotCells book) paragraph others (subst (All (HasSixDotCells book)) front all) in
    subst (All IsSixDot) (one_braille book paragraph here.0 cells here.1 is) here.2

-- ---- as they are sent

-- the lines of some paragraphs are sent, and those of others are left
pub record PuttingParagraphs (old now : Option (List ℕ)) (book : Book) (layout : Layout) (paragraphs left_over : List Paragraph) (lines : ℕ) : Type 0 where
  pub all : List Line
  pub placed : AreLines book layout 0 paragraphs all
  pub left : List Line
  pub placed_left : AreLines book layout lines left_over left
  pub sending : Sending old now [] (bytes_of_lines layout lines left) (bytes_of_lines layout 0 all)
  pub count : lines + length left ≡ length all

pub Paragraphs-none : (a : Option (List ℕ)) (book : Book) (layout : Layout) (paragraphs : List Paragraph) (lines : ℕ) → lines ≡ 0 → 4 < layout.width
    → All (HasSixDotCells book) paragraphs → PuttingParagraphs a a book layout paragraphs paragraphs lines
Paragraphs-none a book layout paragraphs lines none wide all =
    let p = lines-some book layout wide 0 paragraphs all in
    subst (λ k. PuttingParagraphs a a book layout paragraphs paragraphs k) (sym none)
    (record { all = p.0; placed = p.1; left = p.0; placed_left = p.1; sending = Sending-none a [] (bytes_of_lines layout 0 p.0) (bytes_of_lines layout 0 p.0) refl; count = omega arith })

pub Paragraphs-same : (a b : Option (List ℕ)) (book : Book) (layout : Layout) (all left more : List Paragraph) (lines : ℕ) → left ≡ more
    → PuttingParagraphs a b book layout all left lines → PuttingParagraphs a b book layout all more lines
Paragraphs-same a b book layout all left more lines e p = subst (λ (ps : List Paragraph). PuttingParagraphs a b book layout all ps lines) e p

module _ (F : Type 0) (a b c : Option (List ℕ)) (book : Book) (layout : Layout) (all left_over paragraphs : List Paragraph) (paragraph : Paragraph) (lines after : ℕ)
    (was : PuttingParagraphs a b book layout all left_over lines) (front : left_over ≡ paragraph ∷ paragraphs) (cells : List ℕ) (is : IsBraille book paragraph cells) (ok : Bool)
    (puts : PutsParagraph F b c layout paragraph.style (words cells) lines after ok) where
  abbrev own : List Line
  own = gap_before layout lines paragraph.style puts.lines ++ puts.lines

  next : (rest : List Line) × (was.left ≡ own ++ rest) × AreLines book layout (lines + length own) paragraphs rest
  next = by (subst (λ (ps : List Paragraph). AreLines book layout lines ps was.left) front was.placed_left)
    where
      by : AreLines book layout lines (paragraph ∷ paragraphs) was.left → (rest : List Line) × (was.left ≡ own ++ rest) × AreLines book layout (lines + length own) paragraphs rest
      by (cells', lines', rest, is', placed, (parts, others)) =
          let style = paragraph.style in
          let first = first_indent style in
          let other = other_indent style in
          let mine : ArePlaced layout.width first other (words cells') puts.lines =
          subst (λ (cs : List ℕ). ArePlaced layout.width first other (words cs) puts.lines) (one_braille book paragraph cells cells' is is')
          (laid-placed layout.width first other (words cells) puts.lines puts.placed) in
          let same : lines' ≡ puts.lines = lines-one layout.width first other (words cells') lines' puts.lines placed mine in (
            rest,
            parts ∙ ap (λ (ls : List Line). (gap_before layout lines style ls ++ ls) ++ rest) same,
            subst (λ (ls : List Line). AreLines book layout (lines + length (gap_before layout lines style ls ++ ls)) paragraphs rest) same others,
          )

  parts : bytes_of_lines layout lines was.left ≡ bytes_of_lines layout lines own ++ bytes_of_lines layout (lines + length own) next.0
  parts = ap (bytes_of_lines layout lines) next.1 ∙ bytes_of_lines-append layout lines own next.0

  sent : Transmits F b c (bytes_of_lines layout lines own) [] ok
  sent = puts.sent

  pub Paragraphs-more : ok ≡ true → PuttingParagraphs a c book layout all paragraphs after
  Paragraphs-more t =
      let size = ap length next.1 ∙ length-append own next.0 in
      let before = was.count in
      let count : lines + length own ≡ after = sym (puts.count t) in
      subst (λ k. PuttingParagraphs a c book layout all paragraphs k) count
      (record {
        all = was.all;
        placed = was.placed;
        left = next.0;
        placed_left = next.2;
        sending = Sending-more F a b c [] [] (bytes_of_lines layout lines was.left) (bytes_of_lines layout 0 was.all) ok was.sending (bytes_of_lines layout lines own)
            (bytes_of_lines layout (lines + length own) next.0) parts sent t;
        count = omega (arith, size, before);
      })

  pub Paragraphs-fails : (end : ℕ) (reported : Bool) → ok ≡ false → reported ≡ false → PutsParagraphs F a c book layout all end reported
  Paragraphs-fails end reported f f' =
      record {
        lines = was.all;
        placed = was.placed;
        sent = Sending-fails F a b c [] [] (bytes_of_lines layout lines was.left) (bytes_of_lines layout 0 was.all) ok was.sending (bytes_of_lines layout lines own)
            (bytes_of_lines layout (lines + length own) next.0) parts sent [] reported f f';
        count = λ whole. absurd (both_ways reported f' whole);
      }

pub Paragraphs-done : (F : Type 0) (a b : Option (List ℕ)) (book : Book) (layout : Layout) (all left_over : List Paragraph) (lines : ℕ)
    → PuttingParagraphs a b book layout all left_over lines → left_over ≡ [] → PutsParagraphs F a b book layout all lines true
Paragraphs-done F a b book layout all left_over lines was none =
    let left : was.left ≡ [] = subst (λ (ps : List Paragraph). AreLines book layout lines ps was.left) none was.placed_left in
    let size = ap length left in
    let count = was.count in
    record {
      lines = was.all;
      placed = was.placed;
      sent = Sending-done F a b [] (bytes_of_lines layout 0 was.all) true
          (Sending-same a b [] (bytes_of_lines layout lines was.left) [] (bytes_of_lines layout 0 was.all) was.sending (ap (bytes_of_lines layout lines) left)) refl;
      count = λ _. omega (arith, size, count);
    }
