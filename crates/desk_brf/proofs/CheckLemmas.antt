-- The paragraphs of a book as they are looked at, one after another.
use Rattle.std.proofs.Common.{◌≡◌, ◌≢◌, ℕ, ◌+◌, ◌^◌, ◌<◌, ◌≤◌, ◌⊎◌, Bool, true, false, List, [], ◌∷◌, ◌++◌, length, take, Option, Some, Contains, refl, sym, ap, subst, ◌∙◌, append_assoc, length-append, arith}
use Rattle.std.specs.Prelude.{All, IfSome, IsSome, slice_index}
use Rattle.std.proofs.lemmas.List.{append-nil}
use Rattle.std.proofs.lemmas.List.Elements.{All-nil, All-push, Contains-append_right}
use Rattle.cell_core.specs.Cell.{HasDot}
use Rattle.desk_model.specs.Book.{Book, Paragraph, paragraph_of}
use Rattle.desk_model.specs.Sound.{IsSound}
use Rattle.desk_model.specs.Translation.{IsBraille}
use Rattle.desk_model.proofs.Callers.{paragraph_of-own}
use Rattle.desk_brf.specs.Counting.{in_volume}
use Rattle.desk_brf.specs.Volume.{HasSixDotCells, IsFirstEightDot, IsSixDot}
use Rattle.desk_brf.specs.Volumes.{volume_of}
use Rattle.desk_brf.proofs.VolumeLemmas.{in_volume-is}

-- some paragraphs are passed, of which so many at most begin a volume, and others are left
pub record Walking (book : Book) (count : ℕ) (left : List Paragraph) : Type 0 where
  pub passed : List Paragraph
  pub all : book.paragraphs ≡ passed ++ left
  pub few : count ≤ length passed

pub Walking-none : (book : Book) (count : ℕ) (left : List Paragraph) → count ≡ 0 → left ≡ book.paragraphs → Walking book count left
Walking-none book count left none e = record { passed = []; all = sym e; few = omega (arith, none) }

module _ (book : Book) (sound : IsSound book) (count : ℕ) (left : List Paragraph) (walking : Walking book count left) (paragraph : Paragraph) (others : List Paragraph)
    (front : left ≡ paragraph ∷ others) where
  parts : book.paragraphs ≡ walking.passed ++ paragraph ∷ others
  parts = walking.all ∙ ap (λ (ps : List Paragraph). walking.passed ++ ps) front

  pub Walking-there : Contains book.paragraphs paragraph
  Walking-there = subst (λ (ps : List Paragraph). Contains ps paragraph) (sym parts) (Contains-append_right walking.passed (paragraph ∷ others) paragraph (0, omega arith, refl))

  pub Walking-more : (next : ℕ) → next ≤ count + 1 → Walking book next others
  Walking-more next le =
      let few = walking.few in
      let longer = length-append walking.passed (paragraph ∷ []) in
      record { passed = walking.passed ++ paragraph ∷ []; all = parts ∙ sym (append_assoc walking.passed (paragraph ∷ []) others); few = omega (arith, le, few, longer) }

  pub Walking-room : count + 1 < 2 ^ 64
  Walking-room = omega (arith, walking.few, ap length parts ∙ length-append walking.passed (paragraph ∷ others), sound.few_paragraphs)

  module _ (id : ℕ) (same : id ≡ paragraph.id) where
    found : paragraph_of book id ≡ Some paragraph
    found = ap (paragraph_of book) same ∙ paragraph_of-own book sound paragraph Walking-there

    pub Walking-found : IsSome (paragraph_of book id)
    Walking-found = rw found refl

    pub Walking-braille : (cells : List ℕ) → IfSome (paragraph_of book id) (λ p. IsBraille book p cells) → IsBraille book paragraph cells
    Walking-braille cells h = subst (λ (o : Option Paragraph). IfSome o (λ p. IsBraille book p cells)) found h

-- ---- a volume as it is looked at

-- the paragraphs of the volume that are passed have six-dot cells
pub record Checking (book : Book) (number count : ℕ) (left : List Paragraph) (is_there : Bool) : Type 0 where
  pub before : List Paragraph
  pub parts : volume_of book number ≡ before ++ in_volume number count left
  pub six_dot : All (HasSixDotCells book) before
  pub some : is_there ≡ true → before ≢ []
  pub none : is_there ≡ false → before ≡ []

pub Checking-none : (book : Book) (number count : ℕ) (left : List Paragraph) → count ≡ 0 → left ≡ book.paragraphs → Checking book number count left false
Checking-none book number count left none e =
    record {
      before = [];
      parts = in_volume-is book number ∙ (ap (λ c. in_volume number c book.paragraphs) (sym none) ∙ ap (in_volume number count) (sym e));
      six_dot = All-nil (HasSixDotCells book);
      some = λ t. cc;
      none = λ _. refl;
    }

not_none : (before : List Paragraph) (paragraph : Paragraph) → before ++ paragraph ∷ [] ≢ []
not_none [] paragraph e = cc
not_none (p ∷ before) paragraph e = cc

module _ (book : Book) (number count next : ℕ) (left : List Paragraph) (is_there : Bool) (was : Checking book number count left is_there)
    (paragraph : Paragraph) (others : List Paragraph) (front : left ≡ paragraph ∷ others) where
  pub Checking-skips : in_volume number count (paragraph ∷ others) ≡ in_volume number next others → Checking book number next others is_there
  Checking-skips out =
      record {
        before = was.before;
        parts = was.parts ∙ ap (λ (ps : List Paragraph). was.before ++ ps) (ap (in_volume number count) front ∙ out);
        six_dot = was.six_dot;
        some = was.some;
        none = was.none;
      }

  module _ (in' : in_volume number count (paragraph ∷ others) ≡ paragraph ∷ in_volume number next others) where
    here : volume_of book number ≡ was.before ++ paragraph ∷ in_volume number next others
    here = was.parts ∙ ap (λ (ps : List Paragraph). was.before ++ ps) (ap (in_volume number count) front ∙ in')

    pub Checking-takes : HasSixDotCells book paragraph → Checking book number next others true
    Checking-takes six =
        record {
          before = was.before ++ paragraph ∷ [];
          parts = here ∙ sym (append_assoc was.before (paragraph ∷ []) (in_volume number next others));
          six_dot = All-push (HasSixDotCells book) was.before paragraph was.six_dot six;
          some = λ _. not_none was.before paragraph;
          none = λ f. cc;
        }

    pub Checking-stops : (id place : ℕ) (cells : List ℕ) → id ≡ paragraph.id → IsBraille book paragraph cells
        → (place < length cells) × All IsSixDot (take place cells) × (HasDot (slice_index cells place) 7 ⊎ HasDot (slice_index cells place) 8)
        → IsFirstEightDot book (volume_of book number) id place
    Checking-stops id place cells same is (within, first, raised) =
        record {
          before = was.before;
          paragraph = paragraph;
          after = in_volume number next others;
          parts = here;
          six_dot = was.six_dot;
          id_is = same;
          cells = cells;
          braille = is;
          within = within;
          first = first;
          raised = raised;
        }

module _ (book : Book) (number count : ℕ) (left : List Paragraph) (is_there : Bool) (was : Checking book number count left is_there) (none : left ≡ []) where
  whole : volume_of book number ≡ was.before
  whole = was.parts ∙ (ap (λ (ps : List Paragraph). was.before ++ in_volume number count ps) none ∙ append-nil was.before)

  pub Checking-there : is_there ≡ true → (volume_of book number ≢ []) × All (HasSixDotCells book) (volume_of book number)
  Checking-there t = ((λ e. was.some t (sym whole ∙ e)), subst (All (HasSixDotCells book)) (sym whole) was.six_dot)

  pub Checking-missing : is_there ≡ false → volume_of book number ≡ []
  Checking-missing f = whole ∙ was.none f
