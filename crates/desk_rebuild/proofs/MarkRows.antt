-- Rows of marks, read in the order of their ids, beside held paragraphs.
use Rattle.std.proofs.Common.{◌≡◌, ℕ, suc, ◌+◌, ◌-◌, ◌<◌, ◌≤◌, ℤ, pos, ◌≤ℤ◌, nat_abs, false, List, [], ◌∷◌, ◌++◌, map, length, take, set, get_or, Some, Contains, refl, sym, ap, subst, ◌∙◌, arith, inl, inr, IsPermutation, nat_eq, slice_get, chars, length-take-le}
use Rattle.std.specs.List.{All, enumerate_from}
use Rattle.std.proofs.lemmas.Bool.{cond_both, false_from_ne_true, eqb-true}
use Rattle.std.proofs.lemmas.List.Elements.{All-contains}
use Rattle.std.proofs.lemmas.List.Sorted.{All-permutation, IsPermutation-map, IsPermutation-sym}
use Rattle.std.proofs.lemmas.Option.{slice_get-get_or, slice_get_within}
use Rattle.desk_memory.specs.declared.marks.HeldMark.{HeldMark}
use Rattle.desk_memory.specs.declared.paragraphs.Paragraph.{Paragraph as HeldParagraph}
use Rattle.desk_model.specs.Damage.{IsDamagedMark, IsNumber, IsSoundMarkRow, IsSpanned}
use Rattle.desk_parts.specs.declared.file_table.FileTable.TheVariants as tables
use Rattle.desk_parts.specs.FileRows.{HasUtf8Texts, spelled}
use Rattle.desk_rebuild.specs.Rows.{AreMarksOf, AreOf, HasHeld, HaveMarks, IsFirstId, IsWhole, without_marks}
use Rattle.desk_rebuild.specs.Marks.{AreHeldOf, IsHeldOf, IsMarkOn, IsOnOne, mark_rule}
use Rattle.desk_rebuild.specs.OrderedRows.{AreInOrder, AreSoundUpTo, IsFirstUnsound, IsNext, IsSoundAt}
use Rattle.desk_memory.specs.Held.{mark_held}
use Rattle.desk_memory.specs.HeldMarks.{indexes_from, indexes_on}
use Rattle.desk_model.specs.Limits.{most_marks}
use Rattle.desk_parts.specs.Rows.{Mark as MarkRow, Para}
use Rattle.desk_model.specs.Shows.{mark_row_of}
use Rattle.desk_model.proofs.Lists.Items.{map-set_same, set-cases, slice_get-there, take-more}
use Rattle.desk_memory.proofs.Callers.{indexes-push_on, indexes-push_other}
use Rattle.desk_rebuild.proofs.OrderedRows.{few-sound, tells as first-reported, whole as none-damaged}
use Rattle.desk_model.proofs.Lists.RowNumbers.{key-number, number-key, same_number}

-- ---- rows beside paragraphs

module _ (paras : List Para) (items : List HeldParagraph) (of : AreOf paras items) where
  abbrev id_of : Para → ℤ
  id_of para = para.id

  same-held : (para : Para) (index : ℕ) (held : HeldParagraph) → Contains paras para → para.id ≡ pos (index + 1) → slice_get items index ≡ Some held → held.print ≡ chars para.print
  same-held para index held c is at =
      let has = All-contains (HasHeld items) paras para of.each c in
      let place : nat_abs para.id - 1 ≡ index = ap (λ z. nat_abs z - 1) is ∙ omega arith in
      let both : Some has.held ≡ Some held = sym has.at ∙ (ap (slice_get items) place ∙ at) in
      let same : has.held ≡ held = cc in
      ap (λ (k : HeldParagraph). k.print) (sym same) ∙ has.of.print

  spanned : (row : MarkRow) → IsMarkOn items row → IsSpanned paras row
  spanned row on =
      let within = slice_get_within items on.named.index on.held on.named.at in
      let para = number-key id_of paras (length items) of.ids (on.named.index + 1) (omega arith) (omega (arith, within)) in
      let print = same-held para.0 on.named.index on.held para.1 para.2 on.named.at in
      record {
        paragraph = para.0;
        there = para.1;
        named = para.2 ∙ sym on.named.is;
        start = on.span.low;
        ordered = on.span.ordered;
        stop = subst (λ (text : List ℕ). row.stop ≤ℤ pos (length text)) print on.span.high;
      }

  sound-row : (rows : List MarkRow) (row : MarkRow) → IsNumber (λ (other : MarkRow). other.id) most_marks rows row.id → IsMarkOn items row → IsSoundMarkRow paras rows row
  sound-row rows row number on = let span = spanned row on in assumption

  mark-on : (rows : List MarkRow) (row : MarkRow) → IsSoundMarkRow paras rows row → IsMarkOn items row
  mark-on rows row s =
      let para = s.span.paragraph in
      let number = key-number id_of paras (length items) of.ids para s.span.there in
      let low = number.2 in
      let has = All-contains (HasHeld items) paras para of.each s.span.there in
      let next : number.0 ≡ nat_abs para.id - 1 + 1 = (let is : nat_abs para.id ≡ number.0 = ap nat_abs number.1 in omega (arith, is, low)) in
      let is : para.id ≡ pos (nat_abs para.id - 1 + 1) = number.1 ∙ ap pos next in
      record {
        held = has.held;
        named = record { index = nat_abs para.id - 1; is = sym s.span.named ∙ is; at = has.at };
        span = record {
          low = s.span.start;
          ordered = s.span.ordered;
          high = subst (λ (text : List ℕ). row.stop ≤ℤ pos (length text)) (sym has.of.print) s.span.stop;
        };
        note = record { short = s.short; unbarred = s.note };
        flags = assumption s;
      }

  -- ---- what is reported

  module _ (rows sorted : List MarkRow) (moved : IsPermutation rows sorted) (up : AreInOrder (mark_rule items).id sorted) where
    abbrev number-of : (row : MarkRow) → IsSoundMarkRow paras rows row → IsNumber (mark_rule items).id most_marks rows row.id
    number-of row s = s.number

    abbrev sound-at : (index : ℕ) (row : MarkRow) → slice_get sorted index ≡ Some row → IsNumber (mark_rule items).id most_marks rows row.id
        → IsSoundAt (mark_rule items) index row → HasUtf8Texts tables.Mark row → IsSoundMarkRow paras rows row
    sound-at index row at number s text = sound-row rows row number s.sound

    abbrev at-sound : (index : ℕ) (row : MarkRow) → slice_get sorted index ≡ Some row → AreSoundUpTo (mark_rule items) index sorted
        → IsNext most_marks index row.id → IsSoundMarkRow paras rows row → IsMarkOn items row
    at-sound index row at before next s = mark-on rows row s

    pub tells : (id : ℤ) → IsFirstUnsound (mark_rule items) sorted id → IsFirstId (IsDamagedMark paras rows) id
    tells id first = first-reported (mark_rule items) rows sorted moved up (IsSoundMarkRow paras rows) number-of sound-at at-sound id first

    -- nothing is damaged
    pub whole : (marks : List HeldMark) → AreHeldOf items sorted marks → IsWhole (IsDamagedMark paras rows)
    whole marks have = none-damaged (mark_rule items) rows sorted moved up (IsSoundMarkRow paras rows) number-of sound-at at-sound have.sound

-- ---- the marks that the rows are

held-row : (n : ℕ) (row : MarkRow) (mark : HeldMark) → row.id ≡ pos n → IsHeldOf row mark → spelled tables.Mark row ≡ mark_row_of (mark_held (n, mark))
held-row n row mark id held = sym held ∙ ap (λ (z : ℤ). record (mark_row_of (mark_held (0, mark))) { id = z }) id

held-rows : (n : ℕ) (rows : List MarkRow) (marks : List HeldMark) → length marks ≡ length rows
    → ((i : ℕ) (row : MarkRow) (mark : HeldMark) → slice_get rows i ≡ Some row → slice_get marks i ≡ Some mark → (row.id ≡ pos (n + i)) × IsHeldOf row mark)
    → map (spelled tables.Mark) rows ≡ map mark_row_of (map mark_held (enumerate_from n marks))
held-rows n [] [] long each = refl
held-rows n (r ∷ rs) (m ∷ ms) long each =
    let here = each 0 r m refl refl in
    let own : n + 0 ≡ n = omega arith in
    let rest = held-rows (n + 1) rs ms (omega arith) (λ i row mark at_row at_mark.
    let later = each (suc i) row mark at_row at_mark in
    let next : n + suc i ≡ n + 1 + i = omega arith in
    (later.0 ∙ ap pos next, later.1)) in
    λ i. held-row n r m (here.0 ∙ ap pos own) here.1 i ∷ rest i
held-rows n rows marks long each = absurd (omega arith)

pub are-marks : (items : List HeldParagraph) (rows sorted : List MarkRow) (marks : List HeldMark) → IsPermutation rows sorted → AreHeldOf items sorted marks → AreMarksOf rows marks
are-marks items rows sorted marks moved have =
    subst (IsPermutation (map (spelled tables.Mark) rows)) (held-rows 1 sorted marks have.count_is (λ i row mark at_row at_mark.
    let next : i + 1 ≡ 1 + i = omega arith in
    ((have.sound i row (slice_get_within sorted i row at_row) at_row).0.next.1 ∙ ap pos next, have.each i row mark at_row at_mark)))
    (IsPermutation-map (spelled tables.Mark) _ _ moved)

-- there are no more than there may be
pub few-held : (items : List HeldParagraph) (sorted : List MarkRow) (marks : List HeldMark) → AreHeldOf items sorted marks → length marks ≤ most_marks
few-held items sorted marks have =
    let few : length sorted ≤ most_marks = few-sound (mark_rule items) sorted (length sorted) (omega arith) have.sound in
    subst (λ n. n ≤ most_marks) (sym have.count_is) few

-- each mark is on a paragraph
pub on-ones : (items : List HeldParagraph) (sorted : List MarkRow) (marks : List HeldMark) → AreHeldOf items sorted marks → All (IsOnOne (length items)) marks
on-ones items sorted marks have k d less =
    let there : k < length sorted = omega (arith, have.count_is, less) in
    let row = slice_get-there sorted k there in
    let its = (have.sound k row.0 there row.1).0.sound in
    let same = same_number (get_or marks k d).paragraph (its.named.index + 1)
    (ap (λ (r : MarkRow). r.para) (have.each k row.0 (get_or marks k d) row.1 (slice_get-get_or marks k d less)) ∙ its.named.is) in
    (omega (arith, same), omega (arith, same, slice_get_within items its.named.index its.held its.named.at))

-- and each row's text is UTF-8
pub all-texts : (items : List HeldParagraph) (rows sorted : List MarkRow) (marks : List HeldMark) → IsPermutation rows sorted → AreHeldOf items sorted marks → All (HasUtf8Texts tables.Mark) rows
all-texts items rows sorted marks moved have =
    All-permutation (HasUtf8Texts tables.Mark) _ _ (IsPermutation-sym _ _ moved) (λ k d within.
    (have.sound k (get_or sorted k d) within (slice_get-get_or sorted k d within)).1)

-- ---- the indexes of a paragraph's marks

few-indexes : (id i : ℕ) (ms : List HeldMark) → length (indexes_from id i ms) ≤ length ms
few-indexes id i [] = omega arith
few-indexes id i (m ∷ ms) =
    let rest = few-indexes id (i + 1) ms in
    cond_both (nat_eq m.paragraph id) (i ∷ indexes_from id (i + 1) ms) (indexes_from id (i + 1) ms) (λ (xs : List ℕ). length xs ≤ suc (length ms))
    (λ e. omega (arith, rest)) (λ e. omega (arith, rest))

module _ (marks : List HeldMark) (i : ℕ) (mark : HeldMark) (items : List HeldParagraph) (was : HeldParagraph)
    (at : slice_get marks i ≡ Some mark) (on : IsOnOne (length items) mark) (there : slice_get items (mark.paragraph - 1) ≡ Some was)
    (have : HaveMarks (take i marks) items) where
  pub few-marks : length was.marks ≤ length marks
  few-marks =
      let less = slice_get_within marks i mark at in
      let few = few-indexes (mark.paragraph - 1 + 1) 0 (take i marks) in
      let long = length-take-le i marks (omega (arith, less)) in
      subst (λ (xs : List ℕ). length xs ≤ length marks) (sym (have (mark.paragraph - 1) was there)) (omega (arith, few, long, less))

  pub shared : (new : HeldParagraph) → new.marks ≡ was.marks ++ i ∷ [] → HaveMarks (take (i + 1) marks) (set items (mark.paragraph - 1) new)
  shared new pushed index held here =
      let low = on.0 in
      let long = length-take-le i marks (omega (arith, slice_get_within marks i mark at)) in
      let more = take-more marks i mark at in
      let own : mark.paragraph - 1 + 1 ≡ mark.paragraph = omega (arith, low) in
      elim (set-cases items (mark.paragraph - 1) index new held here) [
        | inl same ↦
            let id : mark.paragraph ≡ index + 1 = (let is = same.0 in omega (arith, is, low)) in
            ap (λ (k : HeldParagraph). k.marks) same.1
            ∙ (pushed
            ∙ (ap (λ (xs : List ℕ). xs ++ i ∷ []) (have (mark.paragraph - 1) was there ∙ ap (λ (n : ℕ). indexes_on n (take i marks)) own)
            ∙ (ap (λ (n : ℕ). indexes_on mark.paragraph (take i marks) ++ n ∷ []) (sym long)
            ∙ (sym (indexes-push_on (take i marks) mark)
            ∙ (ap (indexes_on mark.paragraph) (sym more)
            ∙ ap (λ (n : ℕ). indexes_on n (take (i + 1) marks)) id)))))
        | inr other ↦
            let apart : nat_eq mark.paragraph (index + 1) ≡ false =
            false_from_ne_true (nat_eq mark.paragraph (index + 1)) (λ e. other.0 (let is = eqb-true mark.paragraph (index + 1) e in omega (arith, is))) in
            have index held other.1
            ∙ (sym (indexes-push_other (index + 1) (take i marks) mark apart)
            ∙ ap (indexes_on (index + 1)) (sym more))
      ]

  pub shared-same : (new : HeldParagraph) → without_marks new ≡ without_marks was → map without_marks (set items (mark.paragraph - 1) new) ≡ map without_marks items
  shared-same new same = map-set_same without_marks items (mark.paragraph - 1) was new there same
