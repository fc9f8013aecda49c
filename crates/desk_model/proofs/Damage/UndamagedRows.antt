-- Rows without damage are sound, table by table.
use Rattle.std.proofs.Common.{◌≡◌, ◌⊎◌, ℕ, ◌+◌, ◌<◌, ◌≤◌, ℤ, pos, ◌+ℤ◌, ◌≤ℤ◌, Bool, false, List, [], ◌∷◌, filter, length, Some, Contains, refl, sym, ap, subst, ◌∙◌, arith, inl, inr, IsPermutation, slice_get, chars, int_eq, map}
use Rattle.std.specs.Cmp.{signed_Decides}
use Rattle.std.proofs.lemmas.Bool.{cond-false, false_from_ne_true}
use Rattle.std.proofs.lemmas.Option.{slice_get-get_or}
use Rattle.louis_table.specs.Meaning.{Meaning}
use Rattle.louis_table.specs.Table.{Means}
use Rattle.louis_table.proofs.OneMeaning.{means_or_bad, one_meaning, some_meaning}
use Rattle.louis_translate.specs.Braille.{braille}
use Rattle.louis_translate.specs.Position.{AreDefined}
use Rattle.louis_translate.proofs.Tilings.{one_tiling}
use Rattle.desk_parts.specs.declared.rows.BookRow.{BookRow}
use Rattle.desk_model.specs.Damage.{IsDamagedBook, IsDamagedCache, IsDamagedMark, IsDamagedPara, IsDamagedTab, IsNumber, IsPrintText, IsSoundBookRow, IsSoundCacheRow, IsSoundMarkRow, IsSoundParaRow, IsSoundTabRow, IsSpanned, rows_with}
use Rattle.desk_model.specs.Limits.{most_marks, most_paragraphs, most_print, most_tables}
use Rattle.desk_parts.specs.Rows.{Mark, Para, ParaCells, Tab}
use Rattle.desk_model.proofs.Lists.Decisions.{Decided, IsDecidable, at_most, decisions, below, both, either, implied}
use Rattle.desk_model.proofs.Commands.FirstUndefined.{defined_or_first}
use Rattle.desk_model.proofs.Lists.Members.{Contains-behind, Contains-here}
use Rattle.desk_model.proofs.Rows.SortedTabs.{AreInOrder-rises, AreNamesApart, RisesTabs, tabs_in_order}
use Rattle.desk_model.proofs.Lists.Stable.{among, is_flag, is_le, is_unbarred, is_within, same_int, same_nat, same_text, stable, stable_from, at_least, le_from, is_table_name}
use Rattle.std.proofs.lemmas.List.{length-map}
use Rattle.std.proofs.lemmas.List.Sorted.{Contains-permutation, IsPermutation-sym}
use Rattle.desk_model.proofs.Lists.NumberedRows.{AreOnce, AreUpTo, in_order, keys-numbers, number-of, once-map, once-one, pigeonholes}
use Rattle.desk_model.proofs.Lists.RowNumbers.{Contains-from_map, numbers}
use Rattle.desk_model.proofs.Damage.FirstDamage.{le_antisymm}

-- ---- lists and meanings

-- the place of an element
pub place-of : {X : Type 0} (xs : List X) (x : X) → Contains xs x → (i : ℕ) × (slice_get xs i ≡ Some x)
place-of xs x (k, within, at) = (k, slice_get-get_or xs k x within ∙ ap Some at)

-- a list with each of its places below a number is no longer
pub short-list : {X : Type 0} (xs : List X) (n : ℕ) → ((i : ℕ) (x : X) → slice_get xs i ≡ Some x → i < n) → length xs ≤ n
short-list [] n each = omega arith
short-list (x ∷ xs) n each =
    let last = each (length xs) _ (slice_get-get_or (x ∷ xs) (length xs) x (omega arith)) in
    omega (arith, last)

-- what a text means has this, or it means nothing that has
meant : (P : Meaning → Type 0) → ((meaning : Meaning) → Decided (P meaning)) → (text : List ℕ) → Decided ((meaning : Meaning) × Means text meaning × P meaning)
meant P test text =
    elim (some_meaning text) [
      | inl one ↦ implied (λ p. (one.0, one.1, p)) (λ h. subst P (one_meaning text h.0 one.0 h.1 one.1) h.2) (test one.0)
      | inr bad ↦ inr (λ h. means_or_bad text h.0 bad.0 bad.1 h.1 bad.2)
    ]

meaning_of : (text : List ℕ) → Decided ((meaning : Meaning) × Means text meaning)
meaning_of text = implied (λ h. (h.0, h.1)) (λ h. (h.0, h.1, tt)) (meant (λ m. Unit {0}) (λ m. inl tt) text)

is_defined : (print : List ℕ) (meaning : Meaning) → Decided (AreDefined meaning print)
is_defined print meaning =
    elim (defined_or_first meaning print) [
      | inl defined ↦ inl defined
      | inr first ↦ inr (λ defined. let some = defined first.0 first.1.within in let none = first.1.undefined in cc)
    ]

is_number : {X : Type 0} (key : X → ℤ) (last : ℕ) (rows : List X) (id : ℤ) → Decided (IsNumber key last rows id)
is_number {X} key last rows id =
    let next : Decided ((id ≡ pos 1) ⊎ ((row : X) × Contains rows row × (key row +ℤ pos 1 ≡ id))) =
    either (same_int id (pos 1)) (among (λ row. key row +ℤ pos 1 ≡ id) (λ row. same_int (key row +ℤ pos 1) id) rows) in
    let parts : IsDecidable (IsNumber key last rows id) = hlevel (decisions, is_within, same_nat, next) in
    parts.decided

-- no row has a key that is nowhere
pub none-with : {X : Type 0} (key : X → ℤ) (id : ℤ) (rows : List X) → ¬ ((row : X) × Contains rows row × (key row ≡ id)) → rows_with key id rows ≡ 0
none-with key id [] lacks = refl
none-with {X} key id (row ∷ rows) lacks =
    let test : X → Bool = λ other. int_eq (key other) id in
    let other : test row ≡ false = false_from_ne_true (test row) (λ is. lacks (row, Contains-here row rows, (signed_Decides (key row) id).0 is)) in
    ap length (cond-false (test row) (row ∷ filter test rows) (filter test rows) other)
    ∙ none-with key id rows (λ (there, c, same). lacks (there, Contains-behind row there rows c, same))

-- ---- book

module _ (books : List BookRow) (none : (id : ℤ) → ¬ IsDamagedBook books id) where
  pub sound-book : (row : BookRow) × (books ≡ row ∷ []) × IsSoundBookRow row
  sound-book = by books refl
    where
      by : (rows : List BookRow) → books ≡ rows → (row : BookRow) × (books ≡ row ∷ []) × IsSoundBookRow row
      by [] is = absurd (none (pos 1) (refl, λ (row, one, sound). let apart = sym is ∙ one in cc))
      by (row ∷ other ∷ rest) is = absurd (none (pos 1) (refl, λ (only, one, sound). let apart = sym is ∙ one in cc))
      by (row ∷ []) is =
          let twice : ¬ ¬ IsSoundBookRow row = λ unsound. none (pos 1) (
            refl,
            λ (only, one, sound).
                let both_one = sym one ∙ is in
                let same : only ≡ row = cc in
                unsound (subst IsSoundBookRow same sound),
          ) in
          let parts : IsDecidable (IsSoundBookRow row) = hlevel (decisions, same_int, is_le, is_within) in
          (row, is, stable parts.decided twice)

-- ---- tab

module _ (tabs : List Tab) (none : (id : ℤ) → ¬ IsDamagedTab tabs id) where
  abbrev pub sorted_tabs : List Tab
  sorted_tabs = (tabs_in_order tabs).0

  pub tabs-moved : IsPermutation tabs sorted_tabs
  tabs-moved = (tabs_in_order tabs).1

  pub tabs-rise : RisesTabs sorted_tabs
  tabs-rise = (tabs_in_order tabs).2

  pub sound-tab : (index : ℕ) (row : Tab) → slice_get sorted_tabs index ≡ Some row → IsSoundTabRow sorted_tabs index row
  sound-tab index row at =
      let twice : ¬ ¬ IsSoundTabRow sorted_tabs index row =
      λ unsound. none (pos (index + 1)) (sorted_tabs, tabs-moved, AreInOrder-rises sorted_tabs tabs-rise, (index, row, at, refl, unsound)) in
      let means = stable_from (meaning_of row.body) (λ (s : IsSoundTabRow sorted_tabs index row). (s.meaning, s.means)) twice in
      record {
        named = stable_from (is_table_name (chars row.name)) (λ (s : IsSoundTabRow sorted_tabs index row). s.named) twice;
        meaning = means.0;
        means = means.1;
        room = stable_from (below index most_tables) (λ (s : IsSoundTabRow sorted_tabs index row). s.room) twice;
        new = λ before other less there same. twice (λ s. s.new before other less there same);
      }

  pub few-tabs : length sorted_tabs ≤ most_tables
  few-tabs = short-list sorted_tabs most_tables (λ i row at. (sound-tab i row at).room)

  pub names-apart : AreNamesApart sorted_tabs
  names-apart i j one other less at_one at_other same = (sound-tab j other at_other).new i one less at_one same

-- ---- para

module _ (tabs : List Tab) (paras : List Para) (none : (id : ℤ) → ¬ IsDamagedPara tabs paras id) where
  -- its table is there, means something, and defines its print
  is_translatable : (row : Para) → Decided ((table : Tab) × Contains tabs table
      × ((table.name ≡ row.tab) × ((meaning : Meaning) × Means table.body meaning × AreDefined meaning (chars row.print))))
  is_translatable row =
      among (λ (table : Tab). (table.name ≡ row.tab) × ((meaning : Meaning) × Means table.body meaning × AreDefined meaning (chars row.print)))
      (λ table. both (same_text table.name row.tab) (meant (λ m. AreDefined m (chars row.print)) (is_defined (chars row.print)) table.body)) tabs

  is_print_text : (text : List ℕ) → Decided (IsPrintText text)
  is_print_text text = both (at_most (length text) most_print) (is_unbarred text)

  pub sound-para : (row : Para) → Contains paras row → IsSoundParaRow tabs paras row
  sound-para row c =
      let twice : ¬ ¬ IsSoundParaRow tabs paras row = λ unsound. none row.id (row, c, refl, unsound) in
      let by = stable_from (is_translatable row)
      (λ (s : IsSoundParaRow tabs paras row). (s.table.table, s.table.there, (s.table.named, (s.meaning, s.table.means, s.defined)))) twice in
      record {
        number = stable_from (is_number (λ (other : Para). other.id) most_paragraphs paras row.id) (λ (s : IsSoundParaRow tabs paras row). s.number) twice;
        place = stable_from (is_within 1 (length paras) row.place) (λ (s : IsSoundParaRow tabs paras row). s.place) twice;
        own = λ other there same. stable_from (is_le row.id other.id) (λ (s : IsSoundParaRow tabs paras row). s.own other there same) twice;
        original = stable_from (is_print_text (chars row.original)) (λ (s : IsSoundParaRow tabs paras row). s.original) twice;
        print = stable_from (is_print_text (chars row.print)) (λ (s : IsSoundParaRow tabs paras row). s.print) twice;
        meaning = by.2.1.0;
        table = record { table = by.0; there = by.1; named = by.2.0; means = by.2.1.1 };
        defined = by.2.1.2;
        style = stable_from (is_flag row.style) (λ (s : IsSoundParaRow tabs paras row). s.style) twice;
        volume = stable_from (is_flag row.volume) (λ (s : IsSoundParaRow tabs paras row). s.volume) twice;
        struck = stable_from (is_flag row.struck) (λ (s : IsSoundParaRow tabs paras row). s.struck) twice;
      }

  -- ---- their ids and their places

  abbrev id_of : Para → ℤ
  id_of para = para.id

  abbrev place_of : Para → ℤ
  place_of para = para.place

  pub ids-numbered : IsPermutation (map id_of paras) (numbers 1 (length paras))
  ids-numbered = keys-numbers id_of most_paragraphs paras (λ para c. (sound-para para c).number)

  pub id-number : (para : Para) → Contains paras para → (k : ℕ) × (para.id ≡ pos k) × (1 ≤ k) × (k ≤ most_paragraphs)
  id-number = number-of id_of most_paragraphs paras (λ para c. (sound-para para c).number)

  -- two rows with one place have one id
  same-id : (one other : Para) → Contains paras one → Contains paras other → one.place ≡ other.place → one.id ≡ other.id
  same-id one other in_one in_other same =
      le_antisymm one.id other.id ((sound-para one in_one).own other in_other (sym same)) ((sound-para other in_other).own one in_one same)

  once-places : AreOnce (map place_of paras)
  once-places = once-map place_of paras (λ para other others moved c same.
      let back = IsPermutation-sym _ _ moved in
      let there = Contains-permutation _ _ para back (Contains-here para others) in
      let among = Contains-permutation _ _ other back (Contains-behind para other others c) in
      once-one id_of paras others para other (sound-para para there).number.once moved c (same-id other para among there same))

  places-within : AreUpTo (length paras) (map place_of paras)
  places-within z c =
      let found = Contains-from_map place_of paras z c in
      let within = (sound-para found.0 found.1).place in
      let k = at_least 1 found.0.place within.0 in
      (k.0, sym found.2 ∙ k.1, k.2, le_from k.0 (length paras) (subst (λ (y : ℤ). y ≤ℤ pos (length paras)) k.1 within.1))

  -- the rows in the order of their places
  pub by_place : (sorted : List Para) × IsPermutation paras sorted × (numbers 1 (length paras) ≡ map place_of sorted)
  by_place =
      in_order place_of paras (length paras)
      ((pigeonholes (length paras) (map place_of paras) once-places places-within).1 (length-map paras place_of))

-- ---- mark

module _ (paras : List Para) (marks : List Mark) (none : (id : ℤ) → ¬ IsDamagedMark paras marks id) where
  is_spanned : (row : Mark)
      → Decided ((para : Para) × Contains paras para × ((para.id ≡ row.para) × ((pos 0 ≤ℤ row.start) × ((row.start ≤ℤ row.stop) × (row.stop ≤ℤ pos (length (chars para.print)))))))
  is_spanned row =
      among (λ (para : Para). (para.id ≡ row.para) × ((pos 0 ≤ℤ row.start) × ((row.start ≤ℤ row.stop) × (row.stop ≤ℤ pos (length (chars para.print))))))
      (λ para. both (same_int para.id row.para) (both (is_le (pos 0) row.start) (both (is_le row.start row.stop) (is_le row.stop (pos (length (chars para.print))))))) paras

  spanned : (row : Mark) → Decided (IsSpanned paras row)
  spanned row =
      implied (λ by. record { paragraph = by.0; there = by.1; named = by.2.0; start = by.2.1.0; ordered = by.2.1.1.0; stop = by.2.1.1.1 })
      (λ s. (s.paragraph, s.there, (s.named, (s.start, (s.ordered, s.stop))))) (is_spanned row)

  pub sound-mark : (row : Mark) → Contains marks row → IsSoundMarkRow paras marks row
  sound-mark row c =
      let number = is_number (λ (other : Mark). other.id) most_marks marks row.id in
      let parts : IsDecidable (IsSoundMarkRow paras marks row) = hlevel (decisions, number, spanned row, is_flag, at_most, is_unbarred) in
      stable parts.decided (λ unsound. none row.id (row, c, refl, unsound))

-- ---- cache

module _ (tabs : List Tab) (paras : List Para) (caches : List ParaCells) (none : (id : ℤ) → ¬ IsDamagedCache tabs paras caches id) where
  -- by the table, the cells are the braille of the paragraph
  abbrev Translates : ParaCells → Para → Tab → Type 0
  Translates row para table =
      (table.name ≡ para.tab)
      × ((meaning : Meaning) × Means table.body meaning × (row.cells ≡ braille meaning (chars para.print) (one_tiling meaning (chars para.print)).0))

  is_translated : (row : ParaCells) → Decided ((para : Para) × Contains paras para × ((para.id ≡ row.para) × ((table : Tab) × Contains tabs table × Translates row para table)))
  is_translated row =
      among (λ (para : Para). (para.id ≡ row.para) × ((table : Tab) × Contains tabs table × Translates row para table))
      (λ para. both (same_int para.id row.para) (among (Translates row para) (λ table. both (same_text table.name para.tab)
      (meant (λ m. row.cells ≡ braille m (chars para.print) (one_tiling m (chars para.print)).0)
      (λ m. same_text row.cells (braille m (chars para.print) (one_tiling m (chars para.print)).0)) table.body)) tabs)) paras

  translated : (row : ParaCells) → IsSoundCacheRow tabs paras caches row
      → (para : Para) × Contains paras para × ((para.id ≡ row.para) × ((table : Tab) × Contains tabs table × Translates row para table))
  translated row s =
      let only = (one_tiling s.meaning (chars s.paragraph.print)).2 s.choices s.tiles in
      (s.paragraph, s.there, (s.named, (s.table.table, s.table.there, (s.table.named, (s.meaning, s.table.means, s.cells ∙ ap (braille s.meaning (chars s.paragraph.print)) only)))))

  pub sound-cache : (row : ParaCells) → Contains caches row → IsSoundCacheRow tabs paras caches row
  sound-cache row c =
      let twice : ¬ ¬ IsSoundCacheRow tabs paras caches row = λ unsound. none row.para (inl (row, c, refl, unsound)) in
      let by = stable_from (is_translated row) (translated row) twice in
      let its = by.2.1 in
      let tiled = one_tiling its.2.1.0 (chars by.0.print) in
      record {
        once = stable_from (same_nat (rows_with (λ (other : ParaCells). other.para) row.para caches) 1) (λ (s : IsSoundCacheRow tabs paras caches row). s.once) twice;
        paragraph = by.0;
        there = by.1;
        named = by.2.0;
        meaning = its.2.1.0;
        table = record { table = its.0; there = its.1; named = its.2.0; means = its.2.1.1 };
        choices = tiled.0;
        tiles = tiled.1;
        cells = its.2.1.2;
      }

  -- each paragraph has a row
  pub each-cached : (para : Para) → Contains paras para → (row : ParaCells) × Contains caches row × (row.para ≡ para.id)
  each-cached para c =
      stable (among (λ (row : ParaCells). row.para ≡ para.id) (λ row. same_int row.para para.id) caches)
      (λ lacks. none para.id (inr ((para, c, refl), none-with (λ (row : ParaCells). row.para) para.id caches lacks)))
