-- The rows of `cache` in the order of their ids, against the paragraphs that are held: the first that doesn't fit is the
-- smallest id of the damage.
use Rattle.std.proofs.Common.{◌≡◌, ◌⊎◌, ℕ, zero, suc, ◌+◌, ◌-◌, ◌<◌, ◌≤◌, ℤ, pos, negsuc, ◌≤ℤ◌, nat_abs, Bool, List, [], ◌∷◌, map, filter, length, take, drop, get_or, slice_get, Option, Some, None, option_map, Contains, refl, sym, ap, subst, ◌∙◌, arith, inl, inr, IsPermutation, IsSortedByKey, int_cmp, int_eq, nat_eq, chars, take-append-drop}
use Rattle.std.specs.Cmp.Lexicographic.{pointwise}
use Rattle.std.specs.List.{All, range_with_len}
use Rattle.std.specs.Map.{lookup}
use Rattle.std.specs.Option.{option_flatten}
use Rattle.std.proofs.lemmas.Bool.{cases_lt}
use Rattle.std.proofs.lemmas.Int.{ints}
use Rattle.std.proofs.lemmas.List.{length-append, length-map}
use Rattle.std.proofs.lemmas.List.Elements.{All-contains, Contains-get_or, filter-append}
use Rattle.std.proofs.lemmas.List.FromFn.{length-range_with_len}
use Rattle.std.proofs.lemmas.List.Sorted.{Contains-permutation, IsPermutation-sym, length_permutation}
use Rattle.std.proofs.lemmas.Option.{same_Some, slice_get-get_or, slice_get-map, slice_get_within}
use Rattle.louis_table.specs.Meaning.{Meaning}
use Rattle.louis_translate.specs.Position.{AreDefined}
use Rattle.desk_memory.specs.declared.paragraphs.Paragraph.{Paragraph as HeldParagraph}
use Rattle.desk_memory.specs.declared.tables.BookTable.{BookTable}
use Rattle.desk_memory.specs.Braille.{AreCellsOf}
use Rattle.desk_model.specs.Damage.{IsDamagedCache, IsDamagedPara, IsItsTable, IsSoundCacheRow, IsSoundParaRow, rows_with}
use Rattle.desk_parts.specs.declared.file_table.FileTable.TheVariants as file
use Rattle.desk_rebuild.specs.Rows.{AreOf, AreTables, HasCells, HasHeld, IsFirstId, IsOf, IsWhole, without_cells}
use Rattle.desk_rebuild.specs.Caches.{AreAllRight, AreRight, AreTheirCells, IsItsBraille, IsLacking, IsMisfit, IsSurplus, IsTranslatable, IsWrong}
use Rattle.desk_memory.specs.Held.{HeldTables, renewed_items, with_cells}
use Rattle.desk_model.specs.Limits.{most_paragraphs}
use Rattle.desk_parts.specs.Rows.{Para, ParaCells, Tab}
use Rattle.desk_model.proofs.Lists.Items.{Contains-there, slice_get-there}
use Rattle.desk_model.proofs.Lists.NumberedRows.{few-rows}
use Rattle.desk_model.proofs.Lists.Permutations.{IsPermutation-filter, IsPermutation-same}
use Rattle.desk_memory.proofs.Callers.{slice_get-renewed_items}
use Rattle.desk_model.proofs.Lists.RowNumbers.{key-number, key-once, number-key, numbers, pos_le, same_number}
use Rattle.desk_model.proofs.Lists.Stable.{is_le, le_from, not_below, same_int}
use Rattle.desk_model.proofs.Damage.UndamagedRows.{none-with, place-of, sound-para}
use Rattle.desk_rebuild.proofs.OrderedRows.{from-drop, rising, some-with}
use Rattle.desk_rebuild.proofs.ParaRows.{table-found}

-- ---- lists

to-drop : {X : Type 0} (i : ℕ) (xs : List X) (x : X) → slice_get xs i ≡ Some x → Contains (drop i xs) x
to-drop zero xs x at = Contains-there xs 0 x at
to-drop (suc i) [] x at = absurd (cc)
to-drop (suc i) (y ∷ xs) x at = to-drop i xs x at

module _ {X : Type 0} (key : X → ℤ) where
  -- the first of them have the numbers in order
  front-keys : (n i : ℕ) (xs : List X) → ((k : ℕ) → k < i → (x : X) × (slice_get xs k ≡ Some x) × (key x ≡ pos (n + k))) → map key (take i xs) ≡ numbers n i
  front-keys n zero xs each = refl
  front-keys n (suc i) [] each = absurd (let none = each 0 (omega arith) in let at = none.1 in cc)
  front-keys n (suc i) (x ∷ xs) each =
      let first = each 0 (omega arith) in
      let own : x ≡ first.0 = same_Some x first.0 first.1 in
      let here : n + 0 ≡ n = omega arith in
      let rest = front-keys (n + 1) i xs (λ k less.
      let later = each (suc k) (omega (arith, less)) in
      let next : n + suc k ≡ n + 1 + k = omega arith in
      (later.0, later.1, later.2 ∙ ap pos next)) in
      λ j. (ap key own ∙ (first.2 ∙ ap pos here)) j ∷ rest j

-- ---- paragraphs with new cells

pub same-but-cells : (cells : List (Option (List ℕ))) (items : List HeldParagraph) → map without_cells (renewed_items cells items) ≡ map without_cells items
same-but-cells cells [] = refl
same-but-cells [] (held ∷ items) = refl
same-but-cells (None ∷ cells) (held ∷ items) = ap (λ (rest : List HeldParagraph). without_cells held ∷ rest) (same-but-cells cells items)
same-but-cells (Some new ∷ cells) (held ∷ items) = ap (λ (rest : List HeldParagraph). without_cells held ∷ rest) (same-but-cells cells items)

module _ (tabs : List Tab) (paras : List Para) (tables : HeldTables) (items : List HeldParagraph)
    (are : AreTables tabs tables) (of : AreOf paras items) (whole : IsWhole (IsDamagedPara tabs paras)) where
  -- ---- paragraphs and their rows

  sound : (row : Para) → Contains paras row → IsSoundParaRow tabs paras row
  sound = sound-para tabs paras whole

  count : length paras ≡ length items
  count =
      let long = length-range_with_len 1 (length items) in
      omega (arith, length_permutation _ _ of.ids, length-map paras (λ (row : Para). row.id), length-map (range_with_len 1 (length items)) pos, long)

  pub few-items : length items ≤ most_paragraphs
  few-items = subst (λ n. n ≤ most_paragraphs) count (few-rows (λ (row : Para). row.id) most_paragraphs paras (λ row c. (sound row c).number))

  its-place : (row : Para) → Contains paras row → (index : ℕ) × (held : HeldParagraph) × (slice_get items index ≡ Some held) × (row.id ≡ pos (index + 1)) × IsOf row held
  its-place row c =
      let k = key-number (λ (row : Para). row.id) paras (length items) of.ids row c in
      let has = All-contains (HasHeld items) paras row of.each c in
      let back : k.0 - 1 + 1 ≡ k.0 = omega (arith, k.2) in
      (k.0 - 1, has.held, subst (λ z. slice_get items (nat_abs z - 1) ≡ Some has.held) k.1 has.at, k.1 ∙ ap pos (sym back), has.of)

  row-for : (index : ℕ) (held : HeldParagraph) → slice_get items index ≡ Some held → (row : Para) × Contains paras row × (row.id ≡ pos (index + 1)) × IsOf row held
  row-for index held at =
      let less = slice_get_within items index held at in
      let found = number-key (λ (row : Para). row.id) paras (length items) of.ids (index + 1) (omega arith) (omega (arith, less)) in
      let own = its-place found.0 found.1 in
      let place : own.0 ≡ index = omega (arith, same_number (own.0 + 1) (index + 1) (sym own.3 ∙ found.2)) in
      let one : own.1 ≡ held = same_Some own.1 held (sym own.2 ∙ (ap (slice_get items) place ∙ at)) in
      (found.0, found.1, found.2, subst (IsOf found.0) one own.4)

  -- the table of a row is found by its name
  table-of : (row : Para) (held : HeldParagraph) (meaning : Meaning) → IsOf row held → IsItsTable tabs row meaning
      → (table : BookTable) × (lookup (pointwise nat_eq held.table) tables ≡ Some table) × (meaning ≡ table.rules)
  table-of row held meaning own its =
      let t = table-found tabs tables are row meaning its in
      (t.0, ap (λ name. lookup (pointwise nat_eq name) tables) own.table ∙ t.1, sym t.2)

  pub translatable : All (IsTranslatable tables) items
  translatable k d within =
      let held = get_or items k d in
      let row = row-for k held (slice_get-get_or items k d within) in
      let s = sound row.0 row.1 in
      let t = table-of row.0 held s.meaning row.3 s.table in
      record {
        table = t.0;
        found = t.1;
        defined = subst (λ m. AreDefined m held.print) t.2 (subst (λ (print : List ℕ). AreDefined s.meaning print) (sym row.3.print) s.defined);
      }

  module _ (row : Para) (held : HeldParagraph) (meaning : Meaning) (own : IsOf row held) (its : IsItsTable tabs row meaning) (cells : List ℕ) where
    braille-to : AreCellsOf meaning (chars row.print) cells → IsItsBraille tables held cells
    braille-to b =
        let t = table-of row held meaning own its in
        record {
          table = t.0;
          found = t.1;
          cells_are = subst (λ m. AreCellsOf m held.print cells) t.2 (subst (λ (print : List ℕ). AreCellsOf meaning print cells) (sym own.print) b);
        }

    braille-from : IsItsBraille tables held cells → AreCellsOf meaning held.print cells
    braille-from b =
        let t = table-of row held meaning own its in
        let same : t.0 ≡ b.table = same_Some t.0 b.table (sym t.1 ∙ b.found) in
        subst (λ m. AreCellsOf m held.print cells) (sym (t.2 ∙ ap (λ (table : BookTable). table.rules) same)) b.cells_are

  pub has-cells : (cells : List (Option (List ℕ))) → AreTheirCells tables items cells → All (HasCells tabs (renewed_items cells items)) paras
  has-cells cells theirs k d within =
      let row = get_or paras k d in
      let c = Contains-get_or paras k d within in
      let p = its-place row c in
      let own = theirs p.0 p.1 p.2 in
      let s = sound row c in
      let new : HeldParagraph = record p.1 { cells = own.0 } in
      let back : p.0 + 1 - 1 ≡ p.0 = omega arith in
      let here : slice_get (renewed_items cells items) p.0 ≡ Some new =
      slice_get-renewed_items cells items p.0 ∙ (λ i. option_map (with_cells (option_flatten (own.1 i))) (p.2 i)) in
      record {
        held = new;
        at = subst (λ z. slice_get (renewed_items cells items) (nat_abs z - 1) ≡ Some new) (sym p.3) (ap (slice_get (renewed_items cells items)) back ∙ here);
        meaning = s.meaning;
        table = s.table;
        cells = braille-from row p.1 s.meaning p.4 s.table own.0 own.2;
      }

  -- ---- rows of braille in the order of their ids

  module _ (caches rows : List ParaCells) (moved : IsPermutation caches rows) (sorted : IsSortedByKey (λ (row : ParaCells). row.para) int_cmp rows) where
    abbrev para_of : ParaCells → ℤ
    para_of row = row.para

    rises : (i j : ℕ) (a b : ParaCells) → i ≤ j → slice_get rows i ≡ Some a → slice_get rows j ≡ Some b → a.para ≤ℤ b.para
    rises = rising para_of rows sorted

    there-to : (i : ℕ) (row : ParaCells) → slice_get rows i ≡ Some row → Contains caches row
    there-to i row at = Contains-permutation _ _ row (IsPermutation-sym _ _ moved) (Contains-there rows i row at)

    counted : (i : ℕ) (id : ℤ) → rows_with para_of id caches ≡ rows_with para_of id (take i rows) + rows_with para_of id (drop i rows)
    counted i id =
        let test : ParaCells → Bool = λ row. int_eq row.para id in
        let parts = ap length (ap (filter test) (sym (take-append-drop i rows)) ∙ filter-append test (take i rows) (drop i rows)) in
        let long = length-append (filter test (take i rows)) (filter test (drop i rows)) in
        omega (arith, length_permutation _ _ (IsPermutation-filter test _ _ moved), parts, long)

    module _ (i : ℕ) (right : AreRight tables items rows i) where
      keys : IsPermutation (map para_of (take i rows)) (numbers 1 i)
      keys =
          IsPermutation-same (map para_of (take i rows)) (numbers 1 i) (front-keys para_of 1 i rows (λ k less.
          let r = right k less in
          let up : k + 1 ≡ 1 + k = omega arith in
          (r.row, r.row_at, r.para ∙ ap pos up)))

      one-before : (m : ℕ) → 1 ≤ m → m ≤ i → rows_with para_of (pos m) (take i rows) ≡ 1
      one-before = key-once para_of (take i rows) i keys

      none-before : (m : ℕ) → i < m → rows_with para_of (pos m) (take i rows) ≡ 0
      none-before m more =
          none-with para_of (pos m) (take i rows) (λ (row, c, same).
          let k = key-number para_of (take i rows) i keys row c in
          omega (arith, more, same_number k.0 m (sym k.1 ∙ same), k.3))

      none-after : (id : ℤ) → ((j : ℕ) (row : ParaCells) → i ≤ j → slice_get rows j ≡ Some row → ¬ (row.para ≡ id)) → rows_with para_of id (drop i rows) ≡ 0
      none-after id apart = none-with para_of id (drop i rows) (λ (row, c, same). let at = from-drop i rows row c in apart at.0 row at.1 at.2 same)

      -- a right row is sound, where no later row has its id
      right-sound : (k : ℕ) → k < i → (row : ParaCells) → slice_get rows k ≡ Some row → rows_with para_of row.para (drop i rows) ≡ 0 → IsSoundCacheRow tabs paras caches row
      right-sound k less row at alone =
          let r = right k less in
          let same : r.row ≡ row = same_Some r.row row (sym r.row_at ∙ at) in
          let own = row-for k r.held r.at in
          let s = sound own.0 own.1 in
          let id : row.para ≡ pos (k + 1) = sym (ap para_of same) ∙ r.para in
          let b = braille-from own.0 r.held s.meaning own.3 s.table r.row.cells r.cells in
          let c = subst (λ (cells : List ℕ). AreCellsOf s.meaning (chars own.0.print) cells) (ap (λ (row : ParaCells). row.cells) same)
          (subst (λ (print : List ℕ). AreCellsOf s.meaning print r.row.cells) own.3.print b) in
          let before = ap (λ z. rows_with para_of z (take i rows)) id ∙ one-before (k + 1) (omega arith) (omega (arith, less)) in
          record {
            once = omega (arith, counted i row.para, alone, before);
            paragraph = own.0;
            there = own.1;
            named = own.2 ∙ sym id;
            meaning = s.meaning;
            table = s.table;
            choices = c.0;
            tiles = c.1;
            cells = c.2;
          }

      -- nothing below is damaged
      lowest : (reported : ℤ) → ((j : ℕ) (row : ParaCells) → i ≤ j → slice_get rows j ≡ Some row → reported ≤ℤ row.para) → (length items ≤ i) ⊎ (reported ≤ℤ pos (i + 1))
          → (other : ℤ) → IsDamagedCache tabs paras caches other → reported ≤ℤ other
      lowest reported above ends other damage =
          elim (is_le reported other) [
            | inl low ↦ low
            | inr less ↦ elim damage [
              | inl (row, c, same, unsound) ↦
                  let at = place-of rows row (Contains-permutation _ _ row moved c) in
                  elim (cases_lt at.0 i) [
                    | inl front ↦ absurd (unsound (right-sound at.0 front row at.1 (none-after row.para (λ j later from is same_id.
                        less (subst (λ z. reported ≤ℤ z) (same_id ∙ same) (above j later from is))))))
                    | inr behind ↦ subst (λ z. reported ≤ℤ z) same (above at.0 row behind at.1)
                  ]
              | inr ((para, c, same), none) ↦
                  let p = its-place para c in
                  let id : pos (p.0 + 1) ≡ other = sym p.3 ∙ same in
                  elim (cases_lt p.0 i) [
                    | inl front ↦ absurd
                        (let all = counted i other in
                        let before = ap (λ z. rows_with para_of z (take i rows)) (sym id) ∙ one-before (p.0 + 1) (omega arith) (omega (arith, front)) in
                        omega (arith, none, all, before))
                    | inr behind ↦ elim ends [
                      | inl all ↦ absurd (let within = slice_get_within items p.0 p.1 p.2 in omega (arith, behind, all, within))
                      | inr next ↦ absurd (less (omega (arith, ints, id, next, behind)))
                    ]
                  ]
            ]
          ]

    pub whole-rows : AreAllRight tables items rows → IsWhole (IsDamagedCache tabs paras caches)
    whole-rows all other damage =
        by other (lowest (length items) all.right (pos (bound other)) (λ j row low at. absurd (past j row low at)) (inl (omega arith)) other damage)
      where
        bound : ℤ → ℕ
        bound (pos n) = suc n
        bound (negsuc n) = 0

        past : (j : ℕ) (row : ParaCells) → length items ≤ j → slice_get rows j ≡ Some row → ⊥
        past j row low at =
            let found = slice_get-there rows (length items) (omega (arith, low, slice_get_within rows j row at)) in
            let some = found.1 in
            let none = all.none in
            cc

        by : (other : ℤ) → pos (bound other) ≤ℤ other → ⊥
        by (pos n) h = let le = le_from (suc n) n h in omega (arith, le)
        by (negsuc n) h = not_below 0 n h

    lacking : (i : ℕ) (id : ℤ) → AreRight tables items rows i → IsLacking items rows i id → IsFirstId (IsDamagedCache tabs paras caches) id
    lacking i id right l =
        let held = slice_get-there items i l.within in
        let own = row-for i held.0 held.1 in
        let front = none-before i right (i + 1) (omega arith) in
        let rest = none-after i right (pos (i + 1)) (λ j row low at same. past j row low at) in
        let all = counted i (pos (i + 1)) in
        let damage : IsDamagedCache tabs paras caches (pos (i + 1)) = inr ((own.0, own.1, own.2), omega (arith, front, rest, all)) in (
          subst (IsDamagedCache tabs paras caches) (sym l.id_is) damage,
          λ other. subst (λ z. IsDamagedCache tabs paras caches other → z ≤ℤ other) (sym l.id_is)
              (lowest i right (pos (i + 1)) (λ j row low at. absurd (past j row low at)) (inr (pos_le (i + 1) (i + 1) (omega arith))) other),
        )
      where
        past : (j : ℕ) (row : ParaCells) → i ≤ j → slice_get rows j ≡ Some row → ⊥
        past j row low at =
            let found = slice_get-there rows i (omega (arith, low, slice_get_within rows j row at)) in
            let some = found.1 in
            let none = l.none in
            cc

    wrong : (i : ℕ) (id : ℤ) → AreRight tables items rows i → IsWrong tables items rows i id → IsFirstId (IsDamagedCache tabs paras caches) id
    wrong i id right w = (
      subst (IsDamagedCache tabs paras caches) (sym w.id_is) damage,
      λ other. subst (λ z. IsDamagedCache tabs paras caches other → z ≤ℤ other) (sym w.id_is)
          (lowest i right (pos (i + 1)) above (inr (pos_le (i + 1) (i + 1) (omega arith))) other),
    )
      where
        above : (j : ℕ) (row : ParaCells) → i ≤ j → slice_get rows j ≡ Some row → pos (i + 1) ≤ℤ row.para
        above j row low at = omega (arith, ints, rises i j w.row row low w.row_at at, w.no_earlier)

        own : (row : Para) × Contains paras row × (row.id ≡ pos (i + 1)) × IsOf row w.held
        own = row-for i w.held w.at

        unsound : w.row.para ≡ pos (i + 1) → ¬ IsSoundCacheRow tabs paras caches w.row
        unsound is s =
            let p = its-place s.paragraph s.there in
            let place : p.0 ≡ i = omega (arith, same_number (p.0 + 1) (i + 1) (sym p.3 ∙ (s.named ∙ is))) in
            let one : p.1 ≡ w.held = same_Some p.1 w.held (sym p.2 ∙ (ap (slice_get items) place ∙ w.at)) in
            w.wrong (
              is,
              subst (λ held. IsItsBraille tables held w.row.cells) one
                  (braille-to s.paragraph p.1 s.meaning p.4 s.table w.row.cells (s.choices, s.tiles, s.cells)),
            )

        damage : IsDamagedCache tabs paras caches (pos (i + 1))
        damage =
            elim (same_int w.row.para (pos (i + 1))) [
              | inl is ↦ inl (w.row, there-to i w.row w.row_at, is, unsound is)
              | inr other ↦
                  let front = none-before i right (i + 1) (omega arith) in
                  let rest = none-after i right (pos (i + 1)) (λ j row low at same.
                  other (omega (arith, ints, rises i j w.row row low w.row_at at, w.no_earlier, same))) in
                  inr ((own.0, own.1, own.2), omega (arith, front, rest, counted i (pos (i + 1))))
            ]

    surplus : (i : ℕ) (id : ℤ) → AreRight tables items rows i → IsSurplus items rows i id → IsFirstId (IsDamagedCache tabs paras caches) id
    surplus i id right u = (
      subst (IsDamagedCache tabs paras caches) (sym u.id_is) (inl (u.row, there-to i u.row u.row_at, refl, unsound)),
      λ other. subst (λ z. IsDamagedCache tabs paras caches other → z ≤ℤ other) (sym u.id_is)
          (lowest i right u.row.para (λ j row low at. rises i j u.row row low u.row_at at) ends other),
    )
      where
        ends : (length items ≤ i) ⊎ (u.row.para ≤ℤ pos (i + 1))
        ends = elim u.past [
          | inl less ↦ inr (omega (arith, ints, less))
          | inr all ↦ inl (omega (arith, all))
        ]

        within : (m : ℕ) → u.row.para ≡ pos (m + 1) → m < length items → m < i
        within m is less = elim u.past [
          | inl before ↦ omega (arith, ints, before, is)
          | inr all ↦ omega (arith, all, less)
        ]

        unsound : ¬ IsSoundCacheRow tabs paras caches u.row
        unsound s =
            let p = its-place s.paragraph s.there in
            let is : u.row.para ≡ pos (p.0 + 1) = sym s.named ∙ p.3 in
            let front = within p.0 is (slice_get_within items p.0 p.1 p.2) in
            let before = ap (λ z. rows_with para_of z (take i rows)) is ∙ one-before i right (p.0 + 1) (omega arith) (omega (arith, front)) in
            let more = some-with para_of u.row (drop i rows) (to-drop i rows u.row u.row_at) in
            omega (arith, s.once, counted i u.row.para, before, more)

    pub first-misfit : (id : ℤ) → IsMisfit tables items rows id → IsFirstId (IsDamagedCache tabs paras caches) id
    first-misfit id m = elim m.here [
      | inl l ↦ lacking m.index id m.before l
      | inr (inl w) ↦ wrong m.index id m.before w
      | inr (inr u) ↦ surplus m.index id m.before u
    ]

  -- the cells of right rows are those of the paragraphs
  pub their-cells : (rows : List ParaCells) → AreAllRight tables items rows → AreTheirCells tables items (map (λ row. Some row.cells) rows)
  their-cells rows all index held at =
      let r = all.right index (slice_get_within items index held at) in
      let same : r.held ≡ held = same_Some r.held held (sym r.at ∙ at) in (
        r.row.cells,
        slice_get-map (λ (row : ParaCells). Some row.cells) rows index ∙ ap (option_map (λ (row : ParaCells). Some row.cells)) r.row_at,
        subst (λ k. IsItsBraille tables k r.row.cells) same r.cells,
      )
