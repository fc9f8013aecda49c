-- Rows of paragraphs, read in the order of their ids, beside held tables.
use Rattle.std.proofs.Common.{◌≡◌, Option, None, ℕ, zero, suc, ◌+◌, ◌-◌, ◌<◌, ℤ, pos, ◌≤ℤ◌, List, [], ◌∷◌, ◌++◌, map, length, take, drop, set, Some, Contains, refl, sym, ap, subst, ◌∙◌, arith, inl, inr, nat_cmp, ◌≢◌, IsUtf8, nat_eq, option_map, slice_get, chars, length-set, take-append-drop}
use Rattle.std.specs.Cmp.Lexicographic.{pointwise, slice_cmp}
use Rattle.std.specs.List.Sorted.{IsPermutation, IsStrictlySortedBy}
use Rattle.std.specs.Map.{lookup}
use Rattle.std.proofs.lemmas.Bool.{cases_lt}
use Rattle.std.proofs.lemmas.List.Elements.{All-contains, Contains-append_cases}
use Rattle.std.proofs.lemmas.List.Sorted.{Contains-permutation, IsPermutation-sym, length_permutation}
use Rattle.std.proofs.lemmas.Map.Views.{Contains-from_lookup}
use Rattle.std.proofs.lemmas.Option.{slice_get_within}
use Rattle.std.proofs.lemmas.Simd.{map-map}
use Rattle.louis_table.specs.Meaning.{Meaning}
use Rattle.louis_table.specs.Table.{Means}
use Rattle.louis_table.proofs.OneMeaning.{one_meaning}
use Rattle.louis_translate.specs.Position.{AreDefined}
use Rattle.desk_memory.specs.declared.paragraphs.Paragraph.{Paragraph as HeldParagraph}
use Rattle.desk_memory.specs.declared.tables.BookTable.{BookTable}
use Rattle.desk_model.specs.Damage.{IsDamagedPara, IsItsTable, IsNumber, IsSoundParaRow, IsWithin}
use Rattle.desk_parts.specs.declared.file_table.FileTable.TheVariants as file
use Rattle.desk_parts.specs.FileRows.{HasUtf8Texts, spelled}
use Rattle.desk_rebuild.specs.Rows.{AreTables, IsFirstId, IsWhole}
use Rattle.desk_rebuild.specs.Paras.{AreHeldOf, ArePlacedUpTo, IsFree, IsHeldOf, IsParaAt, IsParaOn, para_rule}
use Rattle.desk_memory.specs.Held.{HeldTables}
use Rattle.desk_rebuild.specs.OrderedRows.{AreInOrder, AreSoundUpTo, IsFirstUnsound, IsNext, IsSoundAt, RowRule}
use Rattle.desk_model.specs.Limits.{most_paragraphs}
use Rattle.desk_parts.specs.Rows.{Para, Tab}
use Rattle.desk_model.specs.Shows.{tab_of}
use Rattle.desk_model.proofs.Lists.Items.{Contains-there, drop-there, lookup-map, set-cases, slice_get-set_other, slice_get-set_same, slice_get-there}
use Rattle.desk_model.proofs.Lists.Members.{Contains-map}
use Rattle.desk_rebuild.proofs.OrderedRows.{from-place, held-more as one-more, tells as first-reported, whole as none-damaged}
use Rattle.desk_model.proofs.Lists.RowNumbers.{Contains-from_map, pos_le, same_number}
use Rattle.desk_model.proofs.Damage.SoundRows.{same_bytes}
use Rattle.desk_model.proofs.Lists.Stable.{at_least, le_from}
use Rattle.desk_model.proofs.Lists.TableEntries.{Decides-name, text-there}
use Rattle.desk_model.proofs.Damage.UndamagedRows.{place-of}
use Rattle.desk_model.proofs.Books.HistoryLists.{slice_get-take}

-- ---- rows beside tables

module _ (tabs : List Tab) (tables : HeldTables) (are : AreTables tabs tables) where
  abbrev text_of_entry : List ℕ × BookTable → List ℕ × List ℕ
  text_of_entry entry = (entry.0, entry.1.text)

  abbrev texts : List (List ℕ × List ℕ)
  texts = map text_of_entry tables

  -- the table that the row names is there, where it was found
  pub its-table : (row : Para) → IsUtf8 row.tab → (table : BookTable) → lookup (pointwise nat_eq (chars row.tab)) tables ≡ Some table → IsItsTable tabs row table.rules
  its-table row utf8 table found =
      let entry = Contains-from_lookup (λ x y same. (Decides-name x y).0 same) (chars row.tab) table tables found in
      let stored = Contains-from_map (spelled file.Tab) tabs (tab_of (chars row.tab, table.text))
      (Contains-permutation _ _ (tab_of (chars row.tab, table.text)) (IsPermutation-sym _ _ are.rows)
      (Contains-map (λ (e : List ℕ × BookTable). tab_of (text_of_entry e)) tables (chars row.tab, table) entry)) in
      let body : stored.0.body ≡ table.text = ap (λ (t : Tab). t.body) stored.2 in
      record {
        table = stored.0;
        there = stored.1;
        named = same_bytes stored.0.name row.tab (All-contains (HasUtf8Texts file.Tab) tabs stored.0 are.texts stored.1) utf8 (ap (λ (t : Tab). t.name) stored.2);
        means = subst (λ (text : List ℕ). Means text table.rules) (sym body)
            (All-contains (λ (e : List ℕ × BookTable). Means e.1.text e.1.rules) tables (chars row.tab, table) are.means entry);
      }

  -- and it is found, where it is there
  pub table-found : (row : Para) (meaning : Meaning) → IsItsTable tabs row meaning
      → (table : BookTable) × (lookup (pointwise nat_eq (chars row.tab)) tables ≡ Some table) × (table.rules ≡ meaning)
  table-found row meaning its =
      let stored = Contains-from_map (λ (e : List ℕ × BookTable). tab_of (text_of_entry e)) tables (spelled file.Tab its.table)
      (Contains-permutation _ _ (spelled file.Tab its.table) are.rows
      (Contains-map (spelled file.Tab) tabs its.table its.there)) in
      let name : stored.0.0 ≡ chars row.tab = ap (λ (t : Tab). t.name) stored.2 ∙ ap chars its.named in
      let body : stored.0.1.text ≡ its.table.body = ap (λ (t : Tab). t.body) stored.2 in
      let found = text-there (chars row.tab) its.table.body texts (subst (λ names. IsStrictlySortedBy (slice_cmp nat_cmp) names) (sym (map-map (λ (e : List ℕ × List ℕ). e.0) text_of_entry tables)) are.sorted)
      (subst (λ (text : List ℕ). Contains texts (chars row.tab, text)) body
      (subst (λ (n : List ℕ). Contains texts (n, stored.0.1.text)) name (Contains-map text_of_entry tables stored.0 stored.1))) in
      by (lookup (pointwise nat_eq (chars row.tab)) tables) refl (sym (lookup-map (pointwise nat_eq (chars row.tab)) (λ (t : BookTable). t.text) tables) ∙ found)
    where
      by : (o : Option BookTable) → lookup (pointwise nat_eq (chars row.tab)) tables ≡ o → option_map (λ (t : BookTable). t.text) (lookup (pointwise nat_eq (chars row.tab)) tables) ≡ Some its.table.body
          → (table : BookTable) × (lookup (pointwise nat_eq (chars row.tab)) tables ≡ Some table) × (table.rules ≡ meaning)
      by None is text = absurd (let none = ap (option_map (λ (t : BookTable). t.text)) is in cc)
      by (Some table) is text =
          let own : Some table.text ≡ Some its.table.body = ap (option_map (λ (t : BookTable). t.text)) (sym is) ∙ text in
          let body : table.text ≡ its.table.body = cc in
          let entry = Contains-from_lookup (λ x y same. (Decides-name x y).0 same) (chars row.tab) table tables is in (
            table,
            is,
            one_meaning table.text table.rules meaning (All-contains (λ (e : List ℕ × BookTable). Means e.1.text e.1.rules) tables (chars row.tab, table) are.means entry)
                (subst (λ (t : List ℕ). Means t meaning) (sym body) its.means),
          )

-- ---- a row more

module _ (tables : HeldTables) (count : ℕ) (rows : List Para) (order : List ℕ) (have : ArePlacedUpTo count rows order) (row : Para) where
  -- the place of the row is free where no row before has it
  pub free-place : IsParaAt tables rows count row → (index : ℕ) × IsFree order row.place index
  free-place s =
      let k = at_least 1 row.place s.place.0 in
      let low = k.2 in
      let high = le_from k.0 (length rows) (subst (λ z. z ≤ℤ pos (length rows)) k.1 s.place.1) in
      let is : row.place ≡ pos (k.0 - 1 + 1) = k.1 ∙ ap pos (let same : k.0 ≡ k.0 - 1 + 1 = omega (arith, low) in same) in
      let there = slice_get-there order (k.0 - 1) (omega (arith, low, high, have.room)) in
      by there.0 (k.0 - 1) is there.1
    where
      by : (id index : ℕ) → row.place ≡ pos (index + 1) → slice_get order index ≡ Some id → (index : ℕ) × IsFree order row.place index
      by zero index is at = (index, record { is = is; free = at })
      by (suc id) index is at =
          let other = have.taken index id at in
          absurd (s.own id other.0 other.1 other.2 (other.3 ∙ sym is))

  own-place : (index : ℕ) → IsFree order row.place index → (before : ℕ) (other : Para) → before < count → slice_get rows before ≡ Some other → other.place ≢ row.place
  own-place index free before other early at same =
      let its = have.placed before other early at in
      let number : its.index ≡ index = (let one = same_number (its.index + 1) (index + 1) (sym its.is ∙ (same ∙ free.is)) in omega (arith, one)) in
      let both : Some (before + 1) ≡ Some 0 = sym its.at ∙ (ap (slice_get order) number ∙ free.free) in
      let no : before + 1 ≡ 0 = cc in
      omega (arith, no)

  para-at : (index : ℕ) → IsFree order row.place index → IsParaOn tables row → IsParaAt tables rows count row
  para-at index free on =
      let less = slice_get_within order index 0 free.free in
      record {
        place = subst (IsWithin 1 (length rows)) (sym free.is) (pos_le 1 (index + 1) (omega arith), pos_le (index + 1) (length rows) (omega (arith, less, have.room)));
        own = own-place index free;
        para = on;
      }

  placed-more : (index : ℕ) → IsFree order row.place index → slice_get rows count ≡ Some row → ArePlacedUpTo (count + 1) rows (set order index (count + 1))
  placed-more index free here =
      record {
        room = length-set order index (count + 1) ∙ have.room;
        placed = λ i r less at.
            elim (cases_lt i count) [
              | inl early ↦
                  let its = have.placed i r early at in
                  record {
                    index = its.index;
                    is = its.is;
                    at = slice_get-set_other order index its.index (count + 1)
                        (λ same. own-place index free i r early at (its.is ∙ (ap (λ n. pos (n + 1)) same ∙ sym free.is))) ∙ its.at;
                  }
              | inr late ↦
                  let last : count ≡ i = omega (arith, less, late) in
                  let both : Some row ≡ Some r = sym here ∙ (ap (slice_get rows) last ∙ at) in
                  let same : row ≡ r = cc in
                  record {
                    index = index;
                    is = ap (λ (p : Para). p.place) (sym same) ∙ free.is;
                    at = slice_get-set_same order index (count + 1) (slice_get_within order index 0 free.free) ∙ ap (λ n. Some (n + 1)) last;
                  }
            ];
        taken = λ i id at.
            elim (set-cases order index i (count + 1) (suc id) at) [
              | inl new ↦
                  let is : id ≡ count = (let number = new.1 in omega (arith, number)) in
                  (row, omega (arith, is), ap (slice_get rows) is ∙ here, free.is ∙ ap (λ n. pos (n + 1)) (sym new.0))
              | inr other ↦
                  let its = have.taken i id other.1 in
                  (its.0, (let early = its.1 in omega (arith, early)), its.2, its.3)
            ];
      }

-- a sound row more, its paragraph, and its number at its place
pub held-more : (tables : HeldTables) (count : ℕ) (rows : List Para) (items : List HeldParagraph) (order : List ℕ) → AreHeldOf tables count rows items order
    → (row : Para) (held : HeldParagraph) (index : ℕ) → slice_get rows count ≡ Some row → IsNext most_paragraphs count row.id → IsFree order row.place index
    → IsParaOn tables row → HasUtf8Texts file.Para row → IsHeldOf row held → AreHeldOf tables (count + 1) rows (items ++ held ∷ []) (set order index (count + 1))
held-more tables count rows items order have row held index here next free on texts of =
    record {
      held = one-more (para_rule tables rows) rows IsHeldOf count items row held have.held here
          (record { next = next; sound = para-at tables count rows order have.places row index free on }) texts of;
      places = placed-more tables count rows order have.places row index free here;
    }

-- ---- what is reported

module _ (tabs : List Tab) (tables : HeldTables) (are : AreTables tabs tables) where
  abbrev key : Para → ℤ
  key row = row.id

  para-on : (rows : List Para) (row : Para) → IsSoundParaRow tabs rows row → IsParaOn tables row
  para-on rows row s =
      let its = table-found tabs tables are row s.meaning s.table in
      record {
        original = s.original;
        print = s.print;
        table = record {
          table = its.0;
          found = its.1;
          defined = subst (λ meaning. AreDefined meaning (chars row.print)) (sym its.2) s.defined;
        };
        style = s.style;
        volume = s.volume;
        struck = s.struck;
      }

  sound-row : (rows : List Para) (row : Para) → IsUtf8 row.tab → IsNumber key most_paragraphs rows row.id → IsWithin 1 (length rows) row.place
      → ((other : Para) → Contains rows other → other.place ≡ row.place → row.id ≤ℤ other.id) → IsParaOn tables row → IsSoundParaRow tabs rows row
  sound-row rows row utf8 number place own on =
      record {
        number = number;
        place = place;
        own = own;
        original = on.original;
        print = on.print;
        meaning = on.table.table.rules;
        table = its-table tabs tables are row utf8 on.table.table on.table.found;
        defined = on.table.defined;
        style = on.style;
        volume = on.volume;
        struck = on.struck;
      }

  module _ (rows sorted : List Para) (moved : IsPermutation rows sorted) (up : AreInOrder key sorted) where
    same-length : length rows ≡ length sorted
    same-length = sym (length_permutation _ _ moved)

    abbrev rule : RowRule Para
    rule = para_rule tables sorted

    abbrev number-of : (row : Para) → IsSoundParaRow tabs rows row → IsNumber key most_paragraphs rows row.id
    number-of row s = s.number

    -- a row that is sound at its index, with its number, is sound
    sound-at : (index : ℕ) (row : Para) → slice_get sorted index ≡ Some row → IsNumber key most_paragraphs rows row.id
        → IsSoundAt rule index row → HasUtf8Texts file.Para row → IsSoundParaRow tabs rows row
    sound-at index row at number s texts =
        let split = drop-there sorted index row at in
        let parts : sorted ≡ take index sorted ++ row ∷ drop (index + 1) sorted =
        sym (take-append-drop index sorted) ∙ ap (λ (xs : List Para). take index sorted ++ xs) split.0 in
        sound-row rows row texts.0 number (subst (λ n. IsWithin 1 n row.place) (sym same-length) s.sound.place) (λ other c same.
        elim (Contains-append_cases (take index sorted) (row ∷ drop (index + 1) sorted) other
        (subst (λ xs. Contains xs other) parts (Contains-permutation _ _ other moved c))) [
          | inl early ↦
              let place = place-of (take index sorted) other early in
              let there = slice_get-take sorted index place.0 other place.1 in
              absurd (s.sound.own place.0 other there.1 there.0 same)
          | inr late ↦ from-place key sorted up index row other at (subst (λ xs. Contains xs other) (sym split.0) late)
        ])
        s.sound.para

    -- and a sound row is, where those before it are
    at-sound : (index : ℕ) (row : Para) → slice_get sorted index ≡ Some row → AreSoundUpTo rule index sorted → IsNext most_paragraphs index row.id
        → IsSoundParaRow tabs rows row → IsParaAt tables sorted index row
    at-sound index row at before next sound =
        record {
          place = subst (λ n. IsWithin 1 n row.place) same-length sound.place;
          own = λ place other early there same.
              let c = Contains-permutation _ _ other (IsPermutation-sym _ _ moved) (Contains-there sorted place other there) in
              let its = (before place other early there).0.next.1 in
              let high : pos (index + 1) ≤ℤ pos (place + 1) =
              subst (λ z. z ≤ℤ pos (place + 1)) next.1 (subst (λ z. row.id ≤ℤ z) its (sound.own other c same)) in
              omega (arith, le_from (index + 1) (place + 1) high, early);
          para = para-on rows row sound;
        }

    pub tells : (id : ℤ) → IsFirstUnsound rule sorted id → IsFirstId (IsDamagedPara tabs rows) id
    tells id first = first-reported rule rows sorted moved up (IsSoundParaRow tabs rows) number-of sound-at at-sound id first

    -- nothing is damaged
    pub whole : AreSoundUpTo rule (length sorted) sorted → IsWhole (IsDamagedPara tabs rows)
    whole sound = none-damaged rule rows sorted moved up (IsSoundParaRow tabs rows) number-of sound-at at-sound sound
