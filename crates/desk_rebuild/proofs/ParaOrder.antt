-- The paragraphs that rows are, read in the order of their ids, by id and by place.
use Rattle.std.proofs.Common.{◌≡◌, ℕ, suc, ◌+◌, ◌-◌, ◌<◌, ℤ, pos, nat_abs, List, [], ◌∷◌, map, length, get_or, Some, Contains, refl, sym, ap, subst, ◌∙◌, arith, All, IsPermutation, slice_get, option_map}
use Rattle.std.proofs.lemmas.List.{length-map}
use Rattle.std.proofs.lemmas.List.Sorted.{All-permutation, Contains-permutation, IsPermutation-map, IsPermutation-sym, length_permutation}
use Rattle.std.proofs.lemmas.Option.{slice_get-get_or, slice_get_within, same_Some, slice_get-map}
use Rattle.desk_memory.specs.declared.paragraphs.Paragraph.{Paragraph as HeldParagraph}
use Rattle.desk_parts.specs.declared.file_table.FileTable.TheVariants as file
use Rattle.desk_parts.specs.FileRows.{HasUtf8Texts}
use Rattle.desk_rebuild.specs.Rows.{AreInPlaces, AreOf, HasHeld, IsWhole}
use Rattle.desk_rebuild.specs.Paras.{AreHeldOf, para_rule}
use Rattle.desk_memory.specs.Held.{HeldTables}
use Rattle.desk_rebuild.specs.OrderedRows.{AreSoundUpTo}
use Rattle.desk_parts.specs.Rows.{Para, Tab}
use Rattle.desk_model.proofs.Lists.Items.{Contains-there, slice_get-there}
use Rattle.desk_rebuild.proofs.OrderedRows.{all-numbers}
use Rattle.desk_model.proofs.Lists.RowNumbers.{numbers, same_number}
use Rattle.desk_model.proofs.Damage.UndamagedRows.{place-of, by_place}
use Rattle.desk_model.specs.Damage.{IsDamagedPara}
use Rattle.std.proofs.lemmas.List.FromFn.{get_or-map-range_with_len, length-range_with_len}
use Rattle.std.specs.List.{range_with_len}

abbrev key : Para → ℤ
key row = row.id

abbrev place_key : Para → ℤ
place_key row = row.place

-- ---- lists

-- places that are the numbers from one on, each at its index
place-at : (n : ℕ) (rows : List Para) → map place_key rows ≡ numbers n (length rows) → (i : ℕ) (row : Para) → slice_get rows i ≡ Some row → row.place ≡ pos (n + i)
place-at n rows is i row at =
    let within = slice_get_within rows i row at in
    let long = length-map (range_with_len n (length rows)) pos in
    let there = slice_get-get_or (numbers n (length rows)) i (pos 0) (omega (arith, within, long, length-range_with_len n (length rows))) in
    same_Some row.place (pos (n + i))
    (sym (slice_get-map place_key rows i ∙ ap (option_map place_key) at)
    ∙ (ap (λ zs. slice_get zs i) is ∙ (there ∙ ap Some (get_or-map-range_with_len pos n (length rows) i (n + i) (pos 0) within refl))))

ids-at : (rows : List Para) (order : List ℕ) → length rows ≡ length order
    → ((i : ℕ) (row : Para) (id : ℕ) → slice_get rows i ≡ Some row → slice_get order i ≡ Some id → row.id ≡ pos id) → map key rows ≡ map pos order
ids-at [] [] long each = refl
ids-at (row ∷ rows) (id ∷ order) long each =
    let rest = ids-at rows order (omega arith) (λ i other its at_row at_id. each (suc i) other its at_row at_id) in
    λ i. each 0 row id refl refl i ∷ rest i
ids-at rows order long each = absurd (omega arith)

-- ---- the paragraphs that the rows are

module _ (tables : HeldTables) (rows sorted : List Para) (moved : IsPermutation rows sorted) (items : List HeldParagraph) (order : List ℕ)
    (have : AreHeldOf tables (length sorted) sorted items order) where
  sound : AreSoundUpTo (para_rule tables sorted) (length sorted) sorted
  sound = have.held.sound

  has-held : (index : ℕ) (row : Para) → index < length sorted → slice_get sorted index ≡ Some row → HasHeld items row
  has-held index row less at =
      let s = (sound index row less at).0 in
      let held = slice_get-there items index (let count = have.held.count_is in omega (arith, less, count)) in
      let place : index ≡ nat_abs row.id - 1 = (let is : nat_abs row.id ≡ index + 1 = ap nat_abs s.next.1 in omega (arith, is)) in
      record {
        held = held.0;
        at = ap (slice_get items) (sym place) ∙ held.1;
        of = (have.held.each index row held.0 at held.1).of;
        original = s.sound.para.original;
        print = s.sound.para.print;
      }

  pub are-of : AreOf rows items
  are-of =
      let back = IsPermutation-sym _ _ moved in
      record {
        texts = All-permutation (HasUtf8Texts file.Para) _ _ back (λ k d within. (sound k (get_or sorted k d) within (slice_get-get_or sorted k d within)).1);
        ids = subst (IsPermutation (map key rows)) (all-numbers (para_rule tables sorted) sorted sound ∙ ap (numbers 1) (sym have.held.count_is)) (IsPermutation-map key _ _ moved);
        each = All-permutation (HasHeld items) _ _ back (λ k d within. has-held k (get_or sorted k d) within (slice_get-get_or sorted k d within));
      }

  pub unmarked : All (λ (held : HeldParagraph). held.marks ≡ []) items
  unmarked k d within =
      let row = slice_get-there sorted k (let count = have.held.count_is in omega (arith, within, count)) in
      (have.held.each k row.0 (get_or items k d) row.1 (slice_get-get_or items k d within)).marks

  -- ---- and by place

  id-at : (index : ℕ) (row : Para) (id : ℕ) → Contains sorted row → row.place ≡ pos (1 + index) → slice_get order index ≡ Some id → row.id ≡ pos id
  id-at index row id c placed at =
      let own = place-of sorted row c in
      let its = have.places.placed own.0 row (slice_get_within sorted own.0 row own.1) own.1 in
      let same : its.index ≡ index = (let one = same_number (its.index + 1) (1 + index) (sym its.is ∙ placed) in omega (arith, one)) in
      let both : Some (own.0 + 1) ≡ Some id = sym its.at ∙ (ap (slice_get order) same ∙ at) in
      let number : own.0 + 1 ≡ id = cc in
      (sound own.0 row (slice_get_within sorted own.0 row own.1) own.1).0.next.1 ∙ ap pos number

  pub in-places : (tabs : List Tab) → IsWhole (IsDamagedPara tabs rows) → AreInPlaces rows order
  in-places tabs whole =
      let placed = by_place tabs rows whole in
      let long = length_permutation _ _ placed.1 in
      let places : map place_key placed.0 ≡ numbers 1 (length placed.0) = sym placed.2 ∙ ap (numbers 1) (sym long) in
      record {
        placed = placed.0;
        same = placed.1;
        places = places;
        ids = ids-at placed.0 order (omega (arith, long, length_permutation _ _ moved, have.places.room)) (λ i row id at_row at_id.
            let among = Contains-permutation _ _ row (IsPermutation-sym _ _ placed.1) (Contains-there placed.0 i row at_row) in
            id-at i row id (Contains-permutation _ _ row moved among) (place-at 1 placed.0 places i row at_row) at_id);
      }
