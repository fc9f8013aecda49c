-- What a change lends is put for what its command changes.
use Rattle.std.proofs.Common.{◌≡◌, ℕ, suc, ◌+◌, ◌-◌, ◌<◌, ◌≤◌, Bool, true, false, cond, List, [], ◌∷◌, length, map, drop, Option, Some, None, Contains, refl, sym, ap, subst, ◌∙◌, arith, inl, inr, get_or}
use Rattle.std.specs.List.{All, enumerate_from, filter, flat_map, insert, IsDistinct}
use Rattle.std.specs.Option.{option_map_or}
use Rattle.std.specs.Prelude.{◌==◌, is_some, nat_eq, slice_get}
use Rattle.std.proofs.lemmas.Bool.{cases_Bool, eq-eqb, eqb-true}
use Rattle.std.proofs.lemmas.List.{get_or-drop, get_or_default, length-drop, length-map}
use Rattle.std.proofs.lemmas.List.Edits.{get_or-insert_above, length-insert}
use Rattle.std.proofs.lemmas.List.Elements.{All-append, All-cons, All-map, All-nil}
use Rattle.std.proofs.lemmas.List.FromFn.{get_or-enumerate_from, length-enumerate_from}
use Rattle.std.proofs.lemmas.Option.{slice_get_read}
use Rattle.louis_table.specs.Meaning.{Meaning}
use Rattle.louis_table.specs.Table.{Means}
use Rattle.desk_book.specs.declared.change.Effect.{Effect}
use Rattle.desk_book.specs.declared.change.Effect.TheVariants as effect
use Rattle.desk_memory.specs.declared.history.HeldEntry.{HeldEntry}
use Rattle.desk_memory.specs.declared.history.HeldEntry.TheVariants.{Corrects, Undoes}
use Rattle.desk_model.specs.declared.command.Command.{Command}
use Rattle.desk_parts.specs.Puts.{RowPut}
use Rattle.desk_model.specs.Book.{Book, Mark, Paragraph}
use Rattle.desk_book.specs.ChangePuts.{cache_put, cells_from, cells_put, effect_puts, elsewhere_put, entry_row, further_from, further_put, place_put, print_put, span_put, stays_in, tab_put, version_put}
use Rattle.desk_model.specs.Loans.{AreLent, IsAdded, GetsEntry, IsLent, Reorders, StandsAt, next_entry_number, row_number}
use Rattle.desk_book.specs.Changes.{Carries, Change, Does, change_puts, puts-change_by, has-effect}
use Rattle.desk_memory.specs.Held.{mark_held}
use Rattle.desk_model.specs.ParagraphMarks.{marks_on}
use Rattle.desk_model.specs.Named.{named_by}
use Rattle.desk_model.specs.Sound.{IsSound}
use Rattle.desk_model.specs.NextBook.{next_id, next_mark}
use Rattle.desk_model.proofs.Lists.Members.{Contains-behind, Contains-here}
use Rattle.desk_book.proofs.RowPuts.PutReplacement.{RenewsFrom, renews-all, renews-here, renews-next}
use Rattle.desk_book.proofs.Held.Settled.{Does-carried}
use Rattle.desk_book.proofs.RowPuts.PutOrder.{index-at}
use Rattle.desk_model.proofs.Books.ParagraphLists.{ids_of}
use Rattle.desk_model.proofs.Books.SoundBooks.{paragraph_of-some, paragraphs-apart}

entry-row : (id n : ℕ) (held : HeldEntry) → ((entry_row id n held).entry.para ≡ row_number id) × ((entry_row id n held).entry.seq ≡ row_number n)
entry-row id n (Corrects c) = (refl, refl)
entry-row id n (Undoes undone) = (refl, refl)

module _ (book next : Book) (command : Command) where
  abbrev P : RowPut → Type 0
  P = IsLent book next command

  -- ---- places

  module _ (order : Reorders command) where
    -- those of an order into which an id is put, from that place on
    further-lent : (place new : ℕ) (ids : List ℕ) → ids ≡ ids_of book.paragraphs → IsDistinct nat_eq ids → place ≤ length ids → insert ids place new ≡ ids_of next.paragraphs
        → All P (further_from place ids)
    further-lent place new ids old apart within is = All-map P further_put (drop place (enumerate_from 1 ids)) each
      where
        at : (j id : ℕ) → place ≤ j → j < length ids → id ≡ get_or ids j id → P (further_put (1 + j, id))
        at j id from lt here =
            let next-here : get_or (insert ids place new) (j + 1) id ≡ get_or ids j id = get_or-insert_above ids place new id j from within in
            let long : length (insert ids place new) ≡ length ids + 1 = length-insert ids place new within in
            let there : slice_get (insert ids place new) (j + 1) ≡ Some id =
            slice_get_read (insert ids place new) (length (insert ids place new)) (j + 1) id refl (omega arith) (here ∙ sym next-here) in
            let was : slice_get ids j ≡ Some id = slice_get_read ids (length ids) j id refl lt here in
            let index = index-at ids j id apart was in
            let next-index : 1 + j ≡ j + 1 = omega arith in (
              id,
              j + 1,
              refl,
              ap (λ (n : ℕ). row_number (n + 1)) next-index,
              order,
              (
                ap (λ (o : List ℕ). slice_get o (j + 1)) (sym is) ∙ there,
                λ stood. let other = index-at ids (j + 1) id apart (ap (λ (o : List ℕ). slice_get o (j + 1)) old ∙ stood) in omega arith,
              ),
            )

        each : All (λ x. P (further_put x)) (drop place (enumerate_from 1 ids))
        each k d lt =
            let short : place + k < length ids = omega (arith, length-drop place (enumerate_from 1 ids), length-enumerate_from 1 ids, lt) in
            let read : get_or (drop place (enumerate_from 1 ids)) k d ≡ (1 + (place + k), get_or ids (place + k) d.1) =
            get_or-drop place (enumerate_from 1 ids) k d ∙ get_or-enumerate_from 1 ids (place + k) d short in
            subst (λ (x : ℕ × ℕ). P (further_put x)) (sym read)
            (at (place + k) (get_or ids (place + k) d.1) (omega arith) short (get_or_default ids (place + k) d.1 (get_or ids (place + k) d.1) short))

    place-lent : (old : List ℕ) → old ≡ ids_of book.paragraphs → (n id : ℕ) (stays : Bool) → stays_in old (n + 1, id) ≡ stays → StandsAt next id n
        → All P (cond stays [] (place_put id (n + 1) ∷ []))
    place-lent old is n id true stays at = All-nil P
    place-lent old is n id false moved at =
        All-cons P (place_put id (n + 1)) [] (id, n, refl, refl, order, (at, left)) (All-nil P)
      where
        left : ¬ StandsAt book id n
        left stood =
            let here : n + 1 - 1 ≡ n = omega arith in
            let found : slice_get old (n + 1 - 1) ≡ Some id = ap (slice_get old) here ∙ (ap (λ (o : List ℕ). slice_get o n) is ∙ stood) in
            let same : stays_in old (n + 1, id) ≡ true = ap (λ (o : Option ℕ). option_map_or (λ other. other == id) o false) found ∙ eq-eqb id id refl in
            let both : true ≡ false = sym same ∙ moved in cc

    -- those of an order that stand elsewhere than in the old one
    elsewhere-lent : (old : List ℕ) → old ≡ ids_of book.paragraphs → (n : ℕ) (ids : List ℕ) → ((k id : ℕ) → slice_get ids k ≡ Some id → StandsAt next id (n + k))
        → All P (flat_map (elsewhere_put old) (enumerate_from (n + 1) ids))
    elsewhere-lent old is n [] at = All-nil P
    elsewhere-lent old is n (id ∷ ids) at =
        let here : n + 0 ≡ n = omega arith in
        All-append P (elsewhere_put old (n + 1, id)) (flat_map (elsewhere_put old) (enumerate_from (n + 1 + 1) ids))
        (place-lent old is n id (stays_in old (n + 1, id)) refl (subst (StandsAt next id) here (at 0 id refl)))
        (elsewhere-lent old is (n + 1) ids
        (λ k other e. let further : n + suc k ≡ n + 1 + k = omega arith in subst (StandsAt next other) further (at (suc k) other e)))

  -- ---- marks

  spans-lent : (id start removed added : ℕ) → GetsEntry command id → (marks : List Mark) → ((mark : Mark) → Contains marks mark → Contains book.marks mark)
      → All P (map (span_put start removed added) (filter (λ mark. mark.paragraph == id) marks))
  spans-lent id start removed added grows [] among = All-nil P
  spans-lent id start removed added grows (mark ∷ marks) among =
      let rest = spans-lent id start removed added grows marks (λ other c. among other (Contains-behind mark other marks c)) in
      elim (cases_Bool (mark.paragraph == id)) [
        | inl on ↦ rw on (All-cons P (span_put start removed added mark) (map (span_put start removed added) (filter (λ other. other.paragraph == id) marks))
            (mark, among mark (Contains-here mark marks), refl, subst (GetsEntry command) (sym (eqb-true mark.paragraph id on)) grows) rest)
        | inr off ↦ rw off rest
      ]

  -- ---- cells

  module _ (name text : List ℕ) (meaning : Meaning) (sound : IsSound book) (means : Means text meaning) (is : (named_by command).table_given ≡ Some (name, text)) where
    cells-lent : (n : ℕ) (cells : List (Option (List ℕ))) → 1 ≤ n → n + length cells ≤ length book.paragraphs + 1 → RenewsFrom book meaning name n cells
        → All P (flat_map cells_put (enumerate_from n cells))
    cells-lent n [] one few renews = All-nil P
    cells-lent n (None ∷ cells) one few renews = cells-lent (n + 1) cells (omega arith) (omega (arith, few)) (renews-next book name text meaning sound means n None cells renews)
    cells-lent n (Some new ∷ cells) one few renews =
        let found = paragraph_of-some book sound n one (omega (arith, few)) in
        let uses = (renews-here book name text meaning sound means n (Some new) cells renews) found.0 found.1 in
        All-cons P (cache_put n new) (flat_map cells_put (enumerate_from (n + 1) cells))
        (n, refl, inr (inr (inr (name, text, found.0, is, found.1, uses.0))))
        (cells-lent (n + 1) cells (omega arith) (omega (arith, few)) (renews-next book name text meaning sound means n (Some new) cells renews))

  -- ---- each effect

  pub effect-lent : IsSound book → (e : Effect) → Does book command next e → All P (effect_puts book e)
  effect-lent sound (effect.AddTable name table room) does =
      All-cons P (tab_put name table) [] (name, table.text, does.0.0, refl, refl) (All-nil P)
  effect-lent sound (effect.ReplaceTable name table cells) does =
      All-cons P (tab_put name table) (cells_from 0 cells.items) (name, table.text, does.0.0, refl, refl)
      (cells-lent name table.text table.rules sound does.2 does.0.0 1 cells.items (omega arith) (let few = does.4 in omega arith)
      (renews-all book name table.text table.rules sound does.2 cells.items does.3))
  effect-lent sound (effect.AddParagraph held room order_room place) does =
      let adds : (named_by command).adds_paragraph ≡ true = ap (λ (c : Command). (named_by c).adds_paragraph) does.command_is in
      let added : IsAdded book command (next_id book) = (refl, adds) in
      let reorders : Reorders command = ap (λ (c : Command). is_some (named_by c).place_given) does.command_is in
      let ids : List ℕ = ids_of book.paragraphs in
      let count : length ids ≡ length book.paragraphs = length-map book.paragraphs (λ (other : Paragraph). other.id) in
      let within = does.within in
      let places = further-lent reorders place (next_id book) ids refl (paragraphs-apart book sound) (omega arith) does.order in
      All-cons P _ (cache_put (next_id book) held.cells ∷ further_from place ids) (next_id book, refl, added)
      (All-cons P (cache_put (next_id book) held.cells) (further_from place ids) (next_id book, refl, inl added) places)
  effect-lent sound (effect.ChangePrint id change) does =
      let grows : GetsEntry command id = does.0 in
      let row = entry-row id (next_entry_number book id) change.entry in
      let spans : List RowPut = map (span_put change.start change.removed change.added) (marks_on id book.marks) in
      All-cons P _ (print_put id change.print ∷ cache_put id change.cells ∷ spans) (id, row.0, row.1, grows)
      (All-cons P (print_put id change.print) (cache_put id change.cells ∷ spans) (id, refl, grows)
      (All-cons P (cache_put id change.cells) spans (id, refl, inr (inl grows))
      (spans-lent id change.start change.removed change.added grows book.marks (λ mark c. c))))
  effect-lent sound (effect.AddMark mark room index_room) does =
      All-cons P _ [] (mark_held (next_mark book, mark), refl, ap (λ (b : Book). b.marks) does.0) (All-nil P)
  effect-lent sound (effect.ResolveMark id) does = All-cons P _ [] (id, refl, does.0) (All-nil P)
  effect-lent sound (effect.SetFlags id style begins struck) does = All-cons P _ [] (id, refl, does.0) (All-nil P)
  effect-lent sound (effect.ChangeTable id table cells) does =
      All-cons P _ (cache_put id cells ∷ []) (id, table, refl, refl, does.0.0)
      (All-cons P (cache_put id cells) [] (id, refl, inr (inr (inl (table, does.0.0)))) (All-nil P))
  effect-lent sound (effect.Reorder order) does =
      elsewhere-lent does.0.0 (ids_of book.paragraphs) refl 0 order (λ k id at. ap (λ (o : List ℕ). slice_get o (0 + k)) (sym does.1) ∙ (let from : 0 + k ≡ k = omega arith in ap (slice_get order) from ∙ at))

  pub puts-lent : IsSound book → (version : ℕ) → version ≡ next.version → (e : Effect) → Does book command next e
      → AreLent book next command (version_put version ∷ effect_puts book e)
  puts-lent sound version at e does = All-cons P (version_put version) (effect_puts book e) (refl, ap row_number at) (effect-lent sound e does)

  pub change-lent : IsSound book → (change : Change) → Carries book command next change → AreLent book next command (change_puts book change)
  change-lent sound change carries =
      let some = has-effect change in
      let does = Does-carried book command next change.version change.number some.0 some.0 change some.1 refl carries in
      let same = sym (puts-change_by book change.version change.number some.0) ∙ ap (change_puts book) some.1 in
      subst (λ (puts : List RowPut). AreLent book next command puts) same (puts-lent sound change.version carries.version some.0 does)
