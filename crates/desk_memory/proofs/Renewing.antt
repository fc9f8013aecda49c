-- Paragraphs whose cells are made anew.
use Rattle.std.proofs.Common.{◌≡◌, ℕ, zero, suc, ◌+◌, ◌-◌, ◌≤◌, List, [], ◌∷◌, ◌++◌, map, length, set, take, drop, slice_get, Option, Some, None, MatchOption, option_map, option_and_then, IsPermutation, flat_map, refl, sym, ap, ◌∙◌, arith}
use Rattle.std.specs.List.{range_with_len}
use Rattle.std.specs.Option.{option_flatten}
use Rattle.std.specs.Vec.Iter.{into_iter_items, into_iter_steps}
use Rattle.std.specs.declared.vec.IntoIter.{IntoIter}
use Rattle.std.proofs.lemmas.List.{nil_from_length}
use Rattle.std.proofs.lemmas.Option.{none-some, same_Some}
use Rattle.desk_memory.specs.Held.{new_cells, paragraph_with_id, renewed_items, with_cells, with_new_cells}
use Rattle.desk_memory.specs.declared.paragraphs.Paragraph.{Paragraph as HeldParagraph}
use Rattle.desk_memory.proofs.Arranging.{IsUpTo, entry_of, map-in_order, paragraph_with_id-there}

pub length-renewed_items : (cells : List (Option (List ℕ))) (items : List HeldParagraph) → length (renewed_items cells items) ≡ length items
length-renewed_items cells [] = refl
length-renewed_items [] (held ∷ items) = refl
length-renewed_items (new ∷ cells) (held ∷ items) = ap suc (length-renewed_items cells items)

option_map-with_none : (found : Option HeldParagraph) → found ≡ option_map (with_cells None) found
option_map-with_none None = refl
option_map-with_none (Some held) = refl

pub slice_get-renewed_items : (cells : List (Option (List ℕ))) (items : List HeldParagraph) (i : ℕ)
    → slice_get (renewed_items cells items) i ≡ option_map (with_cells (option_flatten (slice_get cells i))) (slice_get items i)
slice_get-renewed_items [] (held ∷ items) i = option_map-with_none (slice_get (held ∷ items) i)
slice_get-renewed_items (new ∷ cells) (held ∷ items) (suc i) = slice_get-renewed_items cells items i
slice_get-renewed_items cells items i = refl

flatten_is : (found : Option (Option (List ℕ))) → option_flatten found ≡ option_and_then (λ new. new) found
flatten_is None = refl
flatten_is (Some new) = refl

-- the paragraphs of a book change as their items do
pub with_new_cells-in_order : (cells : List (Option (List ℕ))) (items : List HeldParagraph) (order : List ℕ) → IsPermutation (range_with_len 1 (length items)) order
    → map (with_new_cells cells) (flat_map (paragraph_with_id items) order) ≡ flat_map (paragraph_with_id (renewed_items cells items)) order
with_new_cells-in_order cells items order permutes = map-in_order items order permutes (renewed_items cells items) (with_new_cells cells) each
  where
    each : (id : ℕ) → IsUpTo (length items) id → map (with_new_cells cells) (paragraph_with_id items id) ≡ paragraph_with_id (renewed_items cells items) id
    each id up =
        let found = paragraph_with_id-there items id up in
        let new = ap (λ new. option_map (with_cells new) (slice_get items (id - 1))) (flatten_is (slice_get cells (id - 1))) in
        ap (λ o. map (with_new_cells cells) (entry_of id o)) found.1
        ∙ sym (ap (entry_of id) (slice_get-renewed_items cells items (id - 1) ∙ (new ∙ ap (option_map (with_cells (new_cells cells id))) found.1)))

-- ---- one after the other

-- the items that were reached are new, the others old
abbrev pub reached : {X : Type 0} → ℕ → (new old : List X) → List X
reached i new old = take i new ++ drop i old

pub slice_get-reached : {X : Type 0} (i : ℕ) (new old : List X) → length new ≡ length old → slice_get (reached i new old) i ≡ slice_get old i
slice_get-reached (suc i) [] (x ∷ old) long = absurd (omega arith)
slice_get-reached (suc i) (y ∷ new) [] long = absurd (omega arith)
slice_get-reached (suc i) (y ∷ new) (x ∷ old) long = slice_get-reached i new old (omega arith)
slice_get-reached i new old long = refl

pub set-reached : {X : Type 0} (i : ℕ) (new old : List X) (y : X) → slice_get new i ≡ Some y → length new ≡ length old → set (reached i new old) i y ≡ reached (i + 1) new old
set-reached {X} i new old y at long =
    let next : suc i ≡ i + 1 = omega arith in
    step i new old at long ∙ ap (λ n. reached n new old) next
  where
    step : (i : ℕ) (new old : List X) → slice_get new i ≡ Some y → length new ≡ length old → set (reached i new old) i y ≡ reached (suc i) new old
    step i [] [] at long = absurd (none-some y at)
    step zero (z ∷ new) (x ∷ old) at long = ap (λ w. w ∷ old) (sym (same_Some z y at))
    step (suc i) (z ∷ new) (x ∷ old) at long = ap (λ rest. z ∷ rest) (step i new old at (omega arith))
    step i new old at long = absurd (omega arith)

pub reached_all : {X : Type 0} (i : ℕ) (new old : List X) → length new ≡ length old → length old ≤ i → reached i new old ≡ new
reached_all i [] [] long past = drop-nil i
  where
    drop-nil : {X : Type 0} (i : ℕ) → take {A = X} i [] ++ drop i [] ≡ []
    drop-nil zero = refl
    drop-nil (suc i) = refl
reached_all (suc i) (y ∷ new) (x ∷ old) long past = ap (λ rest. y ∷ rest) (reached_all i new old (omega arith) (omega arith))
reached_all i new old long past = absurd (omega arith)

-- what the next item of a list is, and what is left
pub drop_next : {X : Type 0} (xs : List X) (i : ℕ) (r : Option X) (rest : List X)
    → MatchOption r ((drop i xs ≡ []) × (rest ≡ [])) (λ x. drop i xs ≡ x ∷ rest) → (slice_get xs i ≡ r) × (rest ≡ drop (i + 1) xs)
drop_next {X} xs i r rest next =
    let p = step xs i r next in
    let one : suc i ≡ i + 1 = omega arith in
    (p.0, p.1 ∙ ap (λ n. drop n xs) one)
  where
    step : (xs : List X) (i : ℕ) (r : Option X) → MatchOption r ((drop i xs ≡ []) × (rest ≡ [])) (λ x. drop i xs ≡ x ∷ rest) → (slice_get xs i ≡ r) × (rest ≡ drop (suc i) xs)
    step [] zero (Some x) next = absurd (cc)
    step [] (suc i) (Some x) next = absurd (cc)
    step (y ∷ xs) zero None next = let none : y ∷ xs ≡ [] = next.0 in absurd (cc)
    step (y ∷ xs) zero (Some x) next =
        let head : y ≡ x = cc in
        let tail : xs ≡ rest = cc in
        (ap (λ z. Some z) head, sym tail)
    step (y ∷ xs) (suc i) None next = step xs i None next
    step (y ∷ xs) (suc i) (Some x) next = step xs i (Some x) next
    step xs i r next = (refl, next.1)

-- what an iterator over a vector gives next, and what it has left
pub next_cases : {X Z : Type 0} (old new : IntoIter X Z) (r : Option X) → into_iter_steps old r new
    → MatchOption r ((into_iter_items old ≡ []) × (into_iter_items new ≡ [])) (λ x. into_iter_items old ≡ x ∷ into_iter_items new)
next_cases old new None is = (nil_from_length (into_iter_items old) (sym old.rest.ok.0 ∙ is.0), nil_from_length (into_iter_items new) (sym new.rest.ok.0 ∙ is.1))
next_cases old new (Some x) is = is.0

-- one more item is new
pub reached-renewed : (cells : List (Option (List ℕ))) (old now : List HeldParagraph) (i : ℕ) (next : Option (Option (List ℕ))) (held new : HeldParagraph)
    → now ≡ reached i (renewed_items cells old) old → slice_get now i ≡ Some held → slice_get cells i ≡ next → new ≡ with_cells (option_flatten next) held
    → set now i new ≡ reached (i + 1) (renewed_items cells old) old
reached-renewed cells old now i next held new so_far at given is =
    let long = length-renewed_items cells old in
    let was : slice_get old i ≡ Some held = sym (ap (λ list. slice_get list i) so_far ∙ slice_get-reached i (renewed_items cells old) old long) ∙ at in
    let comes : slice_get (renewed_items cells old) i ≡ Some new =
    slice_get-renewed_items cells old i
    ∙ (ap (option_map (with_cells (option_flatten (slice_get cells i)))) was
    ∙ (ap (λ found. Some (with_cells (option_flatten found) held)) given ∙ ap (λ held. Some held) (sym is))) in
    ap (λ list. set list i new) so_far ∙ set-reached i (renewed_items cells old) old new comes long
