use Rattle.std.proofs.Common.{◌≡◌, ℕ, ◌+◌, ◌-◌, ◌<◌, ◌≤◌, true, false, List, [], ◌∷◌, ◌++◌, length, sym, ap, ◌∙◌, arith}
use Rattle.std.specs.Prelude.{slice_index}
use Rattle.std.proofs.lemmas.Bool.{cond-false, cond-true}
use Rattle.std.proofs.lemmas.Option.{slice_get-get_or, slice_get_past}
use Rattle.desk_book.specs.ChangePuts.{elsewhere_from, elsewhere_put, place_put, stays_in}
use Rattle.desk_parts.specs.Puts.{RowPut}
use Rattle.desk_book.proofs.RowPuts.PutLists.{along-past, along-there}
use Rattle.desk_book.proofs.puts.first_elsewhere.Goals as goal

-- what is put from an index on, by whether the paragraph there stays
module _ (was order : List ℕ) (index : ℕ) (within : index < length order) where
  abbrev id : ℕ
  id = slice_index order index

  abbrev put : RowPut
  put = place_put id (index + 1)

  along : elsewhere_from index was order ≡ elsewhere_put was (index + 1, id) ++ elsewhere_from (index + 1) was order
  along = along-there order index (elsewhere_put was) id (slice_get-get_or order index 0 within)

  along-moved : stays_in was (index + 1, id) ≡ false → elsewhere_from index was order ≡ put ∷ elsewhere_from (index + 1) was order
  along-moved moves = along ∙ ap (λ (puts : List RowPut). puts ++ elsewhere_from (index + 1) was order) (cond-false (stays_in was (index + 1, id)) [] (put ∷ []) moves)

  along-stayed : stays_in was (index + 1, id) ≡ true → elsewhere_from index was order ≡ elsewhere_from (index + 1) was order
  along-stayed stays = along ∙ ap (λ (puts : List RowPut). puts ++ elsewhere_from (index + 1) was order) (cond-true (stays_in was (index + 1, id)) [] (put ∷ []) stays)

pub returns-then-not-stays-clause-found : goal.returns-then-not-stays-clause-found
returns-then-not-stays-clause-found c =
    let was = c.args.was.now in
    let order = c.args.order.now in
    let index = c.loop-index.index in
    let same : index ≡ index + 1 - 1 = omega arith in
    c.loop-index.invariant ∙ (along-moved was order index (let lt = c.loop-index-test.true in omega arith) (sym c.stays.ensures ∙ c.if-not-stays.true)
    ∙ ap (λ place. place_put (slice_index order place) (index + 1) ∷ elsewhere_from (index + 1) was order) same)

pub loop-index-preserved : goal.loop-index-preserved
loop-index-preserved c = c.loop-index.invariant ∙ along-stayed c.args.was.now c.args.order.now c.loop-index.index (let lt = c.loop-index-test.true in omega arith) (sym c.stays.ensures ∙ c.if-not-stays.false)

pub returns-clause-none : goal.returns-clause-none
returns-clause-none c =
    let order = c.args.order.now in
    let index = c.loop-index.index in
    let past : length order ≤ index = let ends = c.loop-index-test.false in omega arith in
    c.loop-index.invariant ∙ along-past order index (elsewhere_put c.args.was.now) (slice_get_past order index past)
