-- The place at which an id stands in an order, and at which a new one is put.
use Rattle.std.proofs.Common.{◌≡◌, ℕ, zero, suc, ◌+◌, ◌<◌, true, false, cond, List, [], ◌∷◌, ◌++◌, length, get_or, drop, slice_get, Some, None, Contains, refl, sym, ap, ◌∙◌, arith, inl, inr, nat_eq, nat_lt}
use Rattle.std.specs.List.{All, IsDistinct, insert, position, position_or_len}
use Rattle.std.proofs.Math.Seq.{drop-length, take-length}
use Rattle.std.proofs.lemmas.Bool.{cases_Bool, cond-false, cond-true, eq-eqb, eqb-true, lt-ltb}
use Rattle.std.proofs.lemmas.Cmp.{nat_eq_equiv}
use Rattle.std.proofs.lemmas.List.Elements.{All-from_recursion, All-head, All-tail, All-weaker}
use Rattle.std.proofs.lemmas.List.Quantifiers.{position-Some}
use Rattle.std.proofs.lemmas.List.Recursion.{is_position_or_len}
use Rattle.std.proofs.lemmas.Map.Keys.{IsDistinct-head, IsDistinct-tail}
use Rattle.std.proofs.lemmas.Option.{slice_get_read}
use Rattle.desk_model.specs.declared.command.Anchor.TheVariants.{Para}
use Rattle.desk_memory.specs.Held.{with_id}
use Rattle.desk_model.proofs.Lists.Items.{All-slice_get}
use Rattle.desk_model.proofs.Lists.Members.{Contains-cases, Contains-none}

-- ---- where an id stands

abbrev place_in : ℕ → List ℕ → ℕ
place_in id [] = 0
place_in id (other ∷ order) = cond (nat_eq other id) 0 (1 + place_in id order)

place_in-within : (id : ℕ) (order : List ℕ) → Contains order id → place_in id order < length order
place_in-within id [] c = absurd (Contains-none id c)
place_in-within id (other ∷ order) c =
    elim (cases_Bool (nat_eq other id)) [
      | inl e ↦ rw e (omega arith)
      | inr e ↦ elim (Contains-cases other id order c) [
        | inl same ↦ absurd (let is = eq-eqb other id same in cc)
        | inr rest ↦ let lt = place_in-within id order rest in rw e (omega arith)
      ]
    ]

-- an id that is there has a place
pub position-there : (id : ℕ) (order : List ℕ) → Contains order id → (place : ℕ) × (position (λ other. nat_eq other id) order ≡ Some place)
position-there id order c =
    let is : place_in id order ≡ position_or_len (λ other. nat_eq other id) order = is_position_or_len (place_in id) (λ other. nat_eq other id) refl (λ other others. refl) order in
    let within = place_in-within id order c in
    let lt : nat_lt (position_or_len (λ other. nat_eq other id) order) (length order) ≡ true = lt-ltb (position_or_len (λ other. nat_eq other id) order) (length order) (omega arith) in
    (position_or_len (λ other. nat_eq other id) order, cond-true (nat_lt (position_or_len (λ other. nat_eq other id) order) (length order)) (Some (position_or_len (λ other. nat_eq other id) order)) None lt)

pub position-at : (id place : ℕ) (order : List ℕ) → position (λ other. nat_eq other id) order ≡ Some place → (place < length order) × (slice_get order place ≡ Some id)
position-at id place order e =
    let found = position-Some (λ other. nat_eq other id) order place id e in
    (found.0, slice_get_read order (length order) place id refl found.0 (sym (eqb-true (get_or order place id) id found.1)))

-- ---- an id that is put after another

behind-none : (id new : ℕ) (order : List ℕ) → All (λ other. nat_eq other id ≡ false) order → with_id (Para id) new order ≡ order
behind-none id new [] none = refl
behind-none id new (other ∷ order) none =
    ap (λ (front : List ℕ). front ++ with_id (Para id) new order) (cond-false (nat_eq other id) (other ∷ new ∷ []) (other ∷ []) (All-head (λ o. nat_eq o id ≡ false) other order none))
    ∙ ap (λ (rest : List ℕ). other ∷ rest) (behind-none id new order (All-tail (λ o. nat_eq o id ≡ false) other order none))

-- where all are distinct, it stands at the next place, and nowhere else
insert-behind_from : (id new place : ℕ) (order : List ℕ) → IsDistinct nat_eq order → slice_get order place ≡ Some id → insert order (suc place) new ≡ with_id (Para id) new order
insert-behind_from id new place [] apart at = absurd (cc)
insert-behind_from id new zero (other ∷ order) apart at =
    let same : other ≡ id = cc in
    let others = All-from_recursion (λ o. nat_eq other o ≡ false) order (IsDistinct-head nat_eq other order apart) in
    let none = All-weaker (λ o. nat_eq other o ≡ false) (λ o. nat_eq o id ≡ false) (λ o e. ap (nat_eq o) (sym same) ∙ (nat_eq_equiv.symm o other ∙ e)) order others in
    sym (ap (λ (front : List ℕ). front ++ with_id (Para id) new order) (cond-true (nat_eq other id) (other ∷ new ∷ []) (other ∷ []) (eq-eqb other id same))
    ∙ ap (λ (rest : List ℕ). other ∷ new ∷ rest) (behind-none id new order none))
insert-behind_from id new (suc place) (other ∷ order) apart at =
    let others = All-from_recursion (λ o. nat_eq other o ≡ false) order (IsDistinct-head nat_eq other order apart) in
    let away : nat_eq other id ≡ false = All-slice_get (λ o. nat_eq other o ≡ false) order place id others at in
    ap (λ (rest : List ℕ). other ∷ rest) (insert-behind_from id new place order (IsDistinct-tail nat_eq other order apart) at)
    ∙ sym (ap (λ (front : List ℕ). front ++ with_id (Para id) new order) (cond-false (nat_eq other id) (other ∷ new ∷ []) (other ∷ []) away))

pub insert-behind : (id new place : ℕ) (order : List ℕ) → IsDistinct nat_eq order → slice_get order place ≡ Some id → insert order (place + 1) new ≡ with_id (Para id) new order
insert-behind id new place order apart at =
    let next : place + 1 ≡ suc place = omega arith in
    ap (λ (k : ℕ). insert order k new) next ∙ insert-behind_from id new place order apart at

-- an id that is put after all others
pub insert-end : (new : ℕ) (order : List ℕ) → insert order (length order) new ≡ order ++ new ∷ []
insert-end new order =
    ap (λ (front : List ℕ). front ++ new ∷ drop (length order) order) (take-length order) ∙ ap (λ (back : List ℕ). order ++ new ∷ back) (drop-length order)
