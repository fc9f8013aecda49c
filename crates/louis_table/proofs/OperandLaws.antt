-- The cells that are read of a dots operand are those that it writes.
use Rattle.std.proofs.Common.{◌≡◌, ◌≢◌, ℕ, suc, ◌+◌, ◌<◌, Bool, true, not, eqb, List, [], ◌∷◌, ◌++◌, length, take, drop, get_or, Option, Some, None, option_map, codes, refl, sym, ap, subst, ◌∙◌, inl, inr, arith, append_assoc, add-one, rules, drop-cons}
use Rattle.std.specs.List.{AllByRecursion}
use Rattle.std.proofs.lemmas.Bool.{cases_Bool, eqb-true, eqb-false, eq-eqb, ne_eqb, cond-true, cond-false, not-false}
use Rattle.std.proofs.lemmas.Slice.Eq.{bytes_eq-Decides}
use Rattle.std.proofs.lemmas.List.{append-nil, take-append-drop, take_at, drop_at, length_push, length-append}
use Rattle.std.proofs.lemmas.List.Sums.{prefix_len-le-length, prefix_len_stops}
use Rattle.cell_core.specs.Dots.{ListsDots, SpellsCell, blank, dotted, Dots}
use Rattle.cell_core.specs.Reading.{cells_in}
use Rattle.cell_core.proofs.DotsLaws.{Dots-from_cells_in, cells_in-from_Dots}
use Rattle.louis_table.specs.Table.{PairDots, RuleDots}
use Rattle.louis_table.specs.Steps.Dots.{part_len, pair_parts, both_of, pair_in, rule_in}
use Rattle.louis_table.proofs.FieldLaws.{prefix_at}

-- ---- commas

abbrev not_comma : ℕ → Bool
not_comma c = not (eqb c 44)

-- no comma is among the characters
abbrev pub HasNoComma : List ℕ → Type 0
HasNoComma = AllByRecursion (λ c. not (eqb c 44) ≡ true)

HasNoComma-append : (xs ys : List ℕ) → HasNoComma xs → HasNoComma ys → HasNoComma (xs ++ ys)
HasNoComma-append [] ys h k = k
HasNoComma-append (x ∷ xs) ys h k = (h.0, HasNoComma-append xs ys h.1 k)

ListsDots-no_comma : (digits : List ℕ) (mask : ℕ) → ListsDots digits mask → HasNoComma digits
ListsDots-no_comma [] mask lists = tt
ListsDots-no_comma (digit ∷ digits) mask lists = search (rules, (ListsDots-no_comma digits lists.1 lists.5))

SpellsCell-no_comma : (text : List ℕ) (mask : ℕ) → SpellsCell text mask → HasNoComma text
SpellsCell-no_comma text mask (blank is none) = subst HasNoComma (sym is) (refl, tt)
SpellsCell-no_comma text mask (dotted some lists) = ListsDots-no_comma text mask lists

Dots-no_comma : (text cells : List ℕ) → Dots text cells → HasNoComma text
Dots-no_comma text [] dots = absurd dots
Dots-no_comma text (cell ∷ []) dots = SpellsCell-no_comma text cell dots
Dots-no_comma text (cell ∷ next ∷ cells) dots = search (rules, HasNoComma-append, SpellsCell-no_comma, (Dots-no_comma dots.1 (next ∷ cells) dots.4))

pair_parts-whole : (dots : List ℕ) → part_len dots ≡ length dots → pair_parts dots ≡ (dots, dots)
pair_parts-whole dots e = cond-true _ _ _ (eq-eqb _ _ e)

pair_parts-split : (dots : List ℕ) → part_len dots ≢ length dots → pair_parts dots ≡ (take (part_len dots) dots, drop (part_len dots + 1) dots)
pair_parts-split dots ne = cond-false _ _ _ (ne_eqb _ _ ne)

part_len-whole : (dots : List ℕ) → HasNoComma dots → part_len dots ≡ length dots
part_len-whole dots h = ap part_len (sym (append-nil dots)) ∙ prefix_at not_comma dots [] h tt

part_len-comma : (first second : List ℕ) → HasNoComma first → part_len (first ++ 44 ∷ second) ≡ length first
part_len-comma first second h = prefix_at not_comma first (44 ∷ second) h refl

-- the parts around a comma are read
parts_at : (first second : List ℕ) → HasNoComma first → pair_parts (first ++ 44 ∷ second) ≡ (first, second)
parts_at first second h =
    let len = part_len-comma first second h in
    let short : part_len (first ++ 44 ∷ second) ≢ length (first ++ 44 ∷ second) = λ e. omega (arith, len, length-append first (44 ∷ second)) in
    let behind : drop (length first + 1) (first ++ 44 ∷ second) ≡ second =
    ap (drop (length first + 1)) (sym (append_assoc first (44 ∷ []) second)) ∙ drop_at (first ++ 44 ∷ []) second (length first + 1) (length_push first 44) in
    pair_parts-split (first ++ 44 ∷ second) short
    ∙ (ap (λ (n : ℕ). (take n (first ++ 44 ∷ second), drop (n + 1) (first ++ 44 ∷ second))) len
    ∙ (ap (λ (t : List ℕ). (t, drop (length first + 1) (first ++ 44 ∷ second))) (take_at first (44 ∷ second) (length first) refl)
    ∙ ap (λ (t : List ℕ). (first, t)) behind))

-- a comma stands between the parts
comma_between : (dots : List ℕ) → part_len dots ≢ length dots → dots ≡ take (part_len dots) dots ++ 44 ∷ drop (part_len dots + 1) dots
comma_between dots ne =
    let short : part_len dots < length dots = omega (arith, prefix_len-le-length not_comma dots) in
    let comma : get_or dots (part_len dots) 0 ≡ 44 = eqb-true _ _ (not-false _ (prefix_len_stops not_comma dots 0 short)) in
    sym (take-append-drop (part_len dots) dots)
    ∙ ap (λ (t : List ℕ). take (part_len dots) dots ++ t) (drop-cons dots (part_len dots) 0 short
    ∙ (ap (λ (c : ℕ). c ∷ drop (suc (part_len dots)) dots) comma ∙ ap (λ (n : ℕ). 44 ∷ drop n dots) (sym (add-one (part_len dots)))))

-- ---- upper and lower

both_of-Some : (o p : Option (List ℕ)) (upper lower : List ℕ) → both_of o p ≡ Some (upper, lower) → (o ≡ Some upper) × (p ≡ Some lower)
both_of-Some None p upper lower e = absurd cc
both_of-Some (Some x) None upper lower e = absurd cc
both_of-Some (Some x) (Some y) upper lower e = search rules

pair_in-parts : (dots first second : List ℕ) → pair_parts dots ≡ (first, second) → pair_in dots ≡ both_of (cells_in first) (cells_in second)
unfolding pair_in
pair_in-parts dots first second e = ap (λ (p : List ℕ × List ℕ). both_of (cells_in p.0) (cells_in p.1)) e

pub pair_in-PairDots : (dots upper lower : List ℕ) → pair_in dots ≡ Some (upper, lower) → PairDots dots upper lower
pair_in-PairDots dots upper lower e =
    elim (cases_Bool (eqb (part_len dots) (length dots))) [
      | inl t ↦
          let b = both_of-Some _ _ upper lower (sym (pair_in-parts dots dots dots (pair_parts-whole dots (eqb-true _ _ t))) ∙ e) in
          let same : lower ≡ upper = let one : cells_in dots ≡ Some upper = b.0 in let other : cells_in dots ≡ Some lower = b.1 in cc in
          inl (Dots-from_cells_in dots upper b.0, same)
      | inr f ↦
          let short : part_len dots ≢ length dots = eqb-false _ _ f in
          let b = both_of-Some _ _ upper lower (sym (pair_in-parts dots _ _ (pair_parts-split dots short)) ∙ e) in
          inr (take (part_len dots) dots, drop (part_len dots + 1) dots, comma_between dots short, Dots-from_cells_in _ upper b.0, Dots-from_cells_in _ lower b.1)
    ]

pub PairDots-pair_in : (dots upper lower : List ℕ) → PairDots dots upper lower → pair_in dots ≡ Some (upper, lower)
PairDots-pair_in dots upper lower (inl (d, same)) =
    let read = cells_in-from_Dots dots upper d in
    pair_in-parts dots dots dots (pair_parts-whole dots (part_len-whole dots (Dots-no_comma dots upper d)))
    ∙ (ap (λ (o : Option (List ℕ)). both_of o o) read ∙ ap (λ (l : List ℕ). Some (upper, l)) (sym same))
PairDots-pair_in dots upper lower (inr (first, second, e, d, f)) =
    pair_in-parts dots first second (ap pair_parts e ∙ parts_at first second (Dots-no_comma first upper d))
    ∙ (ap (λ (o : Option (List ℕ)). both_of o (cells_in second)) (cells_in-from_Dots first upper d) ∙ ap (both_of (Some upper)) (cells_in-from_Dots second lower f))

-- ---- rules

map_Some : (o : Option (List ℕ)) (cells : Option (List ℕ)) → option_map Some o ≡ Some cells → (written : List ℕ) × (o ≡ Some written) × (cells ≡ Some written)
map_Some None cells e = absurd cc
map_Some (Some written) cells e = (written, refl, cc)

pub rule_in-RuleDots : (dots : List ℕ) (cells : Option (List ℕ)) → rule_in dots ≡ Some cells → RuleDots dots cells
unfolding rule_in
rule_in-RuleDots dots cells e = search (rules, cond-true, bytes_eq-Decides, map_Some, cond-false, Dots-from_cells_in)

pub RuleDots-rule_in : (dots : List ℕ) (cells : Option (List ℕ)) → RuleDots dots cells → rule_in dots ≡ Some cells
unfolding rule_in
RuleDots-rule_in dots None e = cond-true _ _ _ ((bytes_eq-Decides dots (codes "=")).1 e)
RuleDots-rule_in dots (Some cells) d = search (rules, bytes_eq-Decides, cells_in-from_Dots, cond-false, option_map)
