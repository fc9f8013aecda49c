-- Entries in the order of their keys: what is found among them, and what they are with one more.
use Rattle.std.proofs.Common.{◌≡◌, ℕ, ◌+◌, Bool, true, false, cond, List, [], ◌∷◌, map, length, Option, Some, None, Ordering, Contains, refl, sym, ap, subst, ◌∙◌, T, ◌&&◌, ◌≢◌, nat_eq, is_some, Decides, Less, Equal, Greater}
use Rattle.std.specs.Cmp.{Equal-is, IsTotalOrder, unsigned_ties, unsigned_Decides}
use Rattle.std.specs.Cmp.Lexicographic.{pointwise, pointwise_decides, slice_cmp, lists_ties}
use Rattle.std.specs.FinMap.{slice_cmp-IsAntisymmetric, nat_cmp-IsAntisymmetric}
use Rattle.std.specs.FinMap.Entries.{by_order, put, find, below_all, is_sorted, is_sorted-put, find-put, length-put}
use Rattle.std.specs.List.{All, AllByRecursion}
use Rattle.std.specs.List.Sorted.{IsStrictlySortedBy}
use Rattle.std.specs.Map.{lookup, keys_of}
use Rattle.std.specs.Ordering.{nat_cmp, is_lt, eq_by_cmp}
use Rattle.std.proofs.lemmas.Bool.{cond-true, cond-false, false_from_ne_true}
use Rattle.std.proofs.lemmas.Cmp.{eq_by_cmp_equiv, nat_list_cmp_total}
use Rattle.std.proofs.lemmas.List.Elements.{All-cons, All-head, All-tail}
use Rattle.std.proofs.lemmas.Map.Keys.{IsDistinct-from_sorted}
use Rattle.std.proofs.lemmas.Map.Views.{Contains-from_lookup, lookup-from_Contains}

-- ---- entries in order

less_and : (o : Ordering) (b : Bool) → T (is_lt o && b) → (o ≡ Less) × T b
less_and Less b h = (refl, h)
less_and o b h = absurd h

both_parts : (a b : Bool) → T (a && b) → T a × T b
both_parts true b h = (tt, h)
both_parts false b h = absurd h

both_from : (a b : Bool) → T a → T b → T (a && b)
both_from true b g h = h
both_from false b g h = g

module _ {K X : Type 0} (R : K → K → Ordering) where
  below_from : (x : K) (es : List (K × X)) → AllByRecursion (λ y. R x y ≡ Less) (keys_of es) → T (below_all R x es)
  below_from x [] h = tt
  below_from x (e ∷ es) h = subst (λ o. T (is_lt o && below_all R x es)) (sym h.0) (below_from x es h.1)

  from_below : (x : K) (es : List (K × X)) → T (below_all R x es) → AllByRecursion (λ y. R x y ≡ Less) (keys_of es)
  from_below x [] h = tt
  from_below x (e ∷ es) h = let parts = less_and (R x e.0) (below_all R x es) h in (parts.0, from_below x es parts.1)

  pub is_sorted-keys : (es : List (K × X)) → IsStrictlySortedBy R (keys_of es) → T (is_sorted R es)
  unfolding IsStrictlySortedBy
  is_sorted-keys [] h = tt
  is_sorted-keys (e ∷ es) h = both_from (below_all R e.0 es) (is_sorted R es) (below_from e.0 es h.0) (is_sorted-keys es h.1)

  pub keys-is_sorted : (es : List (K × X)) → T (is_sorted R es) → IsStrictlySortedBy R (keys_of es)
  unfolding IsStrictlySortedBy
  keys-is_sorted [] h = tt
  keys-is_sorted (e ∷ es) h =
      let parts = both_parts (below_all R e.0 es) (is_sorted R es) h in
      (from_below e.0 es parts.0, keys-is_sorted es parts.1)

  -- ---- one entry put among them

  pub IsStrictlySortedBy-put : IsTotalOrder R → (k : K) (v : X) (es : List (K × X)) → IsStrictlySortedBy R (keys_of es) → IsStrictlySortedBy R (keys_of (put R k v es))
  IsStrictlySortedBy-put total k v es h = keys-is_sorted (put R k v es) (is_sorted-put R total k v es (is_sorted-keys es h))

  -- what holds of the entries before, and of the new one, holds of the entries after
  pub All-put : ((x y : K) → R x y ≡ Equal → x ≡ y) → (P : K × X → Type 0) (k : K) (v : X) (es : List (K × X)) → All P es → P (k, v) → All P (put R k v es)
  All-put same P k v [] all new = All-cons P (k, v) [] new all
  All-put same P k v (e ∷ es) all new =
      elim (R k e.0) as (λ r. R k e.0 ≡ r → All P (by_order r ((k, v) ∷ e ∷ es) ((e.0, v) ∷ es) (e ∷ put R k v es))) [
        | Less ↦ λ h. All-cons P (k, v) (e ∷ es) new all
        | Equal ↦ λ h. All-cons P (e.0, v) es (subst (λ x. P (x, v)) (same k e.0 h) new) (All-tail P e es all)
        | Greater ↦ λ h. All-cons P e (put R k v es) (All-head P e es all) (All-put same P k v es (All-tail P e es all) new)
      ] refl

  module _ (E : K → K → Bool) (ties : (x y : K) → E x y ≡ eq_by_cmp R x y) where
    pub lookup-find : (q : K) (es : List (K × X)) → lookup (E q) es ≡ find R q es
    lookup-find q [] = refl
    lookup-find q (e ∷ es) = λ i. cond (ties q e.0 i) (Some e.1) (lookup-find q es i)

    pub lookup-put : IsTotalOrder R → (q k : K) (v : X) (es : List (K × X)) → lookup (E q) (put R k v es) ≡ cond (E q k) (Some v) (lookup (E q) es)
    lookup-put total q k v es =
        lookup-find q (put R k v es) ∙ (find-put R total q k v es ∙ (λ i. cond (sym (ties q k) i) (Some v) (sym (lookup-find q es) i)))

    pub length-put_new : IsTotalOrder R → (k : K) (v : X) (es : List (K × X)) → IsStrictlySortedBy R (keys_of es) → lookup (E k) es ≡ None → length (put R k v es) ≡ length es + 1
    length-put_new total k v es sorted new =
        length-put R total k v es (is_sorted-keys es sorted) ∙ ap (λ (x : Option X). cond (is_some x) (length es) (length es + 1)) (sym (lookup-find k es) ∙ new)

    pub length-put_old : IsTotalOrder R → (k : K) (v w : X) (es : List (K × X)) → IsStrictlySortedBy R (keys_of es) → lookup (E k) es ≡ Some w → length (put R k v es) ≡ length es
    length-put_old total k v w es sorted old =
        length-put R total k v es (is_sorted-keys es sorted) ∙ ap (λ (x : Option X). cond (is_some x) (length es) (length es + 1)) (sym (lookup-find k es) ∙ old)

-- ---- the texts of tables by their names

names_tie : (x y : List ℕ) → pointwise nat_eq x y ≡ eq_by_cmp (slice_cmp nat_cmp) x y
names_tie = lists_ties nat_cmp unsigned_ties

-- the test tells whether two names are equal
pub Decides-name : (x y : List ℕ) → Decides (pointwise nat_eq x y) (x ≡ y)
Decides-name = pointwise_decides unsigned_Decides

-- names that the order tells apart differ
pub apart-name : (x y : List ℕ) → slice_cmp nat_cmp x y ≢ Equal → x ≢ y
apart-name x y apart same = apart ((Equal-is (slice_cmp nat_cmp x y)).0 (sym (names_tie x y) ∙ (Decides-name x y).1 same))

pub same_name : (x y : List ℕ) → slice_cmp nat_cmp x y ≡ Equal → x ≡ y
same_name = slice_cmp-IsAntisymmetric nat_cmp-IsAntisymmetric

-- the text of the table with this name
abbrev pub text_among : List ℕ → List (List ℕ × List ℕ) → Option (List ℕ)
text_among name tables = lookup (pointwise nat_eq name) tables

-- the tables with this text under this name
abbrev pub with_text : List ℕ → List ℕ → List (List ℕ × List ℕ) → List (List ℕ × List ℕ)
with_text name text tables = put (slice_cmp nat_cmp) name text tables

pub text-put : (other name text : List ℕ) (tables : List (List ℕ × List ℕ)) → text_among other (with_text name text tables) ≡ cond (pointwise nat_eq other name) (Some text) (text_among other tables)
text-put other name text tables = lookup-put (slice_cmp nat_cmp) (pointwise nat_eq) names_tie nat_list_cmp_total other name text tables

pub text-put_same : (other name text : List ℕ) (tables : List (List ℕ × List ℕ)) → other ≡ name → text_among other (with_text name text tables) ≡ Some text
text-put_same other name text tables same =
    text-put other name text tables ∙ cond-true (pointwise nat_eq other name) (Some text) (text_among other tables) ((Decides-name other name).1 same)

pub text-put_other : (other name text : List ℕ) (tables : List (List ℕ × List ℕ)) → other ≢ name → text_among other (with_text name text tables) ≡ text_among other tables
text-put_other other name text tables apart =
    text-put other name text tables
    ∙ cond-false (pointwise nat_eq other name) (Some text) (text_among other tables) (false_from_ne_true (pointwise nat_eq other name) (λ e. apart ((Decides-name other name).0 e)))

pub names-put : (name text : List ℕ) (tables : List (List ℕ × List ℕ)) → IsStrictlySortedBy (slice_cmp nat_cmp) (keys_of tables) → IsStrictlySortedBy (slice_cmp nat_cmp) (keys_of (with_text name text tables))
names-put name text tables = IsStrictlySortedBy-put (slice_cmp nat_cmp) nat_list_cmp_total name text tables

pub All-text : (P : List ℕ × List ℕ → Type 0) (name text : List ℕ) (tables : List (List ℕ × List ℕ)) → All P tables → P (name, text) → All P (with_text name text tables)
All-text P name text tables = All-put (slice_cmp nat_cmp) same_name P name text tables

pub count-put_new : (name text : List ℕ) (tables : List (List ℕ × List ℕ)) → IsStrictlySortedBy (slice_cmp nat_cmp) (keys_of tables) → text_among name tables ≡ None → length (with_text name text tables) ≡ length tables + 1
count-put_new name text tables = length-put_new (slice_cmp nat_cmp) (pointwise nat_eq) names_tie nat_list_cmp_total name text tables

pub count-put_old : (name text old : List ℕ) (tables : List (List ℕ × List ℕ)) → IsStrictlySortedBy (slice_cmp nat_cmp) (keys_of tables) → text_among name tables ≡ Some old → length (with_text name text tables) ≡ length tables
count-put_old name text old tables = length-put_old (slice_cmp nat_cmp) (pointwise nat_eq) names_tie nat_list_cmp_total name text old tables

-- a text that is found is that of an entry
pub Contains-text : (name text : List ℕ) (tables : List (List ℕ × List ℕ)) → text_among name tables ≡ Some text → Contains tables (name, text)
Contains-text name text tables = Contains-from_lookup (λ x y. (Decides-name x y).0) name text tables

-- the text of a name that is there
pub text-there : (name text : List ℕ) (tables : List (List ℕ × List ℕ)) → IsStrictlySortedBy (slice_cmp nat_cmp) (map (λ entry. entry.0) tables)
    → Contains tables (name, text) → text_among name tables ≡ Some text
text-there name text tables sorted there =
    (λ i. lookup (λ other. names_tie name other i) tables) ∙ lookup-from_Contains (eq_by_cmp_equiv nat_list_cmp_total) name text tables
    (IsDistinct-from_sorted (slice_cmp nat_cmp) (map (λ entry. entry.0) tables) sorted) there
