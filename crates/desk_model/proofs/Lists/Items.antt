-- Lists by the places of their items.
use Rattle.std.proofs.Common.{◌≡◌, ◌≢◌, ℕ, zero, suc, ◌+◌, ◌<◌, Bool, List, [], ◌∷◌, ◌++◌, map, length, set, slice_get, Option, Some, None, Bor, option_map, All, flat_map, refl, sym, ap, ◌∙◌, subst, inl, inr, arith, map-id, drop, take, Contains, ◌⊎◌, get_or, option_copied}
use Rattle.std.specs.Map.{lookup}
use Rattle.std.specs.List.{range_with_len}
use Rattle.std.specs.Slice.{IsItemAt}
use Rattle.std.proofs.Math.Seq.{take-append_seam}
use Rattle.std.proofs.lemmas.List.{map-append, take-append-le}
use Rattle.std.proofs.lemmas.List.Elements.{All-head, All-tail, All-nil, All-cons}
use Rattle.std.proofs.lemmas.List.FromFn.{map-range_with_len_more}
use Rattle.std.proofs.lemmas.Option.{slice_get_past, slice_get_within, slice_get_read, get_or_from_slice_get, slice_get-get_or}
use Rattle.std.proofs.lemmas.Map.Made.{lookup-map_values}

-- two functions that agree at each element give one list
pub flat_map-agree : {X A : Type 0} (f g : X → List A) (xs : List X) → All (λ x. f x ≡ g x) xs → flat_map f xs ≡ flat_map g xs
flat_map-agree f g [] same = refl
flat_map-agree f g (x ∷ xs) same =
    ap (λ front. front ++ flat_map f xs) (All-head (λ x. f x ≡ g x) x xs same)
    ∙ ap (λ rest. g x ++ rest) (flat_map-agree f g xs (All-tail (λ x. f x ≡ g x) x xs same))

-- a function over the items that come out
pub map-flat_map : {X A B : Type 0} (h : A → B) (f : X → List A) (xs : List X) → map h (flat_map f xs) ≡ flat_map (λ x. map h (f x)) xs
map-flat_map h f [] = refl
map-flat_map h f (x ∷ xs) = map-append h (f x) (flat_map f xs) ∙ ap (λ rest. map h (f x) ++ rest) (map-flat_map h f xs)

-- an item before those that are appended
pub slice_get-append_left : {X : Type 0} (xs ys : List X) (i : ℕ) → i < length xs → slice_get (xs ++ ys) i ≡ slice_get xs i
slice_get-append_left [] ys i within = absurd (omega arith)
slice_get-append_left (x ∷ xs) ys zero within = refl
slice_get-append_left (x ∷ xs) ys (suc i) within = slice_get-append_left xs ys i (omega arith)

pub slice_get-set_same : {X : Type 0} (xs : List X) (i : ℕ) (y : X) → i < length xs → slice_get (set xs i y) i ≡ Some y
slice_get-set_same [] i y within = absurd (omega arith)
slice_get-set_same (x ∷ xs) zero y within = refl
slice_get-set_same (x ∷ xs) (suc i) y within = slice_get-set_same xs i y (omega arith)

pub slice_get-set_other : {X : Type 0} (xs : List X) (i j : ℕ) (y : X) → j ≢ i → slice_get (set xs i y) j ≡ slice_get xs j
slice_get-set_other (x ∷ xs) zero zero y apart = absurd (apart refl)
slice_get-set_other (x ∷ xs) (suc i) (suc j) y apart = slice_get-set_other xs i j y (λ same. apart (ap suc same))
slice_get-set_other xs i j y apart = refl

-- the item at a place of a list is there
pub slice_get-there : {X : Type 0} (xs : List X) (i : ℕ) → i < length xs → (x : X) × (slice_get xs i ≡ Some x)
slice_get-there [] i within = absurd (omega arith)
slice_get-there (x ∷ xs) i within = (get_or (x ∷ xs) i x, slice_get-get_or (x ∷ xs) i x within)

-- what a list lends at a place
pub option_copied-item : {X : Type 0} (xs : List X) (i : ℕ) (r : Option (Bor X)) → IsItemAt xs i r → option_copied r ≡ slice_get xs i
option_copied-item xs i None is = sym (slice_get_past xs i is.3)
option_copied-item xs i (Some x) is = sym (slice_get_read xs (length xs) i x.now refl is.3.0 (is.3.1 x.now))

-- what holds of each item holds of the one at a place
pub All-slice_get : {X : Type 0} (P : X → Type 0) (xs : List X) (i : ℕ) (x : X) → All P xs → slice_get xs i ≡ Some x → P x
All-slice_get P xs i x all is = subst P (get_or_from_slice_get xs i x x is) (all i x (slice_get_within xs i x is))

-- one id more
pub range_with_len-push : (first count : ℕ) → range_with_len first (count + 1) ≡ range_with_len first count ++ (first + count) ∷ []
range_with_len-push first count =
    sym (map-id (range_with_len first (count + 1)))
    ∙ (map-range_with_len_more (λ id. id) first count (first + count) refl
    ∙ ap (λ front. front ++ (first + count) ∷ []) (map-id (range_with_len first count)))

-- what is found among entries with other values
pub lookup-map : {K X Y : Type 0} (test : K → Bool) (f : X → Y) (es : List (K × X)) → lookup test (map (λ e. (e.0, f e.1)) es) ≡ option_map f (lookup test es)
lookup-map test f = lookup-map_values f test

-- what holds of each image holds, of its image, of each element
pub All-from_map : {X Y : Type 0} (P : Y → Type 0) (f : X → Y) (xs : List X) → All P (map f xs) → All (λ x. P (f x)) xs
All-from_map P f [] all = All-nil (λ x. P (f x))
All-from_map P f (x ∷ xs) all = All-cons (λ x. P (f x)) x xs (All-head P (f x) (map f xs) all) (All-from_map P f xs (All-tail P (f x) (map f xs) all))

pub drop-there : {X : Type 0} (xs : List X) (i : ℕ) (x : X) → slice_get xs i ≡ Some x → (drop i xs ≡ x ∷ drop (i + 1) xs) × (i < length xs)
drop-there [] i x e = absurd (cc)
drop-there (y ∷ xs) zero x e = let same : y ≡ x = cc in (ap (λ z. z ∷ xs) same, omega arith)
drop-there (y ∷ xs) (suc i) x e =
    let rest = drop-there xs i x e in
    (rest.0 ∙ ap (λ k. x ∷ drop k (y ∷ xs)) (let next : suc (i + 1) ≡ suc i + 1 = omega arith in next), omega arith)

pub drop-past : {X : Type 0} (xs : List X) (i : ℕ) → slice_get xs i ≡ None → drop i xs ≡ []
drop-past [] zero e = refl
drop-past [] (suc i) e = refl
drop-past (y ∷ xs) zero e = absurd (cc)
drop-past (y ∷ xs) (suc i) e = drop-past xs i e

pub Contains-there : {X : Type 0} (xs : List X) (i : ℕ) (x : X) → slice_get xs i ≡ Some x → Contains xs x
Contains-there xs i x e = (i, slice_get_within xs i x e, get_or_from_slice_get xs i x x e)

-- what stands at a place of a list with one item more, or with another item at one place
pub push-cases : {X : Type 0} (xs : List X) (x : X) (i : ℕ) (y : X) → slice_get (xs ++ x ∷ []) i ≡ Some y
    → ((i < length xs) × (slice_get xs i ≡ Some y)) ⊎ ((i ≡ length xs) × (x ≡ y))
push-cases [] x zero y at = inr (refl, cc)
push-cases [] x (suc i) y at = absurd (cc)
push-cases (z ∷ xs) x zero y at = inl (omega arith, at)
push-cases (z ∷ xs) x (suc i) y at =
    elim (push-cases xs x i y at) [
      | inl early ↦ let less = early.0 in inl (omega (arith, less), early.1)
      | inr last ↦ inr (ap suc last.0, last.1)
    ]

-- what holds of each item after those before it holds so of one item more
pub each-push : {X : Type 0} (P : List X → X → Type 0) (xs : List X) (x : X) → ((i : ℕ) (y : X) → slice_get xs i ≡ Some y → P (take i xs) y) → P xs x
    → (i : ℕ) (y : X) → slice_get (xs ++ x ∷ []) i ≡ Some y → P (take i (xs ++ x ∷ [])) y
each-push P xs x each last i y at =
    elim (push-cases xs x i y at) [
      | inl early ↦ let within = early.0 in subst (λ t. P t y) (sym (take-append-le i xs (x ∷ []) (omega arith))) (each i y early.1)
      | inr here ↦
          let whole : take i (xs ++ x ∷ []) ≡ xs = ap (λ k. take k (xs ++ x ∷ [])) here.0 ∙ take-append_seam xs (x ∷ []) in
          subst (λ t. P t y) (sym whole) (subst (P xs) here.1 last)
    ]

pub set-cases : {X : Type 0} (xs : List X) (j i : ℕ) (new x : X) → slice_get (set xs j new) i ≡ Some x → ((i ≡ j) × (x ≡ new)) ⊎ (¬ (i ≡ j) × (slice_get xs i ≡ Some x))
set-cases [] j i new x at = absurd (cc)
set-cases (y ∷ xs) zero zero new x at = inl (refl, cc)
set-cases (y ∷ xs) (suc j) (suc i) new x at =
    elim (set-cases xs j i new x at) [
      | inl here ↦ inl (ap suc here.0, here.1)
      | inr other ↦ let apart = other.0 in inr (λ same. apart (omega arith), other.1)
    ]
set-cases xs j i new x at = inr (λ same. omega arith, at)

pub here-at : {X : Type 0} (xs ys : List X) (x : X) → slice_get (xs ++ x ∷ ys) (length xs) ≡ Some x
here-at [] ys x = refl
here-at (z ∷ xs) ys x = here-at xs ys x

-- the front of a list, one item longer
pub take-more : {X : Type 0} (xs : List X) (i : ℕ) (x : X) → slice_get xs i ≡ Some x → take (i + 1) xs ≡ take i xs ++ x ∷ []
take-more {X} xs i x at = ap (λ (n : ℕ). take n xs) (let next : i + 1 ≡ suc i = omega arith in next) ∙ step xs i at
  where
    step : (xs : List X) (i : ℕ) → slice_get xs i ≡ Some x → take (suc i) xs ≡ take i xs ++ x ∷ []
    step [] i at = absurd (cc)
    step (y ∷ xs) zero at = let same : y ≡ x = cc in ap (λ z. z ∷ []) same
    step (y ∷ xs) (suc i) at = ap (λ rest. y ∷ rest) (step xs i at)

-- another item at one place, of which a function makes the same
pub map-set_same : {X Y : Type 0} (f : X → Y) (xs : List X) (i : ℕ) (was new : X) → slice_get xs i ≡ Some was → f new ≡ f was → map f (set xs i new) ≡ map f xs
map-set_same f [] i was new at same = refl
map-set_same f (x ∷ xs) zero was new at same = let first : x ≡ was = cc in λ k. (same ∙ ap f (sym first)) k ∷ map f xs
map-set_same f (x ∷ xs) (suc i) was new at same = ap (λ rest. f x ∷ rest) (map-set_same f xs i was new at same)
