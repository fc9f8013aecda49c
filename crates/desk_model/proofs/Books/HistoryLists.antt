-- Histories: which corrections are in force, and what an undo brings back.
use Rattle.std.proofs.Common.{◌≡◌, ◌⊎◌, ℕ, zero, suc, ◌+◌, ◌-◌, ◌<◌, ◌≤◌, Bool, true, false, ◌||◌, cond, List, [], ◌∷◌, ◌++◌, length, map, take, get_or, Option, Some, None, refl, sym, ap, subst, ◌∙◌, arith, inl, inr, nat_eq, not, option_map, slice_get, ◌==◌}
use Rattle.std.specs.List.{All, enumerate_from, filter, flat_map, fold, last_or, list_any}
use Rattle.std.proofs.Math.Seq.{take-append_seam}
use Rattle.std.proofs.lemmas.Bool.{cases_Bool, eq-eqb, ne_eqb}
use Rattle.std.proofs.lemmas.List.{length-append, length-take, map-append, take-append-le, take-take, same_from_push, append-nil}
use Rattle.std.proofs.lemmas.List.Concat.{flat_map-append}
use Rattle.std.proofs.lemmas.List.Elements.{All-cons, All-head, All-nil, All-tail, filter-append}
use Rattle.std.proofs.lemmas.List.Folds.{list_any-append}
use Rattle.std.proofs.lemmas.List.Sums.{fold-append}
use Rattle.std.proofs.lemmas.Option.{slice_get_within}
use Rattle.desk_model.specs.Book.{Replacement, Entry, Corrects, Undoes}
use Rattle.desk_model.specs.Print.{corrected_print, in_force, newest, stack, undoes, with_replacement}
use Rattle.desk_model.specs.Sound.{AreSoundEntries, IsSoundEntry}
use Rattle.desk_model.proofs.Lists.Items.{flat_map-agree, here-at}

-- ---- lists

module _ {X : Type 0} where
  -- a list with a last item
  pub last_or-parts : (o : Option X) (xs : List X) (x : X) → last_or o xs ≡ Some x → ((s : List X) × (xs ≡ s ++ x ∷ [])) ⊎ ((xs ≡ []) × (o ≡ Some x))
  last_or-parts o [] x e = inr (refl, e)
  last_or-parts o (y ∷ ys) x e =
      elim (last_or-parts (Some y) ys x e) [
        | inl parts ↦ inl (y ∷ parts.0, ap (λ (t : List X). y ∷ t) parts.1)
        | inr alone ↦ let same : y ≡ x = let given = alone.1 in cc in inl ([], (λ i. same i ∷ alone.0 i))
      ]

  pub last_or-push : (o : Option X) (s : List X) (x : X) → last_or o (s ++ x ∷ []) ≡ Some x
  last_or-push o [] x = refl
  last_or-push o (y ∷ s) x = last_or-push (Some y) s x

  -- a list is empty, or has a last item
  pub push_or_none : (xs : List X) → (xs ≡ []) ⊎ ((s : List X) × (x : X) × (xs ≡ s ++ x ∷ []))
  push_or_none [] = inl refl
  push_or_none (y ∷ ys) =
      elim (push_or_none ys) [
        | inl none ↦ inr ([], y, ap (λ (t : List X). y ∷ t) none)
        | inr parts ↦ inr (y ∷ parts.0, parts.1, ap (λ (t : List X). y ∷ t) parts.2)
      ]

  pub enumerate_from-append : (n : ℕ) (xs ys : List X) → enumerate_from n (xs ++ ys) ≡ enumerate_from n xs ++ enumerate_from (n + length xs) ys
  enumerate_from-append n [] ys = ap (λ (k : ℕ). enumerate_from k ys) (let same : n ≡ n + 0 = omega arith in same)
  enumerate_from-append n (x ∷ xs) ys =
      ap (λ (t : List (ℕ × X)). (n, x) ∷ t) (enumerate_from-append (n + 1) xs ys)
      ∙ ap (λ (k : ℕ). (n, x) ∷ (enumerate_from (n + 1) xs ++ enumerate_from k ys)) (let same : n + 1 + length xs ≡ n + suc (length xs) = omega arith in same)

  pub list_any-none : (p : X → Bool) (xs : List X) → ((i : ℕ) (x : X) → slice_get xs i ≡ Some x → p x ≡ false) → list_any p xs ≡ false
  list_any-none p [] none = refl
  list_any-none p (x ∷ xs) none = rw (none 0 x refl) (list_any-none p xs (λ i y at. none (suc i) y at))

  pub slice_get-take : (xs : List X) (n i : ℕ) (x : X) → slice_get (take n xs) i ≡ Some x → (slice_get xs i ≡ Some x) × (i < n)
  slice_get-take [] zero i x e = absurd (cc)
  slice_get-take [] (suc n) i x e = absurd (cc)
  slice_get-take (y ∷ xs) zero i x e = absurd (cc)
  slice_get-take (y ∷ xs) (suc n) zero x e = (e, omega arith)
  slice_get-take (y ∷ xs) (suc n) (suc i) x e = let rest = slice_get-take xs n i x e in (rest.0, let lt = rest.1 in omega arith)

-- ---- the corrections in force among entries

-- the last correction in force, and those before it, which have smaller numbers
pub record IsLast (k : ℕ) (entries : List Entry) (s : List (ℕ × Replacement)) (n : ℕ) (r : Replacement) : Type 0 where
  pub from : k ≤ n
  pub to : n < k + length entries
  pub who : List ℕ
  pub at : slice_get entries (n - k) ≡ Some (Corrects r who)
  pub below : All (λ c. c.0 < n) s

IsLast-behind : (k : ℕ) (e : Entry) (entries : List Entry) (s : List (ℕ × Replacement)) (n : ℕ) (r : Replacement) → IsLast (k + 1) entries s n r → IsLast k (e ∷ entries) s n r
IsLast-behind k e entries s n r is =
    let from = is.from in
    let to = is.to in
    let next : suc (n - (k + 1)) ≡ n - k = omega arith in
    record {
      from = omega arith;
      to = omega arith;
      who = is.who;
      at = subst (λ (i : ℕ). slice_get (e ∷ entries) i ≡ Some (Corrects r is.who)) next is.at;
      below = is.below;
    }

pub IsLast-parts : (force : List Entry) (k : ℕ) (entries : List Entry) (s : List (ℕ × Replacement)) (n : ℕ) (r : Replacement)
    → flat_map (in_force force) (enumerate_from k entries) ≡ s ++ (n, r) ∷ [] → IsLast k entries s n r
IsLast-parts force k [] [] n r e = absurd (cc)
IsLast-parts force k [] (c ∷ s) n r e = absurd (cc)
IsLast-parts force k (Undoes m ∷ entries) s n r e = IsLast-behind k (Undoes m) entries s n r (IsLast-parts force (k + 1) entries s n r e)
IsLast-parts force k (Corrects q who ∷ entries) s n r e =
    elim (cases_Bool (list_any (undoes k) force)) [
      | inl undone ↦ IsLast-behind k (Corrects q who) entries s n r (IsLast-parts force (k + 1) entries s n r (rw undone at e))
      | inr stays ↦ by (λ t f. IsLast-parts force (k + 1) entries t n r f) s (rw stays at e)
    ]
  where
    by : ((t : List (ℕ × Replacement)) → flat_map (in_force force) (enumerate_from (k + 1) entries) ≡ t ++ (n, r) ∷ [] → IsLast (k + 1) entries t n r) → (t : List (ℕ × Replacement)) → (k, q) ∷ flat_map (in_force force) (enumerate_from (k + 1) entries) ≡ t ++ (n, r) ∷ [] → IsLast k (Corrects q who ∷ entries) t n r
    by rest_is [] f =
        let first : (k, q) ≡ (n, r) = cc in
        let number : k ≡ n = ap (λ (c : ℕ × Replacement). c.0) first in
        let same : q ≡ r = ap (λ (c : ℕ × Replacement). c.1) first in
        let here : 0 ≡ n - k = omega arith in
        record {
          from = omega arith;
          to = omega arith;
          who = who;
          at = subst (λ (i : ℕ). slice_get (Corrects q who ∷ entries) i ≡ Some (Corrects r who)) here (ap (λ (x : Replacement). Some (Corrects x who)) same);
          below = All-nil (λ c. c.0 < n);
        }
    by rest_is (c ∷ t) f =
        let rest : flat_map (in_force force) (enumerate_from (k + 1) entries) ≡ t ++ (n, r) ∷ [] = cc in
        let first : (k, q) ≡ c = cc in
        let number : k ≡ c.0 = ap (λ (x : ℕ × Replacement). x.0) first in
        let is = rest_is t rest in
        let from = is.from in
        let behind = IsLast-behind k (Corrects q who) entries t n r is in
        record { from = behind.from; to = behind.to; who = behind.who; at = behind.at; below = All-cons (λ x. x.0 < n) c t (let lt : c.0 < n = omega arith in lt) is.below }

-- the newest correction in force stands last
pub newest-parts : (h : List Entry) (n : ℕ) (r : Replacement) → newest h ≡ Some (n, r) → (s : List (ℕ × Replacement)) × (stack h ≡ s ++ (n, r) ∷ [])
newest-parts h n r e =
    elim (last_or-parts None (stack h) (n, r) e) [
      | inl parts ↦ parts
      | inr none ↦ absurd (let is = none.1 in cc)
    ]

pub newest-push : (h : List Entry) (s : List (ℕ × Replacement)) (c : ℕ × Replacement) → stack h ≡ s ++ c ∷ [] → newest h ≡ Some c
newest-push h s c e = ap (last_or None) e ∙ last_or-push None s c

-- ---- one entry more

-- an undo takes the correction that it names out of the stack

in_force-undone : (h : List Entry) (n : ℕ) (x : ℕ × Entry) → in_force (h ++ Undoes n ∷ []) x ≡ filter (λ c. not (n == c.0)) (in_force h x)
in_force-undone h n (m, Undoes u) = refl
in_force-undone h n (m, Corrects r who) =
    let more : list_any (undoes m) (h ++ Undoes n ∷ []) ≡ (list_any (undoes m) h || list_any (undoes m) (Undoes n ∷ [])) = list_any-append (undoes m) h (Undoes n ∷ []) in
    elim (cases_Bool (list_any (undoes m) h)) [
      | inl e ↦ rw (more, e) refl
      | inr e ↦ elim (cases_Bool (nat_eq n m)) [
        | inl same ↦ rw (more, e, same) refl
        | inr other ↦ rw (more, e, other) refl
      ]
    ]

flat_map-filter : {X Y : Type 0} (p : Y → Bool) (f g : X → List Y) (xs : List X) → ((x : X) → f x ≡ filter p (g x)) → flat_map f xs ≡ filter p (flat_map g xs)
flat_map-filter p f g [] same = refl
flat_map-filter p f g (x ∷ xs) same = rw (same x, flat_map-filter p f g xs same) (sym (filter-append p (g x) (flat_map g xs)))

-- those with smaller numbers stay
filter-below : (n : ℕ) (s : List (ℕ × Replacement)) → All (λ c. c.0 < n) s → filter (λ c. not (n == c.0)) s ≡ s
filter-below n [] all = refl
filter-below n (c ∷ s) all =
    let lt : c.0 < n = All-head (λ (x : ℕ × Replacement). x.0 < n) c s all in
    let other : nat_eq n c.0 ≡ false = ne_eqb n c.0 (λ same. omega arith) in
    rw other (ap (λ (t : List (ℕ × Replacement)). c ∷ t) (filter-below n s (All-tail (λ (x : ℕ × Replacement). x.0 < n) c s all)))

pub stack-undone : (h : List Entry) (n : ℕ) (r : Replacement) (s : List (ℕ × Replacement)) → stack h ≡ s ++ (n, r) ∷ [] → stack (h ++ Undoes n ∷ []) ≡ s
stack-undone h n r s e =
    let is = IsLast-parts h 1 h s n r e in
    let here : nat_eq n n ≡ true = eq-eqb n n refl in
    ap (flat_map (in_force (h ++ Undoes n ∷ []))) (enumerate_from-append 1 h (Undoes n ∷ []))
    ∙ (flat_map-append (in_force (h ++ Undoes n ∷ [])) (enumerate_from 1 h) (enumerate_from (1 + length h) (Undoes n ∷ []))
    ∙ (append-nil (flat_map (in_force (h ++ Undoes n ∷ [])) (enumerate_from 1 h))
    ∙ (flat_map-filter (λ c. not (n == c.0)) (in_force (h ++ Undoes n ∷ [])) (in_force h) (enumerate_from 1 h) (in_force-undone h n)
    ∙ (ap (filter (λ c. not (n == c.0))) e
    ∙ (filter-append (λ c. not (n == c.0)) s ((n, r) ∷ [])
    ∙ rw (filter-below n s is.below, here) (append-nil s))))))

-- ---- sound entries

-- for histories of at most so many entries the stack before the last correction is what is below it on the stack
abbrev Smaller : List ℕ → ℕ → Type 0
Smaller original fuel =
    (g : List Entry) → length g ≤ fuel → AreSoundEntries original g → (m : ℕ) (q : Replacement) (t : List (ℕ × Replacement)) → stack g ≡ t ++ (m, q) ∷ [] → stack (take (m - 1) g) ≡ t

module _ (original : List ℕ) where
  pub AreSoundEntries-take : (h : List Entry) (n : ℕ) → AreSoundEntries original h → AreSoundEntries original (take n h)
  AreSoundEntries-take h n sound i entry e =
      let at = slice_get-take h n i entry e in
      subst (λ (t : List Entry). IsSoundEntry original t entry) (sym (take-take i n h (let lt = at.1 in omega arith))) (sound i entry at.0)

  -- an undo names an entry before it
  undone-before : (h : List Entry) (m : ℕ) → AreSoundEntries original h → (i u : ℕ) → slice_get h i ≡ Some (Undoes u) → (u ≤ i) × (0 < u)
  undone-before h m sound i u e = by (newest (take i h)) refl (sound i (Undoes u) e)
    where
      by : (o : Option (ℕ × Replacement)) → newest (take i h) ≡ o → option_map (λ correction. correction.0) o ≡ Some u → (u ≤ i) × (0 < u)
      by None f g = absurd (cc)
      by (Some (n, r)) f g =
          let same : n ≡ u = cc in
          let parts = newest-parts (take i h) n r f in
          let is = IsLast-parts (take i h) 1 (take i h) parts.0 n r parts.1 in
          let from = is.from in
          let to = is.to in
          (omega (arith, length-take i h), omega arith)

  -- a correction goes on top of the stack
  pub stack-corrected : (h : List Entry) (r : Replacement) (who : List ℕ) → AreSoundEntries original h → stack (h ++ Corrects r who ∷ []) ≡ stack h ++ (length h + 1, r) ∷ []
  stack-corrected h r who sound =
      let all = h ++ Corrects r who ∷ [] in
      let same : (x : ℕ × Entry) → in_force all x ≡ in_force h x = agrees in
      let number : 1 + length h ≡ length h + 1 = omega arith in
      let none : list_any (undoes (length h + 1)) all ≡ false = list_any-append (undoes (length h + 1)) h (Corrects r who ∷ []) ∙ rw (list_any-none (undoes (length h + 1)) h above) refl in
      ap (flat_map (in_force all)) (enumerate_from-append 1 h (Corrects r who ∷ []))
      ∙ (flat_map-append (in_force all) (enumerate_from 1 h) (enumerate_from (1 + length h) (Corrects r who ∷ []))
      ∙ (ap (λ (t : List (ℕ × Replacement)). t ++ flat_map (in_force all) (enumerate_from (1 + length h) (Corrects r who ∷ []))) (flat_map-agree (in_force all) (in_force h) (enumerate_from 1 h) (λ k d lt. same (get_or (enumerate_from 1 h) k d)))
      ∙ (ap (λ (k : ℕ). stack h ++ flat_map (in_force all) (enumerate_from k (Corrects r who ∷ []))) number
      ∙ rw none refl)))
    where
      or_false : (b : Bool) → (b || false) ≡ b
      or_false true = refl
      or_false false = refl

      agrees : (x : ℕ × Entry) → in_force (h ++ Corrects r who ∷ []) x ≡ in_force h x
      agrees (m, Undoes u) = refl
      agrees (m, Corrects q other) =
          ap (λ (b : Bool). cond b [] ((m, q) ∷ [])) (list_any-append (undoes m) h (Corrects r who ∷ []) ∙ or_false (list_any (undoes m) h))

      above : (i : ℕ) (x : Entry) → slice_get h i ≡ Some x → undoes (length h + 1) x ≡ false
      above i (Corrects q other) e = refl
      above i (Undoes u) e =
          let before = undone-before h 0 sound i u e in
          let within = slice_get_within h i (Undoes u) e in
          ne_eqb u (length h + 1) (λ same. let le = before.0 in omega arith)

  -- the stack before a correction is what is below it on the stack
  below : (fuel : ℕ) (h : List Entry) → length h ≤ fuel → AreSoundEntries original h → (n : ℕ) (r : Replacement) (s : List (ℕ × Replacement)) → stack h ≡ s ++ (n, r) ∷ []
      → stack (take (n - 1) h) ≡ s
  below zero h few sound n r s e = absurd (let is = IsLast-parts h 1 h s n r e in let from = is.from in let to = is.to in omega arith)
  below (suc fuel) h few sound n r s e =
      elim (push_or_none h) [
        | inl none ↦ absurd (let is = IsLast-parts h 1 h s n r e in let from = is.from in let to = is.to in let long = ap length none in omega arith)
        | inr parts ↦ by (λ g less its m q t f. below fuel g less its m q t f) parts.0 parts.1 parts.2
      ]
    where
      by : Smaller original fuel → (front : List Entry) (x : Entry) → h ≡ front ++ x ∷ [] → stack (take (n - 1) h) ≡ s
      by smaller front (Corrects q who) is =
          let count : length h ≡ length front + 1 = ap length is ∙ length-append front (Corrects q who ∷ []) in
          let its : AreSoundEntries original front = subst (AreSoundEntries original) (ap (take (length front)) is ∙ take-append_seam front (Corrects q who ∷ [])) (AreSoundEntries-take h (length front) sound) in
          let both = same_from_push (stack front) s (length front + 1, q) (n, r) (sym (stack-corrected front q who its) ∙ (ap stack (sym is) ∙ e)) in
          let number : length front + 1 ≡ n = ap (λ (c : ℕ × Replacement). c.0) both.1 in
          let less : n - 1 ≡ length front = omega arith in
          ap (λ (k : ℕ). stack (take k h)) less ∙ (ap (λ (t : List Entry). stack (take (length front) t)) is ∙ (ap stack (take-append_seam front (Corrects q who ∷ [])) ∙ both.0))
      by smaller front (Undoes u) is = named (newest front) refl
        where
          long : length h ≡ length front + 1
          long = ap length is ∙ length-append front (Undoes u ∷ [])

          front_is : take (length front) h ≡ front
          front_is = ap (take (length front)) is ∙ take-append_seam front (Undoes u ∷ [])

          its : AreSoundEntries original front
          its = subst (AreSoundEntries original) front_is (AreSoundEntries-take h (length front) sound)

          last : slice_get h (length front) ≡ Some (Undoes u)
          last = ap (λ (t : List Entry). slice_get t (length front)) is ∙ here-at front [] (Undoes u)

          names : option_map (λ correction. correction.0) (newest front) ≡ Some u
          names = subst (λ (t : List Entry). option_map (λ correction. correction.0) (newest t) ≡ Some u) front_is (sound (length front) (Undoes u) last)

          named : (o : Option (ℕ × Replacement)) → newest front ≡ o → stack (take (n - 1) h) ≡ s
          named None f = absurd (let none = sym names ∙ ap (option_map (λ (c : ℕ × Replacement). c.0)) f in cc)
          named (Some (m, q)) f =
              let some : Some m ≡ Some u = ap (option_map (λ (c : ℕ × Replacement). c.0)) (sym f) ∙ names in
              let same : m ≡ u = cc in
              let parts = newest-parts front m q f in
              let is_last = IsLast-parts front 1 front parts.0 m q parts.1 in
              let left : stack h ≡ parts.0 = ap stack is ∙ (ap (λ (k : ℕ). stack (front ++ Undoes k ∷ [])) (sym same) ∙ stack-undone front m q parts.0 parts.1) in
              let g = take (m - 1) front in
              let before : stack g ≡ s ++ (n, r) ∷ [] = smaller front (omega (arith, long)) its m q parts.0 parts.1 ∙ (sym left ∙ e) in
              let g_long = length-take (m - 1) front in
              let at_g = IsLast-parts g 1 g s n r before in
              let to = at_g.to in
              let from = is_last.from in
              let past = is_last.to in
              let small : length g ≤ fuel = omega (arith, g_long, long, few) in
              let less : n - 1 ≤ m - 1 = omega (arith, g_long) in
              let within : n - 1 ≤ length front = omega (arith, g_long) in
              let whole : take (n - 1) h ≡ take (n - 1) front = ap (take (n - 1)) is ∙ take-append-le (n - 1) front (Undoes u ∷ []) within in
              ap stack (whole ∙ sym (take-take (n - 1) (m - 1) front less)) ∙ smaller g small (AreSoundEntries-take front (m - 1) its) n r s before

  pub stack-before : (h : List Entry) → AreSoundEntries original h → (n : ℕ) (r : Replacement) (s : List (ℕ × Replacement)) → stack h ≡ s ++ (n, r) ∷ [] → stack (take (n - 1) h) ≡ s
  stack-before h sound n r s e = below (length h) h (omega arith) sound n r s e

  -- ---- prints

  pub corrected_print-corrects : (h : List Entry) (r : Replacement) (who : List ℕ) → AreSoundEntries original h → corrected_print original (h ++ Corrects r who ∷ []) ≡ with_replacement (corrected_print original h) r
  corrected_print-corrects h r who sound =
      ap (λ (t : List (ℕ × Replacement)). fold with_replacement original (map (λ c. c.1) t)) (stack-corrected h r who sound)
      ∙ (ap (fold with_replacement original) (map-append (λ (c : ℕ × Replacement). c.1) (stack h) ((length h + 1, r) ∷ []))
      ∙ fold-append with_replacement original (map (λ (c : ℕ × Replacement). c.1) (stack h)) (r ∷ []))

  -- an undo takes the newest replacement away
  pub corrected_print-undone : (h : List Entry) (n : ℕ) (r : Replacement) → newest h ≡ Some (n, r) → corrected_print original h ≡ with_replacement (corrected_print original (h ++ Undoes n ∷ [])) r
  corrected_print-undone h n r e =
      let parts = newest-parts h n r e in
      ap (λ (t : List (ℕ × Replacement)). fold with_replacement original (map (λ c. c.1) t)) parts.1
      ∙ (ap (fold with_replacement original) (map-append (λ (c : ℕ × Replacement). c.1) parts.0 ((n, r) ∷ []))
      ∙ (fold-append with_replacement original (map (λ (c : ℕ × Replacement). c.1) parts.0) (r ∷ [])
      ∙ ap (λ (t : List (ℕ × Replacement)). with_replacement (fold with_replacement original (map (λ c. c.1) t)) r) (sym (stack-undone h n r parts.0 parts.1))))

  -- and brings back the print that stood just before the correction
  pub corrected_print-before : (h : List Entry) → AreSoundEntries original h → (n : ℕ) (r : Replacement) → newest h ≡ Some (n, r) → corrected_print original (h ++ Undoes n ∷ []) ≡ corrected_print original (take (n - 1) h)
  corrected_print-before h sound n r e =
      let parts = newest-parts h n r e in
      ap (λ (t : List (ℕ × Replacement)). fold with_replacement original (map (λ c. c.1) t)) (stack-undone h n r parts.0 parts.1 ∙ sym (stack-before h sound n r parts.0 parts.1))
