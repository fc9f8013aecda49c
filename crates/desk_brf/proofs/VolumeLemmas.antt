-- The paragraphs of a volume, counted one after another.
use Rattle.std.proofs.Common.{◌≡◌, ℕ, zero, suc, ◌+◌, ◌≤◌, Bool, true, false, cond, eqb, ◌&&◌, ◌||◌, List, [], ◌∷◌, ◌++◌, length, take, refl, sym, ap, ◌∙◌, append_assoc, length-append, inl, inr, arith}
use Rattle.std.specs.Prelude.{map, filter, not, count_by}
use Rattle.std.specs.List.{enumerate_from}
use Rattle.std.proofs.lemmas.Bool.{cases_Bool, cond_both, ne_eqb}
use Rattle.std.proofs.lemmas.List.Sums.{sum_by-append}
use Rattle.desk_model.specs.Book.{Book, Paragraph}
use Rattle.desk_brf.specs.Counting.{count_after, in_volume}
use Rattle.desk_brf.specs.Volumes.{opens_volume, remaining, volume_of}

abbrev Entry : Type 0
Entry = ℕ × Paragraph

abbrev live : List Paragraph → List Paragraph
live ps = filter (λ p. not p.struck) ps

take-front : (front : List Entry) (e : Entry) (after : List Entry) (n : ℕ) → n ≡ length front + 1 → take n (front ++ e ∷ after) ≡ front ++ e ∷ []
take-front [] e after n at = ap (λ k. take k (e ∷ after)) (let h : n ≡ suc zero = omega (arith, at) in h)
take-front (f ∷ front) e after n at =
    ap (λ k. take k (f ∷ (front ++ e ∷ after))) (let h : n ≡ suc (length front + 1) = omega (arith, at) in h)
    ∙ ap (λ (es : List Entry). f ∷ es) (take-front front e after (length front + 1) refl)

add_one : (b : Bool) (c : ℕ) → c + cond b 1 0 ≡ cond b (c + 1) c
add_one true c = refl
add_one false c = omega arith

not_first : (k : ℕ) → eqb (k + 1) 0 ≡ false
not_first k = ne_eqb (k + 1) 0 (λ e. omega (arith, e))

left_false : (a b : Bool) → (a || b) ≡ false → a ≡ false
left_false true b e = cc
left_false false b e = refl

some : (b : Bool) (c : ℕ) → eqb (cond (eqb c 0 || b) (c + 1) c) 0 ≡ false
some b c = cond_both (eqb c 0 || b) (c + 1) c (λ n. eqb n 0 ≡ false) (λ _. not_first c) (λ f. left_false (eqb c 0) b f)

counted : (front : List Entry) (k c : ℕ) (p : Paragraph) → c ≡ count_by opens_volume front → eqb c 0 ≡ eqb k 0
    → count_by opens_volume (front ++ (k, p) ∷ []) ≡ count_after c p.begins_volume
counted front k c p count first =
    let all = sum_by-append (λ (x : Entry). cond (opens_volume x) 1 0) front ((k, p) ∷ []) in
    let same = ap (λ b. let n : ℕ = cond (b || p.begins_volume) 1 0 in n) (sym first) in
    omega (arith, all, same, add_one (eqb c 0 || p.begins_volume) c, count)

live-struck : (p : Paragraph) (ps : List Paragraph) (b : Bool) → p.struck ≡ b → live (p ∷ ps) ≡ cond b (live ps) (p ∷ live ps)
live-struck p ps true s = ap (λ b. cond (not b) (p ∷ live ps) (live ps)) s
live-struck p ps false s = ap (λ b. cond (not b) (p ∷ live ps) (live ps)) s

map-cond : (b : Bool) (e : Entry) (es : List Entry) → map (λ x. x.1) (cond b (e ∷ es) es) ≡ cond b (e.1 ∷ map (λ x. x.1) es) (map (λ x. x.1) es)
map-cond true e es = refl
map-cond false e es = refl

module _ (all : List Entry) (number : ℕ) where
  abbrev is_chosen : Entry → Bool
  is_chosen e = eqb (count_by opens_volume (take (e.0 + 1) all)) number

  abbrev chosen : List Entry → List Paragraph
  chosen es = map (λ e. e.1) (filter is_chosen es)

  in_volume-chosen : (front : List Entry) (k c : ℕ) (ps : List Paragraph) → all ≡ front ++ enumerate_from k (live ps) → k ≡ length front → c ≡ count_by opens_volume front
      → eqb c 0 ≡ eqb k 0 → chosen (enumerate_from k (live ps)) ≡ in_volume number c ps
  in_volume-chosen front k c [] e at count first = refl
  in_volume-chosen front k c (p ∷ ps) e at count first =
      let next = count_after c p.begins_volume in
      let here = cond (eqb next number) (p ∷ in_volume number next ps) (in_volume number next ps) in
      elim (cases_Bool p.struck) [
        | inl s ↦
            let skipped : live (p ∷ ps) ≡ live ps = live-struck p ps true s in
            let same : all ≡ front ++ enumerate_from k (live ps) = e ∙ ap (λ (qs : List Paragraph). front ++ enumerate_from k qs) skipped in
            ap (λ (qs : List Paragraph). chosen (enumerate_from k qs)) skipped
            ∙ (in_volume-chosen front k c ps same at count first ∙ sym (ap (λ b. cond b (in_volume number c ps) here) s))
        | inr s ↦
            let taken : live (p ∷ ps) ≡ p ∷ live ps = live-struck p ps false s in
            let others = enumerate_from (k + 1) (live ps) in
            let same : all ≡ front ++ (k, p) ∷ others = e ∙ ap (λ (qs : List Paragraph). front ++ enumerate_from k qs) taken in
            let counted_front = counted front k c p count first in
            let number_is : count_by opens_volume (take (k + 1) all) ≡ next =
            ap (λ (es : List Entry). count_by opens_volume (take (k + 1) es)) same
            ∙ (ap (count_by opens_volume) (take-front front (k, p) others (k + 1) (omega (arith, at))) ∙ counted_front) in
            let joined : all ≡ (front ++ (k, p) ∷ []) ++ others = same ∙ sym (append_assoc front ((k, p) ∷ []) others) in
            let longer = length-append front ((k, p) ∷ []) in
            let size : k + 1 ≡ length (front ++ (k, p) ∷ []) = omega (arith, at, longer) in
            let rest : chosen others ≡ in_volume number next ps =
            in_volume-chosen (front ++ (k, p) ∷ []) (k + 1) next ps joined size (sym counted_front) (some p.begins_volume c ∙ sym (not_first k)) in
            ap (λ (qs : List Paragraph). chosen (enumerate_from k qs)) taken
            ∙ (ap (λ n. map (λ (x : Entry). x.1) (cond (eqb n number) ((k, p) ∷ filter is_chosen others) (filter is_chosen others))) number_is
            ∙ (map-cond (eqb next number) (k, p) (filter is_chosen others)
            ∙ (ap (λ (qs : List Paragraph). cond (eqb next number) (p ∷ qs) qs) rest ∙ sym (ap (λ b. cond b (in_volume number c ps) here) s))))
      ]

-- what is counted is the volume
pub in_volume-is : (book : Book) (number : ℕ) → volume_of book number ≡ in_volume number 0 book.paragraphs
in_volume-is book number = in_volume-chosen (remaining book) number [] 0 0 book.paragraphs refl refl refl refl

-- ---- one paragraph more

module _ (number c next : ℕ) (p : Paragraph) (ps : List Paragraph) (struck begins reported : Bool) (is_struck : struck ≡ p.struck) (is_first : begins ≡ p.begins_volume)
    (count : next ≡ cond struck c (count_after c begins)) (is : reported ≡ (not struck && eqb next number)) where
  in_volume-next : in_volume number c (p ∷ ps) ≡ cond reported (p ∷ in_volume number next ps) (in_volume number next ps)
  in_volume-next =
      let after = count_after c p.begins_volume in
      let here = cond (eqb after number) (p ∷ in_volume number after ps) (in_volume number after ps) in
      elim (cases_Bool p.struck) [
        | inl s ↦
            let h : struck ≡ true = is_struck ∙ s in
            let n : next ≡ c = count ∙ ap (λ b. cond b c (count_after c begins)) h in
            let t : reported ≡ false = is ∙ ap (λ b. not b && eqb next number) h in
            ap (λ b. cond b (in_volume number c ps) here) s
            ∙ (ap (λ k. in_volume number k ps) (sym n) ∙ ap (λ b. cond b (p ∷ in_volume number next ps) (in_volume number next ps)) (sym t))
        | inr s ↦
            let h : struck ≡ false = is_struck ∙ s in
            let n : next ≡ after = count ∙ (ap (λ b. cond b c (count_after c begins)) h ∙ ap (count_after c) is_first) in
            let t : reported ≡ eqb next number = is ∙ ap (λ b. not b && eqb next number) h in
            ap (λ b. cond b (in_volume number c ps) here) s
            ∙ (ap (λ k. cond (eqb k number) (p ∷ in_volume number k ps) (in_volume number k ps)) (sym n)
            ∙ ap (λ b. cond b (p ∷ in_volume number next ps) (in_volume number next ps)) (sym t))
      ]

  pub in_volume-in : reported ≡ true → in_volume number c (p ∷ ps) ≡ p ∷ in_volume number next ps
  in_volume-in t = in_volume-next ∙ ap (λ b. cond b (p ∷ in_volume number next ps) (in_volume number next ps)) t

  pub in_volume-out : reported ≡ false → in_volume number c (p ∷ ps) ≡ in_volume number next ps
  in_volume-out t = in_volume-next ∙ ap (λ b. cond b (p ∷ in_volume number next ps) (in_volume number next ps)) t

  -- no more volumes have begun than paragraphs have gone by
  pub count-few : next ≤ c + 1
  count-few = rw count (by struck (eqb c 0 || begins))
    where
      by : (b d : Bool) → cond b c (cond d (c + 1) c) ≤ c + 1
      by true d = omega arith
      by false true = omega arith
      by false false = omega arith
