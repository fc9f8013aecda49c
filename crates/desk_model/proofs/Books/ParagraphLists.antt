-- Paragraphs in a list, found by their ids.
use Rattle.std.proofs.Common.{◌≡◌, ℕ, false, cond, List, [], ◌∷◌, ◌++◌, map, Option, Some, None, Contains, refl, sym, ap, subst, ◌∙◌, inl, inr, IsPermutation, nat_eq, not, option_map, ◌≢◌}
use Rattle.std.specs.List.{All, filter, find, IsDistinct}
use Rattle.std.specs.Option.{option_map_or}
use Rattle.std.proofs.lemmas.Bool.{cases_Bool, cond-true, cond-false, cond_both, eqb-true, eqb-false, eq-eqb, ne_eqb}
use Rattle.std.proofs.lemmas.Cmp.{nat_eq_equiv}
use Rattle.std.proofs.lemmas.List.Elements.{All-from_recursion, All-contains, All-nil, All-cons, All-head, All-tail}
use Rattle.std.proofs.lemmas.List.Sorted.{Contains-permutation, IsPermutation-refl, IsPermutation-sym, IsPermutation-trans, IsPermutation-cons, IsPermutation-map, IsPermutation-middle, IsPermutation-to_front}
use Rattle.std.proofs.lemmas.Map.Keys.{IsDistinct-head, IsDistinct-tail, IsDistinct-IsPermutation}
use Rattle.desk_model.specs.declared.command.Anchor.{Anchor}
use Rattle.desk_model.specs.declared.command.Anchor.TheVariants.{Front, End, Para}
use Rattle.desk_model.specs.Book.{Book, Paragraph, paragraph_of}
use Rattle.desk_model.specs.Named.{paragraph_before}
use Rattle.desk_model.specs.NextBook.{with_paragraph, with_change, is_after, with_move}
use Rattle.desk_model.proofs.Lists.Members.{Contains-here, Contains-behind, Contains-cases, Contains-none, Contains-map, find-passes, Contains-find, find-map}

-- ---- the ids

abbrev pub ids_of : List Paragraph → List ℕ
ids_of paragraphs = map (λ paragraph. paragraph.id) paragraphs

-- no two paragraphs have one id
abbrev pub AreApart : List Paragraph → Type 0
AreApart paragraphs = IsDistinct nat_eq (ids_of paragraphs)

-- the first paragraph with this id
abbrev pub found : ℕ → List Paragraph → Option Paragraph
found id paragraphs = find (λ paragraph. nat_eq paragraph.id id) paragraphs

-- no other paragraph has the first one's id
pub AreApart-first : (p q : Paragraph) (ps : List Paragraph) → AreApart (p ∷ ps) → Contains ps q → nat_eq p.id q.id ≡ false
AreApart-first p q ps apart c =
    All-contains (λ id. nat_eq p.id id ≡ false) (ids_of ps) q.id
    (All-from_recursion (λ id. nat_eq p.id id ≡ false) (ids_of ps) (IsDistinct-head nat_eq p.id (ids_of ps) apart))
    (Contains-map (λ paragraph. paragraph.id) ps q c)

pub AreApart-rest : (p : Paragraph) (ps : List Paragraph) → AreApart (p ∷ ps) → AreApart ps
AreApart-rest p ps apart = IsDistinct-tail nat_eq p.id (ids_of ps) apart

pub AreApart-permutation : (ps qs : List Paragraph) → IsPermutation ps qs → AreApart ps → AreApart qs
AreApart-permutation ps qs moved apart =
    IsDistinct-IsPermutation nat_eq (λ x y. nat_eq_equiv.symm x y) (ids_of ps) (ids_of qs) (IsPermutation-map (λ (p : Paragraph). p.id) _ _ moved) apart

-- ---- what is found

pub id-found : (id : ℕ) (ps : List Paragraph) (p : Paragraph) → found id ps ≡ Some p → p.id ≡ id
id-found id ps p e = eqb-true p.id id (find-passes (λ q. nat_eq q.id id) ps p e)

pub Contains-found : (id : ℕ) (ps : List Paragraph) (p : Paragraph) → found id ps ≡ Some p → Contains ps p
Contains-found id ps p e = Contains-find (λ q. nat_eq q.id id) ps p e

-- the paragraph of each id that is there is found
pub found-some : (id : ℕ) (ps : List Paragraph) → Contains (ids_of ps) id → (p : Paragraph) × (found id ps ≡ Some p)
found-some id [] c = absurd (Contains-none id c)
found-some id (p ∷ ps) c =
    elim (cases_Bool (nat_eq p.id id)) [
      | inl e ↦ (p, cond-true (nat_eq p.id id) (Some p) (found id ps) e)
      | inr e ↦ elim (Contains-cases p.id id (ids_of ps) c) [
        | inl same ↦ absurd (let is = eq-eqb p.id id same in cc)
        | inr rest ↦ let is = found-some id ps rest in (is.0, cond-false (nat_eq p.id id) (Some p) (found id ps) e ∙ is.1)
      ]
    ]

-- each paragraph is found by its id
pub found-own : (ps : List Paragraph) (p : Paragraph) → AreApart ps → Contains ps p → found p.id ps ≡ Some p
found-own [] p apart c = absurd (Contains-none p c)
found-own (q ∷ ps) p apart c =
    elim (Contains-cases q p ps c) [
      | inl same ↦ cond-true (nat_eq q.id p.id) (Some q) (found p.id ps) (eq-eqb q.id p.id (ap (λ (x : Paragraph). x.id) same)) ∙ ap {B = Option Paragraph} Some same
      | inr rest ↦ cond-false (nat_eq q.id p.id) (Some q) (found p.id ps) (AreApart-first q p ps apart rest) ∙ found-own ps p (AreApart-rest q ps apart) rest
    ]

found_among : (id : ℕ) (ps qs : List Paragraph) (p : Paragraph) → IsPermutation ps qs → AreApart ps → found id ps ≡ Some p → found id qs ≡ Some p
found_among id ps qs p moved apart e =
    let at = found-own qs p (AreApart-permutation ps qs moved apart) (Contains-permutation _ _ p moved (Contains-found id ps p e)) in
    ap (λ (n : ℕ). found n qs) (sym (id-found id ps p e)) ∙ at

-- the order doesn't matter
pub found-permutation : (id : ℕ) (ps qs : List Paragraph) → IsPermutation ps qs → AreApart ps → found id qs ≡ found id ps
found-permutation id ps qs moved apart = by (found id ps) (found id qs) refl refl
  where
    by : (x y : Option Paragraph) → found id ps ≡ x → found id qs ≡ y → found id qs ≡ found id ps
    by (Some p) y e f = found_among id ps qs p moved apart e ∙ sym e
    by None (Some q) e f = sym (found_among id qs ps q (IsPermutation-sym _ _ moved) (AreApart-permutation ps qs moved apart) f ∙ sym f)
    by None None e f = f ∙ sym e

-- ---- a change of one paragraph

-- the change, of the paragraph with this id alone
abbrev pub changed : ℕ → (Paragraph → Paragraph) → Paragraph → Paragraph
changed id change p = cond (nat_eq p.id id) (change p) p

id-changed : (id : ℕ) (change : Paragraph → Paragraph) → ((p : Paragraph) → (change p).id ≡ p.id) → (p : Paragraph) → (changed id change p).id ≡ p.id
id-changed id change keeps p =
    elim (cases_Bool (nat_eq p.id id)) [
      | inl e ↦ ap (λ (q : Paragraph). q.id) (cond-true (nat_eq p.id id) (change p) p e) ∙ keeps p
      | inr e ↦ ap (λ (q : Paragraph). q.id) (cond-false (nat_eq p.id id) (change p) p e)
    ]

pub ids-with_change : (id : ℕ) (change : Paragraph → Paragraph) → ((p : Paragraph) → (change p).id ≡ p.id) → (ps : List Paragraph) → ids_of (with_change id change ps) ≡ ids_of ps
ids-with_change id change keeps [] = refl
ids-with_change id change keeps (p ∷ ps) = λ i. id-changed id change keeps p i ∷ ids-with_change id change keeps ps i

pub found-with_change : (id : ℕ) (change : Paragraph → Paragraph) → ((p : Paragraph) → (change p).id ≡ p.id) → (ps : List Paragraph) (other : ℕ) → found other (with_change id change ps) ≡ option_map (changed id change) (found other ps)
found-with_change id change keeps ps other =
    find-map (λ p. nat_eq p.id other) (changed id change) (λ p. ap (λ (n : ℕ). nat_eq n other) (id-changed id change keeps p)) ps

-- the changed one
pub found-changed : (id : ℕ) (change : Paragraph → Paragraph) → ((p : Paragraph) → (change p).id ≡ p.id) → (ps : List Paragraph) (p : Paragraph) → found id ps ≡ Some p → found id (with_change id change ps) ≡ Some (change p)
found-changed id change keeps ps p e =
    found-with_change id change keeps ps id
    ∙ (ap (option_map (changed id change)) e
    ∙ ap {B = Option Paragraph} Some (cond-true (nat_eq p.id id) (change p) p (eq-eqb p.id id (id-found id ps p e))))

-- any other
pub found-unchanged : (id : ℕ) (change : Paragraph → Paragraph) → ((p : Paragraph) → (change p).id ≡ p.id) → (ps : List Paragraph) (other : ℕ) → other ≢ id → found other (with_change id change ps) ≡ found other ps
found-unchanged id change keeps ps other apart = found-with_change id change keeps ps other ∙ by (found other ps) refl
  where
    by : (x : Option Paragraph) → found other ps ≡ x → option_map (changed id change) x ≡ x
    by None e = refl
    by (Some p) e = ap {B = Option Paragraph} Some (cond-false (nat_eq p.id id) (change p) p (ne_eqb p.id id (λ same. apart (sym (id-found other ps p e) ∙ same))))

-- what holds of each paragraph, and of the changed one, holds of each after the change
pub All-with_change : (P : Paragraph → Type 0) (id : ℕ) (change : Paragraph → Paragraph) (ps : List Paragraph) → All P ps → ((p : Paragraph) → Contains ps p → p.id ≡ id → P p → P (change p)) → All P (with_change id change ps)
All-with_change P id change [] all here = All-nil P
All-with_change P id change (p ∷ ps) all here =
    let first = All-head P p ps all in
    All-cons P (changed id change p) (with_change id change ps)
    (cond_both (nat_eq p.id id) (change p) p P (λ e. here p (Contains-here p ps) (eqb-true p.id id e) first) (λ e. first))
    (All-with_change P id change ps (All-tail P p ps all) (λ q c. here q (Contains-behind p q ps c)))

-- ---- a paragraph more, and one less

-- nothing is added if no paragraph has the id
none-behind : (id : ℕ) (new : Paragraph) (ps : List Paragraph) → ((p : Paragraph) → Contains ps p → nat_eq p.id id ≡ false) → with_paragraph (Para id) new ps ≡ ps
none-behind id new [] none = refl
none-behind id new (p ∷ ps) none =
    ap (λ (front : List Paragraph). front ++ with_paragraph (Para id) new ps) (cond-false (nat_eq p.id id) (p ∷ new ∷ []) (p ∷ []) (none p (Contains-here p ps)))
    ∙ ap (λ (rest : List Paragraph). p ∷ rest) (none-behind id new ps (λ q c. none q (Contains-behind p q ps c)))

-- the paragraphs without the one with this id
abbrev pub without_paragraph : ℕ → List Paragraph → List Paragraph
without_paragraph id ps = filter (λ p. not (nat_eq p.id id)) ps

-- all others stay where no paragraph has the id
none-without : (id : ℕ) (ps : List Paragraph) → ((p : Paragraph) → Contains ps p → nat_eq p.id id ≡ false) → without_paragraph id ps ≡ ps
none-without id [] none = refl
none-without id (p ∷ ps) none =
    cond-true (not (nat_eq p.id id)) (p ∷ without_paragraph id ps) (without_paragraph id ps) (ap not (none p (Contains-here p ps)))
    ∙ ap (λ (rest : List Paragraph). p ∷ rest) (none-without id ps (λ q c. none q (Contains-behind p q ps c)))

-- the others have other ids than the first
apart-behind : (id : ℕ) (p : Paragraph) (ps : List Paragraph) → AreApart (p ∷ ps) → p.id ≡ id → (q : Paragraph) → Contains ps q → nat_eq q.id id ≡ false
apart-behind id p ps apart same q c = ap (nat_eq q.id) (sym same) ∙ (nat_eq_equiv.symm q.id p.id ∙ AreApart-first p q ps apart c)

put-behind : (id : ℕ) (new : Paragraph) (ps : List Paragraph) → AreApart ps → Contains (ids_of ps) id → IsPermutation (new ∷ ps) (with_paragraph (Para id) new ps)
put-behind id new [] apart c = absurd (Contains-none id c)
put-behind id new (p ∷ ps) apart c =
    elim (cases_Bool (nat_eq p.id id)) [
      | inl e ↦
          let rest = none-behind id new ps (apart-behind id p ps apart (eqb-true p.id id e)) in
          let at : with_paragraph (Para id) new (p ∷ ps) ≡ p ∷ new ∷ ps =
          ap (λ (front : List Paragraph). front ++ with_paragraph (Para id) new ps) (cond-true (nat_eq p.id id) (p ∷ new ∷ []) (p ∷ []) e)
          ∙ ap (λ (left : List Paragraph). p ∷ new ∷ left) rest in
          subst (IsPermutation (new ∷ p ∷ ps)) (sym at) (IsPermutation-sym _ _ (IsPermutation-middle (p ∷ []) new ps))
      | inr e ↦ elim (Contains-cases p.id id (ids_of ps) c) [
        | inl same ↦ absurd (let is = eq-eqb p.id id same in cc)
        | inr there ↦
            let at : with_paragraph (Para id) new (p ∷ ps) ≡ p ∷ with_paragraph (Para id) new ps =
            ap (λ (front : List Paragraph). front ++ with_paragraph (Para id) new ps) (cond-false (nat_eq p.id id) (p ∷ new ∷ []) (p ∷ []) e) in
            subst (IsPermutation (new ∷ p ∷ ps)) (sym at) (IsPermutation-trans _ _ _
            (IsPermutation-sym _ _ (IsPermutation-middle (p ∷ []) new ps))
            (IsPermutation-cons p _ _ (put-behind id new ps (AreApart-rest p ps apart) there)))
      ]
    ]

-- a new paragraph joins the others wherever the command says, if it is to stand after one that is there
pub IsPermutation-with_paragraph : (anchor : Anchor) (new : Paragraph) (ps : List Paragraph) → AreApart ps → ((id : ℕ) → Contains (paragraph_before anchor) id → Contains (ids_of ps) id) → IsPermutation (new ∷ ps) (with_paragraph anchor new ps)
IsPermutation-with_paragraph Front new ps apart there = IsPermutation-refl (new ∷ ps)
IsPermutation-with_paragraph End new ps apart there = IsPermutation-sym _ _ (IsPermutation-to_front ps new)
IsPermutation-with_paragraph (Para id) new ps apart there = put-behind id new ps apart (there id (Contains-here id []))

-- a paragraph that is there is taken out from among the others
pub IsPermutation-without_paragraph : (id : ℕ) (p : Paragraph) (ps : List Paragraph) → AreApart ps → found id ps ≡ Some p → IsPermutation ps (p ∷ without_paragraph id ps)
IsPermutation-without_paragraph id p [] apart e = absurd (cc)
IsPermutation-without_paragraph id p (q ∷ ps) apart e =
    elim (cases_Bool (nat_eq q.id id)) [
      | inl h ↦
          let rest = none-without id ps (apart-behind id q ps apart (eqb-true q.id id h)) in
          let left : without_paragraph id (q ∷ ps) ≡ ps = cond-false (not (nat_eq q.id id)) (q ∷ without_paragraph id ps) (without_paragraph id ps) (ap not h) ∙ rest in
          let is : Some q ≡ Some p = sym (cond-true (nat_eq q.id id) (Some q) (found id ps) h) ∙ e in
          let same : q ≡ p = cc in
          subst (IsPermutation (q ∷ ps)) (λ i. same i ∷ sym left i) (IsPermutation-refl (q ∷ ps))
      | inr h ↦
          let left : without_paragraph id (q ∷ ps) ≡ q ∷ without_paragraph id ps = cond-true (not (nat_eq q.id id)) (q ∷ without_paragraph id ps) (without_paragraph id ps) (ap not h) in
          let rest = IsPermutation-without_paragraph id p ps (AreApart-rest q ps apart) (sym (cond-false (nat_eq q.id id) (Some q) (found id ps) h) ∙ e) in
          subst (λ (l : List Paragraph). IsPermutation (q ∷ ps) (p ∷ l)) (sym left) (IsPermutation-trans _ _ _
          (IsPermutation-cons q _ _ rest) (IsPermutation-middle (q ∷ []) p (without_paragraph id ps)))
    ]

-- ---- a paragraph moved

-- what a paragraph is to stand after is among the others
behind_others : (id : ℕ) (anchor : Anchor) (p : Paragraph) (ps : List Paragraph) → AreApart ps → found id ps ≡ Some p → is_after id anchor ≡ false
    → ((other : ℕ) → Contains (paragraph_before anchor) other → (q : Paragraph) × (found other ps ≡ Some q))
    → (other : ℕ) → Contains (paragraph_before anchor) other → Contains (ids_of (without_paragraph id ps)) other
behind_others id (Para place) p ps apart e elsewhere there other c =
    let q = there other c in
    let is : q.0.id ≡ other = id-found other ps q.0 q.1 in
    let among = Contains-permutation _ _ q.0 (IsPermutation-without_paragraph id p ps apart e) (Contains-found other ps q.0 q.1) in
    elim (Contains-cases p q.0 (without_paragraph id ps) among) [
      | inr rest ↦ subst (Contains (ids_of (without_paragraph id ps))) is (Contains-map (λ (r : Paragraph). r.id) (without_paragraph id ps) q.0 rest)
      | inl same ↦ elim (Contains-cases place other [] c) [
        | inr none ↦ absurd (Contains-none other none)
        | inl at ↦ absurd (eqb-false place id elsewhere (at ∙ (sym is ∙ (ap (λ (r : Paragraph). r.id) (sym same) ∙ id-found id ps p e))))
      ]
    ]
behind_others id anchor p ps apart e elsewhere there other c = absurd (Contains-none other c)

-- a paragraph that is moved after one that is there, or to an end, changes its place alone
pub IsPermutation-with_move : (book : Book) (id : ℕ) (anchor : Anchor) (p : Paragraph) → AreApart book.paragraphs → paragraph_of book id ≡ Some p
    → ((other : ℕ) → Contains (paragraph_before anchor) other → (q : Paragraph) × (paragraph_of book other ≡ Some q))
    → IsPermutation book.paragraphs (with_move id anchor book)
IsPermutation-with_move book id anchor p apart e there =
    let ps : List Paragraph = book.paragraphs in
    let others : List Paragraph = without_paragraph id ps in
    let put : Paragraph → List Paragraph = λ q. with_paragraph anchor q others in
    let out = IsPermutation-without_paragraph id p ps apart e in
    elim (cases_Bool (is_after id anchor)) [
      | inl same ↦ subst (IsPermutation ps) (sym (cond-true (is_after id anchor) ps (option_map_or put (paragraph_of book id) ps) same)) (IsPermutation-refl ps)
      | inr elsewhere ↦
          let at : with_move id anchor book ≡ put p =
          cond-false (is_after id anchor) ps (option_map_or put (paragraph_of book id) ps) elsewhere ∙ ap (λ (x : Option Paragraph). option_map_or put x ps) e in
          subst (IsPermutation ps) (sym at) (IsPermutation-trans _ _ _ out
          (IsPermutation-with_paragraph anchor p others (AreApart-rest p others (AreApart-permutation ps (p ∷ others) out apart)) (behind_others id anchor p ps apart e elsewhere there)))
    ]

-- changes that agree on the paragraph with the id make the same paragraphs
pub with_change-same : (id : ℕ) (one : Paragraph) (f g : Paragraph → Paragraph) (ps : List Paragraph) → All (λ p. p.id ≡ id → p ≡ one) ps → f one ≡ g one → with_change id f ps ≡ with_change id g ps
with_change-same id one f g [] alone same = refl
with_change-same id one f g (p ∷ ps) alone same =
    let rest = with_change-same id one f g ps (All-tail (λ (q : Paragraph). q.id ≡ id → q ≡ one) p ps alone) same in
    elim (cases_Bool (nat_eq p.id id)) [
      | inl e ↦
          let is : p ≡ one = All-head (λ (q : Paragraph). q.id ≡ id → q ≡ one) p ps alone (eqb-true p.id id e) in
          let head : f p ≡ g p = ap f is ∙ (same ∙ ap g (sym is)) in
          rw (e, head, rest) refl
      | inr e ↦ rw (e, rest) refl
    ]
