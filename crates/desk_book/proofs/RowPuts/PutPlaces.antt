-- What places that are put make of the rows of paragraphs.
use Rattle.std.proofs.Common.{◌≡◌, ℕ, suc, ◌+◌, ℤ, true, false, cond, List, [], ◌∷◌, map, Contains, refl, sym, ap, subst, ◌∙◌, arith, inl, inr}
use Rattle.std.specs.List.{All, enumerate_from}
use Rattle.std.specs.Ordering.{int_eq}
use Rattle.std.specs.Prelude.{nat_eq}
use Rattle.std.proofs.lemmas.Bool.{cases_Bool, cond-true, cond-false, eq-eqb}
use Rattle.std.proofs.lemmas.List.{map-id}
use Rattle.std.proofs.lemmas.List.Elements.{All-cons, All-contains_itself, All-head, All-nil, All-tail, All-weaker}
use Rattle.std.proofs.lemmas.Simd.{map-map}
use Rattle.desk_model.specs.Book.{Paragraph}
use Rattle.desk_parts.specs.FileRows.{FileRows, HasUtf8Texts, spelled}
use Rattle.desk_parts.specs.declared.file_table.FileTable.TheVariants as tables
use Rattle.desk_parts.specs.Puts.{Place, RowPut, SetColumns, with_puts}
use Rattle.desk_parts.specs.Rows.{Para}
use Rattle.desk_model.specs.Shows.{para_of}
use Rattle.desk_model.proofs.Books.ParagraphLists.{AreApart, AreApart-first, AreApart-rest, ids_of}

-- an id and its place
abbrev pub Places : Type 0
Places = List (ℤ × ℤ)

abbrev pub place_set : ℤ × ℤ → RowPut
place_set e = SetColumns tables.Para e.0 (Place e.1)

abbrev pub placed_by : ℤ × ℤ → Para → Para
placed_by e p = cond (int_eq p.id e.0) (record p { place = e.1 }) p

-- the row once all are put
abbrev pub placed : Places → Para → Para
placed [] p = p
placed (e ∷ es) p = placed es (placed_by e p)

pub places-put : (es : Places) (rows : FileRows) → with_puts (map place_set es) rows ≡ record rows { paras = map (placed es) rows.paras }
places-put [] rows = λ i. record rows { paras = sym (map-id rows.paras) i }
places-put (e ∷ es) rows =
    places-put es (record rows { paras = map (placed_by e) rows.paras })
    ∙ (λ i. record rows { paras = map-map (placed es) (placed_by e) rows.paras i })

-- ---- one row

place-texts : (e : ℤ × ℤ) (p : Para) → HasUtf8Texts tables.Para p → HasUtf8Texts tables.Para (placed_by e p)
place-texts e p texts =
    elim (cases_Bool (int_eq p.id e.0)) [
      | inl t ↦ subst (HasUtf8Texts tables.Para) (sym (cond-true (int_eq p.id e.0) (record p { place = e.1 }) p t)) texts
      | inr f ↦ subst (HasUtf8Texts tables.Para) (sym (cond-false (int_eq p.id e.0) (record p { place = e.1 }) p f)) texts
    ]

pub placed-texts : (es : Places) (p : Para) → HasUtf8Texts tables.Para p → HasUtf8Texts tables.Para (placed es p)
placed-texts [] p texts = texts
placed-texts (e ∷ es) p texts = placed-texts es (placed_by e p) (place-texts e p texts)

place-spelled : (e : ℤ × ℤ) (p : Para) → spelled tables.Para (placed_by e p) ≡ placed_by e (spelled tables.Para p)
place-spelled e p =
    let b = int_eq p.id e.0 in
    elim (cases_Bool b) [
      | inl t ↦ ap (spelled tables.Para) (cond-true b (record p { place = e.1 }) p t) ∙ sym (cond-true b (let q : Para = spelled tables.Para p in record q { place = e.1 }) (spelled tables.Para p) t)
      | inr f ↦ ap (spelled tables.Para) (cond-false b (record p { place = e.1 }) p f) ∙ sym (cond-false b (let q : Para = spelled tables.Para p in record q { place = e.1 }) (spelled tables.Para p) f)
    ]

pub placed-spelled : (es : Places) (p : Para) → spelled tables.Para (placed es p) ≡ placed es (spelled tables.Para p)
placed-spelled [] p = refl
placed-spelled (e ∷ es) p = placed-spelled es (placed_by e p) ∙ ap (placed es) (place-spelled e p)

-- no place is put for the row
abbrev pub Misses : ℤ → Places → Type 0
Misses id es = All (λ (e : ℤ × ℤ). int_eq id e.0 ≡ false) es

-- each place that is put for the row is this
abbrev pub Sends : ℤ → ℤ → Places → Type 0
Sends id to es = All (λ (e : ℤ × ℤ). int_eq id e.0 ≡ true → e.1 ≡ to) es

-- the row gets the place that each of its puts has, or has it already
pub placed-at : (to : ℤ) (es : Places) (p : Para) → Sends p.id to es → (Misses p.id es → p.place ≡ to) → placed es p ≡ record p { place = to }
placed-at to [] p sends had = λ i. record p { place = had (All-nil (λ (e : ℤ × ℤ). int_eq p.id e.0 ≡ false)) i }
placed-at to (e ∷ es) p sends had =
    let first = All-head (λ (x : ℤ × ℤ). int_eq p.id x.0 ≡ true → x.1 ≡ to) e es sends in
    let rest = All-tail (λ (x : ℤ × ℤ). int_eq p.id x.0 ≡ true → x.1 ≡ to) e es sends in
    elim (cases_Bool (int_eq p.id e.0)) [
      | inl t ↦
          ap (placed es) (cond-true (int_eq p.id e.0) (record p { place = e.1 }) p t)
          ∙ placed-at to es (record p { place = e.1 }) rest (λ misses. first t)
      | inr f ↦
          ap (placed es) (cond-false (int_eq p.id e.0) (record p { place = e.1 }) p f)
          ∙ placed-at to es p rest (λ misses. had (All-cons (λ (x : ℤ × ℤ). int_eq p.id x.0 ≡ false) e es f misses))
    ]

-- ---- the index of an id

abbrev pub index_in : List ℕ → ℕ → ℕ
index_in [] id = 0
index_in (x ∷ xs) id = cond (nat_eq x id) 0 (suc (index_in xs id))

pub map-agree : {X Y : Type 0} (f g : X → Y) (xs : List X) → All (λ x. f x ≡ g x) xs → map f xs ≡ map g xs
map-agree f g [] all = refl
map-agree f g (x ∷ xs) all = λ i. All-head (λ y. f y ≡ g y) x xs all i ∷ map-agree f g xs (All-tail (λ y. f y ≡ g y) x xs all) i

-- each paragraph has the place that its id has
pub paras-indexed : (n : ℕ) (ps : List Paragraph) → AreApart ps → map para_of (enumerate_from n ps) ≡ map (λ p. para_of (n + index_in (ids_of ps) p.id, p)) ps
paras-indexed n [] apart = refl
paras-indexed n (p ∷ ps) apart =
    let others : All (λ (q : Paragraph). para_of (n + 1 + index_in (ids_of ps) q.id, q) ≡ para_of (n + index_in (ids_of (p ∷ ps)) q.id, q)) ps = others-behind in
    let here : n ≡ n + index_in (ids_of (p ∷ ps)) p.id =
    (let none : n ≡ n + 0 = omega arith in none) ∙ ap (λ (k : ℕ). n + k) (sym (cond-true (nat_eq p.id p.id) 0 (suc (index_in (ids_of ps) p.id)) (eq-eqb p.id p.id refl))) in
    (λ i. para_of (here i, p) ∷ (paras-indexed (n + 1) ps (AreApart-rest p ps apart) ∙ map-agree (λ q. para_of (n + 1 + index_in (ids_of ps) q.id, q)) (λ q. para_of (n + index_in (ids_of (p ∷ ps)) q.id, q)) ps others) i)
  where
    others-behind : All (λ (q : Paragraph). para_of (n + 1 + index_in (ids_of ps) q.id, q) ≡ para_of (n + index_in (ids_of (p ∷ ps)) q.id, q)) ps
    others-behind =
        All-weaker (Contains ps) (λ (q : Paragraph). para_of (n + 1 + index_in (ids_of ps) q.id, q) ≡ para_of (n + index_in (ids_of (p ∷ ps)) q.id, q))
        (λ q c.
        let behind : n + 1 + index_in (ids_of ps) q.id ≡ n + suc (index_in (ids_of ps) q.id) = omega arith in
        ap (λ (k : ℕ). para_of (k, q)) (behind ∙ ap (λ (k : ℕ). n + k) (sym (cond-false (nat_eq p.id q.id) 0 (suc (index_in (ids_of ps) q.id)) (AreApart-first p q ps apart c)))))
        ps (All-contains_itself ps)
