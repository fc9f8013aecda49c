-- Lines that are ended by line feeds, counted by them.
use Rattle.std.proofs.Common.{◌≡◌, ◌≢◌, ◌⊎◌, ℕ, zero, suc, ◌+◌, ◌<◌, ◌≤◌, Bool, true, false, cond, eqb, List, [], ◌∷◌, ◌++◌, length, refl, sym, ap, ◌∙◌, inl, inr, arith, rules}
use Rattle.std.specs.List.{onto_first}
use Rattle.std.specs.Io.BufRead.{strip_last}
use Rattle.std.proofs.lemmas.Bool.{cases_Bool, eqb-true}
use Rattle.std.proofs.lemmas.List.{length-map}
use Rattle.louis_table.specs.Lines.{pieces_of, lines_of}
use Rattle.louis_table.proofs.LineLaws.{lines_of-split}
use Rattle.desk_ends.specs.Lines.{HasNoFeed, IsFed, feeds}
use Rattle.desk_ends.proofs.ManyLines.{fed, pieces-some}

-- ---- lists

onto-length : (b : ℕ) (parts : List (List ℕ)) → parts ≢ [] → length (onto_first b parts) ≡ length parts
onto-length b [] some = absurd (some refl)
onto-length b (part ∷ parts) some = refl

onto-few : (b n : ℕ) (parts : List (List ℕ)) → length parts ≤ suc n → length (onto_first b parts) ≤ suc n
onto-few b n [] few = omega arith
onto-few b n (part ∷ parts) few = few

-- ---- how many lines there are

pieces-fed : (front : List ℕ) → length (pieces_of (fed front)) ≡ feeds (fed front)
pieces-fed [] = refl
pieces-fed (b ∷ front) = search (rules, cases_Bool, onto-length, fed, pieces-some, (pieces-fed front))

pieces-few : (bytes : List ℕ) → length (pieces_of bytes) ≤ suc (feeds bytes)
pieces-few [] = omega arith
pieces-few (b ∷ bytes) = search (rules, cases_Bool, onto-few, (pieces-few bytes))

-- bytes that end in a line feed are as many lines as they have line feeds
pub lines-fed : (front : List ℕ) → length (lines_of (fed front)) ≡ feeds (fed front)
lines-fed front = length-map (pieces_of (fed front)) (strip_last 13) ∙ pieces-fed front

pub lines-few : (bytes : List ℕ) → length (lines_of bytes) ≤ suc (feeds bytes)
lines-few bytes = let h = pieces-few bytes in let e = length-map (pieces_of bytes) (strip_last 13) in omega arith

pub no-lines : (bytes : List ℕ) → length (lines_of bytes) ≡ 0 → bytes ≡ []
no-lines [] e = refl
no-lines (b ∷ bytes) e = absurd (let h = ap length (lines_of-split (b ∷ bytes) (λ n. cc)) in omega arith)

-- ---- line feeds

pub feeds-append : (these those : List ℕ) → feeds (these ++ those) ≡ feeds these + feeds those
feeds-append [] those = omega arith
feeds-append (b ∷ these) those = search (rules, cases_Bool, (feeds-append these those))

pub feeds-some : (front : List ℕ) → 0 < feeds (fed front)
feeds-some front = let h = feeds-append front (10 ∷ []) in omega arith

pub no-feeds : (bytes : List ℕ) → HasNoFeed bytes → feeds bytes ≡ 0
no-feeds [] none = refl
no-feeds (b ∷ bytes) none = rw none.0 (no-feeds bytes none.1)

-- a line with its line feed has no other
pub fed-feeds : (bytes : List ℕ) → IsFed bytes → feeds bytes ≡ 1
fed-feeds bytes (front, is, none) = search (rules, feeds-append, no-feeds)

feed-first : (b : ℕ) (bytes : List ℕ) → b ≡ 10 → feeds (b ∷ bytes) ≡ suc (feeds bytes)
feed-first b bytes e = rw e refl

one-less : (t : Bool) (x y : ℕ) → cond t (suc x) x ≡ cond t (suc y) y → x ≡ y
one-less true x y e = omega arith
one-less false x y e = e

-- bytes begin with so many line feeds in one way
pub same-front : (this that later other : List ℕ) → fed this ++ later ≡ fed that ++ other → feeds (fed this) ≡ feeds (fed that)
    → (fed this ≡ fed that) × (later ≡ other)
same-front [] [] later other e n = (refl, cc)
same-front [] (b ∷ that) later other e n = search (rules, feed-first, fed, feeds-some)
same-front (b ∷ this) [] later other e n = search (rules, feed-first, fed, feeds-some)
same-front (b ∷ this) (c ∷ that) later other e n =
    let first : b ≡ c = cc in
    let less = one-less (eqb b 10) (feeds (fed this)) (feeds (fed that)) (n ∙ ap (λ (x : ℕ). feeds (x ∷ fed that)) (sym first)) in
    let h = same-front this that later other (cc) less in
    (cc, h.1)

-- bytes begin with one line feed more than so many, or have no more than so many
abbrev pub Begins : ℕ → List ℕ → Type 0
Begins more bytes = ((front : List ℕ) × (later : List ℕ) × (bytes ≡ fed front ++ later) × (feeds (fed front) ≡ suc more)) ⊎ (feeds bytes ≤ more)

begins-feed : (more b : ℕ) (bytes : List ℕ) → eqb b 10 ≡ true → Begins more bytes → Begins (suc more) (b ∷ bytes)
begins-feed more b bytes e h =
    elim h [
      | inl s ↦ inl (b ∷ s.0, s.1, ap (λ (t : List ℕ). b ∷ t) s.2, rw e (ap suc s.3))
      | inr few ↦ inr (rw e (omega arith))
    ]

begins-byte : (more b : ℕ) (bytes : List ℕ) → eqb b 10 ≡ false → Begins more bytes → Begins more (b ∷ bytes)
begins-byte more b bytes e h =
    elim h [
      | inl s ↦ inl (b ∷ s.0, s.1, ap (λ (t : List ℕ). b ∷ t) s.2, rw e s.3)
      | inr few ↦ inr (rw e few)
    ]

pub begins : (more : ℕ) (bytes : List ℕ) → Begins more bytes
begins more [] = inr (omega arith)
begins zero (b ∷ bytes) =
    elim (cases_Bool (eqb b 10)) [
      | inl e ↦ let first = eqb-true b 10 e in inl ([], bytes, ap (λ (x : ℕ). x ∷ bytes) first, refl)
      | inr e ↦ begins-byte zero b bytes e (begins zero bytes)
    ]
begins (suc more) (b ∷ bytes) =
    elim (cases_Bool (eqb b 10)) [
      | inl e ↦ begins-feed more b bytes e (begins more bytes)
      | inr e ↦ begins-byte (suc more) b bytes e (begins (suc more) bytes)
    ]
