-- The first line of bytes, and what follows it.
use Rattle.std.proofs.Common.{◌≡◌, ◌≢◌, ℕ, ◌+◌, Bool, eqb, List, [], ◌∷◌, ◌++◌, length, take, drop, refl, sym, ap, ◌∙◌, arith, rules, EachIndex, slice_index, drop_of_length-le, take_all}
use Rattle.std.specs.List.{after_first, before_first, position_or_len}
use Rattle.std.proofs.Math.Seq.{drop-append-add, take-append_seam}
use Rattle.desk_ends.specs.Lines.{HasNoFeed}
use Rattle.desk_ends.proofs.OneLine.{no-feed}

abbrev is_feed : ℕ → Bool
is_feed b = eqb b 10

place-fed : (front rest : List ℕ) → HasNoFeed front → position_or_len is_feed (front ++ 10 ∷ rest) ≡ length front
place-fed [] rest none = refl
place-fed (b ∷ front) rest none = let h = place-fed front rest none.1 in rw none.0 (omega arith)

place-none : (bytes : List ℕ) → HasNoFeed bytes → position_or_len is_feed bytes ≡ length bytes
place-none [] none = refl
place-none (b ∷ bytes) none = let h = place-none bytes none.1 in rw none.0 (omega arith)

-- ---- bytes with a line feed

pub before-fed : (front rest : List ℕ) → HasNoFeed front → before_first (λ b. eqb b 10) (front ++ 10 ∷ rest) ≡ front
before-fed front rest none = search (rules, place-fed, take-append_seam)

pub after-fed : (front rest : List ℕ) → HasNoFeed front → after_first (λ b. eqb b 10) (front ++ 10 ∷ rest) ≡ rest
after-fed front rest none = search (rules, place-fed, drop-append-add)

-- ---- bytes without one

pub before-none : (bytes : List ℕ) → HasNoFeed bytes → before_first (λ b. eqb b 10) bytes ≡ bytes
before-none bytes none = search (rules, place-none, take_all)

pub after-none : (bytes : List ℕ) → HasNoFeed bytes → after_first (λ b. eqb b 10) bytes ≡ []
after-none bytes none = search (rules, place-none, drop_of_length-le)

-- ---- the place of the first one

module _ (bytes : List ℕ) (end : ℕ) (none : EachIndex (take end bytes) (λ k. slice_index (take end bytes) k ≢ 10))
    (parts : bytes ≡ take end bytes ++ 10 ∷ drop (end + 1) bytes) where
  pub before-at : take end bytes ≡ before_first (λ b. eqb b 10) bytes
  before-at =
      sym (ap (before_first (λ b. eqb b 10)) parts ∙ before-fed (take end bytes) (drop (end + 1) bytes) (no-feed (take end bytes) none))

  pub after-at : drop (end + 1) bytes ≡ after_first (λ b. eqb b 10) bytes
  after-at =
      sym (ap (after_first (λ b. eqb b 10)) parts ∙ after-fed (take end bytes) (drop (end + 1) bytes) (no-feed (take end bytes) none))
