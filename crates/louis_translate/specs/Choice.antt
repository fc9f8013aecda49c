-- Which candidate is chosen at a place of a print. A candidate is the index of a rule, or none for
-- the definition of the character there.
use Rattle.std.specs.Prelude.{◌≡◌, ℕ, ◌+◌, ◌<◌, ◌≤◌, ◌⊎◌, true, List, [], length, take, drop}
use Rattle.std.specs.Prelude.{map, slice_get, Option, Some, None, IsSomeAnd}
use Rattle.std.specs.Option.{option_map_or}
use Rattle.louis_table.specs.Meaning.{Meaning, fold_of}
use Rattle.louis_table.specs.declared.rule.Rule.{Rule}
use Rattle.louis_table.specs.declared.rule.RuleKind.{RuleKind}
use Rattle.louis_translate.specs.Position.{fits}
use Rattle.louis_translate.specs.Sign.{sign_at}

-- ---- the order of candidates

-- how many characters a candidate covers
abbrev pub span : Meaning → Option ℕ → ℕ
span meaning None = 1
span meaning (Some k) = option_map_or (λ rule. length rule.chars) (slice_get meaning.rules k) 0

-- its place among candidates of one length: rules by line, then the definition
abbrev pub rank : Meaning → Option ℕ → ℕ
rank meaning None = length meaning.rules
rank meaning (Some k) = k

-- d is shorter than c, or as long and no earlier
abbrev pub YieldsTo : Meaning → Option ℕ → Option ℕ → Type 0
YieldsTo meaning d c =
    (span meaning d < span meaning c) ⊎ ((span meaning d ≡ span meaning c) × (rank meaning c ≤ rank meaning d))

-- ---- candidates, by any signs before the places of the print

module _ (sign : ℕ → List ℕ) (meaning : Meaning) (print : List ℕ) where
  -- the rule may be used at place i: its characters are the folded print's, its position test
  -- holds, and no sign stands inside it
  pub record MatchesBy (i : ℕ) (rule : Rule) : Type 0 where
    pub characters : map (fold_of meaning) (take (length rule.chars) (drop i print)) ≡ rule.chars
    pub position : fits meaning print rule.kind i (i + length rule.chars) ≡ true
    pub no_sign_inside : (k : ℕ) → i < k → k < i + length rule.chars → sign k ≡ []

  -- the definition of a character may always be used
  abbrev pub IsCandidateBy : ℕ → Option ℕ → Type 0
  IsCandidateBy i None = Unit {0}
  IsCandidateBy i (Some k) = IsSomeAnd (slice_get meaning.rules k) (MatchesBy i)

  -- c is a candidate, and each candidate yields to it
  pub record IsChosenBy (i : ℕ) (c : Option ℕ) : Type 0 where
    pub candidate : IsCandidateBy i c
    pub first : (d : Option ℕ) → IsCandidateBy i d → YieldsTo meaning d c

-- ---- candidates, by the signs of the table

module _ (meaning : Meaning) (print : List ℕ) where
  -- the rule may be used at place i
  abbrev pub Matches : ℕ → Rule → Type 0
  Matches = MatchesBy (sign_at meaning print) meaning print

  -- the rule, or the definition of the character, may be used at place i
  abbrev pub IsCandidate : ℕ → Option ℕ → Type 0
  IsCandidate = IsCandidateBy (sign_at meaning print) meaning print

  -- it is the candidate at place i to which all others yield: shorter ones, and later ones of the
  -- same length
  abbrev pub IsChosen : ℕ → Option ℕ → Type 0
  IsChosen = IsChosenBy (sign_at meaning print) meaning print

  -- the position test of the kind holds from place i up to but not including j, and no sign stands
  -- between the two
  abbrev pub MayCover : RuleKind → ℕ → ℕ → Type 0
  MayCover kind i j = (fits meaning print kind i j ≡ true) × ((k : ℕ) → i < k → k < j → sign_at meaning print k ≡ [])

-- no print has a sign before the character
abbrev pub NeverHasSign : Meaning → ℕ → Type 0
NeverHasSign meaning character =
    (print : List ℕ) (i : ℕ) → slice_get print i ≡ Some character → sign_at meaning print i ≡ []
