-- The requests of the bytes that were used of an input.
use Rattle.std.proofs.Common.{◌≡◌, ◌≢◌, ◌⊎◌, ℕ, List, [], ◌∷◌, ◌++◌, refl, sym, ap, subst, ◌∙◌, append_assoc, inl, inr}
use Rattle.std.proofs.lemmas.List.{append-nil}
use Rattle.desk_ends.proofs.UsedInput.{no-parts}
use Rattle.desk_line.specs.Request.{IsLast, IsRequestBefore, IsWhole, Requests, WholeRequests, last, whole}
use Rattle.desk_line.proofs.CutLaws.{same-request, whole-some}
use Rattle.desk_line.proofs.RequestLaws.{some-lines}
use Rattle.desk_session.specs.ReadingSteps.{BeginsWithNone}
use Rattle.desk_session.specs.Requests.{FirstRequests, IsNext}

-- the bytes are these requests, of which only the end of the input cuts the last one
abbrev pub CutInto : (Over : Type 0) → List ℕ → List (List ℕ) → Type 0
CutInto Over bytes [] = bytes ≡ []
CutInto Over bytes (request ∷ requests) = (later : List ℕ) × (bytes ≡ request ++ later)
    × (IsWhole request ⊎ (Over × (later ≡ []) × (requests ≡ []) × IsLast request)) × CutInto Over later requests

pub next-some : (AtEnd : Type 0) (later request : List ℕ) → IsNext AtEnd later request → request ≢ []
next-some AtEnd later request (inl w) = whole-some request w
next-some AtEnd later request (inr (end, none, l)) = some-lines request l.line l.block l.lines

-- the request is whole, or it is all that is left at the end of the input
abbrev pub IsFirst : (Over : Type 0) → (later request : List ℕ) → List (List ℕ) → Type 0
IsFirst Over later request requests = IsWhole request ⊎ (Over × (later ≡ []) × (requests ≡ []) × IsLast request)

alone : (Over : Type 0) (later request : List ℕ) → IsNext Over later request → IsFirst Over [] request []
alone Over later request (inl w) = inl w
alone Over later request (inr (over, none, l)) = inr (over, refl, refl, l)

before-of : (later left request : List ℕ) → IsNext (left ≡ []) later request → IsRequestBefore (later ++ left) request
before-of later left request (inl w) = whole w
before-of later left request (inr (end, none, l)) = last (ap (λ (t : List ℕ). t ++ left) none ∙ end) l

module _ (Was Over : Type 0) (going : ¬ Was) (rest request : List ℕ) (is : IsNext Over rest request) where
  -- one request more
  pub CutInto-more : (bytes : List ℕ) (requests : List (List ℕ)) → CutInto Was bytes requests → CutInto Over (bytes ++ request) (requests ++ request ∷ [])
  CutInto-more bytes [] none = ([], ap (λ (t : List ℕ). t ++ request) none ∙ sym (append-nil request), alone Over rest request is, refl)
  CutInto-more bytes (first ∷ requests) (later, parts, inl w, cut) =
      (later ++ request, ap (λ (t : List ℕ). t ++ request) parts ∙ append_assoc first later request, inl w, CutInto-more later requests cut)
  CutInto-more bytes (first ∷ requests) (later, parts, inr (over, none, end, l), cut) = absurd (going over)

module _ (Over : Type 0) where
  -- all of the input was cut
  pub CutInto-all : (bytes : List ℕ) (requests : List (List ℕ)) → CutInto Over bytes requests → Requests bytes requests
  CutInto-all bytes [] none = none
  CutInto-all bytes (first ∷ requests) (later, parts, inl w, cut) = (later, parts, whole w, CutInto-all later requests cut)
  CutInto-all bytes (first ∷ requests) (later, parts, inr (over, none, end, l), cut) = (later, parts, last none l, CutInto-all later requests cut)

  -- no whole request follows
  pub CutInto-whole : (rest : List ℕ) → ¬ Over → BeginsWithNone rest → (bytes : List ℕ) (requests : List (List ℕ)) → CutInto Over bytes requests → WholeRequests (bytes ++ rest) requests
  CutInto-whole rest going more bytes [] none = λ request later parts. more request later (sym (ap (λ (t : List ℕ). t ++ rest) none) ∙ parts)
  CutInto-whole rest going more bytes (first ∷ requests) (later, parts, inl w, cut) =
      (later ++ rest, ap (λ (t : List ℕ). t ++ rest) parts ∙ append_assoc first later rest, w, CutInto-whole rest going more later requests cut)
  CutInto-whole rest going more bytes (first ∷ requests) (later, parts, inr (over, none, end, l), cut) = absurd (going over)

  -- more may follow
  pub CutInto-first : (AtEnd : Type 0) (rest : List ℕ) → (Over → AtEnd × (rest ≡ [])) → (bytes : List ℕ) (requests : List (List ℕ)) → CutInto Over bytes requests → FirstRequests AtEnd (bytes ++ rest) requests
  CutInto-first AtEnd rest knows bytes [] none = tt
  CutInto-first AtEnd rest knows bytes (first ∷ requests) (later, parts, inl w, cut) =
      (later ++ rest, ap (λ (t : List ℕ). t ++ rest) parts ∙ append_assoc first later rest, inl w, CutInto-first AtEnd rest knows later requests cut)
  CutInto-first AtEnd rest knows bytes (first ∷ requests) (later, parts, inr (over, none, end, l), cut) = (
    later ++ rest,
    ap (λ (t : List ℕ). t ++ rest) parts ∙ append_assoc first later rest,
    inr ((knows over).0, ap (λ (t : List ℕ). t ++ rest) none ∙ (knows over).1, l),
    CutInto-first AtEnd rest knows later requests cut,
  )

-- the first requests of a beginning are the first of the whole
pub FirstRequests-first : (read left : List ℕ) (requests all : List (List ℕ)) → FirstRequests (left ≡ []) read requests → Requests (read ++ left) all
    → (others : List (List ℕ)) × (all ≡ requests ++ others)
FirstRequests-first read left [] all first cut = (all, refl)
FirstRequests-first read left (request ∷ requests) [] (later, parts, next, first) cut =
    absurd (next-some (left ≡ []) later request next (no-parts request later (sym parts ∙ (no-parts read left cut).0)).0)
FirstRequests-first read left (request ∷ requests) (other ∷ all) (later, parts, next, first) (after, split, before, cut) =
    let whole_parts : read ++ left ≡ request ++ (later ++ left) = ap (λ (t : List ℕ). t ++ left) parts ∙ append_assoc request later left in
    let same = same-request request other (later ++ left) after (before-of later left request next) before (sym whole_parts ∙ split) in
    let h = FirstRequests-first later left requests all first (subst (λ (t : List ℕ). Requests t all) (sym same.1) cut) in
    let one = same.0 in
    let rest = h.1 in
    (h.0, cc)
