-- Which requests were read of an input, and which one is read next.
use Rattle.std.specs.Prelude.{◌≡◌, ◌⊎◌, ℕ, List, [], ◌∷◌, ◌++◌}
use Rattle.desk_session.specs.declared.no_request.NoRequest.{NoRequest}
use Rattle.desk_session.specs.declared.no_request.NoRequest.TheVariants.{Syntax, NoMemory}
use Rattle.desk_line.specs.Request.{AsksForMemory, IsLast, IsNoRequest, IsWhole}

-- These bytes are the next request, with those after it read too: a whole one, or, at the end of
-- the input, one that the end cuts.
abbrev pub IsNext : (AtEnd : Type 0) → (later request : List ℕ) → Type 0
IsNext AtEnd later request = IsWhole request ⊎ (AtEnd × (later ≡ []) × IsLast request)

-- these are the first requests of the bytes, which end the input where it is at its end
abbrev pub FirstRequests : (AtEnd : Type 0) → List ℕ → List (List ℕ) → Type 0
FirstRequests AtEnd bytes [] = Unit {0}
FirstRequests AtEnd bytes (request ∷ requests) =
    (later : List ℕ) × (bytes ≡ request ++ later) × IsNext AtEnd later request
    × FirstRequests AtEnd later requests

-- why no request was read of the bytes: they are none, or an allocation for the lines after the
-- head line failed
abbrev pub GiveNoRequest : List ℕ → NoRequest → Type 0
GiveNoRequest bytes Syntax = IsNoRequest bytes
GiveNoRequest bytes NoMemory = AsksForMemory bytes
