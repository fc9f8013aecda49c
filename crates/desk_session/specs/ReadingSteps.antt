-- How requests are read from an input, step by step. Only private functions and proofs need these
-- words.
use Rattle.std.specs.Prelude.{◌≡◌, ◌≢◌, ◌⊎◌, ℕ, ◌<◌, true, false, List, [], ◌++◌, Option}
use Rattle.std.specs.Prelude.{Some, None, Result, Ok, Err, Vec, MatchResult}
use Rattle.std.specs.declared.alloc.Global.{Global}
use Rattle.std.specs.List.{AllByRecursion}
use Rattle.louis_table.specs.Lines.{lines_of}
use Rattle.desk_ends.specs.declared.ends.Failure.{Failure}
use Rattle.desk_ends.specs.Input.{Input, IsStopped, UsesInput}
use Rattle.desk_ends.specs.Lines.{EndsLine, feeds}
use Rattle.desk_session.specs.declared.no_request.NoRequest.{NoRequest}
use Rattle.desk_session.specs.declared.no_request.NoRequest.TheVariants.{Syntax, NoMemory}
use Rattle.desk_line.specs.declared.request.Request.{Request}
use Rattle.desk_line.specs.Lines.{IsShort}
use Rattle.desk_line.specs.Request.{IsWhole, Reads}
use Rattle.desk_session.specs.Requests.{GiveNoRequest, IsNext}

-- ---- a block

-- a text holds the bytes, or it doesn't since a line of them is too long or an allocation for them
-- failed
abbrev pub HoldsText : Result (Vec ℕ Global) NoRequest → List ℕ → Type 0
HoldsText (Ok text) bytes = text.items ≡ bytes
HoldsText (Err Syntax) bytes = ¬ AllByRecursion IsShort (lines_of bytes)
HoldsText (Err NoMemory) bytes = bytes ≢ []

-- whole lines, each with its line feed
abbrev pub AreFed : List ℕ → Type 0
AreFed bytes = (bytes ≡ []) ⊎ EndsLine bytes

-- so many of them
abbrev pub AreLines : ℕ → List ℕ → Type 0
AreLines count block = (feeds block ≡ count) × AreFed block

-- how a block ends: after so many lines, with fewer at the end of the input, or with fewer where a
-- read failed
abbrev pub BlockEnds : Type 0 → Input → ℕ → List ℕ → Result (Result (Vec ℕ Global) NoRequest) Failure → Type 0
BlockEnds CanFail new count block (Ok text) = HoldsText text block
    × (AreLines count block ⊎ ((feeds block < count) × (new.is_over ≡ true) × (new.waiting ≡ [])))
BlockEnds CanFail new count block (Err failed) =
    (feeds block < count) × (new.waiting ≡ []) × (new.is_over ≡ false) × IsStopped CanFail new

-- so many lines were read, or those that are left
pub record ReadsBlock (CanFail : Type 0) (left_old left_new : Option (List ℕ)) (old new : Input) (count : ℕ)
    (result : Result (Result (Vec ℕ Global) NoRequest) Failure) : Type 0 where
  pub block : List ℕ
  pub used : UsesInput left_old left_new old new block
  pub ends : BlockEnds CanFail new count block result

-- ---- a request

-- the bytes begin with no whole request
abbrev pub BeginsWithNone : List ℕ → Type 0
BeginsWithNone bytes = (request later : List ℕ) → bytes ≡ request ++ later → ¬ IsWhole request

-- what the bytes are that were used: none at the end of the input, or the next request, which they
-- are read as or not, for this fault, or a beginning of it where a read failed
abbrev pub Finds : Type 0 → Input → List ℕ → Result (Option (Result Request NoRequest)) Failure → Type 0
Finds CanFail new bytes (Ok None) = (bytes ≡ []) × (new.is_over ≡ true) × (new.waiting ≡ [])
Finds CanFail new bytes (Ok (Some found)) =
    IsNext (new.is_over ≡ true) new.waiting bytes × MatchResult found (Reads bytes) (GiveNoRequest bytes)
Finds CanFail new bytes (Err failed) =
    BeginsWithNone bytes × (new.waiting ≡ []) × (new.is_over ≡ false) × IsStopped CanFail new

-- the next request was read
pub record ReadsRequest (CanFail : Type 0) (left_old left_new : Option (List ℕ)) (old new : Input)
    (result : Result (Option (Result Request NoRequest)) Failure) : Type 0 where
  pub bytes : List ℕ
  pub used : UsesInput left_old left_new old new bytes
  pub found : Finds CanFail new bytes result
