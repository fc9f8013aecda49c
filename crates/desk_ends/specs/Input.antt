-- How an input is read: the bytes that aren't used yet, what was used of it, and its lines.
use Rattle.std.specs.Prelude.{◌≡◌, ◌⊎◌, ℕ, ◌+◌, ◌≤◌, ◌<◌, Bool, true, false, List}
use Rattle.std.specs.Prelude.{[], ◌++◌, length, Option, Result, Ok, Err}
use Rattle.std.specs.Io.KnownBytes.{Consumes, IsAtEnd}
use Rattle.desk_ends.specs.declared.ends.Failure.{Failure}
use Rattle.desk_ends.specs.Limits.{chunk_bytes, most_input}
use Rattle.desk_ends.specs.Lines.{HasNoFeed, IsFed, kept_line, with_bytes}

-- what was read of an input: the bytes that aren't used yet, how many were read in all, and whether
-- the end was reached
pub record Input : Type 0 where
  pub waiting : List ℕ
  pub total : ℕ
  pub is_over : Bool

-- nothing was read yet
abbrev pub unread : Input
unread = record { waiting = []; total = 0; is_over = false }

-- ---- what was used of an input

-- no more bytes than this are read
abbrev pub most_total : ℕ
most_total = most_input + chunk_bytes

-- the end of the input was reached: nothing is left, and nothing that was read is unused
abbrev pub KnowsEnd : Option (List ℕ) → Input → Type 0
KnowsEnd left input = input.is_over ≡ true → IsAtEnd left × (input.waiting ≡ [])

-- bytes of the input were used. Of a source, here known by the bytes that are left in it, some were
-- read for that; none once the end was reached.
pub record UsesInput (left_old left_new : Option (List ℕ)) (old new : Input) (bytes : List ℕ) : Type 0 where
  pub read : List ℕ
  pub consumes : Consumes left_old left_new read
  pub parts : old.waiting ++ read ≡ bytes ++ new.waiting
  pub total : new.total ≡ old.total + length read
  pub bound : old.total ≤ most_total → new.total ≤ most_total
  pub over : old.is_over ≡ true → (read ≡ []) × (new.is_over ≡ true)
  pub ends : KnowsEnd left_old old → KnowsEnd left_new new

-- bytes that had been read were used
pub record UsesWaiting (old new : Input) (bytes : List ℕ) : Type 0 where
  pub parts : old.waiting ≡ bytes ++ new.waiting
  pub total : new.total ≡ old.total
  pub over : new.is_over ≡ old.is_over

-- ---- a read

-- why no more is read
abbrev pub IsStopped : Type 0 → Input → Type 0
IsStopped CanFail input = CanFail ⊎ (most_input ≤ input.total)

-- more bytes were read; there are none at the end, and none if a read failed
abbrev pub FillsInput : Type 0 → (left_old left_new : Option (List ℕ)) → (old new : Input)
    → Result Bool Failure → Type 0
FillsInput CanFail left_old left_new old new (Ok true) =
    UsesInput left_old left_new old new [] × (old.total < new.total) × (old.total < most_input)
FillsInput CanFail left_old left_new old new (Ok false) =
    UsesInput left_old left_new old new [] × (new.is_over ≡ true) × (new.waiting ≡ [])
FillsInput CanFail left_old left_new old new (Err failed) =
    UsesInput left_old left_new old new [] × (new.waiting ≡ []) × (new.is_over ≡ false) × IsStopped CanFail new

-- ---- a line

-- a line was passed on from the bytes read so far, or all of them, which have no line feed
abbrev pub Passes : Bool → (old new : List ℕ) → (was line : Option (List ℕ)) → Type 0
Passes true old new was line = (bytes : List ℕ) × (old ≡ bytes ++ new) × (line ≡ with_bytes was bytes) × IsFed bytes
Passes false old new was line = (new ≡ []) × (line ≡ with_bytes was old) × HasNoFeed old

-- a line was passed on from the unused bytes of an input, or all of them, which have no line feed
abbrev pub PassesLine : Bool → (old new : Input) → (was line : Option (List ℕ)) → Type 0
PassesLine true old new was line =
    (bytes : List ℕ) × UsesWaiting old new bytes × (line ≡ with_bytes was bytes) × IsFed bytes
PassesLine false old new was line =
    UsesWaiting old new old.waiting × (new.waiting ≡ []) × (line ≡ with_bytes was old.waiting) × HasNoFeed old.waiting

-- how a line ends: with a line feed, at the end of the input, or because a read failed
abbrev pub LineEnds : Type 0 → Input → List ℕ → Result Bool Failure → Type 0
LineEnds CanFail new bytes (Ok true) = IsFed bytes
LineEnds CanFail new bytes (Ok false) = HasNoFeed bytes × (new.is_over ≡ true) × (new.waiting ≡ [])
LineEnds CanFail new bytes (Err failed) =
    HasNoFeed bytes × (new.waiting ≡ []) × (new.is_over ≡ false) × IsStopped CanFail new

-- a line was read, and is held
pub record ReadsLine (CanFail : Type 0) (left_old left_new : Option (List ℕ)) (old new : Input) (line : Option (List ℕ))
    (result : Result Bool Failure) : Type 0 where
  pub bytes : List ℕ
  pub used : UsesInput left_old left_new old new bytes
  pub held : line ≡ kept_line bytes
  pub ends : LineEnds CanFail new bytes result
