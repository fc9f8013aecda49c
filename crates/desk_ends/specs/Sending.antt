-- What sending does to the bytes of a sink.
use Rattle.std.specs.Prelude.{◌≡◌, ℕ, List, [], ◌++◌, Bool, true, false, Option}
use Rattle.std.specs.Io.KnownBytes.{Appends}
use Rattle.desk_ends.specs.declared.ends.Sink.{Ghosts}
use Rattle.desk_ends.specs.Ends.{IsFlushed}

-- a beginning of the text went out; if all went well, all of it but what is held back, and if not,
-- the sink can fail
pub record Transmits (CanFail : Type 0) (old new : Option (List ℕ)) (text held : List ℕ) (whole : Bool)
    : Type 0 where
  pub out : List ℕ
  pub rest : List ℕ
  pub appends : Appends old new out
  pub begins : out ++ rest ≡ text
  pub holds : whole ≡ true → rest ≡ held
  pub fails : whole ≡ false → CanFail

-- ---- by the sink

-- the text was sent to the sink, and this part of it is held back
abbrev pub Puts : {K : Type 0} → Ghosts K → K → K → List ℕ → List ℕ → Bool → Type 0
Puts sink old new text held whole =
    Transmits sink.can_fail (sink.contents old) (sink.contents new) text held whole

-- the text was sent to the sink, with nothing held back
abbrev pub Sends : {K : Type 0} → Ghosts K → K → K → List ℕ → Bool → Type 0
Sends sink old new text whole = Puts sink old new text [] whole

-- the sink has passed on all that was written to it, if it reports both
abbrev pub HasFlushed : {K : Type 0} → Ghosts K → K → Type 0
HasFlushed sink now = IsFlushed (sink.contents now) (sink.flushed now)
