-- The next line of a run, before which all is flushed.
use Rattle.std.proofs.Common.{◌≡◌, true, false, List, [], ℕ, Option, Ok, Err}
use Rattle.std.specs.Io.KnownBytes.{Appends, Keeps}
use Rattle.std.proofs.KnownBytes.{Appends-kept}
use Rattle.desk_ends.specs.declared.ends.Failure.{Failure}
use Rattle.desk_ends.specs.Ends.{IsFlushed}
use Rattle.desk_ends.specs.Input.{FillsInput, Input, PassesLine}
use Rattle.desk_ends.proofs.LineReading.{IsReading, IsReading-filled, IsReading-more, ReadsLine-failed, ReadsLine-fed, ReadsLine-over}
use Rattle.desk_translate.specs.NextLine.{TakesLine}
use Rattle.desk_translate.specs.declared.translate.Ended.TheVariants as ended

-- a part of the line was read, with no line feed, and nothing was written
pub record IsTaking (a b v w : Option (List ℕ)) (old now : Input) (line : Option (List ℕ)) : Type 0 where
  pub part : IsReading a b old now line
  pub still : Appends v w []

pub TakesLine-fed : (RF WF : Type 0) (a b v w f : Option (List ℕ)) (old mid new : Input) (was line : Option (List ℕ)) → IsTaking a b v w old mid was
    → PassesLine true mid new was line → TakesLine RF WF a b v w f old new line (Ok true)
TakesLine-fed RF WF a b v w f old mid new was line taking passes =
    let read = ReadsLine-fed a b old mid new was line taking.part RF passes in
    record { bytes = read.bytes; used = read.used; held = read.held; still = taking.still; ends = read.ends }

-- the unused bytes have no line feed, and a flush follows
pub IsTaking-more : (a b v w x : Option (List ℕ)) (old mid new : Input) (was line : Option (List ℕ)) → IsTaking a b v w old mid was
    → PassesLine false mid new was line → Keeps w x → IsTaking a b v x old new line
IsTaking-more a b v w x old mid new was line taking passes keeps =
    record { part = IsReading-more a b old mid new was line taking.part passes; still = Appends-kept v w x [] taking.still keeps }

pub TakesLine-unflushed : (RF WF : Type 0) (a b v w f : Option (List ℕ)) (old mid : Input) (line : Option (List ℕ)) → IsTaking a b v w old mid line
    → mid.waiting ≡ [] → WF → TakesLine RF WF a b v w f old mid line (Err ended.Output)
TakesLine-unflushed RF WF a b v w f old mid line taking empty fails = record {
  bytes = taking.part.bytes;
  used = taking.part.used;
  held = taking.part.held;
  still = taking.still;
  ends = (taking.part.none, empty, fails);
}

module _ (RF WF : Type 0) (a b c v w f : Option (List ℕ)) (old mid new : Input) (line : Option (List ℕ)) (taking : IsTaking a b v w old mid line) where
  pub TakesLine-over : FillsInput RF b c mid new (Ok false) → TakesLine RF WF a c v w f old new line (Ok false)
  TakesLine-over fills =
      let read = ReadsLine-over RF a b c old mid new line taking.part fills in
      record { bytes = read.bytes; used = read.used; held = read.held; still = taking.still; ends = read.ends }

  pub TakesLine-failed : (failed : Failure) → FillsInput RF b c mid new (Err failed) → IsFlushed w f
      → TakesLine RF WF a c v w f old new line (Err ended.Input)
  TakesLine-failed failed fills flushed =
      let read = ReadsLine-failed RF a b c old mid new line taking.part failed fills in
      record {
        bytes = read.bytes;
        used = read.used;
        held = read.held;
        still = taking.still;
        ends = (read.ends.0, read.ends.1, read.ends.3, flushed);
      }

pub IsTaking-filled : (RF : Type 0) (a b c v w : Option (List ℕ)) (old mid new : Input) (line : Option (List ℕ)) → IsTaking a b v w old mid line
    → FillsInput RF b c mid new (Ok true) → IsTaking a c v w old new line
IsTaking-filled RF a b c v w old mid new line taking fills =
    record { part = IsReading-filled RF a b c old mid new line taking.part fills.0; still = taking.still }
