-- A line that is read in parts.
use Rattle.std.proofs.Common.{◌≡◌, ℕ, true, false, List, [], ◌++◌, Option, Some, Ok, Err, ap, ◌∙◌}
use Rattle.desk_ends.specs.declared.ends.Failure.{Failure}
use Rattle.desk_ends.specs.Input.{FillsInput, Input, PassesLine, ReadsLine, UsesInput}
use Rattle.desk_ends.specs.Lines.{HasNoFeed, kept_line, with_bytes}
use Rattle.desk_ends.proofs.OneLine.{fed-append, no-feed-append, with_bytes-kept}
use Rattle.desk_ends.proofs.UsedInput.{UsesInput-none, UsesInput-still, UsesInput-then, UsesInput-waiting}

-- a part of the line was read, with no line feed
pub record IsReading (a b : Option (List ℕ)) (old now : Input) (line : Option (List ℕ)) : Type 0 where
  pub bytes : List ℕ
  pub used : UsesInput a b old now bytes
  pub held : line ≡ kept_line bytes
  pub none : HasNoFeed bytes

pub IsReading-none : (a : Option (List ℕ)) (input : Input) (line : Option (List ℕ)) → line ≡ Some [] → IsReading a a input input line
IsReading-none a input line held = record { bytes = []; used = UsesInput-none a input; held = held; none = tt }

module _ (a b : Option (List ℕ)) (old mid new : Input) (was line : Option (List ℕ)) (part : IsReading a b old mid was) where
  -- the rest of the line was read already
  pub ReadsLine-fed : (F : Type 0) → PassesLine true mid new was line → ReadsLine F a b old new line (Ok true)
  ReadsLine-fed F (bytes, uses, held, fed) = record {
    bytes = part.bytes ++ bytes;
    used = UsesInput-then a b b old mid new part.bytes bytes part.used (UsesInput-waiting b mid new bytes uses);
    held = held ∙ (ap (λ (l : Option (List ℕ)). with_bytes l bytes) part.held ∙ with_bytes-kept part.bytes bytes);
    ends = fed-append part.bytes bytes part.none fed;
  }

  -- the unused bytes have no line feed
  pub IsReading-more : PassesLine false mid new was line → IsReading a b old new line
  IsReading-more (uses, empty, held, none) = record {
    bytes = part.bytes ++ mid.waiting;
    used = UsesInput-then a b b old mid new part.bytes mid.waiting part.used (UsesInput-waiting b mid new mid.waiting uses);
    held = held ∙ (ap (λ (l : Option (List ℕ)). with_bytes l mid.waiting) part.held ∙ with_bytes-kept part.bytes mid.waiting);
    none = no-feed-append part.bytes mid.waiting part.none none;
  }

module _ (F : Type 0) (a b c : Option (List ℕ)) (old mid new : Input) (line : Option (List ℕ)) (part : IsReading a b old mid line) where
  pub IsReading-filled : UsesInput b c mid new [] → IsReading a c old new line
  IsReading-filled used = record { bytes = part.bytes; used = UsesInput-still a b c old mid new part.bytes part.used used; held = part.held; none = part.none }

  pub ReadsLine-over : FillsInput F b c mid new (Ok false) → ReadsLine F a c old new line (Ok false)
  ReadsLine-over (used, over, empty) = record {
    bytes = part.bytes;
    used = UsesInput-still a b c old mid new part.bytes part.used used;
    held = part.held;
    ends = (part.none, over, empty);
  }

  pub ReadsLine-failed : (failed : Failure) → FillsInput F b c mid new (Err failed) → ReadsLine F a c old new line (Err failed)
  ReadsLine-failed failed (used, empty, going, why) = record {
    bytes = part.bytes;
    used = UsesInput-still a b c old mid new part.bytes part.used used;
    held = part.held;
    ends = (part.none, empty, going, why);
  }
