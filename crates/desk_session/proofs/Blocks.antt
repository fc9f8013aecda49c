-- A block that is read line by line.
use Rattle.std.proofs.Common.{◌≡◌, ◌≢◌, ℕ, ◌+◌, ◌-◌, ◌<◌, true, false, List, [], ◌++◌, Option, Result, Ok, Err, refl, ap, inl, inr, arith}
use Rattle.std.specs.Prelude.{Vec}
use Rattle.std.specs.declared.alloc.Global.{Global}
use Rattle.desk_ends.specs.declared.ends.Failure.{Failure}
use Rattle.desk_ends.specs.Input.{Input, ReadsLine, UsesInput}
use Rattle.desk_ends.specs.Lines.{IsLine, feeds, kept_line}
use Rattle.desk_ends.proofs.LineFeeds.{fed-feeds, feeds-append, feeds-some, no-feeds}
use Rattle.desk_ends.proofs.OneLine.{ends-append, fed-ends}
use Rattle.desk_ends.proofs.UsedInput.{UsesInput-none, UsesInput-then, no-parts}
use Rattle.desk_session.specs.declared.no_request.NoRequest.{NoRequest}
use Rattle.desk_session.specs.declared.no_request.NoRequest.TheVariants.{Syntax, NoMemory}
use Rattle.desk_session.specs.ReadingSteps.{AreFed, BlockEnds, HoldsText, ReadsBlock}
use Rattle.desk_session.proofs.BlockLines.{long-before}

-- ---- a text with a line more

-- bytes that make no request make none with more of them
pub no-request-stays : (fault : NoRequest) (bytes more : List ℕ) → AreFed bytes → HoldsText (Err fault) bytes → HoldsText (Err fault) (bytes ++ more)
no-request-stays Syntax bytes more fed long = long-before bytes more fed long
no-request-stays NoMemory bytes more fed some = λ none. some (no-parts bytes more none).0

-- ---- a block

-- so many lines of a block are left
pub record IsFilling (a b : Option (List ℕ)) (old now : Input) (text : Result (Vec ℕ Global) NoRequest) (left count : ℕ) : Type 0 where
  pub block : List ℕ
  pub used : UsesInput a b old now block
  pub holds : HoldsText text block
  pub lines : feeds block + left ≡ count
  pub fed : AreFed block

pub IsFilling-none : (a : Option (List ℕ)) (input : Input) (text : Vec ℕ Global) (count : ℕ) → text.items ≡ [] → IsFilling a a input input (Ok text) count count
IsFilling-none a input text count empty =
    record { block = []; used = UsesInput-none a input; holds = empty; lines = omega arith; fed = inl refl }

-- what add_line promises
abbrev pub Adds : (text held : Result (Vec ℕ Global) NoRequest) → Option (List ℕ) → Type 0
Adds text held line = (bytes more : List ℕ) → AreFed bytes → IsLine more → HoldsText text bytes → line ≡ kept_line more → HoldsText held (bytes ++ more)

module _ (a b c : Option (List ℕ)) (old mid new : Input) (text held : Result (Vec ℕ Global) NoRequest) (left count : ℕ) (line : Option (List ℕ))
    (part : IsFilling a b old mid text left count) (some : 0 < left) (F : Type 0) where
  pub IsFilling-line : ReadsLine F b c mid new line (Ok true) → Adds text held line → IsFilling a c old new held (left - 1) count
  IsFilling-line read adds =
      let one = fed-feeds read.bytes read.ends in
      let all = feeds-append part.block read.bytes in
      let so_far = part.lines in
      record {
        block = part.block ++ read.bytes;
        used = UsesInput-then a b c old mid new part.block read.bytes part.used read.used;
        holds = adds part.block read.bytes part.fed (inl read.ends) part.holds read.held;
        lines = omega arith;
        fed = inr (ends-append part.block read.bytes (fed-ends read.bytes read.ends));
      }

  -- the block ends before its lines are as many as they have to be
  fewer-lines : (more : List ℕ) → feeds more ≡ 0 → feeds (part.block ++ more) < count
  fewer-lines more none =
      let all = feeds-append part.block more in
      let so_far = part.lines in
      omega arith

  pub ReadsBlock-short : ReadsLine F b c mid new line (Ok false) → Adds text held line → ReadsBlock F a c old new count (Ok held)
  ReadsBlock-short read adds =
      let fewer = fewer-lines read.bytes (no-feeds read.bytes read.ends.0) in
      record {
        block = part.block ++ read.bytes;
        used = UsesInput-then a b c old mid new part.block read.bytes part.used read.used;
        ends = (adds part.block read.bytes part.fed (inr read.ends.0) part.holds read.held, inr (fewer, read.ends.1, read.ends.2));
      }

  pub ReadsBlock-failed : (failed : Failure) → ReadsLine F b c mid new line (Err failed) → ReadsBlock F a c old new count (Err failed)
  ReadsBlock-failed failed read =
      let fewer = fewer-lines read.bytes (no-feeds read.bytes read.ends.0) in
      record {
        block = part.block ++ read.bytes;
        used = UsesInput-then a b c old mid new part.block read.bytes part.used read.used;
        ends = (fewer, read.ends.1, read.ends.2, read.ends.3);
      }

-- lines of which there are bytes are one or more
pub block-some : (F : Type 0) (new : Input) (count : ℕ) (block : List ℕ) (text : Result (Vec ℕ Global) NoRequest) → BlockEnds F new count block (Ok text) → block ≢ [] → 0 < count
block-some F new count block text (holds, inl (same, inl none)) some = absurd (some none)
block-some F new count block text (holds, inl (same, inr (front, is))) some =
    let all = ap feeds is in
    let one = feeds-some front in
    omega arith
block-some F new count block text (holds, inr (fewer, over, empty)) some = omega arith
