-- How a run comes to the next line of its input. Only private functions and proofs need these
-- words.
use Rattle.std.specs.Prelude.{◌≡◌, ℕ, Bool, true, false, List, [], Option, Result, Ok, Err}
use Rattle.std.specs.Io.KnownBytes.{Appends}
use Rattle.desk_ends.specs.Ends.{IsFlushed}
use Rattle.desk_ends.specs.Input.{Input, IsStopped, UsesInput}
use Rattle.desk_ends.specs.Lines.{HasNoFeed, IsFed, kept_line}
use Rattle.desk_translate.specs.declared.translate.Ended.{Ended}
use Rattle.desk_translate.specs.declared.translate.Ended.TheVariants as ended

-- how a line ends that was taken: with a line feed, at the end of the input, or because a read or a
-- flush failed; if a read failed, all is flushed
abbrev pub LineTaken : (ReadsFail WritesFail Flushed : Type 0) → Input → List ℕ → Result Bool Ended → Type 0
LineTaken ReadsFail WritesFail Flushed new bytes (Ok true) = IsFed bytes
LineTaken ReadsFail WritesFail Flushed new bytes (Ok false) =
    HasNoFeed bytes × (new.is_over ≡ true) × (new.waiting ≡ [])
LineTaken ReadsFail WritesFail Flushed new bytes (Err ended.Done) = ⊥
LineTaken ReadsFail WritesFail Flushed new bytes (Err ended.Input) =
    HasNoFeed bytes × (new.waiting ≡ []) × IsStopped ReadsFail new × Flushed
LineTaken ReadsFail WritesFail Flushed new bytes (Err ended.Output) = HasNoFeed bytes × (new.waiting ≡ []) × WritesFail

-- the next line was taken from the reader, and nothing was written
pub record TakesLine (ReadsFail WritesFail : Type 0)
    (read_old read_new write_old write_new flushed_new : Option (List ℕ))
    (old new : Input) (line : Option (List ℕ)) (result : Result Bool Ended) : Type 0 where
  pub bytes : List ℕ
  pub used : UsesInput read_old read_new old new bytes
  pub held : line ≡ kept_line bytes
  pub still : Appends write_old write_new []
  pub ends : LineTaken ReadsFail WritesFail (IsFlushed write_new flushed_new) new bytes result
