-- What an export answers.
use Rattle.std.specs.Prelude.{◌≡◌, ◌≢◌, ℕ, List, [], ◌++◌, Result, Ok, Err, All}
use Rattle.std.specs.Io.KnownBytes.{Appends}
use Rattle.desk_model.specs.Book.{Book}
use Rattle.desk_ends.specs.declared.ends.Sink.{Ghosts}
use Rattle.desk_brf.specs.declared.volume.ExportFault.{ExportFault}
use Rattle.desk_brf.specs.declared.volume.ExportFault.TheVariants.{NoVolume, NotSixDots, Write}
use Rattle.desk_brf.specs.PageLayout.{Layout}
use Rattle.desk_brf.specs.Volumes.{volume_of}
use Rattle.desk_brf.specs.Volume.{HasSixDotCells, IsFirstEightDot, IsVolume}

-- the volume is there, and its cells have only the dots 1 to 6; or it is reported why it can't be
-- exported
abbrev pub IsJudged : Book → ℕ → Result (Unit {0}) ExportFault → Type 0
IsJudged book number (Ok none) =
    (volume_of book number ≢ []) × All (HasSixDotCells book) (volume_of book number)
IsJudged book number (Err NoVolume) = volume_of book number ≡ []
IsJudged book number (Err (NotSixDots paragraph cell)) =
    IsFirstEightDot book (volume_of book number) paragraph cell
IsJudged book number (Err Write) = ⊥

-- the volume went out whole; or the sink is as it was, and it is reported why; or the sink failed,
-- and a beginning of the volume went out; if anything went out, the volume's cells have only the
-- dots 1 to 6
abbrev pub IsExported : {K : Type 0} → Ghosts K → K → K → Book → Layout → ℕ → Result ℕ ExportFault → Type 0
IsExported sink old new book layout number (Ok pages) =
    (bytes : List ℕ) × IsVolume book layout number bytes pages
    × Appends (sink.contents old) (sink.contents new) bytes
    × All (HasSixDotCells book) (volume_of book number)
IsExported sink old new book layout number (Err NoVolume) =
    (new ≡ old) × (volume_of book number ≡ [])
IsExported sink old new book layout number (Err (NotSixDots paragraph cell)) =
    (new ≡ old) × IsFirstEightDot book (volume_of book number) paragraph cell
IsExported sink old new book layout number (Err Write) =
    (bytes : List ℕ) × (pages : ℕ) × (out : List ℕ) × (rest : List ℕ)
    × IsVolume book layout number bytes pages × (out ++ rest ≡ bytes)
    × Appends (sink.contents old) (sink.contents new) out × sink.can_fail
    × All (HasSixDotCells book) (volume_of book number)
