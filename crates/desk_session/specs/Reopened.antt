-- What the next session finds of one that ended, however it did.
use Rattle.std.specs.Prelude.{List}
use Rattle.desk_model.specs.After.{After}
use Rattle.desk_model.specs.Book.{Book}
use Rattle.desk_session.specs.Session.{GivenCommand, HoldsAcknowledged, Turn, commands_of}

-- the book after the first of the given commands, with all that were acknowledged and at most one
-- more
abbrev pub IsKeptBook : Book → List Turn → List GivenCommand → Book → Type 0
IsKeptBook book turns given found =
    (kept : List GivenCommand) × HoldsAcknowledged (record { turns = turns; given = given; kept = kept })
    × After book (commands_of kept) found
