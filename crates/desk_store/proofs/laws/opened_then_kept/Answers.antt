use Rattle.desk_store.proofs.laws.opened_then_kept.Goals as goal

pub returns-clause-opened : goal.returns-clause-opened
returns-clause-opened g c l contents book next is leads = record { tables = is.tables; leads = leads; shows = (is.shows.0, is.shows.1.0, is.shows.2) }

pub returns-clause-left : goal.returns-clause-left
returns-clause-left g c l contents book is was = record { tables = is.tables; shows = (is.shows.0, is.shows.1.0, is.shows.2); leaves = is.leaves was }

pub returns-clause-made : goal.returns-clause-made
returns-clause-made g c make book next is leads = record { tables = is.kept.tables; leads = leads; shows = is.kept.shows }

pub returns-clause-made_left : goal.returns-clause-made_left
returns-clause-made_left g c make book is = is.kept
