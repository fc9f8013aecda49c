use Rattle.sqlite.specs.Held.{state}
use Rattle.desk_session.proofs.FoundAgain.{begins_made, begins_opened}
use Rattle.desk_session.proofs.laws.begins_where_a_book_was_opened.Goals as goal

pub returns-clause-opened : goal.returns-clause-opened
returns-clause-opened g c make book = begins_opened g.S.Store make book c.args.old.now (state g.S.Store c.args.new.now)

pub returns-clause-made : goal.returns-clause-made
returns-clause-made g c make book = begins_made g.S.Store make book c.args.old.now (state g.S.Store c.args.new.now)
