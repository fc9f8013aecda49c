use Rattle.std.proofs.Common.{ℕ, ◌<◌, List, None, length, refl, ◌∙◌, arith, inr}
use Rattle.desk_model.specs.declared.command.Command.TheVariants.{Table}
use Rattle.desk_model.specs.Book.{Book}
use Rattle.desk_model.specs.Judging.{Passes}
use Rattle.desk_model.specs.Limits.{most_tables, most_version}
use Rattle.desk_model.specs.ValidNames.{IsTableName}
use Rattle.desk_model.specs.Ranks.{bad_table_rank, rank}
use Rattle.desk_model.specs.declared.refusal.Refusal.TheVariants.{Full}
use Rattle.desk_model.specs.declared.refusal.Limit.TheVariants.{Paragraphs}
use Rattle.desk_book.proofs.Held.HeldLookups.{count-tables, sound}
use Rattle.desk_book.proofs.Plans.Planning.{exit, no_memory}
use Rattle.desk_model.proofs.Commands.Ranks.{past_version}
use Rattle.desk_book.proofs.Plans.TablePlanning.{past_reading, past_tables, past_users, unread, unused}
use Rattle.desk_book.proofs.book.Book.plan_addition.Goals as goal
use Rattle.desk_book.proofs.book.Book.plan_addition.Goals.{In_ok-check_limit}

module _ (book : Book) (name text : List ℕ) (named : IsTableName name) (room : length book.tables < most_tables) where
  roomy : Passes book None (Table name text) (rank (Full Paragraphs))
  roomy = past_tables book name text named (inr room)

  left : book.version < most_version → Passes book None (Table name text) bad_table_rank
  left version = past_version book (Table name text) (rank (Full Paragraphs)) roomy refl version

room_left : (c : In_ok-check_limit) → length c.args.self.now.tables < most_tables
room_left c =
    let count = count-tables _ _ _ _ c.args.self.now c.self.view_is in
    let left = c.in_ok-check_limit.ensures.left in
    omega arith

pub returns-in_err-read_table-clause-refused : goal.returns-in_err-read_table-clause-refused
returns-in_err-read_table-clause-refused c =
    let passes = left c.args.self.now c.args.name.now c.args.text.now c.requires.name (room_left (goal.at.returns-in_err-read_table-clause-refused c).In_ok-check_limit) c.in_ok-check_version.ensures.left in
    exit _ _ _ c.from_residual-in_err-read_table.ensures.1 (unread c.args.self.now c.args.name.now c.args.text.now _ passes c.in_err-read_table.ensures.bad)

pub returns-in_err-copy-clause-refused : goal.returns-in_err-copy-clause-refused
returns-in_err-copy-clause-refused c =
    let passes = left c.args.self.now c.args.name.now c.args.text.now c.requires.name (room_left (goal.at.returns-in_err-copy-clause-refused c).In_ok-check_limit) c.in_ok-check_version.ensures.left in
    exit _ _ _ c.from_residual-in_err-copy.ensures.1 (no_memory c.args.self.now (Table c.args.name.now c.args.text.now) _ bad_table_rank refl passes refl)

pub returns-in_err-new-clause-refused : goal.returns-in_err-new-clause-refused
returns-in_err-new-clause-refused c =
    let passes = left c.args.self.now c.args.name.now c.args.text.now c.requires.name (room_left (goal.at.returns-in_err-new-clause-refused c).In_ok-check_limit) c.in_ok-check_version.ensures.left in
    exit _ _ _ c.from_residual-in_err-new.ensures.1 (no_memory c.args.self.now (Table c.args.name.now c.args.text.now) _ bad_table_rank refl passes refl)

pub returns-clause-planned : goal.returns-clause-planned
returns-clause-planned c =
    let book = c.args.self.now in
    let table = c.in_ok-read_table.field-0 in
    let means = c.in_ok-read_table.ensures.means in
    let passes = left book c.args.name.now c.args.text.now c.requires.name (room_left (goal.at.returns-clause-planned c).In_ok-check_limit) c.in_ok-check_version.ensures.left in
    let judged = past_users book c.args.name.now c.args.text.now table.rules means (past_reading book c.args.name.now c.args.text.now table.rules means passes)
    (unused book c.args.name.now table.rules (sound _ _ _ _ book c.self.view_is c.self.invariant) c.requires.new) in
    let name = c.in_ok-copy.ensures.text ∙ c.as_str.ensures in
    let count = count-tables _ _ _ _ book c.self.view_is in
    let many = c.len-2.ensures in
    let room = c.in_ok-new.ensures in
    (judged, (_, refl, rw (name, c.in_ok-read_table.ensures.text) ((refl, refl), c.requires.new, omega arith, means)), (tt, tt, tt))
