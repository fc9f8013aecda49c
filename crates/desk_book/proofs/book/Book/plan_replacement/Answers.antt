use Rattle.std.proofs.Common.{ℕ, ◌<◌, List, None, refl, sym, subst, ◌∙◌, inl}
use Rattle.std.specs.Prelude.{IsSome}
use Rattle.louis_table.specs.Meaning.{Meaning}
use Rattle.louis_table.specs.Table.{Means}
use Rattle.desk_model.specs.declared.command.Command.TheVariants.{Table}
use Rattle.desk_model.specs.Book.{Book, text_of}
use Rattle.desk_book.specs.Changes.{AreRenewed}
use Rattle.desk_model.specs.Judging.{Passes}
use Rattle.desk_model.specs.Limits.{most_version}
use Rattle.desk_model.specs.ValidNames.{IsTableName}
use Rattle.desk_model.specs.Ranks.{bad_table_rank, rank, untranslatable_rank}
use Rattle.desk_model.specs.declared.refusal.Refusal.TheVariants.{Full}
use Rattle.desk_model.specs.declared.refusal.Limit.TheVariants.{Paragraphs}
use Rattle.desk_book.proofs.Plans.Planning.{exit, no_memory}
use Rattle.desk_model.proofs.Commands.Ranks.{past_version}
use Rattle.desk_book.proofs.Plans.TablePlanning.{past_reading, past_tables, past_users, unread, untranslatable}
use Rattle.desk_book.proofs.book.Book.plan_replacement.Goals as goal

module _ (book : Book) (name text : List ℕ) (named : IsTableName name) (old : IsSome (text_of book name)) where
  there : Passes book None (Table name text) (rank (Full Paragraphs))
  there = past_tables book name text named (inl old)

  module _ (version : book.version < most_version) where
    left : Passes book None (Table name text) bad_table_rank
    left = past_version book (Table name text) (rank (Full Paragraphs)) there refl version

    judged : (meaning : Meaning) → Means text meaning → Passes book None (Table name text) untranslatable_rank
    judged meaning means = past_reading book name text meaning means left

pub returns-in_err-table-clause-refused : goal.returns-in_err-table-clause-refused
returns-in_err-table-clause-refused c =
    let passes = left c.args.self.now c.args.name.now c.args.text.now c.requires.name c.requires.old c.in_ok-check_version.ensures.left in
    exit _ _ _ c.from_residual-in_err-table.ensures.1 (unread c.args.self.now c.args.name.now c.args.text.now _ passes c.in_err-table.ensures.bad)

pub returns-in_err-check_users-clause-refused : goal.returns-in_err-check_users-clause-refused
returns-in_err-check_users-clause-refused c =
    let means = subst (Means c.args.text.now) (sym c.rules-rules.ensures) c.in_ok-table.ensures.means in
    let passes = judged c.args.self.now c.args.name.now c.args.text.now c.requires.name c.requires.old c.in_ok-check_version.ensures.left _ means in
    let reported = c.in_err-check_users.ensures.undefined in
    exit _ _ _ c.from_residual-in_err-check_users.ensures.1 (untranslatable c.args.self.now c.args.name.now c.args.text.now _ means _ reported.0 reported.1 passes reported.2 reported.3)

pub returns-in_err-cells-clause-refused : goal.returns-in_err-cells-clause-refused
returns-in_err-cells-clause-refused c =
    let passes = left c.args.self.now c.args.name.now c.args.text.now c.requires.name c.requires.old c.in_ok-check_version.ensures.left in
    exit _ _ _ c.from_residual-in_err-cells.ensures.1 (no_memory c.args.self.now (Table c.args.name.now c.args.text.now) _ bad_table_rank refl passes refl)

pub returns-in_err-copy-clause-refused : goal.returns-in_err-copy-clause-refused
returns-in_err-copy-clause-refused c =
    let passes = left c.args.self.now c.args.name.now c.args.text.now c.requires.name c.requires.old c.in_ok-check_version.ensures.left in
    exit _ _ _ c.from_residual-in_err-copy.ensures.1 (no_memory c.args.self.now (Table c.args.name.now c.args.text.now) _ bad_table_rank refl passes refl)

pub returns-clause-planned : goal.returns-clause-planned
returns-clause-planned c =
    let book = c.args.self.now in
    let means = subst (Means c.args.text.now) (sym c.rules-rules.ensures) c.in_ok-table.ensures.means in
    let renewed = subst (λ (meaning : Meaning). AreRenewed book c.args.name.now meaning c.in_ok-cells.cells.items) c.rules-rules.ensures c.in_ok-cells.ensures.renewed in
    let passes = judged book c.args.name.now c.args.text.now c.requires.name c.requires.old c.in_ok-check_version.ensures.left _ means in
    let accepted = past_users book c.args.name.now c.args.text.now _ means passes c.in_ok-check_users.ensures.defined in
    let name = c.in_ok-copy.ensures.text ∙ c.as_str.ensures in
    (accepted, (_, refl, rw (name, c.in_ok-table.ensures.text) ((refl, refl), c.requires.old, c.in_ok-table.ensures.means, renewed, c.in_ok-cells.ensures.few)), (tt, tt, tt))
