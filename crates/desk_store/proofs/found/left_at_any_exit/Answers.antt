use Rattle.std.proofs.Common.{inl, inr}
use Rattle.desk_store.proofs.Reopening.{first_or_next, holds_either, holds_empty, holds_new, the_one}
use Rattle.desk_model.specs.Book.{empty_book}
use Rattle.desk_store.proofs.found.left_at_any_exit.Goals as goal

pub returns-clause-opened : goal.returns-clause-opened
returns-clause-opened g c format l book of leaves db left = the_one book db (holds_either format l book db of (leaves db left))

pub returns-clause-made : goal.returns-clause-made
returns-clause-made g c leaves db left = the_one empty_book db (holds_empty db (leaves db left))

pub returns-clause-kept : goal.returns-clause-kept
returns-clause-kept g c l book tables leaves db left = the_one book db (holds_new l book db tables (leaves db left))

pub returns-clause-lost : goal.returns-clause-lost
returns-clause-lost g c l book next tables leaves db left =
    first_or_next book next db (elim (leaves db left) [
      | inl first ↦ inl (holds_new l book db tables first)
      | inr second ↦ inr (holds_new l next db tables second)
    ])
