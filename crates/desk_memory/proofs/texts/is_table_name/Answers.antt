use Rattle.std.proofs.Common.{sym, ◌∙◌, arith}
use Rattle.std.proofs.lemmas.List.Sums.{AllPass-from_list_all, list_all-from_AllPass}
use Rattle.desk_memory.proofs.texts.is_table_name.Goals as goal

pub returns-then-count-le-MOST_NAME : goal.returns-then-count-le-MOST_NAME
returns-then-count-le-MOST_NAME c = (
  λ yes. record { nonempty = omega arith; short = omega arith; characters = AllPass-from_list_all _ _ (sym c.has_name_characters.ensures ∙ yes) },
  λ name. c.has_name_characters.ensures ∙ list_all-from_AllPass _ _ name.characters,
)
