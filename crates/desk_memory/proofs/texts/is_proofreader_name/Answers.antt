use Rattle.std.proofs.Common.{sym, ◌∙◌, arith}
use Rattle.std.proofs.lemmas.List.Sums.{AllPass-from_list_all, list_all-from_AllPass}
use Rattle.desk_memory.proofs.texts.is_proofreader_name.Goals as goal

pub returns-then-count_of-le-MOST_PROOFREADER : goal.returns-then-count_of-le-MOST_PROOFREADER
returns-then-count_of-le-MOST_PROOFREADER c = (
  λ yes. record { short = omega arith; characters = AllPass-from_list_all _ _ (sym c.has_proofreader_characters.ensures ∙ yes) },
  λ name. c.has_proofreader_characters.ensures ∙ list_all-from_AllPass _ _ name.characters,
)
