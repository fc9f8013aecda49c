use Rattle.std.proofs.Common.{None, sym, ◌∙◌}
use Rattle.louis_translate.proofs.start.start_of.Goals as goal

pub rules_at-requires : goal.rules_at-requires
rules_at-requires c = c.requires.nodes None _ _ (sym c.group.ensures ∙ c.in-Some.is)

pub child-requires : goal.child-requires
child-requires c = c.requires.nodes None _ _ (sym c.group.ensures ∙ c.in-Some.is)
