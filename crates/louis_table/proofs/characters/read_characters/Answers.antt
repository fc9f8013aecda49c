use Rattle.std.proofs.Common.{List, ℕ, sym, subst, rules}
use Rattle.louis_table.proofs.CharacterLaws.{SpellsOn, SpellsOn-none, SpellsOn-more}
use Rattle.louis_table.proofs.characters.read_characters.Goals as goal

pub loop-rest-init : goal.loop-rest-init
loop-rest-init c = subst (λ (front : List ℕ). SpellsOn c.args.operand.now front c.args.operand.now) (sym c.new-characters.ensures.items) (SpellsOn-none c.args.operand.now)

pub loop-rest-preserved : goal.loop-rest-preserved
loop-rest-preserved c = search (rules, SpellsOn, SpellsOn-more)
