use Rattle.std.proofs.Common.{rules}
use Rattle.louis_translate.proofs.KnownCharacters.{AreKnown-none, AreKnown-set}
use Rattle.louis_translate.proofs.known_characters.KnownCharacters.new.Goals as goal

pub loop-code-init : goal.loop-code-init
loop-code-init c = AreKnown-none c.args.table.now 256

pub loop-code-preserved : goal.loop-code-preserved
loop-code-preserved c = search (rules, AreKnown-set)
