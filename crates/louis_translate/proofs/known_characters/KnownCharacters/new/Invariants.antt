use Rattle.louis_translate.specs.Known.{AreKnown}
use Rattle.louis_translate.proofs.known_characters.KnownCharacters.new.Given as goal

abbrev pub invariant-loop-code : goal.invariant-loop-code
invariant-loop-code l = AreKnown l.table l.known
