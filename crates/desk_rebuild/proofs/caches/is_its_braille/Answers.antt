use Rattle.std.proofs.Common.{rules}
use Rattle.desk_rebuild.proofs.caches.is_its_braille.Goals as goal

pub returns : goal.returns
returns c = search rules
