use Rattle.std.proofs.Common.{arith, length}
use Rattle.std.proofs.lemmas.List.FromFn.{length-range_with_len}
use Rattle.std.proofs.lemmas.List.Sorted.{length_permutation}
use Rattle.desk_memory.proofs.paragraphs.Paragraphs.from_vecs.Goals as goal

pub from_vec-requires-2 : goal.from_vec-requires-2
from_vec-requires-2 c =
    let same = length_permutation _ _ c.requires.order in
    let long = length-range_with_len 1 (length c.args.items.items) in
    let few = c.requires.few in
    omega arith
