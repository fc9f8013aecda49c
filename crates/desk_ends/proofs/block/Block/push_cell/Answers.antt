use Rattle.std.proofs.Common.{◌≡◌, ◌+◌, ◌≤◌, ◌++◌, ◌∷◌, [], List, ℕ, length, set, take, append_assoc, arith}
use Rattle.std.proofs.lemmas.List.{length-set, length-take, take-set-le, take_more_set}
use Rattle.std.proofs.lemmas.Grind.{common_steps}
use Rattle.desk_ends.proofs.Encoding.{encode-braille_character}
use Rattle.desk_ends.proofs.block.Block.push_cell.Goals as goal

-- three elements after the first n
take_three_set : (xs : List ℕ) (n a b c : ℕ) → n + 3 ≤ length xs → take (n + 3) (set (set (set xs n a) (n + 1) b) (n + 2) c) ≡ take n xs ++ (a ∷ b ∷ c ∷ [])
take_three_set xs n a b c h = grind (arith, common_steps, length-set, take_more_set, append_assoc)

pub returns : goal.returns
returns c = grind (arith, common_steps, length-take, encode-braille_character, take-set-le, take_three_set)
