-- Lists of characters.
use Rattle.std.proofs.Common.{◌≡◌, ℕ, true, List, [], ◌∷◌}
use Rattle.std.specs.Char.{IsScalar}
use Rattle.std.specs.Cmp.{first_so, second_so}
use Rattle.std.proofs.Math.Utf8.{scalar, scalars}
use Rattle.std.proofs.lemmas.List.Elements.{All-cons, All-nil}
use Rattle.desk_model.specs.BookTexts.{AreCharacters}

pub AreCharacters-scalars : (cs : List ℕ) → scalars cs ≡ true → AreCharacters cs
AreCharacters-scalars [] h = All-nil IsScalar
AreCharacters-scalars (c ∷ cs) h = All-cons IsScalar c cs (first_so (scalar c) (scalars cs) h) (AreCharacters-scalars cs (second_so (scalar c) (scalars cs) h))
