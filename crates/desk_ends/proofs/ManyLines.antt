-- Lines that are ended by line feeds, and what stands after them.
use Rattle.std.proofs.Common.{◌≡◌, ◌≢◌, ℕ, List, [], ◌∷◌, ◌++◌, refl, ap, ◌∙◌, rules, map}
use Rattle.std.specs.List.{onto_first}
use Rattle.std.specs.Io.BufRead.{strip_last}
use Rattle.std.proofs.lemmas.Bool.{cases_Bool}
use Rattle.std.proofs.lemmas.List.{map-append}
use Rattle.louis_table.specs.Lines.{pieces_of, lines_of}
use Rattle.louis_table.proofs.LineLaws.{pieces_of-split}

-- bytes, and a line feed after them
abbrev pub fed : List ℕ → List ℕ
fed front = front ++ 10 ∷ []

pub fed-some : (front : List ℕ) → fed front ≢ []
fed-some [] e = cc
fed-some (b ∷ front) e = cc

pub pieces-some : (front : List ℕ) → pieces_of (fed front) ≢ []
pieces-some front e = let h = pieces_of-split (fed front) (fed-some front) in cc

onto-after : (b : ℕ) (parts others : List (List ℕ)) → parts ≢ [] → onto_first b (parts ++ others) ≡ onto_first b parts ++ others
onto-after b [] others some = absurd (some refl)
onto-after b (part ∷ parts) others some = refl

pieces-after : (front later : List ℕ) → pieces_of (fed front ++ later) ≡ pieces_of (fed front) ++ pieces_of later
pieces-after [] later = refl
pieces-after (b ∷ front) later = search (rules, cases_Bool, onto-after, pieces-some, (pieces-after front later))

-- the lines of what stands after them come after theirs
pub lines-then : (front later : List ℕ) → lines_of (fed front ++ later) ≡ lines_of (fed front) ++ lines_of later
lines-then front later = ap (map (strip_last 13)) (pieces-after front later) ∙ map-append (strip_last 13) (pieces_of (fed front)) (pieces_of later)
