-- A replacement, taken back.
use Rattle.std.proofs.Common.{◌≡◌, ℕ, ◌+◌, ◌≤◌, List, ◌++◌, length, take, drop, sym, ap, ap₂, ◌∙◌, arith, append_assoc, take-append-drop, drop-drop, length-append, length-take-le}
use Rattle.std.proofs.Math.Seq.{take-append_seam, drop-append_seam}
use Rattle.desk_memory.specs.Histories.{replaced_by}

-- what gave way comes back in place of what came for it
pub replaced-back : (print : List ℕ) (start count : ℕ) (text taken : List ℕ) → start + count ≤ length print → taken ≡ take (length taken) (drop start print) → length taken ≡ count
    → replaced_by start (length text) taken (replaced_by start count text print) ≡ print
replaced-back print start count text taken le is long =
    let front = take start print in
    let rest = drop (start + count) print in
    let here : length front ≡ start = length-take-le start print (omega arith) in
    let both : length (front ++ text) ≡ start + length text = length-append front text ∙ ap (λ (n : ℕ). n + length text) here in
    let first : take start ((front ++ text) ++ rest) ≡ front = ap (take start) (append_assoc front text rest) ∙ (ap (λ (n : ℕ). take n (front ++ (text ++ rest))) (sym here) ∙ take-append_seam front (text ++ rest)) in
    let last : drop (start + length text) ((front ++ text) ++ rest) ≡ rest = ap (λ (n : ℕ). drop n ((front ++ text) ++ rest)) (sym both) ∙ drop-append_seam (front ++ text) rest in
    let middle : taken ++ rest ≡ drop start print = ap₂ (λ (a b : List ℕ). a ++ b) (is ∙ ap (λ (n : ℕ). take n (drop start print)) long) (sym (drop-drop count start print)) ∙ take-append-drop count (drop start print) in
    ap₂ (λ (a b : List ℕ). (a ++ taken) ++ b) first last
    ∙ (append_assoc front taken rest ∙ (ap (λ (t : List ℕ). front ++ t) middle ∙ take-append-drop start print))
