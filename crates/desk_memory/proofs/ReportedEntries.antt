-- The entries of a history from an index on.
use Rattle.std.proofs.Common.{◌≡◌, ℕ, zero, suc, ◌+◌, ◌<◌, List, [], ◌∷◌, length, Some, None, refl, ap, ◌∙◌, arith, option_map, slice_get}
use Rattle.std.specs.List.{enumerate_from}
use Rattle.std.proofs.lemmas.Option.{slice_get-map, slice_get_within}
use Rattle.desk_memory.specs.declared.history.HeldEntry.{HeldEntry}
use Rattle.desk_model.specs.Book.{Entry}
use Rattle.desk_memory.specs.Histories.{entries_held, entry_held}
use Rattle.desk_memory.specs.ItemsLeft.{entries_from}
use Rattle.desk_model.proofs.Lists.Items.{drop-there, drop-past}

pub slice_get-enumerate : {X : Type 0} (n : ℕ) (xs : List X) (i : ℕ) → slice_get (enumerate_from n xs) i ≡ option_map (λ x. (n + i, x)) (slice_get xs i)
slice_get-enumerate n [] i = refl
slice_get-enumerate n (x ∷ xs) zero = ap (λ (k : ℕ). Some (k, x)) (let same : n ≡ n + 0 = omega arith in same)
slice_get-enumerate n (x ∷ xs) (suc i) = slice_get-enumerate (n + 1) xs i ∙ ap (λ (k : ℕ). option_map (λ y. (k, y)) (slice_get xs i)) (let same : n + 1 + i ≡ n + suc i = omega arith in same)

pub entries-there : (entries : List HeldEntry) (i : ℕ) (e : HeldEntry) → slice_get entries i ≡ Some e → (entries_from i entries ≡ (i + 1, entry_held e) ∷ entries_from (i + 1) entries) × (i < length entries)
entries-there entries i e at =
    let all = enumerate_from 1 (entries_held entries) in
    let here : slice_get all i ≡ Some (i + 1, entry_held e) =
    slice_get-enumerate 1 (entries_held entries) i
    ∙ (ap (option_map (λ (x : Entry). (1 + i, x))) (slice_get-map entry_held entries i ∙ ap (option_map entry_held) at)
    ∙ ap (λ (k : ℕ). Some (k, entry_held e)) (let same : 1 + i ≡ i + 1 = omega arith in same)) in
    ((drop-there all i (i + 1, entry_held e) here).0, slice_get_within entries i e at)

pub entries-past : (entries : List HeldEntry) (i : ℕ) → slice_get entries i ≡ None → entries_from i entries ≡ []
entries-past entries i at =
    drop-past (enumerate_from 1 (entries_held entries)) i
    (slice_get-enumerate 1 (entries_held entries) i ∙ ap (option_map (λ (x : Entry). (1 + i, x))) (slice_get-map entry_held entries i ∙ ap (option_map entry_held) at))
