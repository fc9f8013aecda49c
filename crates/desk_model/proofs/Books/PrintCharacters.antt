-- What is true of each character of a paragraph's texts is true of each of its print.
use Rattle.std.proofs.Common.{ℕ, ◌+◌, Bool, true, false, List, [], ◌∷◌, ◌++◌, map, take, drop, cond}
use Rattle.std.specs.List.{All, enumerate_from, flat_map, fold, list_any}
use Rattle.std.proofs.lemmas.List.Elements.{All-append, All-cons, All-drop, All-head, All-map, All-nil, All-tail, All-take}
use Rattle.desk_model.specs.Book.{Replacement, Entry, Corrects, Undoes, Paragraph}
use Rattle.desk_model.specs.Print.{in_force, print_of, stack, undoes, with_replacement}

module _ (P : ℕ → Type 0) where
  -- it is true of each character of the entry's text
  abbrev pub HasText : Entry → Type 0
  HasText (Corrects r who) = All P r.text
  HasText (Undoes undone) = Unit {0}

  with_replacement-all : (print : List ℕ) (r : Replacement) → All P print → All P r.text → All P (with_replacement print r)
  with_replacement-all print r all text =
      All-append P (take r.start print ++ r.text) (drop (r.start + r.count) print) (All-append P (take r.start print) r.text (All-take P r.start print all) text)
      (All-drop P (r.start + r.count) print all)

  fold-all : (rs : List Replacement) (print : List ℕ) → All P print → All (λ r. All P r.text) rs → All P (fold with_replacement print rs)
  fold-all [] print all texts = all
  fold-all (r ∷ rs) print all texts =
      fold-all rs (with_replacement print r) (with_replacement-all print r all (All-head (λ r. All P r.text) r rs texts)) (All-tail (λ r. All P r.text) r rs texts)

  abbrev IsOf : ℕ × Replacement → Type 0
  IsOf correction = All P correction.1.text

  force-all : (history : List Entry) (n : ℕ) (entry : Entry) → HasText entry → All IsOf (in_force history (n, entry))
  force-all history n (Corrects r who) text = go (list_any (undoes n) history)
    where
      go : (b : Bool) → All IsOf (cond b [] ((n, r) ∷ []))
      go true = All-nil IsOf
      go false = All-cons IsOf (n, r) [] text (All-nil IsOf)
  force-all history n (Undoes undone) text = All-nil IsOf

  stack-all : (history : List Entry) (n : ℕ) (entries : List Entry) → All HasText entries → All IsOf (flat_map (in_force history) (enumerate_from n entries))
  stack-all history n [] all = All-nil IsOf
  stack-all history n (entry ∷ entries) all =
      All-append IsOf (in_force history (n, entry)) (flat_map (in_force history) (enumerate_from (n + 1) entries))
      (force-all history n entry (All-head HasText entry entries all)) (stack-all history (n + 1) entries (All-tail HasText entry entries all))

  pub print-all : (p : Paragraph) → All P p.original → All HasText p.history → All P (print_of p)
  print-all p original history =
      fold-all (map (λ correction. correction.1) (stack p.history)) p.original original
      (All-map (λ (r : Replacement). All P r.text) (λ (correction : ℕ × Replacement). correction.1) (stack p.history) (stack-all p.history 1 p.history history))
