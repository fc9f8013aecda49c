-- The words at the front of cells.
use Rattle.std.proofs.Common.{◌≡◌, ℕ, zero, suc, ◌+◌, ◌-◌, ◌<◌, ◌≤◌, true, false, List, [], ◌∷◌, ◌++◌, length, get_or, take, drop, length-drop, length-take, refl, sym, ap, subst, ◌∙◌, arith, take-add, drop-drop, get_or-drop}
use Rattle.std.specs.Prelude.{filter}
use Rattle.std.specs.List.{slice_split, onto_first}
use Rattle.desk_brf.specs.Words.{is_blank, has_cells, words, IsAtWord, EndsWord, BeginsWithWord}

-- what a list is split into after the first part
abbrev parts_after : List ℕ → List (List ℕ)
parts_after [] = []
parts_after (cell ∷ cells) = slice_split is_blank cells

-- a blank at the front is in no word
pub words-blank : (cell : ℕ) (cells : List ℕ) → is_blank cell ≡ true → words (cell ∷ cells) ≡ words cells
words-blank cell cells blank = rw blank

split_word : (n : ℕ) (cells : List ℕ) → n ≤ length cells → ((k : ℕ) → k < n → is_blank (get_or cells k 0) ≡ false) → EndsWord (drop n cells)
    → slice_split is_blank cells ≡ take n cells ∷ parts_after (drop n cells)
split_word zero [] le all ends = refl
split_word zero (cell ∷ cells) le all ends = rw ends
split_word (suc n) [] le all ends = absurd (omega arith)
split_word (suc n) (cell ∷ cells) le all ends =
    let here : is_blank cell ≡ false = all 0 (omega arith) in
    let rest : slice_split is_blank cells ≡ take n cells ∷ parts_after (drop n cells) = split_word n cells (omega arith) (λ k lt. all (suc k) (omega arith)) ends in
    rw here (ap (onto_first cell) rest)

words_after : (cells : List ℕ) → EndsWord cells → filter has_cells (parts_after cells) ≡ words cells
words_after [] ends = refl
words_after (cell ∷ cells) ends = sym (words-blank cell cells ends)

-- the cells that are not blank at the front, up to a blank or the end, are the first word
pub words-front : (n : ℕ) (cells : List ℕ) → 0 < n → n ≤ length cells → ((k : ℕ) → k < n → is_blank (get_or cells k 0) ≡ false) → EndsWord (drop n cells)
    → words cells ≡ take n cells ∷ words (drop n cells)
words-front zero cells some le all ends = absurd (omega arith)
words-front (suc n) [] some le all ends = absurd (omega arith)
words-front (suc n) (cell ∷ cells) some le all ends =
    ap (filter has_cells) (split_word (suc n) (cell ∷ cells) le all ends) ∙ ap (λ (ws : List (List ℕ)). (cell ∷ take n cells) ∷ ws) (words_after (drop n cells) ends)

-- where a word ends
pub ends-at : (n : ℕ) (cells : List ℕ) → n < length cells → is_blank (get_or cells n 0) ≡ true → EndsWord (drop n cells)
ends-at zero [] lt blank = tt
ends-at zero (cell ∷ cells) lt blank = blank
ends-at (suc n) [] lt blank = tt
ends-at (suc n) (cell ∷ cells) lt blank = ends-at n cells (omega arith) blank

pub ends-past : (cells : List ℕ) → EndsWord (drop (length cells) cells)
ends-past [] = tt
ends-past (cell ∷ cells) = ends-past cells

-- a blank is not the first cell of a word
pub later : (n : ℕ) (cells : List ℕ) → IsAtWord cells → n < length cells → is_blank (get_or cells n 0) ≡ true → 0 < n
later zero [] at lt blank = absurd (omega arith)
later zero (cell ∷ cells) at lt blank = let two : true ≡ false = sym blank ∙ at in absurd cc
later (suc n) cells at lt blank = omega arith

pub words-word : (n : ℕ) (cells : List ℕ) → BeginsWithWord n cells → words cells ≡ take n cells ∷ words (drop n cells)
words-word n cells w = words-front n cells w.some w.within w.full w.ends

-- a word that is cut
module _ (n room : ℕ) (cells : List ℕ) (w : BeginsWithWord n cells) (long : room < n) where
  both : room + (n - room) ≡ n
  both = omega arith

  rest_of_word : BeginsWithWord (n - room) (drop room cells)
  rest_of_word =
      let within = w.within in
      let dropped = length-drop room cells in
      record {
        some = omega arith;
        within = omega (arith, within, dropped);
        full = λ k lt. ap is_blank (get_or-drop room cells k 0) ∙ w.full (room + k) (omega arith);
        ends = subst EndsWord (ap (λ k. drop k cells) (sym both) ∙ sym (drop-drop (n - room) room cells)) w.ends;
      }

  pub cut-words : words cells ≡ (take room cells ++ take (n - room) (drop room cells)) ∷ words (drop n cells)
  cut-words =
      words-word n cells w
      ∙ ap (λ (word : List ℕ). word ∷ words (drop n cells)) (ap (λ k. take k cells) (sym both) ∙ take-add room (n - room) cells)

  pub cut-rest : words (drop room cells) ≡ take (n - room) (drop room cells) ∷ words (drop n cells)
  cut-rest =
      words-word (n - room) (drop room cells) rest_of_word
      ∙ ap (λ (cs : List ℕ). take (n - room) (drop room cells) ∷ words cs) (drop-drop (n - room) room cells ∙ ap (λ k. drop k cells) both)

  pub cut-at_word : IsAtWord (drop room cells)
  cut-at_word = at (drop room cells) rest_of_word.within rest_of_word.full
    where
      at : (cs : List ℕ) → n - room ≤ length cs → ((k : ℕ) → k < n - room → is_blank (get_or cs k 0) ≡ false) → IsAtWord cs
      at [] le full = tt
      at (c ∷ cs) le full = full 0 (omega arith)

  pub cut-some : 0 < length (take (n - room) (drop room cells))
  cut-some = let within = rest_of_word.within in let size = length-take (n - room) (drop room cells) in omega (arith, size, within)
