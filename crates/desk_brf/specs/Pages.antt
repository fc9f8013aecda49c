-- The pages of a volume.
use Rattle.std.specs.Prelude.{◌≡◌, ℕ, ◌+◌, ◌-◌, ◌<◌, ◌==◌, if◌then◌else◌, List, []}
use Rattle.std.specs.Prelude.{◌∷◌, ◌++◌, length, map, replicate, All}
use Rattle.std.specs.List.{flat_map, enumerate_from}
use Rattle.std.specs.Fmt.{decimal}
use Rattle.desk_brf.specs.PageLayout.{Layout, text_lines}

-- the letter of a digit: A to I for 1 to 9, and J for 0
abbrev pub digit_letter : ℕ → ℕ
digit_letter digit = if digit == 48 then 74 else digit + 16

-- a number sign and the digits
abbrev pub number_text : ℕ → List ℕ
number_text number = 35 ∷ map digit_letter (decimal number)

-- the last line of a page: its number ends at the last cell of the width, or begins in cell 1 if it
-- is wider
abbrev pub number_line : (width number : ℕ) → List ℕ
number_line width number = replicate (width - length (number_text number)) 32 ++ number_text number

-- a line with its ending, CR LF
abbrev pub with_ending : List ℕ → List ℕ
with_ending line = line ++ 13 ∷ 10 ∷ []

-- a page: its lines of text, the line of its number, and a form feed
abbrev pub page_text : (width number : ℕ) → List (List ℕ) → List ℕ
page_text width number page = flat_map with_ending (page ++ number_line width number ∷ []) ++ 12 ∷ []

-- the bytes are the pages that hold the lines, numbered from 1; the last page is filled with empty
-- lines
pub record ArePages (layout : Layout) (lines : List (List ℕ)) (bytes : List ℕ) (count : ℕ) : Type 0 where
  pub pages : List (List (List ℕ))
  pub blank : ℕ
  pub holds : flat_map (λ page. page) pages ≡ lines ++ replicate blank []
  pub full : All (λ page. length page ≡ text_lines layout) pages
  pub fewest : blank < text_lines layout
  pub count_is : count ≡ length pages
  pub bytes_are : bytes ≡ flat_map (λ (number, page). page_text layout.width number page) (enumerate_from 1 pages)
