-- What is put along a list from an index on, and the bytes of a text that is put.
use Rattle.std.proofs.Common.{◌≡◌, ℕ, ◌+◌, List, [], ◌∷◌, ◌++◌, drop, Some, None, encode_utf8_all, sym, ap, ◌∙◌, arith}
use Rattle.std.specs.List.{enumerate_from, flat_map}
use Rattle.std.specs.Prelude.{IsUtf8, option_map, slice_get}
use Rattle.std.specs.Str.{chars}
use Rattle.std.proofs.lemmas.Str.{encodes-chars}
use Rattle.desk_model.proofs.Lists.Items.{drop-there, drop-past}
use Rattle.desk_memory.proofs.Callers.{slice_get-enumerate}

module _ {X : Type 0} (xs : List X) (i : ℕ) where
  -- the item at the index, with its number from 1, and those after it
  pub numbered-there : (x : X) → slice_get xs i ≡ Some x → drop i (enumerate_from 1 xs) ≡ (i + 1, x) ∷ drop (i + 1) (enumerate_from 1 xs)
  numbered-there x at =
      let number : 1 + i ≡ i + 1 = omega arith in
      (drop-there (enumerate_from 1 xs) i (i + 1, x)
      (slice_get-enumerate 1 xs i ∙ (ap (option_map (λ (y : X). (1 + i, y))) at ∙ ap (λ (k : ℕ). Some (k, x)) number))).0

  -- there are no more
  pub numbered-past : slice_get xs i ≡ None → drop i (enumerate_from 1 xs) ≡ []
  numbered-past none = drop-past (enumerate_from 1 xs) i (slice_get-enumerate 1 xs i ∙ ap (option_map (λ (y : X). (1 + i, y))) none)

  -- what each makes of it
  pub along-there : {Y : Type 0} (f : ℕ × X → List Y) (x : X) → slice_get xs i ≡ Some x
      → flat_map f (drop i (enumerate_from 1 xs)) ≡ f (i + 1, x) ++ flat_map f (drop (i + 1) (enumerate_from 1 xs))
  along-there f x at = ap (flat_map f) (numbered-there x at)

  pub along-past : {Y : Type 0} (f : ℕ × X → List Y) → slice_get xs i ≡ None → flat_map f (drop i (enumerate_from 1 xs)) ≡ []
  along-past f none = ap (flat_map f) (numbered-past none)

-- the bytes of a text are its characters' in UTF-8
pub text-bytes : (bytes text : List ℕ) → IsUtf8 bytes → chars bytes ≡ text → bytes ≡ encode_utf8_all text
text-bytes bytes text utf8 is = sym (encodes-chars bytes utf8) ∙ ap encode_utf8_all is
