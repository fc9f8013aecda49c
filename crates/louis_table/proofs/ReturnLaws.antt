-- A carriage return at the end of a line.
use Rattle.std.proofs.Common.{◌≡◌, ℕ, ◌-◌, true, List, [], ◌∷◌, ◌++◌, length, take, Option, Some, None, Bor, sym, ap, ◌∙◌, inl, inr, lit<, rules, MatchOption, unwrap_or}
use Rattle.std.specs.Str.Pattern.{FindsCharSuffix, StripsSuffix}
use Rattle.std.specs.Io.BufRead.{strip_last, ends_with_byte}
use Rattle.std.proofs.lemmas.Bool.{cases_Bool, eqb-true, cond-false, and_parts}
use Rattle.std.proofs.lemmas.List.{take_more, take_all}
use Rattle.std.proofs.lemmas.Str.{encode_ascii}

last_byte : (xs : List ℕ) → ends_with_byte 13 xs ≡ true → xs ≡ take (length xs - 1) xs ++ 13 ∷ []
last_byte xs e = search (rules, and_parts, eqb-true, take_all, take_more)

-- what is left of a line, with or without a carriage return
pub unwrap_or-strip_last : (line : Bor (List ℕ)) (r : Option (Bor (List ℕ)))
    → MatchOption r (FindsCharSuffix 13 line.now None) (λ x. StripsSuffix (FindsCharSuffix 13) line.now x.now)
    → (unwrap_or r line).now ≡ strip_last 13 line.now
unwrap_or-strip_last line None h =
    elim (cases_Bool (ends_with_byte 13 line.now)) [
      | inl t ↦ absurd (h (take (length line.now - 1) line.now) (last_byte line.now t ∙ ap (λ (b : List ℕ). take (length line.now - 1) line.now ++ b) (sym (encode_ascii 13 (lit< tt)))))
      | inr f ↦ sym (cond-false _ _ _ f)
    ]
unwrap_or-strip_last line (Some x) h = search rules
