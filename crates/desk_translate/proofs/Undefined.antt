-- The first undefined place of a print.
use Rattle.std.proofs.Common.{◌≡◌, ℕ, List, sym, ap, ◌∙◌, inl, inr, is_some}
use Rattle.std.proofs.lemmas.Bool.{cases_order}
use Rattle.louis_table.specs.Meaning.{Meaning}
use Rattle.louis_translate.specs.Position.{IsFirstUndefined}

-- a print has one first undefined place
pub IsFirstUndefined-one : (meaning : Meaning) (print : List ℕ) (p q : ℕ) → IsFirstUndefined meaning print p → IsFirstUndefined meaning print q → p ≡ q
IsFirstUndefined-one meaning print p q a b =
    elim (cases_order p q) [
      | inl e ↦ e
      | inr ne ↦ elim ne [
        | inl less ↦ let some = sym (ap is_some a.undefined) ∙ b.before p less in absurd cc
        | inr more ↦ let some = sym (ap is_some b.undefined) ∙ a.before q more in absurd cc
      ]
    ]
