-- Only one refusal is reported of a command.
use Rattle.std.proofs.Common.{◌≡◌, ℕ, List, [], ◌∷◌, ◌++◌, Option, Some, None, sym, ap, subst, ◌∙◌, arith, inl, inr, refl, All, IsSomeAnd, is_some}
use Rattle.std.proofs.lemmas.Bool.{both_ways, cases_order}
use Rattle.std.proofs.lemmas.List.Elements.{All-head, All-tail}
use Rattle.louis_table.proofs.OneMeaning.{one_fault, one_meaning}
use Rattle.louis_table.specs.Meaning.{Meaning}
use Rattle.louis_table.specs.Table.{Bad, Means}
use Rattle.louis_table.specs.declared.fault.TableFault.{TableFault}
use Rattle.louis_translate.specs.Position.{IsFirstUndefined}
use Rattle.desk_model.specs.declared.command.Command.{Command}
use Rattle.desk_model.specs.declared.refusal.Refusal.{Refusal}
use Rattle.desk_model.specs.declared.refusal.Refusal.TheVariants.{Moved, BadName, BadReader, BadText, NoParagraph, NoTable, NoMark, Struck, NotStruck, Resolved, BadSpan, NothingToUndo, TooLong, Full, BadTable, Undefined, Untranslatable, NoMemory}
use Rattle.desk_model.specs.Book.{Book, Paragraph, text_of}
use Rattle.desk_model.specs.Named.{named_by}
use Rattle.desk_model.specs.Refusals.{DefinesUser, Holds, IsRefused, IsUndefined, IsUntranslatable}
use Rattle.desk_model.specs.Print.{print_of}
use Rattle.desk_model.specs.BookTexts.{IsFirstBarred}
use Rattle.desk_model.specs.Ranks.{rank}
use Rattle.desk_model.proofs.Commands.Judging.{limit_rank, same_limit}
use Rattle.desk_model.proofs.Commands.Ranks.{defined_not_first}
use Rattle.std.proofs.lemmas.Option.{same_Some}

-- ---- firsts

one_barred : (text : List ℕ) (p q : ℕ) → IsFirstBarred text p → IsFirstBarred text q → p ≡ q
one_barred text p q a b =
    elim (cases_order p q) [
      | inl e ↦ e
      | inr ne ↦ elim ne [
        | inl less ↦ absurd (both_ways _ (b.before p less) a.barred)
        | inr more ↦ absurd (both_ways _ (a.before q more) b.barred)
      ]
    ]

one_undefined : (meaning : Meaning) (print : List ℕ) (p q : ℕ) → IsFirstUndefined meaning print p → IsFirstUndefined meaning print q → p ≡ q
one_undefined meaning print p q a b =
    elim (cases_order p q) [
      | inl e ↦ e
      | inr ne ↦ elim ne [
        | inl less ↦ let some = sym (ap is_some a.undefined) ∙ b.before p less in absurd cc
        | inr more ↦ let some = sym (ap is_some b.undefined) ∙ a.before q more in absurd cc
      ]
    ]

-- two elements that lack what all before each have are one
one_lacking : {X : Type 0} (P : X → Type 0) (xs : List X) (x : X) (us ys : List X) (y : X) (vs : List X) → xs ++ x ∷ us ≡ ys ++ y ∷ vs
    → All P xs → All P ys → ¬ P x → ¬ P y → x ≡ y
one_lacking P [] x us [] y vs e first other lacks misses = cc e
one_lacking P [] x us (z ∷ ys) y vs e first other lacks misses =
    let same : z ≡ x = cc e in absurd (lacks (subst P same (All-head P z ys other)))
one_lacking P (z ∷ xs) x us [] y vs e first other lacks misses =
    let same : z ≡ y = cc e in absurd (misses (subst P same (All-head P z xs first)))
one_lacking P (w ∷ xs) x us (z ∷ ys) y vs e first other lacks misses =
    one_lacking P xs x us ys y vs (cc e) (All-tail P w xs first) (All-tail P z ys other) lacks misses

module _ (book : Book) (expect : Option ℕ) (command : Command) where
  -- ---- of each kind at most one refusal holds

  one_text : (o : Option (List ℕ)) (p q : ℕ) → IsSomeAnd o (λ text. IsFirstBarred text p) → IsSomeAnd o (λ text. IsFirstBarred text q) → p ≡ q
  one_text None p q a b = absurd a
  one_text (Some text) p q a b = one_barred text p q a b

  one_table : (o : Option (List ℕ × List ℕ)) (f g : TableFault)
      → IsSomeAnd o (λ given. Bad given.1 f.line f.cause) → IsSomeAnd o (λ given. Bad given.1 g.line g.cause) → f ≡ g
  one_table None f g a b = absurd a
  one_table (Some given) f g a b =
      let is = one_fault given.1 f.line f.cause g.line g.cause a b in λ i. record { line = is.0 i; cause = is.1 i }

  one_place : (p q : ℕ) → IsUndefined book command p → IsUndefined book command q → p ≡ q
  one_place p q a b =
      let same = same_Some (b.print, b.name) (a.print, a.name) (sym b.print_is ∙ a.print_is) in
      let texts = same_Some b.text a.text (sym b.found ∙ (ap (text_of book) (ap (λ (e : List ℕ × List ℕ). e.1) same) ∙ a.found)) in
      let meanings = one_meaning a.text b.meaning a.meaning (subst (λ (t : List ℕ). Means t b.meaning) texts b.means) a.means in
      let its = subst (λ (m : Meaning). IsFirstUndefined m b.print q) meanings b.first in
      one_undefined a.meaning a.print p q a.first (subst (λ (t : List ℕ). IsFirstUndefined a.meaning t q) (ap (λ (e : List ℕ × List ℕ). e.0) same) its)

  one_user : (id n place other : ℕ) → IsUntranslatable book command id place → IsUntranslatable book command n other → (id ≡ n) × (place ≡ other)
  one_user id n place other a b =
      let same = same_Some (b.name, b.text) (a.name, a.text) (sym b.given ∙ a.given) in
      let names = ap (λ (e : List ℕ × List ℕ). e.0) same in
      let texts = ap (λ (e : List ℕ × List ℕ). e.1) same in
      let meanings = one_meaning a.text b.meaning a.meaning (subst (λ (t : List ℕ). Means t b.meaning) texts b.means) a.means in
      let u = a.user in
      let v = b.user in
      let first = subst (λ (m : Meaning). IsFirstUndefined m (print_of v.paragraph) other) meanings v.first in
      let before = subst (λ (m : Meaning). All (DefinesUser m a.name) v.before) meanings (subst (λ (t : List ℕ). All (DefinesUser b.meaning t) v.before) names v.others) in
      let one = one_lacking (DefinesUser a.meaning a.name) u.before u.paragraph u.after v.before v.paragraph v.after (sym u.parts ∙ v.parts) u.others before
      (λ defines. defined_not_first a.meaning (print_of u.paragraph) place (defines u.uses) u.first)
      (λ defines. defined_not_first a.meaning (print_of v.paragraph) other (defines (v.uses ∙ names)) first) in (
        u.reported ∙ (ap (λ (p : Paragraph). p.id) one ∙ sym v.reported),
        one_undefined a.meaning (print_of u.paragraph) place other u.first (subst (λ (p : Paragraph). IsFirstUndefined a.meaning (print_of p) other) (sym one) first),
      )

  -- ---- of one rank

  same_refusal : (r s : Refusal) → rank r ≡ rank s → Holds book expect command r → Holds book expect command s → r ≡ s
  same_refusal (Moved v) (Moved w) e a b = ap Moved (a.reported ∙ sym b.reported)
  same_refusal BadName BadName e a b = refl
  same_refusal BadReader BadReader e a b = refl
  same_refusal (BadText p) (BadText q) e a b = ap BadText (one_text (named_by command).text_given p q a b)
  same_refusal NoParagraph NoParagraph e a b = refl
  same_refusal NoTable NoTable e a b = refl
  same_refusal NoMark NoMark e a b = refl
  same_refusal Struck Struck e a b = refl
  same_refusal NotStruck NotStruck e a b = refl
  same_refusal Resolved Resolved e a b = refl
  same_refusal BadSpan BadSpan e a b = refl
  same_refusal NothingToUndo NothingToUndo e a b = refl
  same_refusal TooLong TooLong e a b = refl
  same_refusal TooLong (Full other) e a b = let ranks = limit_rank other in absurd (omega arith)
  same_refusal (Full limit) (Full other) e a b = ap Full (same_limit limit other e)
  same_refusal (Full limit) s e a b = let ranks = limit_rank limit in absurd (omega arith)
  same_refusal (BadTable f) (BadTable g) e a b = ap BadTable (one_table (named_by command).table_given f g a b)
  same_refusal (BadTable f) (Full other) e a b = let ranks = limit_rank other in absurd (omega arith)
  same_refusal (Undefined p) (Undefined q) e a b = ap Undefined (one_place p q a b)
  same_refusal (Undefined p) (Full other) e a b = let ranks = limit_rank other in absurd (omega arith)
  same_refusal (Untranslatable id p) (Untranslatable n q) e a b = let both = one_user id n p q a b in λ i. Untranslatable (both.0 i) (both.1 i)
  same_refusal (Untranslatable id p) (Full other) e a b = let ranks = limit_rank other in absurd (omega arith)
  same_refusal NoMemory s e a b = absurd a
  same_refusal r s e a b = absurd (omega arith)

  pub one_refusal : (r s : Refusal) → IsRefused book expect command r → IsRefused book expect command s → r ≡ s
  one_refusal r s a b =
      let below = a.first s b.holds in
      let above = b.first r a.holds in
      same_refusal r s (omega arith) a.holds b.holds
