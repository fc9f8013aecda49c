-- Prints that a table defines, and the first place, or paragraph, at which it doesn't.
use Rattle.std.proofs.Common.{◌≡◌, ◌⊎◌, ℕ, zero, suc, ◌<◌, List, [], ◌∷◌, length, Option, Some, None, Contains, refl, sym, ap, subst, ◌∙◌, arith, inl, inr, All, IsSome, is_some, nat_eq, slice_index}
use Rattle.std.specs.Cmp.Lexicographic.{pointwise}
use Rattle.std.proofs.lemmas.Bool.{cases_Bool, cases_eq, both_ways}
use Rattle.std.proofs.lemmas.List.Elements.{All-nil, All-cons, All-contains, Contains-append_right}
use Rattle.louis_table.specs.Meaning.{Meaning, definition_of}
use Rattle.louis_translate.specs.Position.{AreDefined, IsFirstUndefined}
use Rattle.desk_model.specs.Book.{Paragraph}
use Rattle.desk_model.specs.Refusals.{DefinesUser, IsFirstUser}
use Rattle.desk_model.specs.Print.{print_of}
use Rattle.desk_model.proofs.Commands.Ranks.{defined_not_first}
use Rattle.desk_model.proofs.Lists.Members.{Contains-here}
use Rattle.desk_model.proofs.Lists.TableEntries.{Decides-name}

-- the first number below n at which there is nothing, if there is one
first_none : {X : Type 0} (f : ℕ → Option X) (n : ℕ) → ((i : ℕ) → i < n → IsSome (f i)) ⊎ ((k : ℕ) × (k < n) × (f k ≡ None) × ((i : ℕ) → i < k → IsSome (f i)))
first_none f zero = inl (λ i less. absurd (omega arith))
first_none {X} f (suc n) =
    elim (first_none f n) [
      | inr found ↦ inr (found.0, omega (arith, found.1), found.2, found.3)
      | inl all ↦ by all (f n) refl
    ]
  where
    by : ((i : ℕ) → i < n → IsSome (f i)) → (x : Option X) → f n ≡ x → ((i : ℕ) → i < suc n → IsSome (f i)) ⊎ ((k : ℕ) × (k < suc n) × (f k ≡ None) × ((i : ℕ) → i < k → IsSome (f i)))
    by all None e = inr (n, omega arith, e, all)
    by all (Some x) e = inl (λ i less. elim (cases_eq i n) [
      | inl same ↦ ap is_some (ap f same ∙ e)
      | inr other ↦ all i (omega arith)
    ])

pub defined_or_first : (meaning : Meaning) (print : List ℕ) → AreDefined meaning print ⊎ ((place : ℕ) × IsFirstUndefined meaning print place)
defined_or_first meaning print =
    elim (first_none (λ i. definition_of meaning (slice_index print i)) (length print)) [
      | inl all ↦ inl all
      | inr found ↦ inr (found.0, record { within = found.1; undefined = found.2; before = found.3 })
    ]

-- one paragraph more before it, which the meaning defines if it uses the table
pub IsFirstUser-later : (meaning : Meaning) (name : List ℕ) (p : Paragraph) (ps : List Paragraph) (id place : ℕ) → DefinesUser meaning name p → IsFirstUser meaning name ps id place → IsFirstUser meaning name (p ∷ ps) id place
IsFirstUser-later meaning name p ps id place here found = record {
  before = p ∷ found.before;
  paragraph = found.paragraph;
  after = found.after;
  parts = ap (λ (rest : List Paragraph). p ∷ rest) found.parts;
  uses = found.uses;
  reported = found.reported;
  first = found.first;
  others = All-cons (DefinesUser meaning name) p found.before here found.others;
}

-- no paragraph is the first such one, if the meaning defines each that uses the table
pub IsFirstUser-none : (meaning : Meaning) (name : List ℕ) (ps : List Paragraph) (id place : ℕ) → All (DefinesUser meaning name) ps → ¬ IsFirstUser meaning name ps id place
IsFirstUser-none meaning name ps id place defined user =
    let there : Contains ps user.paragraph = subst (λ (qs : List Paragraph). Contains qs user.paragraph) (sym user.parts) (Contains-append_right user.before (user.paragraph ∷ user.after) user.paragraph (Contains-here user.paragraph user.after)) in
    defined_not_first meaning (print_of user.paragraph) place (All-contains (DefinesUser meaning name) ps user.paragraph defined there user.uses) user.first

defines_user : (meaning : Meaning) (name : List ℕ) (p : Paragraph) → DefinesUser meaning name p ⊎ ((p.table ≡ name) × ((place : ℕ) × IsFirstUndefined meaning (print_of p) place))
defines_user meaning name p =
    elim (cases_Bool (pointwise nat_eq p.table name)) [
      | inr e ↦ inl (λ same. absurd (both_ways (pointwise nat_eq p.table name) e ((Decides-name p.table name).1 same)))
      | inl e ↦ elim (defined_or_first meaning (print_of p)) [
        | inl defined ↦ inl (λ same. defined)
        | inr first ↦ inr ((Decides-name p.table name).0 e, first)
      ]
    ]

pub all_or_first_user : (meaning : Meaning) (name : List ℕ) (ps : List Paragraph) → All (DefinesUser meaning name) ps ⊎ ((id : ℕ) × (place : ℕ) × IsFirstUser meaning name ps id place)
all_or_first_user meaning name [] = inl (All-nil (DefinesUser meaning name))
all_or_first_user meaning name (p ∷ ps) =
    elim (defines_user meaning name p) [
      | inr lacks ↦ inr (
        p.id,
        lacks.1.0,
        record {
          before = [];
          paragraph = p;
          after = ps;
          parts = refl;
          uses = lacks.0;
          reported = refl;
          first = lacks.1.1;
          others = All-nil (DefinesUser meaning name);
        },
      )
      | inl here ↦ elim (all_or_first_user meaning name ps) [
        | inl rest ↦ inl (All-cons (DefinesUser meaning name) p ps here rest)
        | inr found ↦ inr (found.0, found.1, IsFirstUser-later meaning name p ps found.0 found.1 here found.2)
      ]
    ]
