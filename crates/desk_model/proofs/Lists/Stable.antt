-- What can't fail, holds: of numbers, texts and pairs.
use Rattle.std.proofs.Common.{◌≡◌, ℕ, ◌≤◌, ℤ, pos, negsuc, ◌≤ℤ◌, nat_abs, false, List, [], ◌∷◌, Contains, refl, sym, subst, inl, inr, leb→le, int_eq, T, nat_eq, length, true}
use Rattle.std.specs.Cmp.{signed_Decides}
use Rattle.std.specs.Cmp.Lexicographic.{pointwise}
use Rattle.std.proofs.lemmas.Bool.{cases_Bool, cases_eq, both_ways, le-leb}
use Rattle.desk_model.specs.Damage.{IsFlag, IsWithin}
use Rattle.desk_model.specs.BookTexts.{IsUnbarred, is_barred}
use Rattle.desk_model.proofs.Lists.Decisions.{Decided, all, at_most, both, either, isnt_so, below, implied, is_so}
use Rattle.desk_model.proofs.Lists.Members.{Contains-behind, Contains-cases, Contains-here, Contains-none}
use Rattle.desk_model.proofs.Lists.RowNumbers.{pos_le}
use Rattle.desk_model.proofs.Lists.TableEntries.{Decides-name}
use Rattle.desk_model.specs.Limits.{most_name, most_proofreader}
use Rattle.desk_model.specs.ValidNames.{IsProofreaderName, IsTableName, is_name_character, is_proofreader_character}

abbrev pub Stable : Type 0 → Type 0
Stable P = ¬ ¬ P → P

pub lifted : {P Q : Type 0} → (P → Q) → ¬ ¬ P → ¬ ¬ Q
lifted to twice none = twice (λ p. none (to p))

pub stable : {P : Type 0} → Decided P → Stable P
stable (inl p) twice = p
stable (inr none) twice = absurd (twice none)

-- what follows from something that can't fail
pub stable_from : {P Q : Type 0} → Decided Q → (P → Q) → ¬ ¬ P → Q
stable_from decided to twice = stable decided (lifted to twice)

-- ---- numbers

pub same_nat : (a b : ℕ) → Decided (a ≡ b)
same_nat a b = elim (cases_eq a b) [ inl same ↦ inl same | inr other ↦ inr other ]

pub same_int : (a b : ℤ) → Decided (a ≡ b)
same_int a b =
    elim (cases_Bool (int_eq a b)) [
      | inl same ↦ inl ((signed_Decides a b).0 same)
      | inr other ↦ inr (λ same. both_ways (int_eq a b) other ((signed_Decides a b).1 same))
    ]

pub same_text : (a b : List ℕ) → Decided (a ≡ b)
same_text a b =
    elim (cases_Bool (pointwise nat_eq a b)) [
      | inl same ↦ inl ((Decides-name a b).0 same)
      | inr other ↦ inr (λ same. both_ways (pointwise nat_eq a b) other ((Decides-name a b).1 same))
    ]

pub le_from : (a b : ℕ) → pos a ≤ℤ pos b → a ≤ b
le_from a b h = leb→le a b h.le

pub not_below : (a n : ℕ) → ¬ (pos a ≤ℤ negsuc n)
not_below a n h = h.le

-- a number from zero on
pub natural : (z : ℤ) → pos 0 ≤ℤ z → z ≡ pos (nat_abs z)
natural (pos n) h = refl
natural (negsuc n) h = absurd (not_below 0 n h)

pub at_least : (a : ℕ) (z : ℤ) → pos a ≤ℤ z → (k : ℕ) × (z ≡ pos k) × (a ≤ k)
at_least a (pos n) h = (n, refl, le_from a n h)
at_least a (negsuc n) h = absurd (not_below a n h)

pub is_at_least : (a : ℕ) (z : ℤ) → Decided (pos a ≤ℤ z)
is_at_least a (pos n) = elim (at_most a n) [ inl le ↦ inl (pos_le a n le) | inr more ↦ inr (λ h. more (le_from a n h)) ]
is_at_least a (negsuc n) = inr (not_below a n)

below_le : (a b : ℕ) → b ≤ a → negsuc a ≤ℤ negsuc b
below_le a b h = record { le = subst T (sym (le-leb b a h)) tt }

pub is_le : (a b : ℤ) → Decided (a ≤ℤ b)
is_le (pos a) b = is_at_least a b
is_le (negsuc a) (pos b) = inl (record { le = tt })
is_le (negsuc a) (negsuc b) = elim (at_most b a) [ inl le ↦ inl (below_le a b le) | inr more ↦ inr (λ h. more (leb→le b a h.le)) ]

pub is_within : (first last : ℕ) (z : ℤ) → Decided (IsWithin first last z)
is_within first last z = both (is_le (pos first) z) (is_le z (pos last))

pub is_flag : (z : ℤ) → Decided (IsFlag z)
is_flag z = either (same_int z (pos 0)) (same_int z (pos 1))

-- ---- texts

pub is_unbarred : (text : List ℕ) → Decided (IsUnbarred text)
is_unbarred text = all (λ c. is_barred c ≡ false) (λ c. isnt_so (is_barred c)) text

-- ---- names

pub is_table_name : (name : List ℕ) → Decided (IsTableName name)
is_table_name name =
    implied (λ h. record { nonempty = h.0.0; short = h.0.1; characters = h.1 }) (λ h. ((h.nonempty, h.short), h.characters))
    (both (both (below 0 (length name)) (at_most (length name) most_name)) (all (λ c. is_name_character c ≡ true) (λ c. is_so (is_name_character c)) name))

pub is_reader_name : (name : List ℕ) → Decided (IsProofreaderName name)
is_reader_name name =
    implied (λ h. record { short = h.0; characters = h.1 }) (λ h. (h.short, h.characters))
    (both (at_most (length name) most_proofreader) (all (λ c. is_proofreader_character c ≡ true) (λ c. is_so (is_proofreader_character c)) name))

-- ---- lists

-- some element has it, or none
pub among : {X : Type 0} (P : X → Type 0) → ((x : X) → Decided (P x)) → (xs : List X) → Decided ((x : X) × Contains xs x × P x)
among P test [] = inr (λ h. Contains-none h.0 h.1)
among P test (x ∷ xs) =
    elim (test x) [
      | inl p ↦ inl (x, Contains-here x xs, p)
      | inr none ↦ elim (among P test xs) [
        | inl later ↦ inl (later.0, Contains-behind x later.0 xs later.1, later.2)
        | inr nowhere ↦ inr (λ h. elim (Contains-cases x h.0 xs h.1) [ inl same ↦ none (subst P (sym same) h.2) | inr later ↦ nowhere (h.0, later, h.2) ])
      ]
    ]
