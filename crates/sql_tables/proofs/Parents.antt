-- A row that keeps the columns of its keys sets off no action of a foreign key.
use Rattle.std.proofs.Common.{arith, ◌≡◌, ℕ, Bool, true, false, ◌==◌, ◌&&◌, ◌||◌, List, [], ◌∷◌, length, Option, Some, None, refl, sym, subst, ◌∙◌, inl, inr, eqb-true}
use Rattle.std.specs.List.{AllByRecursion, list_all, filter_map, flat_map}
use Rattle.std.proofs.lemmas.Bool.{and_parts, or_cases}
use Rattle.std.proofs.lemmas.Slice.Eq.{bytes_eq-Decides}
use Rattle.sqlite_value.specs.declared.keys.Order.{Order}
use Rattle.sqlite_value.specs.Order.{Row, column}
use Rattle.sqlite_schema.specs.declared.schema.Index.{Index}
use Rattle.sqlite_schema.specs.declared.schema.Keys.TheVariants.{Enforced}
use Rattle.sqlite_schema.specs.declared.schema.Reference.{Reference}
use Rattle.sqlite_schema.specs.declared.schema.Schema.{Schema}
use Rattle.sqlite_schema.specs.declared.schema.Table.{Table}
use Rattle.sqlite_schema.specs.Names.{same_name}
use Rattle.sqlite_schema.specs.Rules.{ParentKey, parent_key, is_index_for, is_unique_key, is_key_if_to, references_fit}
use Rattle.sqlite_rules.specs.Lists.{Has}
use Rattle.sqlite_rules.specs.declared.action.Deed.{Deed}
use Rattle.sqlite_rules.specs.Action.{works, work_for, work_by, deed_for, loses}
use Rattle.sqlite_rules.proofs.ListLemmas.{some_has}
use Rattle.sqlite_rules.proofs.PlaceLemmas.{agree_same, agrees_itself, named_parent}

-- the rows have the same value in each of these columns
abbrev pub AreKept : Row → Row → List ℕ → Type 0
AreKept old new = AllByRecursion (λ p. column new p ≡ column old p)

loses_nothing : (o : Order) (places : List ℕ) (old new : Row) → AreKept old new places → loses o places (old, new) ≡ false
loses_nothing o places old new kept = rw (sym (agree_same o places places old old new old (agrees_itself places old) kept)) (grind arith)

module _ (schema : Schema) (table : Table) (alone : (other : Table) → Has schema.tables other → other.tree ≡ table.tree → other ≡ table) (old new : Row) (rowid_kept : column new 0 ≡ column old 0)
    (kept : (i : Index) → Has schema.indexes i → i.is_unique ≡ true → i.table ≡ table.tree → AreKept old new i.columns) where
  kept_by_key : (key : ParentKey) (width : ℕ) → key.0 ≡ table.tree → is_unique_key schema.indexes width (Some key) ≡ true → AreKept old new key.1
  kept_by_key key width ours unique = elim (or_cases _ _ (and_parts _ _ unique).1) [
    | inl is_rowid ↦ subst (AreKept old new) (sym ((bytes_eq-Decides key.1 (0 ∷ [])).0 is_rowid)) (rowid_kept, tt)
    | inr guarded ↦
        let i = some_has (is_index_for key) schema.indexes guarded in
        let parts = and_parts _ _ (and_parts _ _ i.2).0 in
        let on_key = and_parts _ _ parts.0 in
        subst (AreKept old new) ((bytes_eq-Decides i.0.columns key.1).0 parts.1) (kept i.0 i.1 on_key.0 (eqb-true i.0.table key.0 on_key.1 ∙ ours))
  ]

  sets_off_none : (child : Table) (ref : Reference) → is_key_if_to schema table ref ≡ true → work_for schema Enforced 0 table.tree (old ∷ []) (new ∷ []) child ref ≡ None
  sets_off_none child ref fit = go (deed_for Enforced false ref) (parent_key schema.tables ref) refl
    where
      loses_none : (key : ParentKey) → parent_key schema.tables ref ≡ Some key → (b : Bool) → (key.0 == table.tree) ≡ b → (b && (loses key.2 key.1 (old, new) || false)) ≡ false
      loses_none key is false e = refl
      loses_none key is true e =
          let ours : key.0 ≡ table.tree = eqb-true key.0 table.tree e in
          let its = named_parent schema.tables ref key is in
          let same : its.0 ≡ table = alone its.0 its.1 (its.2 ∙ ours) in
          let named : same_name table.name ref.parent ≡ true = subst (λ (t : Table). same_name t.name ref.parent ≡ true) same its.3 in
          let unique : is_unique_key schema.indexes (length ref.columns) (Some key) ≡ true = rw (named, is) at fit in
          rw (loses_nothing key.2 key.1 old new (kept_by_key key (length ref.columns) ours unique))

      go : (deed : Option Deed) (key : Option ParentKey) → parent_key schema.tables ref ≡ key → work_by 0 table.tree ((old, new) ∷ []) child ref deed key ≡ None
      go deed None is = grind arith
      go deed (Some key) is = grind (arith, loses_none key is (key.0 == table.tree) refl)

  no_work : (child : Table) (refs : List Reference) → list_all (is_key_if_to schema table) refs ≡ true → filter_map (work_for schema Enforced 0 table.tree (old ∷ []) (new ∷ []) child) refs ≡ []
  no_work child [] fit = refl
  no_work child (ref ∷ refs) fit = let both = and_parts _ _ fit in rw (sets_off_none child ref both.0, no_work child refs both.1)

  no_works : (tables : List Table) → list_all (λ t. list_all (is_key_if_to schema table) t.references) tables ≡ true
      → flat_map (λ child. filter_map (work_for schema Enforced 0 table.tree (old ∷ []) (new ∷ []) child) child.references) tables ≡ []
  no_works [] fit = refl
  no_works (t ∷ ts) fit = let both = and_parts _ _ fit in rw (no_work t t.references both.0, no_works ts both.1)

  pub updates_quietly : references_fit schema table true true ≡ true → works schema Enforced 0 table.tree (old ∷ []) (new ∷ []) ≡ []
  updates_quietly fit = no_works schema.tables ((and_parts _ _ fit).1)
