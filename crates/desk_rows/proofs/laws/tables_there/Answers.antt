use Rattle.std.proofs.Common.{◌≡◌, ◌&&◌, ◌||◌, ℕ, ◌+◌, Bool, List, [], ◌∷◌, false, inl, inr, is_some, refl, true≢false}
use Rattle.std.specs.List.{list_any, position_from}
use Rattle.std.proofs.lemmas.Bool.{cases_Bool, or_from, or_parts}
use Rattle.sqlite_schema.specs.Names.{index_named, same_name, table_named, view_named}
use Rattle.desk_rows.specs.Descriptions.{description_of}
use Rattle.desk_rows.specs.Tables.{is_table_or_view}
use Rattle.desk_rows.proofs.laws.tables_there.Goals as goal

pub returns-clause-has : goal.returns-clause-has
returns-clause-has c l contents db is t there = rw (is.declared t there).named refl

-- what has no place in a list isn't in it, whatever else is asked of it
none_there : {X : Type 0} (named also : X → Bool) (xs : List X) (i : ℕ) → is_some (position_from named i xs) ≡ false → list_any (λ x. named x && also x) xs ≡ false
none_there named also [] i none = refl
none_there named also (x ∷ xs) i none = elim (cases_Bool (named x)) [
  | inl is ↦ absurd (true≢false (rw is at none))
  | inr is ↦ rw is (none_there named also xs (i + 1) (rw is at none))
]

neither : (a b c d : Bool) → (c ≡ false → d ≡ false) → (a || b || c) ≡ false → (a || d) ≡ false
neither a b c d less none = let both = or_parts (a || b) c none in or_from a d (or_parts a b both.0).0 (less both.1)

pub returns-clause-free : goal.returns-clause-free
returns-clause-free c s t free =
    let name = (description_of t).name in
    neither (is_some (table_named s name)) (is_some (index_named s name)) (is_some (view_named s name)) _
    (none_there (λ v. same_name v.name name) is_table_or_view s.views 0) free
