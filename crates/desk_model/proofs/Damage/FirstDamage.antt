-- The first damage of rows: no table that is checked before it has any, and it is the only one.
use Rattle.std.proofs.Common.{◌≡◌, ℕ, ◌<◌, ◌≤◌, ℤ, ◌≤ℤ◌, cond, refl, sym, ap, subst, ◌∙◌, arith, inl, inr, lit≤, ◌==◌}
use Rattle.std.proofs.lemmas.Bool.{cases_eq}
use Rattle.desk_parts.specs.declared.file_table.FileTable.{FileTable}
use Rattle.desk_parts.specs.declared.file_table.FileTable.TheVariants.{Book, Tab, Para, Corr, Mark, Cache, NamedCorr}
use Rattle.desk_model.specs.Damage.{IsDamaged, IsDamagedEntries, IsFirstDamage, table_rank}
use Rattle.desk_parts.specs.FileRows.{EntryRows, FileRows, Named, Unnamed, entries_in, table_of}
use Rattle.std.proofs.lemmas.Int.{ints}

pub le_antisymm : (a b : ℤ) → a ≤ℤ b → b ≤ℤ a → a ≡ b
le_antisymm a b up down = omega (arith, ints)

-- the table with a rank, if this is the one that has the entries
abbrev ranked_table : FileTable → ℕ → FileTable
ranked_table entries n = cond (n == 1) Book (cond (n == 2) Tab (cond (n == 3) Para (cond (n == 4) entries (cond (n == 5) Mark Cache))))

-- there are six ranks
ranks : (table : FileTable) → (1 ≤ table_rank table) × (table_rank table ≤ 6)
ranks Book = (lit≤ tt, lit≤ tt)
ranks table = (lit≤ tt, lit≤ tt)

entries-rank : (entries : EntryRows) → table_rank (table_of entries) ≡ 4
entries-rank (Unnamed corrs) = refl
entries-rank (Named corrs) = refl

module _ (rows : FileRows) where
  abbrev at_rank : ℕ → FileTable
  at_rank = ranked_table (table_of rows.entries)

  at_rank-back : (table : FileTable) (id : ℤ) → IsDamaged rows table id → at_rank (table_rank table) ≡ table
  at_rank-back Corr id damaged = damaged.0
  at_rank-back NamedCorr id damaged = damaged.0
  at_rank-back table id damaged = refl

  pub one_damage : (table other : FileTable) (id n : ℤ) → IsFirstDamage rows table id → IsFirstDamage rows other n → (table ≡ other) × (id ≡ n)
  one_damage table other id n first second =
      let up : table_rank table ≤ table_rank other = first.tables other n second.damaged in
      let down : table_rank other ≤ table_rank table = second.tables table id first.damaged in
      let ranks : table_rank table ≡ table_rank other = omega (arith, up, down) in
      let same : table ≡ other = sym (at_rank-back table id first.damaged) ∙ (ap at_rank ranks ∙ at_rank-back other n second.damaged) in
      let low = first.ids n (subst (λ t. IsDamaged rows t n) (sym same) second.damaged) in
      let high = second.ids id (subst (λ t. IsDamaged rows t id) same first.damaged) in
      (same, le_antisymm id n low high)

  -- ---- where the tables before have no damage

  abbrev pub IsUndamaged : FileTable → Type 0
  IsUndamaged table = (id : ℤ) → ¬ IsDamaged rows table id

  -- no table that is checked before this one is damaged
  abbrev pub IsWholeBefore : FileTable → Type 0
  IsWholeBefore table = (other : FileTable) (id : ℤ) → IsDamaged rows other id → table_rank table ≤ table_rank other

  -- and where this one isn't either, what is damaged is checked after it
  after : (table : FileTable) → at_rank (table_rank table) ≡ table → IsWholeBefore table → IsUndamaged table
      → (other : FileTable) (id : ℤ) → IsDamaged rows other id → table_rank table < table_rank other
  after table own before none other id damaged =
      elim (cases_eq (table_rank other) (table_rank table)) [
        | inl rank ↦
            let same : other ≡ table = sym (at_rank-back other id damaged) ∙ (ap at_rank rank ∙ own) in
            absurd (none id (subst (λ t. IsDamaged rows t id) same damaged))
        | inr apart ↦ let from = before other id damaged in omega (arith, from, apart)
      ]

  pub before-book : IsWholeBefore Book
  before-book other id damaged = (ranks other).0

  pub before-tab : IsUndamaged Book → IsWholeBefore Tab
  before-tab none other id damaged = let late = after Book refl before-book none other id damaged in omega (arith, late)

  pub before-para : IsWholeBefore Tab → IsUndamaged Tab → IsWholeBefore Para
  before-para before none other id damaged = let late = after Tab refl before none other id damaged in omega (arith, late)

  -- before either table of entries
  pub before-entries : IsWholeBefore Para → IsUndamaged Para → IsWholeBefore (table_of rows.entries)
  before-entries before none other id damaged = omega (arith, after Para refl before none other id damaged, entries-rank rows.entries)

  -- the damage of the table of entries is that of its rows
  pub from_table : (entries : EntryRows) (id : ℤ) → IsDamaged rows (table_of entries) id → IsDamagedEntries rows.paras (entries_in rows.entries) id
  from_table (Unnamed corrs) id damaged = damaged.1
  from_table (Named corrs) id damaged = damaged.1

  pub before-mark : IsWholeBefore (table_of rows.entries) → ((id : ℤ) → ¬ IsDamagedEntries rows.paras (entries_in rows.entries) id)
      → IsWholeBefore Mark
  before-mark before none other id damaged =
      let rank = entries-rank rows.entries in
      let late = after (table_of rows.entries) (ap at_rank rank) before (λ n its. none n (from_table rows.entries n its)) other id damaged in
      omega (arith, late, rank)

  pub before-cache : IsWholeBefore Mark → IsUndamaged Mark → IsWholeBefore Cache
  before-cache before none other id damaged = let late = after Mark refl before none other id damaged in omega (arith, late)

  -- and nothing is damaged at last
  pub no-damage : IsWholeBefore Cache → IsUndamaged Cache → (table : FileTable) (id : ℤ) → ¬ IsDamaged rows table id
  no-damage before none table id damaged = omega (arith, after Cache refl before none table id damaged, (ranks table).1)
