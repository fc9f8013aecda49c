-- Rows of a table that have ids, judged one after another in the order of these.
use Rattle.std.specs.Prelude.{◌≡◌, ℕ, ℤ, pos, ◌+◌, ◌<◌, List, length, slice_get, Some, ⊤, IsSortedByKey}
use Rattle.std.specs.Ordering.{int_cmp}
use Rattle.desk_rebuild.specs.declared.damage.RowsFault.{RowsFault}
use Rattle.desk_rebuild.specs.declared.damage.RowsFault.TheVariants.{Damaged, NoMemory}

-- what is asked of the rows of a table: the id of each, how many there may be, and when one at an
-- index, from 0, is sound whatever its id; and what is so of the texts of each row that was read
pub record RowRule (X : Type 0) : Type 1 where
  pub id : X → ℤ
  pub most : ℕ
  pub IsSound : ℕ → X → Type 0
  pub HasUtf8Texts : X → Type 0

-- the rows stand in the order of their ids
abbrev pub AreInOrder : {X : Type 0} → (X → ℤ) → List X → Type 0
AreInOrder id = IsSortedByKey id int_cmp

-- the id is the next one after so many, and there is room for it
abbrev pub IsNext : (most count : ℕ) → ℤ → Type 0
IsNext most count id = (count < most) × (id ≡ pos (count + 1))

-- the row at this index, from 0, is sound
pub record IsSoundAt {X : Type 0} (rule : RowRule X) (index : ℕ) (row : X) : Type 0 where
  pub next : IsNext rule.most index (rule.id row)
  pub sound : rule.IsSound index row

-- so many rows are sound, and their texts UTF-8
abbrev pub AreSoundUpTo : {X : Type 0} → RowRule X → ℕ → List X → Type 0
AreSoundUpTo {X} rule count rows =
    (index : ℕ) (row : X) → index < count → slice_get rows index ≡ Some row
    → IsSoundAt rule index row × rule.HasUtf8Texts row

-- so many rows are sound, and what is held of each of them is there
pub record AreHeldUpTo {X K : Type 0} (rule : RowRule X) (IsHeldOf : X → K → Type 0) (count : ℕ) (rows : List X)
    (held : List K) : Type 0 where
  pub sound : AreSoundUpTo rule count rows
  pub count_is : length held ≡ count
  pub each : (index : ℕ) (row : X) (item : K) → slice_get rows index ≡ Some row → slice_get held index ≡ Some item
      → IsHeldOf row item

-- the first row that isn't sound has this id
pub record IsFirstUnsound {X : Type 0} (rule : RowRule X) (rows : List X) (id : ℤ) : Type 0 where
  pub index : ℕ
  pub row : X
  pub at : slice_get rows index ≡ Some row
  pub reported : rule.id row ≡ id
  pub before : AreSoundUpTo rule index rows
  pub unsound : ¬ IsSoundAt rule index row

-- the first row that isn't sound is reported, or memory was refused
abbrev pub TellsUnsound : {X : Type 0} → RowRule X → List X → RowsFault → Type 0
TellsUnsound rule rows (Damaged id) = IsFirstUnsound rule rows id
TellsUnsound rule rows NoMemory = ⊤
