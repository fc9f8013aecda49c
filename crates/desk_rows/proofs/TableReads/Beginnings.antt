-- The rows for which something is allocated begin with values of their kinds.
use Rattle.std.proofs.Common.{◌≡◌, ◌<◌, ℕ, suc, zero, List, [], ◌∷◌, get_or, length, take, arith, subst}
use Rattle.std.specs.Prelude.{⊤}
use Rattle.std.specs.List.{AllByRecursion}
use Rattle.sqlite_rules.proofs.ListLemmas.{all_has, has_at}
use Rattle.sqlite_value.specs.declared.value.Value.{Value}
use Rattle.sqlite_value.specs.Order.{Row}
use Rattle.sql_tables.specs.Kinds.{HasKinds}
use Rattle.sqlite_schema.specs.declared.schema.Kind.{Kind}
use Rattle.desk_rows.specs.TableQuery.{AreOfKinds, Begins, BeginWith}

-- of rows, if there are any, the first begins so
abbrev pub MayBegin : List Kind → List Row → Type 0
MayBegin kinds [] = ⊤
MayBegin kinds (row ∷ rows) = Begins 0 kinds row

pub begin_more : (kinds : List Kind) (rows : List Row) (i : ℕ) (row : Row) → i < length rows → row ≡ get_or rows i row
    → MayBegin kinds (take i rows) → Begins 0 kinds row → MayBegin kinds (take (suc i) rows)
begin_more kinds [] i row lt is so one = tt
begin_more kinds (first ∷ rows) zero row lt is so one = subst (Begins 0 kinds) is one
begin_more kinds (first ∷ rows) (suc i) row lt is so one = so

pub begin_with : (kinds : List Kind) (rows : List Row) (i : ℕ) (row : Row) → i < length rows → row ≡ get_or rows i row
    → MayBegin kinds (take i rows) → Begins 0 kinds row → BeginWith kinds rows
begin_with kinds [] i row lt is so one = absurd (omega (arith, lt))
begin_with kinds (first ∷ rows) i row lt is so one = begin_more kinds (first ∷ rows) i row lt is so one

-- a row of these kinds has a value of the kind in each place
shifted : (kinds : List Kind) (at : ℕ) (v : Value) (row : Row) → AreOfKinds at kinds row → AreOfKinds (suc at) kinds (v ∷ row)
shifted [] at v row all = tt
shifted (k ∷ kinds) at v row all = (all.0, shifted kinds (suc at) v row all.1)

by_place : (kinds : List Kind) (row : Row) → HasKinds kinds row → AreOfKinds 0 kinds row
by_place [] row all = tt
by_place (k ∷ kinds) [] all = absurd all
by_place (k ∷ kinds) (v ∷ row) all = (all.0, shifted kinds 0 v row (by_place kinds row all.1))

pub kinds_there : (kinds : List Kind) (rows : List Row) (i : ℕ) (row : Row) → i < length rows → row ≡ get_or rows i row
    → AllByRecursion (HasKinds kinds) rows → AreOfKinds 0 kinds row
kinds_there kinds rows i row lt is all = by_place kinds row (all_has (HasKinds kinds) rows row all (has_at rows i row lt is))
