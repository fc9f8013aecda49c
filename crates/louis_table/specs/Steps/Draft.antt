-- What the lines so far give, before the rest is read.
use Rattle.std.specs.Prelude.{◌≡◌, ℕ, List, [], ◌∷◌, ◌++◌, Option, Some, None}
use Rattle.louis_table.specs.declared.pending.PendingEntry.{PendingEntry}
use Rattle.louis_table.specs.declared.pending.PendingEntry.TheVariants as pending
use Rattle.louis_table.specs.declared.draft.Draft.{Draft}
use Rattle.louis_table.specs.Table.{Entry, Defines, Pairs, Replaces, Announces, Collects}
use Rattle.louis_table.specs.Steps.Table.{with_given}

-- what an entry gives that can be checked only once all definitions are known, as it is written
abbrev pub written_by : ℕ → Entry → List PendingEntry
written_by n (Defines character definition) = []
written_by n (Pairs upper upper_cells lower lower_cells) = []
written_by n (Replaces kind text cells) =
    pending.Rule (record { line = n; kind = kind; characters = text; cells = cells }) ∷ []
written_by n (Announces sign cells) = []
written_by n (Collects set text) = pending.Set (record { line = n; characters = text }) ∷ []

-- the same for what a line gives
abbrev pub written_in : ℕ → Option Entry → List PendingEntry
written_in n None = []
written_in n (Some entry) = written_by n entry

-- the new draft is the old one with what line n gives
pub record Adds (old new : Draft) (n : ℕ) (given : Option Entry) : Type 0 where
  pub table : new.table ≡ with_given old.table given
  pub written : new.written.items ≡ old.written.items ++ written_in n given
