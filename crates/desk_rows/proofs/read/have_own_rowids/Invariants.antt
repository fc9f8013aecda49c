use Rattle.std.proofs.Common.{◌≡◌, ℤ, map, take}
use Rattle.std.specs.List.{list_any}
use Rattle.std.specs.Ordering.{int_cmp, int_eq}
use Rattle.std.specs.BTreeSet.{contains}
use Rattle.desk_parts.specs.Rows.{StoredTab}
use Rattle.desk_rows.specs.Whole.{DifferBy}
use Rattle.desk_rows.proofs.read.have_own_rowids.Given as goal

-- the set holds the rowids so far, which differ
abbrev pub invariant-loop-tab : goal.invariant-loop-tab
invariant-loop-tab l = record {
  held : (q : ℤ) → contains int_cmp l.seen q ≡ list_any (int_eq q) (map (λ (t : StoredTab). t.rowid) (take l.tab-index l.tabs));
  apart : DifferBy (λ (s : StoredTab). s.rowid) (take l.tab-index l.tabs);
}
