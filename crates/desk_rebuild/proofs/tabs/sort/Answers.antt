use Rattle.std.proofs.Common.{◌≡◌, ap, rules, is_lt}
use Rattle.std.proofs.lemmas.Fn.{always_returns_same}
use Rattle.std.proofs.lemmas.List.MinMax.{ranks_by}
use Rattle.desk_rebuild.specs.Tabs.{tab_order}
use Rattle.desk_parts.specs.Rows.{StoredTab}
use Rattle.desk_rebuild.proofs.ReadTabs.{in-order, less, order_total}
use Rattle.desk_rebuild.proofs.tabs.sort.Goals as goal

pub returns-clause-sorted : goal.returns-clause-sorted
returns-clause-sorted c =
    in-order c.sort_unstable_by.new.self.items
    (c.sort_unstable_by.ensures.sorted (λ (x y : StoredTab). less x.row y.row) (ranks_by order_total (λ (s : StoredTab). s.row))
    (always_returns_same _ (λ a r. is_lt r ≡ less a.0.now.row a.1.0.now.row) _ (λ a r f' k.
    let is : r ≡ tab_order a.0.now.row a.1.0.now.row = search rules in (ap is_lt is, search rules))))
