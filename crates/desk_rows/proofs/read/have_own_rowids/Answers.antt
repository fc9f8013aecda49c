use Rattle.std.proofs.Common.{◌≡◌, ℤ, List, ◌∷◌, [], ◌++◌, true, false, cond, sym, ◌∙◌, true≢false, ◌+◌, ◌<◌, ℕ, get_or, length, map, take, drop, rules, arith, ap, subst}
use Rattle.std.specs.List.{IsDistinct, list_any}
use Rattle.std.specs.Ordering.{int_eq, int_cmp}
use Rattle.std.proofs.lemmas.Bool.{not-false, not-true}
use Rattle.std.proofs.lemmas.Cmp.{int_eq_equiv}
use Rattle.std.proofs.lemmas.List.Folds.{list_any-append}
use Rattle.std.proofs.lemmas.List.Sorted.{IsPermutation-middle}
use Rattle.std.proofs.lemmas.Map.Keys.{IsDistinct-IsPermutation, IsDistinct-head, IsDistinct-push}
use Rattle.sqlite_rules.proofs.ListLemmas.{all_has, has_left, some_has}
use Rattle.std.proofs.Math.Facts.{to_z-of_z}
use Rattle.std.proofs.lemmas.List.{drop_more, map-append, map_more, take-append-drop}
use mir.Syntax.{w64}
use Rattle.std.specs.BTreeMap.{is_at}
use Rattle.std.specs.BTreeSet.{contains}
use Rattle.desk_parts.specs.Rows.{StoredTab}
use Rattle.desk_rows.proofs.read.have_own_rowids.Goals as goal

-- a number that is among those before it doesn't differ from them
not_apart : (ks : List ℤ) (k : ℤ) (more : List ℤ) → list_any (int_eq k) ks ≡ true → ¬ IsDistinct int_eq (ks ++ k ∷ more)
not_apart ks k more found apart =
    let first = IsDistinct-head int_eq k (ks ++ more) (IsDistinct-IsPermutation int_eq int_eq_equiv.symm _ _ (IsPermutation-middle ks k more) apart) in
    let same = some_has (int_eq k) ks found in
    true≢false (sym same.2 ∙ all_has (λ j. int_eq k j ≡ false) (ks ++ more) same.0 first (has_left ks more same.0 same.1))

-- whether a number is among some of which one is put last
among_more : (ks : List ℤ) (k q : ℤ) → cond (int_eq k q) true (list_any (int_eq q) ks) ≡ list_any (int_eq q) (ks ++ k ∷ [])
among_more ks k q = grind (arith, list_any-append (int_eq q) ks (k ∷ []), int_eq_equiv.symm k q)

-- the rowids of these, as far as the next row, and all of them
abbrev rowids : List StoredTab → List ℤ
rowids = map (λ (t : StoredTab). t.rowid)

module _ (tabs : List StoredTab) (at : ℕ) (t : StoredTab) (within : at < length tabs) (is : t ≡ get_or tabs at t) where
  grown : rowids (take (at + 1) tabs) ≡ rowids (take at tabs) ++ t.rowid ∷ []
  grown = map_more (λ (t : StoredTab). t.rowid) tabs at t within ∙ ap (λ (u : StoredTab). rowids (take at tabs) ++ u.rowid ∷ []) (sym is)

  whole : rowids tabs ≡ rowids (take at tabs) ++ t.rowid ∷ rowids (drop (at + 1) tabs)
  whole =
      ap rowids (sym (take-append-drop at tabs)) ∙ map-append (λ (t : StoredTab). t.rowid) (take at tabs) (drop at tabs)
      ∙ ap (λ us. rowids (take at tabs) ++ rowids us) (drop_more tabs at t within) ∙ ap (λ (u : StoredTab). rowids (take at tabs) ++ u.rowid ∷ rowids (drop (at + 1) tabs)) (sym is)

pub loop-tab-init : goal.loop-tab-init
unfolding IsDistinct
loop-tab-init c = record { held = λ q. ap (list_any (is_at (int_cmp q))) c.new-seen.ensures.empty; apart = tt }

pub returns-then-not-branch-clause-apart : goal.returns-then-not-branch-clause-apart
returns-then-not-branch-clause-apart c all =
    let tabs = c.args.tabs.now in
    let at = c.loop-tab.tab-index in
    let t = c.tab-item.result in
    let same : c.tab.inside.rowid ≡ t.rowid = search rules in
    let whole_number = to_z-of_z {w = w64} {z = c.tab.inside.rowid} (search rules) ∙ same in
    let there = not-false (contains int_cmp c.loop-tab.seen t.rowid) (sym (rw whole_number at c.in_ok-insert.ensures.added) ∙ c.if-not-branch.true) in
    let found = sym (c.loop-tab.invariant.held t.rowid) ∙ there in
    not_apart (rowids (take at tabs)) t.rowid (rowids (drop (at + 1) tabs)) found
    (subst (IsDistinct int_eq) (whole tabs at t c.loop-tab-test.true c.tab-item.is) all)

pub loop-tab-preserved : goal.loop-tab-preserved
loop-tab-preserved c =
    let tabs = c.args.tabs.now in
    let at = c.loop-tab.tab-index in
    let t = c.tab-item.result in
    let before = rowids (take at tabs) in
    let held = c.loop-tab.invariant.held in
    let more = sym (grown tabs at t c.loop-tab-test.true c.tab-item.is) in
    let same : c.tab.inside.rowid ≡ t.rowid = search rules in
    let whole_number = to_z-of_z {w = w64} {z = c.tab.inside.rowid} (search rules) ∙ same in
    let new = not-true (contains int_cmp c.loop-tab.seen t.rowid) (sym (rw whole_number at c.in_ok-insert.ensures.added) ∙ c.if-not-branch.false) in
    let none = sym (held t.rowid) ∙ new in
    record {
      held = λ q.
          subst (λ ks. contains int_cmp c.insert.new.self q ≡ list_any (int_eq q) ks) more
          ((rw whole_number at c.in_ok-insert.ensures.updates.0 q) ∙ ap (cond (int_eq t.rowid q) true) (held q) ∙ among_more before t.rowid q);
      apart = subst (IsDistinct int_eq) more (IsDistinct-push int_eq_equiv before t.rowid c.loop-tab.invariant.apart none);
    }
