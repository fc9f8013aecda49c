use Rattle.std.proofs.Common.{◌≡◌, ◌+◌, ◌++◌, ◌∷◌, ◌≤ℤ◌, ◌⊎◌, ℤ, [], pos, Some, length, refl, sym, ap, subst, ◌∙◌, arith, w64, of_z, to_z, All, IsUtf8, String, string_bytes}
use Rattle.std.proofs.lemmas.Int.{ints}
use Rattle.std.proofs.lemmas.Iterator.Adapters.{YieldsList-from_vec}
use Rattle.std.proofs.lemmas.Iterator.Consumers.{YieldsList-end}
use Rattle.std.proofs.lemmas.List.{length-map, map-id}
use Rattle.std.proofs.lemmas.Option.{slice_get_read}
use Rattle.std.proofs.lemmas.List.Elements.{All-push}
use Rattle.std.proofs.lemmas.Str.{IsUtf8-string_bytes}
use Rattle.desk_parts.specs.declared.file_table.FileTable.TheVariants as tables
use Rattle.desk_parts.specs.FileRows.{HasUtf8Texts}
use Rattle.desk_parts.specs.declared.rows.NamedCorrRow.TheInside.{Inside}
use Rattle.desk_model.specs.Damage.{IsWithin}
use Rattle.desk_rebuild.specs.Entries.{IsFirstStray}
use Rattle.desk_parts.specs.Rows.{NamedCorr}
use Rattle.desk_rebuild.proofs.GroupedEntries.{grouped-set, grouped-stray, stray-more, stray-within}
use Rattle.desk_model.proofs.Lists.RowNumbers.{pos_le}
use Rattle.desk_rebuild.proofs.entries.EntryGroups.of.Goals as goal

-- a string is UTF-8, and so are the texts of a row
texts : {Z : Type 0} (row : NamedCorr) (body who : String Z) → string_bytes body ≡ row.entry.body → string_bytes who ≡ row.who → HasUtf8Texts tables.NamedCorr row
texts row body who same other = (subst IsUtf8 same (IsUtf8-string_bytes body), subst IsUtf8 other (IsUtf8-string_bytes who))

pub loop-row-preserved-in-Continue-branch-2 : goal.loop-row-preserved-in-Continue-branch-2
loop-row-preserved-in-Continue-branch-2 c =
    let view : c.row-inside.inside.0.0.para ≡ c.in-Some.row.entry.para = ap (λ (x : Inside). x.entry.para) c.row-inside.view_is ∙ ap (λ (r : NamedCorr). r.entry.para) c.row.view_is in
    let there = c.in-Some-index_of.ensures.there in
    let number : c.row-inside.inside.0.0.para ≡ pos (c.in-Some-index_of.index + 1) = omega (arith, ints, there.0, c.row-inside.ranges) in
    let named = sym view ∙ number in
    let is = c.loop-row.invariant.0 in
    let many = length-map c.loop-row.groups.items (λ group. group.items) in
    let at = slice_get_read c.loop-row.groups.items (length c.loop-row.groups.items) c.in-Some-index_of.index c.index_mut.result.now refl (let count = is.many in let low = there.1 in omega (arith, count, many, low)) c.index_mut.ensures.value in (
      grouped-set (λ group. group.items) c.args.count c.loop-row.yielded c.loop-row.groups.items c.in-Some-index_of.index c.index_mut.result.now c.push.new.self c.in-Some.row is named at c.in_ok-push-in-Some-index_of.ensures.items,
      stray-within c.args.count c.loop-row.yielded c.in-Some.row c.loop-row.stray
          (subst (IsWithin 1 c.args.count) (sym named) (pos_le 1 (c.in-Some-index_of.index + 1) (omega arith), pos_le (c.in-Some-index_of.index + 1) c.args.count (omega (arith, there.1)))) c.loop-row.invariant.1,
      All-push (HasUtf8Texts tables.NamedCorr) c.loop-row.yielded c.in-Some.row c.loop-row.invariant.2 (texts c.in-Some.row c.row-inside.inside.0.0.body c.row.inside.who
          (ap (λ (x : Inside). x.entry.body) c.row-inside.view_is ∙ ap (λ (r : NamedCorr). r.entry.body) c.row.view_is) (ap (λ (r : NamedCorr). r.who) c.row.view_is)),
    )

pub loop-row-preserved : goal.loop-row-preserved
loop-row-preserved c =
    let view : c.row-inside.inside.0.0.para ≡ c.in-Some.row.entry.para = ap (λ (x : Inside). x.entry.para) c.row-inside.view_is ∙ ap (λ (r : NamedCorr). r.entry.para) c.row.view_is in
    let same : to_z w64 (of_z w64 c.row-inside.inside.0.0.para) ≡ c.in-Some.row.entry.para = (let own : to_z w64 (of_z w64 c.row-inside.inside.0.0.para) ≡ c.row-inside.inside.0.0.para = omega (arith, ints, c.row-inside.ranges) in own ∙ view) in
    let reported : to_z w64 (of_z w64 c.smaller.result) ≡ c.smaller.result = omega (arith, ints, c.smaller.type_inv) in
    let nowhere : ¬ IsWithin 1 c.args.count c.in-Some.row.entry.para = subst (λ (z : ℤ). ¬ IsWithin 1 c.args.count z) same c.in-None-index_of.ensures.nowhere in
    let one = subst (λ (z : ℤ). (c.smaller.result ≡ z) ⊎ (c.loop-row.stray ≡ Some c.smaller.result)) same c.smaller.ensures.one in
    let least = subst (λ (z : ℤ). c.smaller.result ≤ℤ z) same c.smaller.ensures.least in (
      grouped-stray c.args.count c.loop-row.yielded _ c.in-Some.row c.loop-row.invariant.0 nowhere,
      subst (λ (z : ℤ). IsFirstStray c.args.count (c.loop-row.yielded ++ c.in-Some.row ∷ []) (Some z)) (sym reported)
          (stray-more c.args.count c.loop-row.yielded c.in-Some.row c.loop-row.stray c.smaller.result nowhere c.loop-row.invariant.1 one least c.smaller.ensures.before),
      All-push (HasUtf8Texts tables.NamedCorr) c.loop-row.yielded c.in-Some.row c.loop-row.invariant.2 (texts c.in-Some.row c.row-inside.inside.0.0.body c.row.inside.who
          (ap (λ (x : Inside). x.entry.body) c.row-inside.view_is ∙ ap (λ (r : NamedCorr). r.entry.body) c.row.view_is) (ap (λ (r : NamedCorr). r.who) c.row.view_is)),
    )

pub returns-clause-texts : goal.returns-clause-texts
returns-clause-texts c =
    let rows = c.args.rows.items in
    let given = c.into_iter-row-iterator.ensures.into_iter_gives in
    let end = YieldsList-end (YieldsList-from_vec {s = c.into_iter-row-iterator.result} rows given.0 (given.1 ∙ c.args.rows.ok.0)) c.loop-row.yielded c.loop-row.row-iterator c.loop-row.yielded_by c.next.result c.next.new.self c.in-None.is c.next.ensures.steps in
    subst (All (HasUtf8Texts tables.NamedCorr)) (sym (map-id c.loop-row.yielded) ∙ end.0) c.loop-row.invariant.2
