-- The histories of paragraphs, read in turn from their groups of rows.
use Rattle.std.proofs.Common.{◌≡◌, ℕ, ◌+◌, ◌<◌, ◌≤◌, ◌≢◌, List, map, length, Some, get_or, set, sym, ap, subst, ◌∙◌, arith, inl, inr, slice_get}
use Rattle.std.proofs.lemmas.Bool.{cases_eq}
use Rattle.std.specs.List.{enumerate_from}
use Rattle.std.proofs.lemmas.List.{length-map}
use Rattle.std.proofs.lemmas.Option.{slice_get_within, slice_get-get_or}
use Rattle.desk_memory.specs.declared.paragraphs.Paragraph.{Paragraph as HeldParagraph}
use Rattle.desk_rebuild.specs.Rows.{without_history}
use Rattle.desk_rebuild.specs.Entries.{HaveRead, IsUnread}
use Rattle.desk_rebuild.specs.History.{AreSoundRows, CanBeRead, HasRead}
use Rattle.desk_model.specs.Damage.{history_of}
use Rattle.desk_model.specs.Print.{corrected_print}
use Rattle.desk_parts.specs.Rows.{NamedCorr}
use Rattle.desk_model.proofs.Lists.Items.{map-set_same, slice_get-set_other, slice_get-set_same}
use Rattle.desk_rebuild.proofs.EntryRows.{held-at}
use Rattle.std.proofs.lemmas.List.FromFn.{get_or-enumerate_from, length-enumerate_from}

-- so many of the paragraphs have the histories of their groups, and the others are as they were
pub record HaveReadTo (groups : List (List NamedCorr)) (was now : List HeldParagraph) (count : ℕ) : Type 0 where
  pub same : map without_history now ≡ map without_history was
  pub read : (k : ℕ) (rows : List NamedCorr) (held : HeldParagraph) → k < count → slice_get groups k ≡ Some rows → slice_get now k ≡ Some held → HasRead rows held
  pub rest : (k : ℕ) → count ≤ k → slice_get now k ≡ slice_get was k

module _ (groups : List (List NamedCorr)) (was now : List HeldParagraph) (count : ℕ) (is : HaveReadTo groups was now count) where
  pub read-more : (rows : List NamedCorr) (old new : HeldParagraph) → slice_get groups count ≡ Some rows → slice_get now count ≡ Some old → without_history new ≡ without_history old → HasRead rows new
      → HaveReadTo groups was (set now count new) (count + 1)
  read-more rows old new group at same has = record {
    same = map-set_same without_history now count old new at same ∙ is.same;
    read = λ k others held below group_k at_k.
        elim (cases_eq k count) [
          | inl here ↦
              let both_rows : Some others ≡ Some rows = sym group_k ∙ (ap (slice_get groups) here ∙ group) in
              let rows_same : others ≡ rows = cc in
              let both : Some held ≡ Some new = sym at_k ∙ (ap (slice_get (set now count new)) here ∙ slice_get-set_same now count new (slice_get_within now count old at)) in
              let held_same : held ≡ new = cc in
              subst (λ (r : List NamedCorr). HasRead r held) (sym rows_same) (subst (HasRead rows) (sym held_same) has)
          | inr other ↦ is.read k others held (omega (arith, below, other)) group_k (sym (slice_get-set_other now count k new other) ∙ at_k)
        ];
    rest = λ k past. let apart : k ≢ count = omega (arith, past) in slice_get-set_other now count k new apart ∙ is.rest k (omega (arith, past));
  }

  pub unread-at : (rows : List NamedCorr) (old : HeldParagraph) → slice_get groups count ≡ Some rows → slice_get now count ≡ Some old → ¬ CanBeRead rows old.original old.print → IsUnread groups was count
  unread-at rows old group at unsound = record {
    rows = rows;
    held = old;
    group = group;
    item = sym (is.rest count (omega arith)) ∙ at;
    unsound = unsound;
    before = λ k others other below group_k before.
        let found = held-at was now is.same k other before in
        let has = is.read k others found.0 below group_k found.1 in
        record {
          sorted = has.sorted;
          same = has.same;
          each = subst (λ (t : List ℕ). AreSoundRows t has.sorted) found.2 has.each;
          print_is = ap (λ (t : List ℕ). corrected_print t (history_of has.sorted)) (sym found.2) ∙ (has.print ∙ found.3);
        };
  }

  pub read-all : length groups ≤ count → HaveRead groups now
  read-all whole index rows held group at = is.read index rows held (let within = slice_get_within groups index rows group in omega (arith, within, whole)) group at

  pub as-long : length now ≡ length was
  as-long = sym (length-map now without_history) ∙ (ap length is.same ∙ length-map was without_history)

-- what stands at a place of an enumerated list
pub at-enumerate : {V : Type 0} (vs : List V) (n i : ℕ) (v : V) → n < length (enumerate_from 0 vs) → (i, v) ≡ get_or (enumerate_from 0 vs) n (i, v) → (i ≡ n) × (slice_get vs n ≡ Some v)
at-enumerate {V} vs n i v within is =
    let less : n < length vs = omega (arith, within, length-enumerate_from 0 vs) in
    let both : (i, v) ≡ (0 + n, get_or vs n v) = is ∙ get_or-enumerate_from 0 vs n (i, v) less in
    let first : i ≡ 0 + n = ap (λ (q : ℕ × V). q.0) both in
    (omega (arith, first), slice_get-get_or vs n v less ∙ ap Some (sym (ap (λ (q : ℕ × V). q.1) both)))
