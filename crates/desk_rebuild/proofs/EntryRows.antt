-- The rows of all histories, read: what their paragraphs have, or which of their damage is first.
use Rattle.std.proofs.Common.{◌≡◌, ℕ, ◌+◌, ◌-◌, ◌<◌, ◌≤◌, ℤ, pos, negsuc, ◌≤ℤ◌, ◌<ℤ◌, nat_abs, List, map, length, Option, Some, None, Contains, refl, sym, ap, subst, ◌∙◌, arith, inl, inr, option_map, slice_get, chars}
use Rattle.std.specs.List.{All, range_with_len}
use Rattle.std.proofs.lemmas.Bool.{cases_lt}
use Rattle.std.proofs.lemmas.Int.{ints}
use Rattle.std.proofs.lemmas.List.Elements.{All-contains, All-weaker, All-contains_itself}
use Rattle.std.proofs.lemmas.List.Sorted.{Contains-permutation, IsPermutation-sym}
use Rattle.std.proofs.lemmas.Option.{slice_get-map, slice_get_within}
use Rattle.desk_memory.specs.declared.paragraphs.Paragraph.{Paragraph as HeldParagraph}
use Rattle.desk_model.specs.Damage.{HasPara, HasSoundEntries, IsDamagedEntries, IsWithin, history_of}
use Rattle.desk_rebuild.specs.Rows.{AreOf, HasHeld, HasHistory, IsFirstId, IsOf, IsWhole, without_history}
use Rattle.desk_rebuild.specs.Entries.{AreGrouped, HaveRead, IsFirstStray, IsStray, IsUnread, rows_of}
use Rattle.desk_rebuild.specs.History.{AreSoundRows, CanBeRead, HasRead}
use Rattle.desk_model.specs.Print.{corrected_print}
use Rattle.desk_parts.specs.Rows.{NamedCorr, Para}
use Rattle.desk_model.proofs.Lists.Members.{Contains-map}
use Rattle.desk_model.proofs.Lists.Items.{slice_get-there}
use Rattle.desk_model.proofs.Lists.Numbering.{Contains-range}
use Rattle.desk_model.proofs.Lists.RowNumbers.{Contains-from_map, key-number, pos_le, same_number}
use Rattle.desk_model.proofs.Lists.Stable.{at_least, is_le, le_from}
use Rattle.desk_rebuild.proofs.GroupedEntries.{trans_le}

below-one : (id : ℤ) (n : ℕ) → id <ℤ pos 1 → id ≤ℤ pos (n + 1)
below-one id n low = omega (arith, ints, low)

above-all : (n count : ℕ) (z : ℤ) → n ≤ count → ¬ (z ≤ℤ pos count) → pos n ≤ℤ z
above-all n count (pos k) small past = pos_le n k (let more : count < k = elim (cases_lt count k) [ inl h ↦ h | inr h ↦ absurd (past (pos_le k count h)) ] in omega (arith, more, small))
above-all n count (negsuc k) small past = absurd (past (record { le = tt }))

-- paragraphs that differ in their histories alone
pub held-at : (was now : List HeldParagraph) → map without_history now ≡ map without_history was → (k : ℕ) (held : HeldParagraph) → slice_get was k ≡ Some held
    → (new : HeldParagraph) × (slice_get now k ≡ Some new) × (new.original ≡ held.original) × (new.print ≡ held.print)
held-at was now same k held at = by (slice_get now k) refl
  where
    there : option_map without_history (slice_get now k) ≡ Some (without_history held)
    there = sym (slice_get-map without_history now k) ∙ (ap (λ (t : List HeldParagraph). slice_get t k) same ∙ (slice_get-map without_history was k ∙ ap (option_map without_history) at))

    by : (o : Option HeldParagraph) → slice_get now k ≡ o → (new : HeldParagraph) × (slice_get now k ≡ Some new) × (new.original ≡ held.original) × (new.print ≡ held.print)
    by None none = absurd (let both = sym (ap (option_map without_history) none) ∙ there in cc)
    by (Some new) some =
        let both : Some (without_history new) ≡ Some (without_history held) = sym (ap (option_map without_history) some) ∙ there in
        let is : without_history new ≡ without_history held = cc in
        (new, some, ap (λ (q : HeldParagraph). q.original) is, ap (λ (q : HeldParagraph). q.print) is)

module _ (paras : List Para) (was : List HeldParagraph) (are : AreOf paras was) (entries : List NamedCorr) (groups : List (List NamedCorr)) (grouped : AreGrouped (length was) entries groups) where
  -- the paragraph of a row, by its index
  pub record IsAt (para : Para) : Type 0 where
    pub index : ℕ
    pub id : para.id ≡ pos (index + 1)
    pub within : index < length was
    pub held : HeldParagraph
    pub at : slice_get was index ≡ Some held
    pub of : IsOf para held
    pub rows : slice_get groups index ≡ Some (rows_of entries para.id)

  pub at-row : (para : Para) → Contains paras para → IsAt para
  at-row para c =
      let number = key-number (λ (row : Para). row.id) paras (length was) are.ids para c in
      let has : HasHeld was para = All-contains (HasHeld was) paras para are.each c in
      let k : ℕ = number.0 - 1 in
      let low = number.2 in
      let high = number.3 in
      let up : number.0 ≡ k + 1 = omega (arith, low) in
      let id : para.id ≡ pos (k + 1) = number.1 ∙ ap pos up in
      let index : nat_abs para.id - 1 ≡ k = ap (λ (z : ℤ). nat_abs z - 1) number.1 in
      let group = slice_get-there groups k (omega (arith, low, high, grouped.many)) in
      record {
        index = k;
        id = id;
        within = omega (arith, low, high);
        held = has.held;
        at = ap (slice_get was) (sym index) ∙ has.at;
        of = has.of;
        rows = group.1 ∙ ap Some (grouped.each k group.0 group.1 ∙ ap (rows_of entries) (sym id));
      }

  -- the row of the paragraph at an index
  row-at : (index : ℕ) → index < length was → (para : Para) × Contains paras para × (para.id ≡ pos (index + 1))
  row-at index within =
      let c = Contains-permutation _ _ (pos (index + 1)) (IsPermutation-sym _ _ are.ids)
      (Contains-map pos (range_with_len 1 (length was)) (index + 1) (Contains-range 1 (length was) (index + 1) (omega arith) (omega (arith, within)))) in
      Contains-from_map (λ (row : Para). row.id) paras (pos (index + 1)) c

  -- an id is that of a row where it is within the paragraphs
  has-para : (id : ℤ) → IsWithin 1 (length was) id → HasPara paras id
  has-para id within =
      let k = at_least 1 id within.0 in
      let low = k.2 in
      let high = le_from k.0 (length was) (subst (λ z. z ≤ℤ pos (length was)) k.1 within.1) in
      let found = row-at (k.0 - 1) (omega (arith, low, high)) in
      let up : k.0 - 1 + 1 ≡ k.0 = omega (arith, low) in
      (found.0, found.1, found.2 ∙ (ap pos up ∙ sym k.1))

  sound-from_read : (para : Para) (c : Contains paras para) → CanBeRead (rows_of entries para.id) (at-row para c).held.original (at-row para c).held.print → HasSoundEntries entries para
  sound-from_read para c can =
      let a = at-row para c in
      record {
        sorted = can.sorted;
        its_own = can.same;
        each = subst (λ (t : List ℕ). AreSoundRows t can.sorted) a.of.original can.each;
        print = ap (λ (t : List ℕ). corrected_print t (history_of can.sorted)) (sym a.of.original) ∙ (can.print_is ∙ a.of.print);
      }

  read-from_sound : (para : Para) (c : Contains paras para) → HasSoundEntries entries para → CanBeRead (rows_of entries para.id) (at-row para c).held.original (at-row para c).held.print
  read-from_sound para c has =
      let a = at-row para c in
      record {
        sorted = has.sorted;
        same = has.its_own;
        each = subst (λ (t : List ℕ). AreSoundRows t has.sorted) (sym a.of.original) has.each;
        print_is = ap (λ (t : List ℕ). corrected_print t (history_of has.sorted)) a.of.original ∙ (has.print ∙ sym a.of.print);
      }

  -- an id of rows that no paragraph has is damaged
  stray-damaged : (id : ℤ) → IsStray (length was) entries id → IsDamagedEntries paras entries id
  stray-damaged id stray = inr (
    stray.0.0,
    stray.0.1,
    stray.0.2,
    λ has.
        let number = key-number (λ (row : Para). row.id) paras (length was) are.ids has.0 has.1 in
        let named : id ≡ pos number.0 = sym has.2 ∙ number.1 in
        stray.1 (subst (IsWithin 1 (length was)) (sym named) (pos_le 1 number.0 number.2, pos_le number.0 (length was) number.3)),
  )

  -- damage is a stray id, or a paragraph whose rows can't be read
  pub damage-cases : (P : Type 0) (id : ℤ) → IsDamagedEntries paras entries id → (IsStray (length was) entries id → P)
      → ((para : Para) (c : Contains paras para) → para.id ≡ id → ¬ CanBeRead (rows_of entries para.id) (at-row para c).held.original (at-row para c).held.print → P) → P
  damage-cases P id (inl (para, c, named, unsound)) stray unread = unread para c named (λ can. unsound (sound-from_read para c can))
  damage-cases P id (inr (row, c, named, lacks)) stray unread = stray ((row, c, named), λ within. lacks (has-para id within))

  module _ (first : Option ℤ) (strays : IsFirstStray (length was) entries first) where
    -- a stray id below the paragraphs' comes before all damage
    pub stray-first : (id : ℤ) → first ≡ Some id → id <ℤ pos 1 → IsFirstId (IsDamagedEntries paras entries) id
    stray-first id some low =
        let given = subst (IsFirstStray (length was) entries) some strays in (
          stray-damaged id given.0,
          λ other damaged. damage-cases (id ≤ℤ other) other damaged (given.1 other)
              (λ para c named unread. let a = at-row para c in
              let is : other ≡ pos (a.index + 1) = sym named ∙ a.id in
              subst (λ z. id ≤ℤ z) (sym is) (below-one id a.index low)),
        )

    -- a paragraph whose rows can't be read comes first, where those before it can and no stray id is below the paragraphs'
    pub unread-first : (index : ℕ) → IsUnread groups was index → ((id : ℤ) → first ≡ Some id → pos 1 ≤ℤ id) → IsFirstId (IsDamagedEntries paras entries) (pos (index + 1))
    unread-first index u above =
        let within = slice_get_within was index u.held u.item in
        let found = row-at index within in
        let a = at-row found.0 found.1 in
        let here : a.index ≡ index = (let equal = same_number (a.index + 1) (index + 1) (sym a.id ∙ found.2) in omega (arith, equal)) in
        let held_is : Some a.held ≡ Some u.held = sym a.at ∙ (ap (slice_get was) here ∙ u.item) in
        let held : a.held ≡ u.held = cc in
        let rows_is : Some (rows_of entries found.0.id) ≡ Some u.rows = sym a.rows ∙ (ap (slice_get groups) here ∙ u.group) in
        let rows : rows_of entries found.0.id ≡ u.rows = cc in (
          inl (
            found.0,
            found.1,
            found.2,
            λ sound.
                u.unsound (subst (λ (q : HeldParagraph). CanBeRead u.rows q.original q.print) held (subst (λ (r : List NamedCorr). CanBeRead r a.held.original a.held.print) rows (read-from_sound found.0 found.1 sound))),
          ),
          λ other damaged. damage-cases (pos (index + 1) ≤ℤ other) other damaged (stray-after index within above other)
              (λ para c named unread. let b = at-row para c in
              let is : other ≡ pos (b.index + 1) = sym named ∙ b.id in
              subst (λ z. pos (index + 1) ≤ℤ z) (sym is) (pos_le (index + 1) (b.index + 1)
              (elim (cases_lt b.index index) [
                | inl less ↦ absurd (unread (u.before b.index (rows_of entries para.id) b.held less b.rows b.at))
                | inr past ↦ omega (arith, past)
              ]))),
        )
      where
        stray-after : (index : ℕ) → index < length was → ((id : ℤ) → first ≡ Some id → pos 1 ≤ℤ id) → (other : ℤ) → IsStray (length was) entries other → pos (index + 1) ≤ℤ other
        stray-after index within above other stray = by first refl strays
          where
            by : (o : Option ℤ) → first ≡ o → IsFirstStray (length was) entries o → pos (index + 1) ≤ℤ other
            by None is none = absurd (none other stray)
            by (Some id) is some =
                let low : pos 1 ≤ℤ other = trans_le (pos 1) id other (above id is) (some.1 other stray) in
                elim (is_le other (pos (length was))) [
                  | inl high ↦ absurd (stray.1 (low, high))
                  | inr past ↦ above-all (index + 1) (length was) other (omega (arith, within)) past
                ]

    module _ (now : List HeldParagraph) (same : map without_history now ≡ map without_history was) (read : HaveRead groups now) where
      can-read : (para : Para) (c : Contains paras para) → CanBeRead (rows_of entries para.id) (at-row para c).held.original (at-row para c).held.print
      can-read para c =
          let a = at-row para c in
          let new = held-at was now same a.index a.held a.at in
          let has : HasRead (rows_of entries para.id) new.0 = read a.index (rows_of entries para.id) new.0 a.rows new.1 in
          record {
            sorted = has.sorted;
            same = has.same;
            each = subst (λ (t : List ℕ). AreSoundRows t has.sorted) new.2 has.each;
            print_is = ap (λ (t : List ℕ). corrected_print t (history_of has.sorted)) (sym new.2) ∙ (has.print ∙ new.3);
          }

      -- where all can be read, a stray id is the first damage
      pub stray-last : (id : ℤ) → first ≡ Some id → IsFirstId (IsDamagedEntries paras entries) id
      stray-last id some =
          let given = subst (IsFirstStray (length was) entries) some strays in (
            stray-damaged id given.0,
            λ other damaged. damage-cases (id ≤ℤ other) other damaged (given.1 other) (λ para c named unread. absurd (unread (can-read para c))),
          )

      pub whole-read : first ≡ None → IsWhole (IsDamagedEntries paras entries)
      whole-read none id damaged =
          damage-cases ⊥ id damaged (subst (IsFirstStray (length was) entries) none strays id) (λ para c named unread. unread (can-read para c))

      has-history : (para : Para) → Contains paras para → HasHistory entries now para
      has-history para c =
          let a = at-row para c in
          let new = held-at was now same a.index a.held a.at in
          let has : HasRead (rows_of entries para.id) new.0 = read a.index (rows_of entries para.id) new.0 a.rows new.1 in
          let original : new.0.original ≡ chars para.original = new.2 ∙ a.of.original in
          let index : nat_abs para.id - 1 ≡ a.index = (let plus : a.index + 1 - 1 ≡ a.index = omega arith in ap (λ (z : ℤ). nat_abs z - 1) a.id ∙ plus) in
          record {
            sorted = has.sorted;
            its_own = has.same;
            each = subst (λ (t : List ℕ). AreSoundRows t has.sorted) original has.each;
            held = new.0;
            at = ap (slice_get now) index ∙ new.1;
            history = has.history;
            taken = has.taken;
            print = has.print;
          }

      pub histories-read : All (HasHistory entries now) paras
      histories-read = All-weaker (Contains paras) (HasHistory entries now) has-history paras (All-contains_itself paras)
