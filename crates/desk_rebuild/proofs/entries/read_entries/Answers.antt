use Rattle.std.proofs.Common.{◌≡◌, ℕ, ℤ, pos, ◌≤ℤ◌, ◌<ℤ◌, Some, map, length, inl, inr, sym, subst, ◌∙◌, arith, w64, to_z, of_z}
use Rattle.std.proofs.lemmas.Int.{ints}
use Rattle.std.proofs.lemmas.Result.{err_from_is_err_and}
use Rattle.desk_model.specs.Damage.{IsDamagedEntries}
use Rattle.desk_rebuild.specs.Rows.{IsFirstId, TellsDamage}
use Rattle.desk_rebuild.specs.Entries.{AreGrouped, IsFirstStray}
use Rattle.desk_rebuild.proofs.EntryRows.{histories-read, stray-first, stray-last, unread-first, whole-read}
use Rattle.desk_rebuild.proofs.entries.read_entries.Goals as goal
use Rattle.desk_rebuild.proofs.entries.read_entries.Goals.{In_ok-groups, in-Some+else-id-lt1, in_default}

-- the rows are in groups for the paragraphs that were given
grouped : (c : In_ok-groups) → AreGrouped (length c.args.items.now.items) c.args.rows.items (map (λ group. group.items) c.in_ok-groups.field-0.groups.items)
    × IsFirstStray (length c.args.items.now.items) c.args.rows.items c.in_ok-groups.field-0.stray
grouped c =
    let lists = map (λ group. group.items) c.in_ok-groups.field-0.groups.items in
    let count = c.len.ensures ∙ c.args.items.now.ok.0 in (
      subst (λ (n : ℕ). AreGrouped n c.args.rows.items lists) count c.in_ok-groups.ensures.groups,
      subst (λ (n : ℕ). IsFirstStray n c.args.rows.items c.in_ok-groups.field-0.stray) count c.in_ok-groups.ensures.stray,
    )

pub returns-then-id-lt1-clause-damaged : goal.returns-then-id-lt1-clause-damaged
returns-then-id-lt1-clause-damaged c paras are =
    let by = grouped (goal.at.returns-then-id-lt1-clause-damaged c).In_ok-groups in
    let own : to_z w64 (of_z w64 c.in-Some.id) ≡ c.in-Some.id = omega (arith, ints) in
    let low : c.in-Some.id <ℤ pos 1 = omega (arith, ints, c.if-id-lt1.true) in
    subst (IsFirstId (IsDamagedEntries paras c.args.rows.items)) (sym own) (stray-first paras _ are c.args.rows.items _ by.0 c.in_ok-groups.field-0.stray by.1 c.in-Some.id c.in-Some.is low)

pub returns-in_err-read_histories-clause-damaged : goal.returns-in_err-read_histories-clause-damaged
returns-in_err-read_histories-clause-damaged c paras are =
    let by = grouped (goal.at.returns-in_err-read_histories-clause-damaged c).In_ok-groups in
    let above : (id : ℤ) → c.in_ok-groups.field-0.stray ≡ Some id → pos 1 ≤ℤ id = (λ id some. elim c.match-stray.branch [
      | in-Some+else-id-lt1 w ↦
          let both : Some w.in-Some.id ≡ Some id = sym w.in-Some.is ∙ some in
          let same : w.in-Some.id ≡ id = cc in
          let own : pos 1 ≤ℤ w.in-Some.id = omega (arith, ints, w.if-id-lt1.false) in
          subst (λ z. pos 1 ≤ℤ z) same own
      | in_default w ↦ absurd (let both = sym w.in_default.is ∙ some in cc)
    ]) in
    let p = err_from_is_err_and c.from_residual-in_err-read_histories.result c.from_residual-in_err-read_histories.ensures.1 in
    rw p.1 (elim c.in_err-read_histories.ensures.damaged [
      | inl refused ↦ subst (TellsDamage (IsDamagedEntries paras c.args.rows.items)) (sym (p.2 ∙ refused)) tt
      | inr damaged ↦ subst (TellsDamage (IsDamagedEntries paras c.args.rows.items)) (sym (p.2 ∙ damaged.1)) (unread-first paras _ are c.args.rows.items _ by.0 c.in_ok-groups.field-0.stray by.1 damaged.0 damaged.2 above)
    ])

pub returns-in-Some-stray-clause-damaged : goal.returns-in-Some-stray-clause-damaged
returns-in-Some-stray-clause-damaged c paras are =
    let by = grouped (goal.at.returns-in-Some-stray-clause-damaged c).In_ok-groups in
    let stray : c.match-stray.stray ≡ c.in_ok-groups.field-0.stray = elim c.match-stray.branch [ in-Some+else-id-lt1 w ↦ w.stray-is ∙ sym w.in-Some.is | in_default w ↦ w.stray-is ] in
    let own : to_z w64 (of_z w64 c.in-Some-stray.id) ≡ c.in-Some-stray.id = omega (arith, ints) in
    let last = stray-last paras _ are c.args.rows.items _ by.0 c.in_ok-groups.field-0.stray by.1 c.read_histories.new.items.items c.in_ok-read_histories.ensures.same c.in_ok-read_histories.ensures.read
    c.in-Some-stray.id (sym stray ∙ c.in-Some-stray.is) in
    subst (IsFirstId (IsDamagedEntries paras c.args.rows.items)) (sym own) last

pub returns-in-None-clause-whole : goal.returns-in-None-clause-whole
returns-in-None-clause-whole c paras are =
    let by = grouped (goal.at.returns-in-None-clause-whole c).In_ok-groups in
    let stray : c.match-stray.stray ≡ c.in_ok-groups.field-0.stray = elim c.match-stray.branch [ in-Some+else-id-lt1 w ↦ w.stray-is ∙ sym w.in-Some.is | in_default w ↦ w.stray-is ] in
    whole-read paras _ are c.args.rows.items _ by.0 c.in_ok-groups.field-0.stray by.1 c.read_histories.new.items.items c.in_ok-read_histories.ensures.same c.in_ok-read_histories.ensures.read (sym stray ∙ c.in-None.is)

pub returns-in-None-clause-histories : goal.returns-in-None-clause-histories
returns-in-None-clause-histories c paras are =
    let by = grouped (goal.at.returns-in-None-clause-histories c).In_ok-groups in
    histories-read paras _ are c.args.rows.items _ by.0 c.in_ok-groups.field-0.stray by.1 c.read_histories.new.items.items c.in_ok-read_histories.ensures.same c.in_ok-read_histories.ensures.read
