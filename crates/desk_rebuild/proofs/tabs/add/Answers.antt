use Rattle.std.proofs.Common.{true≢false, ◌≡◌, ◌+◌, ◌∷◌, ◌++◌, pos, ◌+ℤ◌, Err, length, w64, to_z, of_z, subst, sym, ap, ◌∙◌, arith, rules, [], IfErr, None, nat_eq, string_bytes, chars}
use Rattle.std.specs.Map.{lookup}
use Rattle.louis_table.specs.Table.{Means}
use Rattle.std.specs.Cmp.Lexicographic.{pointwise}
use Rattle.std.proofs.lemmas.Result.{err_from_is_err_and}
use Rattle.desk_parts.specs.declared.file_table.FileTable.TheVariants as tables
use Rattle.desk_parts.specs.FileRows.{HasUtf8Texts}
use Rattle.desk_rebuild.specs.Tabs.{AreRead, MayCome, TellsNoMeaning, TellsUnsoundTab}
use Rattle.desk_memory.specs.Held.{with_table}
use Rattle.desk_rebuild.proofs.ReadTabs.{count, may-come, more-read, number-after, unreported}
use Rattle.desk_rebuild.proofs.tabs.add.Goals as goal

pub returns-then-not-may_come-clause-reported : goal.returns-then-not-may_come-clause-reported
returns-then-not-may_come-clause-reported c = λ done rest read.
    let text : HasUtf8Texts tables.Tab c.args.row = search rules in
    let many = c.len.ensures ∙ count done rest c.args.row c.args.tables.now text read in
    let name : chars c.args.row.name ≡ chars c.as_str.result.now = search rules in (
      number-after c.len.result (omega (arith, c.requires.few, c.len.ensures)) ∙ ap (λ n. pos (n + 1)) many,
      λ sound. let yes = c.may_come.ensures.1 (subst (MayCome c.args.tables.now) name (may-come done rest c.args.row c.args.tables.now text read sound)) in absurd (true≢false (sym yes ∙ c.if-not-may_come.true)),
    )

pub returns-in_err-table-clause-reported : goal.returns-in_err-table-clause-reported
returns-in_err-table-clause-reported c = λ done rest read.
    let text : HasUtf8Texts tables.Tab c.args.row = search rules in
    let many = c.len.ensures ∙ count done rest c.args.row c.args.tables.now text read in
    let body : c.deref.result.now ≡ c.args.row.body = search rules in
    let exit = err_from_is_err_and c.from_residual.result c.from_residual.ensures.1 in
    let id = to_z w64 (of_z w64 (to_z w64 c.len.result +ℤ pos 1)) in
    let reported : TellsNoMeaning c.args.row.body id c.in_err-table.field-0.0 = subst (λ b. TellsNoMeaning b id c.in_err-table.field-0.0) body c.in_err-table.ensures.reported in
    subst (λ r. IfErr r (TellsUnsoundTab (done ++ c.args.row ∷ rest) (length done) c.args.row)) (sym (exit.1 ∙ ap (λ e. Err e) exit.2))
    (unreported (done ++ c.args.row ∷ rest) (length done) c.args.row id
    (number-after c.len.result (omega (arith, c.requires.few, c.len.ensures)) ∙ ap (λ n. pos (n + 1)) many) c.in_err-table.field-0.0 reported)

pub insert-requires : goal.insert-requires
insert-requires c =
    let may : MayCome c.args.tables.now (chars c.as_str.result.now) = c.may_come.ensures.0 c.if-not-may_come.false in
    let name : chars c.as_str.result.now ≡ chars (string_bytes c.row.inside.name) = search rules in
    record { new = subst (λ n. lookup (pointwise nat_eq n) c.args.tables.now ≡ None) name may.new }

pub returns-clause-read : goal.returns-clause-read
returns-clause-read c = λ done rest read.
    let text : HasUtf8Texts tables.Tab c.args.row = search rules in
    let name : chars c.as_str.result.now ≡ chars c.args.row.name = search rules in
    let body : c.deref.result.now ≡ c.args.row.body = search rules in
    let may = subst (MayCome c.args.tables.now) name (c.may_come.ensures.0 c.if-not-may_come.false) in
    let new : c.insert.new.self ≡ with_table (chars c.args.row.name) c.in_ok-table.table c.args.tables.now = search rules in
    subst (AreRead (done ++ c.args.row ∷ rest) (done ++ c.args.row ∷ [])) (sym new)
    (more-read done rest c.args.row c.args.tables.now text read c.in_ok-table.table may (c.in_ok-table.ensures.text ∙ body)
    (subst (λ b. Means b c.in_ok-table.table.rules) body c.in_ok-table.ensures.means))
