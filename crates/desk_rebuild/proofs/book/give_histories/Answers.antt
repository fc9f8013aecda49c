use Rattle.std.proofs.Common.{◌≡◌, List, map, subst, All, IfErr, OnOk}
use Rattle.desk_model.specs.Damage.{IsDamagedEntries}
use Rattle.desk_parts.specs.declared.file_table.FileTable.TheVariants as tables
use Rattle.desk_parts.specs.FileRows.{HasUtf8Texts, entries_in}
use Rattle.desk_rebuild.specs.Faults.{TellsDamageOf}
use Rattle.desk_rebuild.specs.Rows.{HasHistory, IsWhole, TellsDamage, without_history}
use Rattle.desk_parts.specs.Parts.{entry_rows}
use Rattle.desk_parts.specs.Rows.{NamedCorr}
use Rattle.desk_rebuild.proofs.FirstTables.{of-table-fault, of-table-rows}
use Rattle.desk_rebuild.proofs.book.give_histories.Goals as goal

pub returns-clause-texts : goal.returns-clause-texts
returns-clause-texts c =
    of-table-rows c.table-table.result c.read_entries.result c.of_table.result c.of_table.ensures
    (λ _. All (HasUtf8Texts tables.NamedCorr) (entries_in (entry_rows c.args.entries)))
    (subst (λ (rows : List NamedCorr). OnOk c.read_entries.result (All (HasUtf8Texts tables.NamedCorr) rows)) c.in_ok-rows.ensures c.read_entries.ensures.texts)

pub returns-clause-whole : goal.returns-clause-whole
returns-clause-whole c = λ paras of.
    of-table-rows c.table-table.result c.read_entries.result c.of_table.result c.of_table.ensures
    (λ _. IsWhole (IsDamagedEntries paras (entries_in (entry_rows c.args.entries))))
    (subst (λ (rows : List NamedCorr). OnOk c.read_entries.result (IsWhole (IsDamagedEntries paras rows))) c.in_ok-rows.ensures (c.read_entries.ensures.whole paras of))

pub returns-clause-histories : goal.returns-clause-histories
returns-clause-histories c = λ paras of.
    of-table-rows c.table-table.result c.read_entries.result c.of_table.result c.of_table.ensures
    (λ _. All (HasHistory (entries_in (entry_rows c.args.entries)) c.read_entries.new.items.items) paras)
    (subst (λ (rows : List NamedCorr). OnOk c.read_entries.result (All (HasHistory rows c.read_entries.new.items.items) paras)) c.in_ok-rows.ensures (c.read_entries.ensures.histories paras of))

pub returns-clause-same : goal.returns-clause-same
returns-clause-same c =
    of-table-rows c.table-table.result c.read_entries.result c.of_table.result c.of_table.ensures
    (λ _. map without_history c.read_entries.new.items.items ≡ map without_history c.args.items.now.items) c.read_entries.ensures.same

pub returns-clause-damaged : goal.returns-clause-damaged
returns-clause-damaged c = λ paras of.
    let reported = of-table-fault c.table-table.result c.read_entries.result c.of_table.result c.of_table.ensures
    (IsDamagedEntries paras (entries_in (entry_rows c.args.entries)))
    (subst (λ (rows : List NamedCorr). IfErr c.read_entries.result (TellsDamage (IsDamagedEntries paras rows))) c.in_ok-rows.ensures (c.read_entries.ensures.damaged paras of)) in
    subst (λ table. IfErr c.of_table.result (TellsDamageOf table (IsDamagedEntries paras (entries_in (entry_rows c.args.entries))))) c.table-table.ensures reported
