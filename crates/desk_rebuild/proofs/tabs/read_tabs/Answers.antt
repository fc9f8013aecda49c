use Rattle.std.proofs.Common.{List, IsPermutation}
use Rattle.std.proofs.lemmas.List.Sorted.{IsPermutation-map}
use Rattle.desk_parts.specs.declared.file_table.FileTable.TheVariants.{Tab}
use Rattle.desk_model.specs.Damage.{IsDamagedTab}
use Rattle.desk_rebuild.specs.Rows.{AreTables, IsWhole}
use Rattle.desk_rebuild.specs.Tabs.{AreRead, TellsFirstUnsound, rows_of}
use Rattle.desk_parts.specs.Rows.{StoredTab}
use Rattle.desk_rebuild.proofs.FirstTables.{of-table-rows, read-of-table, reported-of-table}
use Rattle.desk_rebuild.proofs.ReadTabs.{are-tables, tells, whole}
use Rattle.desk_rebuild.proofs.tabs.read_tabs.Goals as goal

moved : (rows sorted : List StoredTab) → IsPermutation rows sorted → IsPermutation (rows_of rows) (rows_of sorted)
moved rows sorted same = IsPermutation-map (λ (s : StoredTab). s.row) _ _ same

pub returns-clause-whole : goal.returns-clause-whole
returns-clause-whole c =
    let all = c.sort.new.rows.items in
    read-of-table Tab c.tables_of.result c.of_table.result c.of_table.ensures
    (AreRead (rows_of all) (rows_of all)) (λ tables. IsWhole (IsDamagedTab (rows_of c.args.rows.items)))
    (λ tables read. whole (rows_of c.args.rows.items) (rows_of all) tables (moved c.args.rows.items all c.sort.ensures.same) c.sort.ensures.sorted read)
    c.tables_of.ensures.read

pub returns-clause-tables : goal.returns-clause-tables
returns-clause-tables c =
    let all = c.sort.new.rows.items in
    of-table-rows Tab c.tables_of.result c.of_table.result c.of_table.ensures (AreTables (rows_of c.args.rows.items))
    (are-tables (rows_of c.args.rows.items) (rows_of all) (moved c.args.rows.items all c.sort.ensures.same) c.tables_of.result c.tables_of.ensures.read)

pub returns-clause-damaged : goal.returns-clause-damaged
returns-clause-damaged c =
    let all = c.sort.new.rows.items in
    reported-of-table Tab c.tables_of.result c.of_table.result c.of_table.ensures
    (TellsFirstUnsound (rows_of all)) (IsDamagedTab (rows_of c.args.rows.items))
    (λ fault reported. tells (rows_of c.args.rows.items) (rows_of all) fault (moved c.args.rows.items all c.sort.ensures.same) c.sort.ensures.sorted reported)
    c.tables_of.ensures.reported
