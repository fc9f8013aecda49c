-- The damage of a table is the first, where the tables before it have none.
use Rattle.std.proofs.Common.{◌≡◌, ℤ, List, Result, Ok, Err, Some, None, refl, sym, subst, IfErr, IfOk, IsErrAnd, MatchResult, OnOk}
use Rattle.std.proofs.lemmas.Result.{IfErr-weaker, IfOk-weaker}
use Rattle.desk_parts.specs.declared.file_table.FileTable.{FileTable}
use Rattle.desk_model.specs.declared.fault.PartsFault.{PartsFault}
use Rattle.desk_model.specs.declared.fault.PartsFault.TheVariants.{Damaged, NoMemory}
use Rattle.desk_rebuild.specs.declared.damage.RowsFault.{RowsFault}
use Rattle.desk_rebuild.specs.declared.damage.RowsFault.TheVariants as rows_fault
use Rattle.desk_model.specs.Damage.{IsDamaged, IsDamagedCache, IsDamagedEntries, IsFirstDamage}
use Rattle.desk_parts.specs.FileRows.{EntryRows, FileRows, Named, Unnamed, entries_in, table_of}
use Rattle.desk_rebuild.specs.Faults.{IsDamagedBraille, TellsDamageOf, fault_in}
use Rattle.desk_rebuild.specs.Rows.{IsFirstId, IsWhole, TellsDamage}
use Rattle.desk_rebuild.specs.OrderedRows.{IsFirstUnsound, RowRule, TellsUnsound}
use Rattle.desk_model.specs.Rebuilding.{IsFaultOf}
use Rattle.desk_parts.specs.Rows.{Para as ParaRow, ParaCells, Tab as TabRow}
use Rattle.desk_model.proofs.Damage.FirstDamage.{IsWholeBefore, from_table}
use Rattle.std.proofs.lemmas.Option.{same_Some}

-- the fault of a table's rows is reported of it
pub reported-of : (table : FileTable) (damaged : ℤ → Type 0) (fault : RowsFault) → TellsDamage damaged fault → TellsDamageOf table damaged (fault_in table fault)
reported-of table damaged (rows_fault.Damaged id) first = (refl, first)
reported-of table damaged rows_fault.NoMemory first = tt

-- what holds in any case
pub on-any : {T E : Type 0} (result : Result T E) (P : Type 0) → P → OnOk result P
on-any (Ok x) P holds = holds
on-any (Err e) P holds = tt

-- what is read of a table, and the fault reported of it
module _ {T : Type 0} (table : FileTable) (given : Result T RowsFault) (result : Result T PartsFault)
    (is : MatchResult given (λ rows. result ≡ Ok rows) (λ fault. result ≡ Err (fault_in table fault))) where
  pub of-table-fault : (damaged : ℤ → Type 0) → IfErr given (TellsDamage damaged) → IfErr result (TellsDamageOf table damaged)
  of-table-fault damaged reported = by given is reported
    where
      by : (given : Result T RowsFault) → MatchResult given (λ rows. result ≡ Ok rows) (λ fault. result ≡ Err (fault_in table fault))
          → IfErr given (TellsDamage damaged) → IfErr result (TellsDamageOf table damaged)
      by (Ok rows) same reported = subst (λ r. IfErr r (TellsDamageOf table damaged)) (sym same) tt
      by (Err fault) same reported = subst (λ r. IfErr r (TellsDamageOf table damaged)) (sym same) (reported-of table damaged fault reported)

  pub of-table-rows : (P : T → Type 0) → IfOk given P → IfOk result P
  of-table-rows P holds = by given is holds
    where
      by : (given : Result T RowsFault) → MatchResult given (λ rows. result ≡ Ok rows) (λ fault. result ≡ Err (fault_in table fault)) → IfOk given P → IfOk result P
      by (Ok rows) same holds = subst (λ r. IfOk r P) (sym same) holds
      by (Err fault) same holds = subst (λ r. IfOk r P) (sym same) tt

  -- what follows from either
  pub read-of-table : (P Q : T → Type 0) → ((rows : T) → P rows → Q rows) → IfOk given P → IfOk result Q
  read-of-table P Q follows holds = of-table-rows Q (IfOk-weaker given P Q follows holds)

  pub reported-of-table : (P : RowsFault → Type 0) (damaged : ℤ → Type 0) → ((fault : RowsFault) → P fault → TellsDamage damaged fault)
      → IfErr given P → IfErr result (TellsDamageOf table damaged)
  reported-of-table P damaged follows reported = of-table-fault damaged (IfErr-weaker given P (TellsDamage damaged) follows reported)

  -- of rows in the order of their ids the first that isn't sound is reported
  pub first-of-table : {X : Type 0} (rule : RowRule X) (sorted : List X) (damaged : ℤ → Type 0) → ((id : ℤ) → IsFirstUnsound rule sorted id → IsFirstId damaged id)
      → IfErr given (TellsUnsound rule sorted) → IfErr result (TellsDamageOf table damaged)
  first-of-table rule sorted damaged tells = reported-of-table (TellsUnsound rule sorted) damaged reported
    where
      reported : (fault : RowsFault) → TellsUnsound rule sorted fault → TellsDamage damaged fault
      reported (rows_fault.Damaged id) first = tells id first
      reported rows_fault.NoMemory first = tt

-- where rows of braille are there, their damage is that of the table
braille-own : (tabs : List TabRow) (paras : List ParaRow) (caches : List ParaCells) (id : ℤ)
    → IsDamagedBraille tabs paras (Some caches) id → IsDamagedCache tabs paras caches id
braille-own tabs paras caches id (others, same, damaged) = subst (λ cs. IsDamagedCache tabs paras cs id) (sym (same_Some caches others same)) damaged

pub braille-whole : (tabs : List TabRow) (paras : List ParaRow) (caches : List ParaCells)
    → IsWhole (IsDamagedCache tabs paras caches) → IsWhole (IsDamagedBraille tabs paras (Some caches))
braille-whole tabs paras caches whole id damaged = whole id (braille-own tabs paras caches id damaged)

pub braille-reported : (tabs : List TabRow) (paras : List ParaRow) (caches : List ParaCells) (fault : RowsFault)
    → TellsDamage (IsDamagedCache tabs paras caches) fault → TellsDamage (IsDamagedBraille tabs paras (Some caches)) fault
braille-reported tabs paras caches (rows_fault.Damaged id) reported = ((caches, refl, reported.0), λ other damaged. reported.1 other (braille-own tabs paras caches other damaged))
braille-reported tabs paras caches rows_fault.NoMemory reported = tt

pub no-braille : (tabs : List TabRow) (paras : List ParaRow) → IsWhole (IsDamagedBraille tabs paras None)
no-braille tabs paras id (others, same, damaged) = absurd (cc)

pub no-braille-reported : (tabs : List TabRow) (paras : List ParaRow) (fault : RowsFault) → fault ≡ rows_fault.NoMemory → TellsDamage (IsDamagedBraille tabs paras None) fault
no-braille-reported tabs paras fault is = subst (TellsDamage (IsDamagedBraille tabs paras None)) (sym is) tt

module _ (rows : FileRows) where
  pub first-fault : (table : FileTable) → IsWholeBefore rows table → (fault : PartsFault) → TellsDamageOf table (IsDamaged rows table) fault → IsFaultOf rows fault
  first-fault table before (Damaged other id) reported =
      subst (λ t. IsFirstDamage rows t id) (sym reported.0) (record { damaged = reported.1.0; tables = before; ids = reported.1.1 })
  first-fault table before NoMemory reported = tt

  -- the damage of the table of entries, where it is the one that they are the rows of
  to_table : (entries : EntryRows) → table_of rows.entries ≡ table_of entries → (id : ℤ)
      → IsDamagedEntries rows.paras (entries_in rows.entries) id → IsDamaged rows (table_of entries) id
  to_table (Unnamed corrs) same id damaged = (same, damaged)
  to_table (Named corrs) same id damaged = (same, damaged)

  pub entries-damaged : (fault : PartsFault) → TellsDamageOf (table_of rows.entries) (IsDamagedEntries rows.paras (entries_in rows.entries)) fault
      → TellsDamageOf (table_of rows.entries) (IsDamaged rows (table_of rows.entries)) fault
  entries-damaged (Damaged table id) reported = (reported.0, (to_table rows.entries refl id reported.1.0, λ other damaged. reported.1.1 other (from_table rows rows.entries other damaged)))
  entries-damaged NoMemory reported = tt

module _ {X E : Type 0} where
  pub IfErr-exit : (r : Result X E) (e : E) (P : E → Type 0) → IsErrAnd r (λ reported. reported ≡ e) → P e → IfErr r P
  IfErr-exit (Ok x) e P exit h = tt
  IfErr-exit (Err reported) e P exit h = subst P (sym exit) h
