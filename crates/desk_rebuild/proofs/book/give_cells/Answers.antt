use Rattle.std.proofs.Common.{◌≡◌, List, Option, Some, None, Vec, Global, option_map, sym, ap, subst, IfErr, OnOk}
use Rattle.std.proofs.lemmas.Result.{IfErr-weaker, on_ok_weaker}
use Rattle.desk_parts.specs.declared.file_table.FileTable.TheVariants.{Cache}
use Rattle.desk_rebuild.specs.declared.damage.RowsFault.TheVariants.{NoMemory}
use Rattle.desk_parts.specs.declared.rows.CacheRow.{CacheRow}
use Rattle.desk_model.specs.Damage.{IsDamagedCache}
use Rattle.desk_rebuild.specs.Faults.{IsDamagedBraille, TellsDamageOf}
use Rattle.desk_rebuild.specs.Rows.{IsWhole, TellsDamage}
use Rattle.desk_parts.specs.Rows.{ParaCells}
use Rattle.desk_rebuild.proofs.FirstTables.{braille-reported, braille-whole, no-braille, no-braille-reported, of-table-fault, of-table-rows, on-any}
use Rattle.desk_rebuild.proofs.book.give_cells.Goals.{in-Some, in-None}
use Rattle.desk_rebuild.proofs.book.give_cells.Goals as goal

abbrev rows_of : Option (Vec CacheRow Global) → Option (List ParaCells)
rows_of cache = option_map (λ caches. caches.items) cache

pub returns-clause-whole : goal.returns-clause-whole
returns-clause-whole c = λ tabs paras are of sound. elim c.match-cache.branch [
  | in-Some w ↦
      let some = subst (λ given. OnOk given (IsWhole (IsDamagedBraille tabs paras (Some w.in-Some.rows.items)))) (sym w.given-is)
      (on_ok_weaker w.read_caches-given.result (braille-whole tabs paras w.in-Some.rows.items) (w.read_caches-given.ensures.whole tabs paras are of sound)) in
      subst (λ (caches : Option (List ParaCells)). OnOk c.of_table.result (IsWhole (IsDamagedBraille tabs paras caches))) (sym (ap rows_of w.in-Some.is))
      (of-table-rows Cache c.match-cache.given c.of_table.result c.of_table.ensures (λ _. IsWhole (IsDamagedBraille tabs paras (Some w.in-Some.rows.items))) some)
  | in-None w ↦
      subst (λ (caches : Option (List ParaCells)). OnOk c.of_table.result (IsWhole (IsDamagedBraille tabs paras caches))) (sym (ap rows_of w.in-None.is))
      (on-any c.of_table.result (IsWhole (IsDamagedBraille tabs paras None)) (no-braille tabs paras))
]

pub returns-clause-damaged : goal.returns-clause-damaged
returns-clause-damaged c = λ tabs paras are of sound. elim c.match-cache.branch [
  | in-Some w ↦
      let damaged = IsDamagedBraille tabs paras (Some w.in-Some.rows.items) in
      let some = subst (λ given. IfErr given (TellsDamage damaged)) (sym w.given-is)
      (IfErr-weaker w.read_caches-given.result (TellsDamage (IsDamagedCache tabs paras w.in-Some.rows.items)) (TellsDamage damaged)
      (braille-reported tabs paras w.in-Some.rows.items) (w.read_caches-given.ensures.damaged tabs paras are of sound)) in
      subst (λ (caches : Option (List ParaCells)). IfErr c.of_table.result (TellsDamageOf Cache (IsDamagedBraille tabs paras caches))) (sym (ap rows_of w.in-Some.is))
      (of-table-fault Cache c.match-cache.given c.of_table.result c.of_table.ensures damaged some)
  | in-None w ↦
      let damaged = IsDamagedBraille tabs paras None in
      let none = subst (λ given. IfErr given (TellsDamage damaged)) (sym w.given-is)
      (IfErr-weaker w.made_cells-given.result (λ fault. fault ≡ NoMemory) (TellsDamage damaged) (no-braille-reported tabs paras) w.made_cells-given.ensures.memory) in
      subst (λ (caches : Option (List ParaCells)). IfErr c.of_table.result (TellsDamageOf Cache (IsDamagedBraille tabs paras caches))) (sym (ap rows_of w.in-None.is))
      (of-table-fault Cache c.match-cache.given c.of_table.result c.of_table.ensures damaged none)
]
