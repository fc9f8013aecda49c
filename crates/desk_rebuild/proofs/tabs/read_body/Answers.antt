use Rattle.std.proofs.Common.{◌≡◌, ℕ, ℤ, List, SFits, refl, rules, subst, sym, w64}
use Rattle.std.proofs.lemmas.Int.{to_z-of_z}
use Rattle.louis_table.specs.ReportedFault.{IsReportedOf}
use Rattle.louis_table.specs.declared.fault.ReadFault.{ReadFault}
use Rattle.louis_table.specs.declared.fault.ReadFault.TheVariants as reading
use Rattle.louis_table.specs.declared.fault.TableFault.{TableFault}
use Rattle.louis_table.proofs.OneMeaning.{means_or_bad}
use Rattle.desk_rebuild.specs.Tabs.{TellsNoMeaning}
use Rattle.desk_rebuild.specs.declared.damage.RowsFault.{RowsFault}
use Rattle.desk_rebuild.specs.declared.damage.RowsFault.TheVariants.{Damaged, NoMemory}
use Rattle.desk_rebuild.proofs.tabs.read_body.Goals as goal

reported-at : (body : List ℕ) (id number : ℤ) → number ≡ id → (fault : ReadFault) (reported : RowsFault) → IsReportedOf body fault
    → ((bad : TableFault) → fault ≡ reading.Table bad → reported ≡ Damaged number) → (fault ≡ reading.NoMemory → reported ≡ NoMemory)
    → TellsNoMeaning body id reported
reported-at body id number same (reading.Table bad) reported tells damage memory =
    subst (TellsNoMeaning body id) (sym (damage bad refl)) (same, λ meaning means. means_or_bad body meaning bad.line bad.cause means tells)
reported-at body id number same reading.NoMemory reported tells damage memory = subst (TellsNoMeaning body id) (sym (memory refl)) tt

pub returns-in-Err-clause-reported : goal.returns-in-Err-clause-reported
returns-in-Err-clause-reported c =
    let fits : SFits w64 c.args.id = search rules in
    reported-at c.args.body.now c.args.id _ (to_z-of_z w64 c.args.id fits) c.in-Err.fault c.fault_at.result c.in-Err.ensures.bad
    c.fault_at.ensures.damage c.fault_at.ensures.memory
