use Rattle.std.proofs.Common.{◌≡◌, List, ℕ, Result, Ok, Err, MatchResult, subst, sym}
use Rattle.std.specs.Result.{IsErrAnd}
use Rattle.louis_table.specs.ReportedFault.{IsReportedOf}
use Rattle.louis_table.specs.declared.fault.ReadFault.{ReadFault}
use Rattle.louis_table.specs.declared.fault.ReadFault.TheVariants as reading
use Rattle.desk_program.specs.Fault.{IsFaultOfText, read_as}
use Rattle.desk_program.specs.declared.fault.ProgramFault.{ProgramFault}
use Rattle.desk_program.proofs.table_file.index_text.Goals as goal

is-reported : (text : List ℕ) (fault : ReadFault) → IsReportedOf text fault → IsFaultOfText text (read_as fault)
is-reported text (reading.Table fault) bad = bad
is-reported text reading.NoMemory reported = tt

carried : {T : Type 0} (text : List ℕ) (P : T → Type 0) (fault : ReadFault) (r : Result T ProgramFault) → IsReportedOf text fault → IsErrAnd r (λ reported. reported ≡ read_as fault) → MatchResult r P (IsFaultOfText text)
carried text P fault (Ok x) bad is = absurd is
carried text P fault (Err reported) bad is = subst (IsFaultOfText text) (sym is) (is-reported text fault bad)

pub returns-in_err-table : goal.returns-in_err-table
returns-in_err-table c = carried c.args.text.now _ c.in_err-table.field-0.0 c.from_residual.result c.in_err-table.ensures.err c.from_residual.ensures.1
