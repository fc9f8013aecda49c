use Rattle.std.proofs.Common.{refl, inl, inr}
use Rattle.desk_program.specs.Program.{Does}
use Rattle.desk_program.specs.declared.fault.ProgramFault.TheVariants.{NoMemory}
use Rattle.desk_program.proofs.Outcomes.{CarriesOut-refused}
use Rattle.desk_program.proofs.status.program.Goals as goal

pub returns-in-Asked-clause-done : goal.returns-in-Asked-clause-done
returns-in-Asked-clause-done g c status =
    Does.action _ c.in-Asked.ensures (rw (c.end.ensures.done status) at c.carry_out.ensures)

pub returns-in-Asked-clause-failed : goal.returns-in-Asked-clause-failed
returns-in-Asked-clause-failed g c status =
    let stopped = c.end.ensures.failed status in
    (stopped.0, stopped.1, Does.action _ c.in-Asked.ensures (rw stopped.2 at c.carry_out.ensures))

pub returns-in-Asked-clause-refused : goal.returns-in-Asked-clause-refused
returns-in-Asked-clause-refused g c status =
    let refused = c.end.ensures.refused status in
    (refused.0, inr (Does.action _ c.in-Asked.ensures (rw refused.1 at c.carry_out.ensures)), refused.2)

pub returns-in-Asked-clause-untouched : goal.returns-in-Asked-clause-untouched
returns-in-Asked-clause-untouched g c status =
    elim status [
      | inl words ↦ absurd (c.end.ensures.status.1 words)
      | inr refusal ↦ let refused = c.end.ensures.refused refusal in
          CarriesOut-refused _ _ _ _ _ _ _ _ refused.0 (rw refused.1 at c.carry_out.ensures)
    ]

pub returns-in-Help-clause-done : goal.returns-in-Help-clause-done
returns-in-Help-clause-done g c status =
    Does.help c.in-Help.ensures.0 _ (rw c.as_str.ensures.value c.in-Help.ensures.1) (rw (c.end-in-Help.ensures.done status) at c.show.ensures) refl

pub returns-in-Help-clause-failed : goal.returns-in-Help-clause-failed
returns-in-Help-clause-failed g c status =
    let stopped = c.end-in-Help.ensures.failed status in
    (stopped.0, stopped.1, Does.help c.in-Help.ensures.0 _ (rw c.as_str.ensures.value c.in-Help.ensures.1) (rw stopped.2 at c.show.ensures) refl)

pub returns-in-NoMemory-clause-refused : goal.returns-in-NoMemory-clause-refused
returns-in-NoMemory-clause-refused g c status = (NoMemory, inl refl, c.refuse.ensures.reported)
