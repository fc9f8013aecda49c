use Rattle.std.proofs.Common.{rules, ◌≡◌, ◌≢◌, ℕ, refl, ap}
use Rattle.std.specs.Prelude.{Err}
use Rattle.desk_program.specs.Books.{Makes}
use Rattle.desk_program.specs.declared.fault.ProgramFault.TheVariants.{Taken}
use Rattle.desk_program.specs.declared.stop.Stop.TheVariants.{Refused}
use Rattle.desk_program.proofs.Outcomes.{Makes-none}
use Rattle.desk_program.proofs.books.make_book.Goals as goal

pub returns-in_err-read_book : goal.returns-in_err-read_book
returns-in_err-read_book g c =
    Makes-none _ _ _ c.in_err-read_book.field-0.0 c.from_residual.result c.in_err-read_book.ensures c.from_residual.ensures.1

pub returns-then-version-ne0 : goal.returns-then-version-ne0
returns-then-version-ne0 g c =
    let some : c.in_ok-read_book.field-0.version ≢ 0 = search rules in
    Makes.taken c.in_ok-read_book.field-0 c.in_ok-read_book.ensures some refl
    (ap (λ (version : ℕ). Err (Refused (Taken version))) c.version-version.ensures.version)

pub returns : goal.returns
returns g c =
    let none : c.version-version.result ≡ 0 = search rules in
    let new : c.in_ok-read_book.field-0.version ≡ 0 = search rules in
    Makes.made c.in_ok-read_book.field-0 c.in_ok-read_book.ensures new (rw none at c.tell_version.ensures)
