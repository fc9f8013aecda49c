-- A fault that is passed on.
use Rattle.std.proofs.Common.{◌≡◌, ◌↔◌, ℕ, List, Result, Err}
use Rattle.louis_table.specs.Meaning.{Meaning}
use Rattle.louis_translate.specs.Position.{IsFirstUndefined}
use Rattle.louis_translate.specs.declared.print.Fault.{Fault}
use Rattle.louis_translate.specs.declared.print.Fault.TheVariants.{Undefined}

-- the exit of a question mark names the same place as the call before it
pub undefined_passes : {A B : Type 0} (inner : Result A Fault) (outer : Result B Fault) (fault raised : Fault) (meaning m : Meaning) (print : List ℕ) → inner ≡ Err fault → outer ≡ Err raised → raised ≡ fault → m ≡ meaning → ((place : ℕ) → (inner ≡ Err (Undefined place)) ↔ IsFirstUndefined m print place) → (place : ℕ) → (outer ≡ Err (Undefined place)) ↔ IsFirstUndefined meaning print place
undefined_passes inner outer fault raised meaning m print in_is out_is same table named place =
    (λ e. rw (← table) ((named place).0 (cc)), λ h. let was = (named place).1 (rw table h) in cc)
