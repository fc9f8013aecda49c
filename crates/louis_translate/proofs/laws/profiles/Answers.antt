use Rattle.louis_table.proofs.ProfileLaws.{same_with_numeric_mode, nothing_of_numeric_mode}
use Rattle.louis_translate.proofs.Alike.{alike}
use Rattle.louis_translate.proofs.laws.profiles.Goals as goal

pub returns-clause-means : goal.returns-clause-means
returns-clause-means c = λ bytes meaning means.
    let none = nothing_of_numeric_mode bytes meaning means in
    (same_with_numeric_mode bytes meaning means, record { no_sign = none.0; no_sets = none.1 })

pub returns-clause-alike : goal.returns-clause-alike
returns-clause-alike c = λ bytes meaning print means.
    let none = nothing_of_numeric_mode bytes meaning means in
    alike meaning print none.1
