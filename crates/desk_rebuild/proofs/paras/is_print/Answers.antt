use Rattle.std.proofs.Common.{◌≡◌, ℕ, ◌≤◌, Bool, true, false, List, length, Option, Some, None, refl, sym, arith, position, is_some, IsTrue, not, chars}
use Rattle.desk_model.specs.Damage.{IsPrintText}
use Rattle.desk_model.specs.Limits.{most_print}
use Rattle.desk_model.specs.BookTexts.{is_barred}
use Rattle.desk_model.proofs.Commands.TextTests.{IsFirstBarred-position, IsUnbarred-none, IsUnbarred-position}
use Rattle.desk_rebuild.proofs.paras.is_print.Goals as goal

tested : (text : List ℕ) (place : Option ℕ) (none : Bool) → length text ≤ most_print → place ≡ position is_barred text → is_some place ≡ not none
    → (IsTrue none → IsPrintText text) × (IsPrintText text → IsTrue none)
tested text None true short e is = (λ yes. (short, IsUnbarred-position text (sym e)), λ sound. refl)
tested text (Some place) false short e is =
    (λ yes. absurd (cc), λ sound. absurd (IsUnbarred-none text place sound.1 (IsFirstBarred-position text place (sym e))))
tested text place none short e is = absurd (cc)

pub returns-then-count_of-le-MOST_PRINT : goal.returns-then-count_of-le-MOST_PRINT
returns-then-count_of-le-MOST_PRINT c = tested (chars c.args.text.now) c.first_barred.result c.is_none.result (omega arith) c.first_barred.ensures c.is_none.ensures
