use Rattle.std.proofs.Common.{◌≡◌, ◌∙◌, ◌⊎◌, List, true, refl, [], ap, sym, subst, inl, inr}
use Rattle.clap.specs.Words.{App, HasKind, IsAmong, Text, fault_of, is_simple_and_free, HasMatchesOf}
use Rattle.clap.specs.Walk.{texts}
use Rattle.clap.specs.declared.error.kind.ErrorKind.{ErrorKind}
use Rattle.clap.specs.declared.error.kind.ErrorKind.TheVariants.{OutOfMemory}
use Rattle.desk_words.specs.Subcommands.{whole}
use Rattle.desk_words.specs.Words.{IsError, IsReading}
use Rattle.desk_words.specs.declared.reading.Reading.{Reading}
use Rattle.desk_words.specs.declared.reading.Reading.TheVariants.{Asked, Help, NoMemory, Refused}
use Rattle.desk_words.proofs.reading.read_words.Goals as goal

among : (app : App) (words : List Text) (kind : ErrorKind) → (kind ≡ OutOfMemory) ⊎ IsAmong kind (fault_of app words) → (kind ≡ OutOfMemory → ⊥) → IsAmong kind (fault_of app words)
among app words kind (inl memory) other = absurd (other memory)
among app words kind (inr h) other = h

failed : (app : App) (words : List Text) (kind : ErrorKind) (reading : Reading) → (kind ≡ OutOfMemory) ⊎ IsAmong kind (fault_of app words) → IsError kind reading → IsReading app words reading
failed app words kind (Asked action) h e = absurd e
failed app words kind (Help text) h e = (record { help = subst (λ (k : ErrorKind). IsAmong k (fault_of app words)) e.0 (among app words kind h (λ memory. let bad = sym e.0 ∙ memory in cc)) }, e.1)
failed app words kind (Refused text) h e = (record { kind = kind; other = e.0; among = among app words kind h e.1 }, e.2)
failed app words kind NoMemory h e = tt

simple : is_simple_and_free whole ≡ true
simple = refl

pub returns-in-Err : goal.returns-in-Err
returns-in-Err c =
    let app = c.in-Ok.ensures in
    failed whole (texts c.args.words.now) _ c.reading_of.result
    (subst (λ (a : App). HasKind (fault_of a (texts c.args.words.now)) c.in-Err.error) app (c.in-Err.ensures.kinds (ap is_simple_and_free app ∙ simple))) c.reading_of.ensures

pub returns-in-Some : goal.returns-in-Some
returns-in-Some c =
    let words = texts c.args.words.now in
    let app = c.in-Ok.ensures in
    let read = c.in-Ok-try_get_matches_from.ensures in
    let taken : fault_of whole words ≡ [] = subst (λ (a : App). fault_of a words ≡ []) app (read.kinds (ap is_simple_and_free app ∙ simple)) in
    let asked : HasMatchesOf whole words c.in-Ok-try_get_matches_from.matches =
    subst (λ (a : App). HasMatchesOf a words c.in-Ok-try_get_matches_from.matches) app read.matches in
    c.in-Some.ensures.named words (record { taken = taken; subcommand = (asked refl).1 })
