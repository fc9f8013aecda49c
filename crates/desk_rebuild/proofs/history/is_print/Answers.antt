use Rattle.std.proofs.Common.{◌≡◌, refl, nat_cmp, chars}
use Rattle.std.specs.Cmp.Lexicographic.{slice_cmp}
use Rattle.std.proofs.lemmas.Iterator.{YieldsList-from_chars, YieldsList-from_slice}
use Rattle.std.proofs.lemmas.Iterator.Consumers.{YieldsList-from_copied}
use Rattle.std.proofs.lemmas.Iterator.Search.{cmp_from_yields_List}
use Rattle.desk_rebuild.proofs.ReadEntries.{same-text}
use Rattle.desk_rebuild.proofs.history.is_print.Goals as goal

pub returns : goal.returns
returns c =
    let compared : c.cmp.result ≡ slice_cmp nat_cmp (chars c.args.text.now) c.args.print.now =
    cmp_from_yields_List (λ x y. y ≡ x) _ nat_cmp _ c.cmp.ensures.ran (YieldsList-from_chars c.args.text.now c.utf8.text cc) (λ it e. YieldsList-from_copied (YieldsList-from_slice c.args.print.now cc)) (λ x y. refl) in
    same-text (chars c.args.text.now) c.args.print.now c.cmp.result c.is_eq.result compared c.is_eq.ensures
