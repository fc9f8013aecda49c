use Rattle.std.proofs.Common.{◌≡◌, ℕ, ◌+◌, ◌<◌, List, [], length, true, refl, ap, sym, ◌∙◌, arith, inl, inr, ◌==◌}
use Rattle.std.proofs.lemmas.Bool.{cases_order}
use Rattle.std.proofs.lemmas.Bool.Decides.{nat_tests}
use Rattle.std.proofs.lemmas.List.{nil_from_length}
use Rattle.std.proofs.lemmas.Option.{slice_get_read}
use Rattle.louis_table.specs.Meaning.{Meaning}
use Rattle.louis_translate.specs.Sign.{sign_at}
use Rattle.louis_translate.proofs.Runs.{sign_at-same}
use Rattle.louis_translate.proofs.covering.has_no_sign_inside.Goals as goal

-- the places before a place have no sign, and neither has it
further : (meaning : Meaning) (print : List ℕ) (start place : ℕ) → ((k : ℕ) → start < k → k < place → sign_at meaning print k ≡ []) → sign_at meaning print place ≡ []
    → (k : ℕ) → start < k → k < place + 1 → sign_at meaning print k ≡ []
further meaning print start place before here k more less =
    elim (cases_order k place) [
      | inl e ↦ ap (sign_at meaning print) e ∙ here
      | inr ne ↦ elim ne [ inl under ↦ before k more under | inr over ↦ absurd (omega arith) ]
    ]

is_nil : (xs : List ℕ) → (length xs == 0) ≡ true → xs ≡ []
is_nil xs e = nil_from_length xs (grind (arith, nat_tests))

pub loop-place-preserved-then-never_has_sign : goal.loop-place-preserved-then-never_has_sign
loop-place-preserved-then-never_has_sign c =
    let inv = c.loop-place.invariant in
    let place = c.loop-place.place in
    let print = c.args.print.now in
    let there = slice_get_read print (length print) place c.index-print-place.result refl (omega (arith, c.loop-place-test.true, c.requires.within)) c.index-print-place.is in
    record {
      table_is = inv.table_is;
      print_is = inv.print_is;
      no_sign_inside = further c.args.table.now c.args.print.now c.args.start place inv.no_sign_inside (c.if-never_has_sign.ensures print place there);
    }

pub loop-place-preserved : goal.loop-place-preserved
loop-place-preserved c =
    let inv = c.loop-place.invariant in
    let place = c.loop-place.place in
    let same = c.at.ensures.sign ∙ sign_at-same c.args.table.now _ c.args.print.now _ place _ (sym inv.table_is) (sym inv.print_is) refl in
    let here = sym same ∙ is_nil c.at.result.now (sym c.is_empty.ensures ∙ c.if-not-is_empty.false) in
    record {
      table_is = c.at.ensures.table ∙ inv.table_is;
      print_is = c.at.ensures.print ∙ inv.print_is;
      no_sign_inside = further c.args.table.now c.args.print.now c.args.start place inv.no_sign_inside here;
    }
