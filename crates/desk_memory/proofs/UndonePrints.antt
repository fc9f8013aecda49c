-- The print after an undo of the newest correction in force.
use Rattle.std.proofs.Common.{◌≡◌, ℕ, ◌+◌, ◌-◌, ◌≤◌, List, [], ◌∷◌, ◌++◌, length, take, drop, Some, refl, sym, ap, subst, ◌∙◌, arith, option_map, slice_get}
use Rattle.std.specs.List.{take-map}
use Rattle.std.proofs.lemmas.Option.{slice_get-map}
use Rattle.desk_memory.specs.declared.history.Correction.{Correction}
use Rattle.desk_memory.specs.declared.history.HeldEntry.{HeldEntry}
use Rattle.desk_memory.specs.declared.history.HeldEntry.TheVariants.{Corrects as HeldCorrects}
use Rattle.desk_model.specs.Book.{Corrects, Entry, Replacement, Undoes}
use Rattle.desk_memory.specs.Histories.{replaced_by}
use Rattle.desk_memory.specs.Histories.{IsNewestInForce, LeavePrint, entries_held, entry_held, replacement_held}
use Rattle.desk_model.specs.Print.{corrected_print, with_replacement}
use Rattle.desk_memory.proofs.Replacing.{replaced-back}
use Rattle.desk_model.proofs.Books.HistoryLists.{corrected_print-before, corrected_print-undone}
use Rattle.desk_model.proofs.Books.SoundEntries.{length-replaced}

module _ (original : List ℕ) (entries : List HeldEntry) (print : List ℕ) (left : LeavePrint original entries print) (number : ℕ) (c : Correction) (force : IsNewestInForce entries number c) where
  abbrev h : List Entry
  h = entries_held entries

  abbrev r : Replacement
  r = replacement_held c

  abbrev before : List ℕ
  before = corrected_print original (h ++ Undoes number ∷ [])

  now_is : print ≡ with_replacement before r
  now_is = left.print_is ∙ corrected_print-undone original h number r force.newest_is

  then_is : before ≡ corrected_print original (take (number - 1) h)
  then_is = corrected_print-before original h left.sound number r force.newest_is

  -- what gave way is there again
  pub taken-span : c.start + length c.taken ≤ length before
  taken-span =
      let at : slice_get h (number - 1) ≡ Some (Corrects r c.who) = slice_get-map entry_held entries (number - 1) ∙ ap (option_map entry_held) force.at in
      subst (λ (t : List ℕ). r.start + r.count ≤ length t) (sym then_is) (left.sound (number - 1) (Corrects r c.who) at).0

  taken_is : c.taken ≡ take (length c.taken) (drop c.start before)
  taken_is =
      let same : corrected_print original (entries_held (take (number - 1) entries)) ≡ before =
      ap (corrected_print original) (sym (take-map entry_held (number - 1) entries)) ∙ sym then_is in
      subst (λ (t : List ℕ). c.taken ≡ take (length c.taken) (drop c.start t)) same (left.taken (number - 1) (HeldCorrects c) force.at)

  -- so many characters the print has after it
  pub undone-length : length print + length c.taken ≡ length before + length c.text
  undone-length = ap (λ (t : List ℕ). length t + length c.taken) now_is ∙ length-replaced before r taken-span

  -- the text of the correction is there before it
  pub text-span : c.start + length c.text ≤ length print
  text-span = let within = taken-span in let sum = undone-length in omega (arith, within, sum)

  -- what gave way comes back
  pub undone-print : replaced_by c.start (length c.text) c.taken print ≡ before
  undone-print =
      ap (replaced_by c.start (length c.text) c.taken) now_is
      ∙ replaced-back before c.start (length c.taken) c.text c.taken taken-span taken_is refl
