-- The search for the newest correction in force of a held history.
use Rattle.std.proofs.Common.{◌≡◌, ℕ, ◌+◌, ◌-◌, ◌<◌, ◌≤◌, List, [], ◌∷◌, ◌++◌, length, take, Option, Some, None, refl, sym, ap, ◌∙◌, arith, drop, option_map, slice_get, length-drop, length-take, length-take-le, take-take}
use Rattle.std.proofs.lemmas.Option.{slice_get-map, slice_get_within}
use Rattle.desk_memory.specs.declared.history.Correction.{Correction}
use Rattle.desk_memory.specs.declared.history.HeldEntry.{HeldEntry}
use Rattle.desk_memory.specs.declared.history.HeldEntry.TheVariants.{Corrects as HeldCorrects, Undoes as HeldUndoes}
use Rattle.desk_model.specs.Book.{Corrects, Entry, Replacement, Undoes}
use Rattle.desk_memory.specs.Histories.{HaveTaken, IsCorrection, IsNewestInForce, TookFrom, entries_held, entry_held, replacement_held}
use Rattle.desk_model.specs.Print.{corrected_print, newest, stack}
use Rattle.desk_model.specs.Sound.{AreSoundEntries}
use Rattle.desk_model.proofs.Books.HistoryLists.{AreSoundEntries-take, IsLast-parts, newest-parts, newest-push, stack-before, stack-corrected, stack-undone}
use Rattle.desk_model.proofs.Lists.Items.{each-push, take-more}

module _ (entries : List HeldEntry) (original : List ℕ) (sound : AreSoundEntries original (entries_held entries)) where
  abbrev h : List Entry
  h = entries_held entries

  at-held : (i : ℕ) (e : HeldEntry) → slice_get entries i ≡ Some e → slice_get h i ≡ Some (entry_held e)
  at-held i e at = slice_get-map entry_held entries i ∙ ap (option_map entry_held) at

  front-held : (count : ℕ) (e : HeldEntry) → 0 < count → slice_get entries (count - 1) ≡ Some e → take count h ≡ take (count - 1) h ++ entry_held e ∷ []
  front-held count e some at =
      let next : count - 1 + 1 ≡ count = omega arith in
      ap (λ (k : ℕ). take k h) (sym next) ∙ take-more h (count - 1) (entry_held e) (at-held (count - 1) e at)

  pub IsNewestInForce-found : (count : ℕ) (c : Correction) → 0 < count → slice_get entries (count - 1) ≡ Some (HeldCorrects c) → stack (take count h) ≡ stack h → IsNewestInForce entries count c
  IsNewestInForce-found count c some at same =
      let front = take (count - 1) h in
      let within = slice_get_within h (count - 1) (entry_held (HeldCorrects c)) (at-held (count - 1) (HeldCorrects c) at) in
      let long : length front ≡ count - 1 = length-take-le (count - 1) h (omega arith) in
      let number : length front + 1 ≡ count = omega arith in
      let top : stack (take count h) ≡ stack front ++ (length front + 1, replacement_held c) ∷ [] =
      ap stack (front-held count (HeldCorrects c) some at) ∙ stack-corrected original front (replacement_held c) c.who (AreSoundEntries-take original h (count - 1) sound) in
      record {
        newest_is = newest-push h (stack front) (count, replacement_held c) (sym same ∙ (top ∙ ap (λ (k : ℕ). stack front ++ (k, replacement_held c) ∷ []) number));
        positive = some;
        at = at;
      }

  pub leap : (count m : ℕ) → 0 < count → slice_get entries (count - 1) ≡ Some (HeldUndoes m) → stack (take count h) ≡ stack h
      → (1 ≤ m) × (m < count) × (stack (take (m - 1) h) ≡ stack h)
  leap count m some at same = by (newest (take (count - 1) h)) refl
    where
      names : option_map (λ correction. correction.0) (newest (take (count - 1) h)) ≡ Some m
      names = sound (count - 1) (Undoes m) (at-held (count - 1) (HeldUndoes m) at)

      by : (o : Option (ℕ × Replacement)) → newest (take (count - 1) h) ≡ o → (1 ≤ m) × (m < count) × (stack (take (m - 1) h) ≡ stack h)
      by None e = absurd (let none = sym names ∙ ap (option_map (λ (c : ℕ × Replacement). c.0)) e in cc)
      by (Some (n, q)) e =
          let some_is : Some n ≡ Some m = ap (option_map (λ (c : ℕ × Replacement). c.0)) (sym e) ∙ names in
          let number : n ≡ m = cc in
          let before = take (count - 1) h in
          let parts = newest-parts before n q e in
          let last = IsLast-parts before 1 before parts.0 n q parts.1 in
          let within = slice_get_within h (count - 1) (entry_held (HeldUndoes m)) (at-held (count - 1) (HeldUndoes m) at) in
          let long : length before ≡ count - 1 = length-take-le (count - 1) h (omega arith) in
          let from = last.from in
          let to = last.to in
          let less : n - 1 ≤ count - 1 = omega arith in
          let left : stack (take (n - 1) h) ≡ parts.0 =
          ap stack (sym (take-take (n - 1) (count - 1) h less)) ∙ stack-before original before (AreSoundEntries-take original h (count - 1) sound) n q parts.0 parts.1 in
          let top : stack (take count h) ≡ parts.0 =
          ap stack (front-held count (HeldUndoes m) some at) ∙ (ap (λ (k : ℕ). stack (before ++ Undoes k ∷ [])) (sym number) ∙ stack-undone before n q parts.0 parts.1) in
          (omega arith, omega arith, ap (λ (k : ℕ). stack (take (k - 1) h)) (sym number) ∙ (left ∙ (sym top ∙ same)))

-- a held correction stands for the correction that was asked for, and has what that takes away
module _ (print : List ℕ) (start count : ℕ) (text who : List ℕ) (c : Correction) (is : IsCorrection print start count text who c) (span : start + count ≤ length print) where
  long : length c.taken ≡ count
  long =
      let one = ap length is.taken_is in
      let two = length-take count (drop start print) in
      let three = length-drop start print in
      omega arith

  pub entry-correction : entry_held (HeldCorrects c) ≡ Corrects (record { start = start; count = count; text = text }) who
  entry-correction = λ i. Corrects (record { start = is.start_is i; count = long i; text = is.text_is i }) (is.who_is i)

  pub TookFrom-correction : TookFrom print (HeldCorrects c)
  TookFrom-correction = is.taken_is ∙ (ap (λ (n : ℕ). take n (drop start print)) (sym long) ∙ ap (λ (k : ℕ). take (length c.taken) (drop k print)) (sym is.start_is))

-- what corrections took away, one entry more
pub HaveTaken-push : (original : List ℕ) (entries : List HeldEntry) (entry : HeldEntry) → HaveTaken original entries → TookFrom (corrected_print original (entries_held entries)) entry → HaveTaken original (entries ++ entry ∷ [])
HaveTaken-push original entries entry taken last = each-push (λ t e. TookFrom (corrected_print original (entries_held t)) e) entries entry taken last
