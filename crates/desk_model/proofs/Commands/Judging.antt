-- How a command is checked, one rank after the other, and the ranks that it skips.
use Rattle.std.proofs.Common.{◌≡◌, ◌⊎◌, ℕ, ◌+◌, ◌<◌, ◌≤◌, Bool, true, false, List, [], ◌∷◌, Option, Some, None, Contains, refl, sym, ap, subst, arith, inl, inr, nat_eq, nat_lt, nat_le, ◌||◌, not, is_some, IsSomeAnd, length, option_and_then}
use Rattle.std.specs.List.{list_all, list_any}
use Rattle.std.specs.Map.{lookup}
use Rattle.std.specs.Cmp.{first_so, second_so}
use Rattle.std.proofs.lemmas.Bool.{cases_Bool, cases_lt, or_left, or_right}
use Rattle.std.proofs.lemmas.Bool.Decides.{nat_tests}
use Rattle.desk_model.specs.declared.command.Command.{Command}
use Rattle.desk_model.specs.declared.refusal.Limit.{Limit}
use Rattle.desk_model.specs.declared.refusal.Limit.TheVariants.{Tables, Paragraphs, Entries, Marks, Version}
use Rattle.desk_model.specs.declared.refusal.Refusal.{Refusal}
use Rattle.desk_model.specs.declared.refusal.Refusal.TheVariants.{Moved, BadName, BadReader, BadText, NoParagraph, NoTable, NoMark, Struck, NotStruck, Resolved, BadSpan, NothingToUndo, TooLong, Full, BadTable, Undefined, Untranslatable, NoMemory}
use Rattle.louis_table.specs.declared.fault.TableFault.{TableFault}
use Rattle.louis_table.specs.Table.{Bad}
use Rattle.desk_model.specs.Book.{Book, mark_of, paragraph_of, text_of}
use Rattle.desk_model.specs.Limits.{most_entries, most_note, most_print, most_tables}
use Rattle.desk_model.specs.ValidNames.{IsProofreaderName, IsTableName}
use Rattle.desk_model.specs.BookTexts.{IsFirstBarred}
use Rattle.desk_model.specs.Print.{newest}
use Rattle.desk_model.proofs.Lists.Options.{IsSomeAnd-some}
use Rattle.desk_model.specs.Judging.{Passes}
use Rattle.desk_model.specs.Named.{Changed, Named, Translated, Typed, named_by}
use Rattle.desk_model.specs.Refusals.{Holds, IsRefused, IsAccepted, IsFull, IsLongerThan, IsMoved, IsUndefined, IsUntranslatable, LacksSpan, new_print, print_and_table, print_made}
use Rattle.desk_model.specs.Ranks.{bad_table_rank, bad_text_rank, rank, undefined_rank, untranslatable_rank}

-- ---- limits

pub limit_rank : (limit : Limit) → (rank TooLong < rank (Full limit)) × (rank (Full limit) < bad_table_rank)
limit_rank Tables = (omega arith, omega arith)
limit_rank limit = (omega arith, omega arith)

pub same_limit : (limit other : Limit) → rank (Full limit) ≡ rank (Full other) → limit ≡ other
same_limit Tables Tables e = refl
same_limit Paragraphs Paragraphs e = refl
same_limit Entries Entries e = refl
same_limit Marks Marks e = refl
same_limit Version Version e = refl
same_limit limit other e = absurd (omega arith)

-- ---- the first refusal, and none

module _ (book : Book) (expect : Option ℕ) (command : Command) where
  rank-below : (other : Refusal) → Holds book expect command other → rank other < rank NoMemory
  rank-below (Full Tables) h = omega arith
  rank-below NoMemory h = absurd h
  rank-below other h = omega arith

  pub Passes-start : Passes book expect command 0
  Passes-start other h = omega arith

  pub Passes-more : (n : ℕ) → Passes book expect command n → ((other : Refusal) → rank other ≡ n → ¬ Holds book expect command other) → Passes book expect command (n + 1)
  Passes-more n p none other h =
      let after = p other h in
      elim (cases_Bool (nat_eq (rank other) n)) [
        | inl e ↦ absurd (none other (grind (arith, nat_tests)) h)
        | inr e ↦ grind (arith, nat_tests)
      ]

  pub IsRefused-passes : (n : ℕ) (refusal : Refusal) → Passes book expect command n → rank refusal ≡ n → Holds book expect command refusal → IsRefused book expect command refusal
  IsRefused-passes n refusal p at h = record { holds = h; first = λ other g. let after = p other g in omega arith }

  pub IsAccepted-passes : Passes book expect command (rank NoMemory) → IsAccepted book expect command
  IsAccepted-passes p other h = let after = p other h in let before = rank-below other h in omega arith

  pub Passes-accepted : IsAccepted book expect command → (n : ℕ) → Passes book expect command n
  Passes-accepted a n other h = absurd (a other h)

-- ---- the ranks that a command skips

-- whether the print of such a paragraph is a new one
abbrev pub is_new : Option Translated → Bool
is_new (Some (Typed print table)) = true
is_new (Some (Changed id change)) = true
is_new translated = false

-- each rank, with whether a refusal of it may hold of a command that gives and names this
abbrev pub ranks : Named → List (ℕ × Bool)
ranks named =
    (0, true) ∷ (rank BadName, is_some named.table_given) ∷ (rank BadReader, is_some named.proofreader_given) ∷ (bad_text_rank, is_some named.text_given)
    ∷ (rank NoParagraph, list_any (λ id. true) named.paragraphs_named) ∷ (rank NoTable, is_some named.table_named) ∷ (rank NoMark, is_some named.mark_named)
    ∷ (rank Struck, is_some named.live_paragraph) ∷ (rank NotStruck, is_some named.struck_paragraph) ∷ (rank Resolved, is_some named.mark_named)
    ∷ (rank BadSpan, is_some named.span_named) ∷ (rank NothingToUndo, is_some named.paragraph_undone)
    ∷ (rank TooLong, is_some named.text_stored || (is_new named.paragraph_translated || is_some named.note_given))
    ∷ (rank (Full Tables), is_some named.table_given) ∷ (rank (Full Paragraphs), named.adds_paragraph) ∷ (rank (Full Entries), is_some named.history_grown)
    ∷ (rank (Full Marks), is_some named.note_given) ∷ (rank (Full Version), true) ∷ (bad_table_rank, is_some named.table_given)
    ∷ (undefined_rank, is_some named.paragraph_translated) ∷ (untranslatable_rank, is_some named.table_given) ∷ []

-- the rank is below n, or not below m, or no refusal of it may hold
abbrev pub is_skipped : (n m : ℕ) → ℕ × Bool → Bool
is_skipped n m t = nat_lt t.0 n || (nat_le m t.0 || not t.1)

-- no refusal of a rank from n up to m may hold of the command
abbrev pub skips : Command → (n m : ℕ) → Bool
skips command n m = list_all (is_skipped n m) (ranks (named_by command))

passes_at : (p : ℕ × Bool → Bool) (ts : List (ℕ × Bool)) (t : ℕ) (b : Bool) → list_all p ts ≡ true → lookup (nat_eq t) ts ≡ Some b → p (t, b) ≡ true
passes_at p [] t b all found = absurd (cc)
passes_at p ((u, c) ∷ ts) t b all found =
    elim (cases_Bool (nat_eq t u)) [
      | inl e ↦
          let here : t ≡ u = grind (arith, nat_tests) in
          let flags : Some c ≡ Some b = rw e at found in
          let same : c ≡ b = cc in
          subst (λ (x : ℕ). p (x, b) ≡ true) (sym here) (subst (λ (x : Bool). p (u, x) ≡ true) same (first_so (p (u, c)) (list_all p ts) all))
      | inr e ↦ passes_at p ts t b (second_so (p (u, c)) (list_all p ts) all) (rw e at found)
    ]

not_skipped : (n m t : ℕ) → is_skipped n m (t, true) ≡ true → n ≤ t → m ≤ t
not_skipped n m t skipped after =
    elim (cases_lt t m) [
      | inl before ↦ absurd (grind (arith, nat_tests))
      | inr le ↦ le
    ]

named_some : (ids : List ℕ) (id : ℕ) → Contains ids id → list_any (λ other. true) ids ≡ true
named_some [] id (k, within, at) = absurd (omega arith)
named_some (other ∷ ids) id h = refl

module _ (book : Book) where
  made_new : (o : Option Translated) → is_some (option_and_then (print_made book) o) ≡ true → is_new o ≡ true
  made_new (Some (Typed text table)) e = refl
  made_new (Some (Changed id change)) e = refl
  made_new o e = absurd (cc)

  translated_some : (o : Option Translated) (shown : List ℕ × List ℕ) → option_and_then (print_and_table book) o ≡ Some shown → is_some o ≡ true
  translated_some None shown e = absurd (cc)
  translated_some (Some t) shown e = refl

module _ (book : Book) (expect : Option ℕ) (command : Command) where
  long_some : (most : ℕ) (text : Option (List ℕ)) → IsLongerThan most text → is_some text ≡ true
  long_some most text h = IsSomeAnd-some (λ (characters : List ℕ). most < length characters) text h

  long_named : Holds book expect command TooLong
      → (is_some (named_by command).text_stored || (is_new (named_by command).paragraph_translated || is_some (named_by command).note_given)) ≡ true
  long_named (inl text) =
      or_left (is_some (named_by command).text_stored) (is_new (named_by command).paragraph_translated || is_some (named_by command).note_given)
      (long_some most_print (named_by command).text_stored text)
  long_named (inr other) =
      or_right (is_some (named_by command).text_stored) (is_new (named_by command).paragraph_translated || is_some (named_by command).note_given) (rest other)
    where
      rest : IsLongerThan most_print (new_print book command) ⊎ IsLongerThan most_note (named_by command).note_given
          → (is_new (named_by command).paragraph_translated || is_some (named_by command).note_given) ≡ true
      rest (inl print) =
          or_left (is_new (named_by command).paragraph_translated) (is_some (named_by command).note_given)
          (made_new book (named_by command).paragraph_translated (long_some most_print (new_print book command) print))
      rest (inr note) =
          or_right (is_new (named_by command).paragraph_translated) (is_some (named_by command).note_given)
          (long_some most_note (named_by command).note_given note)

  -- a refusal that holds is one that may hold of a command that names what this one does
  may_hold : (other : Refusal) → Holds book expect command other → lookup (nat_eq (rank other)) (ranks (named_by command)) ≡ Some true
  may_hold (Moved version) h = refl
  may_hold BadName h = ap Some (IsSomeAnd-some (λ (given : List ℕ × List ℕ). ¬ IsTableName given.0) (named_by command).table_given h)
  may_hold BadReader h = ap Some (IsSomeAnd-some (λ name. ¬ IsProofreaderName name) (named_by command).proofreader_given h)
  may_hold (BadText place) h = ap Some (IsSomeAnd-some (λ text. IsFirstBarred text place) (named_by command).text_given h)
  may_hold NoParagraph h = ap Some (named_some (named_by command).paragraphs_named h.0 h.1)
  may_hold NoTable h = ap Some (IsSomeAnd-some (λ name. text_of book name ≡ None) (named_by command).table_named h)
  may_hold NoMark h = ap Some (IsSomeAnd-some (λ id. mark_of book id ≡ None) (named_by command).mark_named h)
  may_hold Struck h =
      ap Some (IsSomeAnd-some (λ id. IsSomeAnd (paragraph_of book id) (λ p. p.struck ≡ true)) (named_by command).live_paragraph h)
  may_hold NotStruck h =
      ap Some (IsSomeAnd-some (λ id. IsSomeAnd (paragraph_of book id) (λ p. p.struck ≡ false)) (named_by command).struck_paragraph h)
  may_hold Resolved h =
      ap Some (IsSomeAnd-some (λ id. IsSomeAnd (mark_of book id) (λ m. m.resolved ≡ true)) (named_by command).mark_named h)
  may_hold BadSpan h = ap Some (IsSomeAnd-some (LacksSpan book) (named_by command).span_named h)
  may_hold NothingToUndo h =
      ap Some (IsSomeAnd-some (λ id. IsSomeAnd (paragraph_of book id) (λ p. newest p.history ≡ None)) (named_by command).paragraph_undone h)
  may_hold TooLong h = ap Some (long_named h)
  may_hold (Full Tables) h =
      ap Some (IsSomeAnd-some (λ (given : List ℕ × List ℕ). (text_of book given.0 ≡ None) × (most_tables ≤ length book.tables)) (named_by command).table_given h)
  may_hold (Full Paragraphs) h = ap Some h.0
  may_hold (Full Entries) h =
      ap Some (IsSomeAnd-some (λ id. IsSomeAnd (paragraph_of book id) (λ p. most_entries ≤ length p.history)) (named_by command).history_grown h)
  may_hold (Full Marks) h = ap Some h.0
  may_hold (Full Version) h = refl
  may_hold (BadTable fault) h = ap Some (IsSomeAnd-some (λ (given : List ℕ × List ℕ). Bad given.1 fault.line fault.cause) (named_by command).table_given h)
  may_hold (Undefined place) h = ap Some (translated_some book (named_by command).paragraph_translated (h.print, h.name) h.print_is)
  may_hold (Untranslatable id place) h = ap Some (ap is_some h.given)
  may_hold NoMemory h = absurd h

  pub Passes-skip : (n m : ℕ) → skips command n m ≡ true → Passes book expect command n → Passes book expect command m
  Passes-skip n m skip p other h =
      not_skipped n m (rank other) (passes_at (is_skipped n m) (ranks (named_by command)) (rank other) true skip (may_hold other h)) (p other h)

  -- ---- one rank more

  -- no such refusal holds, whatever numbers it has
  abbrev pub NoneHolds : Refusal → Type 0
  NoneHolds (Moved version) = (other : ℕ) → ¬ IsMoved book expect other
  NoneHolds (BadText place) = (other : ℕ) → ¬ Holds book expect command (BadText other)
  NoneHolds (BadTable fault) = (other : TableFault) → ¬ Holds book expect command (BadTable other)
  NoneHolds (Undefined place) = (other : ℕ) → ¬ IsUndefined book command other
  NoneHolds (Untranslatable id place) = (other at : ℕ) → ¬ IsUntranslatable book command other at
  NoneHolds refusal = ¬ Holds book expect command refusal

  -- then no refusal of its rank holds
  none-at : (refusal other : Refusal) → rank refusal ≡ rank other → NoneHolds refusal → ¬ Holds book expect command other
  none-at (Moved v) (Moved w) e none h = none w h
  none-at BadName BadName e none h = none h
  none-at BadReader BadReader e none h = none h
  none-at (BadText p) (BadText q) e none h = none q h
  none-at NoParagraph NoParagraph e none h = none h
  none-at NoTable NoTable e none h = none h
  none-at NoMark NoMark e none h = none h
  none-at Struck Struck e none h = none h
  none-at NotStruck NotStruck e none h = none h
  none-at Resolved Resolved e none h = none h
  none-at BadSpan BadSpan e none h = none h
  none-at NothingToUndo NothingToUndo e none h = none h
  none-at TooLong TooLong e none h = none h
  none-at TooLong (Full other) e none h = let ranks = limit_rank other in omega arith
  none-at (Full limit) (Full other) e none h = none (subst (IsFull book command) (sym (same_limit limit other e)) h)
  none-at (Full limit) other e none h = let ranks = limit_rank limit in omega arith
  none-at (BadTable f) (BadTable g) e none h = none g h
  none-at (BadTable f) (Full other) e none h = let ranks = limit_rank other in omega arith
  none-at (Undefined p) (Undefined q) e none h = none q h
  none-at (Undefined p) (Full other) e none h = let ranks = limit_rank other in omega arith
  none-at (Untranslatable id p) (Untranslatable n q) e none h = none n q h
  none-at (Untranslatable id p) (Full other) e none h = let ranks = limit_rank other in omega arith
  none-at refusal NoMemory e none h = h
  none-at NoMemory other e none h = let below = rank-below book expect command other h in omega arith
  none-at refusal other e none h = omega arith

  -- where no such refusal holds, the checks go on at the next rank at which one may
  pub Passes-past : (refusal : Refusal) (m : ℕ) → skips command (rank refusal + 1) m ≡ true → Passes book expect command (rank refusal) → NoneHolds refusal → Passes book expect command m
  Passes-past refusal m skip p none =
      Passes-skip (rank refusal + 1) m skip (Passes-more book expect command (rank refusal) p (λ other same. none-at refusal other (sym same) none))
