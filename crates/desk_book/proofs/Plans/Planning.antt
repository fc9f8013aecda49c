-- How a command is checked while no version is expected, by what was found in the book.
use Rattle.std.proofs.Common.{◌≡◌, ℕ, zero, suc, ◌<◌, ◌≤◌, true, false, List, [], ◌∷◌, length, Some, None, refl, sym, ap, subst, ◌∙◌, arith, inl, inr}
use Rattle.std.specs.Prelude.{IfErr, IsErrAnd, IsSome, IsSomeAnd, Result, Ok, Err, is_some}
use Rattle.std.proofs.lemmas.Bool.{both_ways}
use Rattle.louis_table.specs.Table.{Means}
use Rattle.louis_table.proofs.OneMeaning.{one_meaning}
use Rattle.louis_translate.specs.Position.{AreDefined}
use Rattle.desk_book.specs.declared.change.Effect.{Effect}
use Rattle.desk_model.specs.declared.command.Command.{Command}
use Rattle.desk_memory.specs.declared.paragraphs.Paragraph.{Paragraph as HeldParagraph}
use Rattle.desk_memory.specs.declared.tables.BookTable.{BookTable}
use Rattle.desk_model.specs.declared.refusal.Limit.TheVariants.{Version}
use Rattle.desk_model.specs.declared.refusal.Refusal.{Refusal}
use Rattle.desk_model.specs.declared.refusal.Refusal.TheVariants.{BadName, Full, NoMemory, NoParagraph, NoTable, NotStruck, Resolved, Struck, TooLong, Undefined}
use Rattle.desk_model.specs.Book.{Book, Paragraph, paragraph_of, text_of}
use Rattle.desk_model.specs.Judging.{Passes}
use Rattle.desk_model.specs.Limits.{most_print, most_version}
use Rattle.desk_book.specs.Plans.{AreNotAllThere, AreThere, IsHeldFor, IsTableFor, IsTurnedDown}
use Rattle.desk_model.specs.Named.{named_by}
use Rattle.desk_model.specs.Refusals.{Holds, IsUndefined, new_print, print_to_translate}
use Rattle.desk_model.specs.Ranks.{rank, undefined_rank, untranslatable_rank}
use Rattle.desk_model.proofs.Lists.Options.{IsSomeAnd-of, IsSomeAnd-value}
use Rattle.desk_model.proofs.Commands.Judging.{IsRefused-passes, Passes-past, Passes-skip, skips}
use Rattle.desk_model.proofs.Commands.Ranks.{defined_not_first, passes_to}
use Rattle.std.proofs.lemmas.Option.{same_Some}

-- ---- the exit of a `?`

pub exit : (answer : Result Effect Refusal) (P : Refusal → Type 0) (reported : Refusal) → IsErrAnd answer (λ other. other ≡ reported) → P reported → IfErr answer P
exit (Ok effect) P reported is p = tt
exit (Err other) P reported is p = subst P (sym is) p

-- ---- paragraphs that are named

module _ (book : Book) where
  pub AreNotAllThere-cons : (id : ℕ) (ids : List ℕ) → AreNotAllThere book ids → AreNotAllThere book (id ∷ ids)
  AreNotAllThere-cons id ids (other, (k, within, at), missing) = (other, (suc k, omega arith, at), missing)

  pub AreThere-none : AreThere book []
  AreThere-none id (k, within, at) = absurd (omega arith)

  pub AreThere-cons : (id : ℕ) (held : HeldParagraph) (ids : List ℕ) → IsHeldFor book id held → AreThere book ids → AreThere book (id ∷ ids)
  AreThere-cons id held ids k rest other (zero, within, at) = subst (λ (n : ℕ). IsSome (paragraph_of book n)) at (ap is_some k.found)
  AreThere-cons id held ids k rest other (suc i, within, at) = rest other (i, omega arith, at)

-- ---- ranks

module _ (book : Book) (command : Command) where
  pub turned_down : (n : ℕ) (refusal reported : Refusal) → Passes book None command n → rank refusal ≡ n → Holds book None command refusal → reported ≡ refusal → IsTurnedDown book command reported
  turned_down n refusal reported passes at holds same = subst (IsTurnedDown book command) (sym same) (inl (IsRefused-passes book None command n refusal passes at holds))

  pub no_memory : (reported : Refusal) (n : ℕ) → (named_by command).rank_after_asking ≡ Some n → Passes book None command n → reported ≡ NoMemory → IsTurnedDown book command reported
  no_memory reported n asks passes is = inr (is, record { from = n; asks = asks; passes = passes })

  pub no_paragraph : (reported : Refusal) → Passes book None command (rank NoParagraph) → AreNotAllThere book (named_by command).paragraphs_named → reported ≡ NoParagraph → IsTurnedDown book command reported
  no_paragraph reported passes lacks = turned_down (rank NoParagraph) NoParagraph reported passes refl lacks

  pub past_paragraphs : Passes book None command (rank NoParagraph) → AreThere book (named_by command).paragraphs_named → Passes book None command (rank NoTable)
  past_paragraphs passes there = Passes-past book None command NoParagraph (rank NoTable) refl passes (λ lacks. let found = there lacks.0 lacks.1 in let missing = lacks.2 in cc (ap is_some missing))

  pub too_long : (reported : Refusal) (print : List ℕ) → Passes book None command (rank TooLong) → new_print book command ≡ Some print → most_print < length print → reported ≡ TooLong → IsTurnedDown book command reported
  too_long reported print passes made long = turned_down (rank TooLong) TooLong reported passes refl (inr (inl (IsSomeAnd-of (λ (t : List ℕ). most_print < length t) made long)))

  pub full_version : (n : ℕ) (reported : Refusal) → Passes book None command n → skips command n (rank (Full Version)) ≡ true → most_version ≤ book.version → reported ≡ Full Version → IsTurnedDown book command reported
  full_version n reported passes skip full = turned_down (rank (Full Version)) (Full Version) reported (Passes-skip book None command n (rank (Full Version)) skip passes) refl full

  -- ---- a print by a table

  module _ (name print : List ℕ) (table : BookTable) (given : print_to_translate book command ≡ Some (print, name)) (found : IsTableFor book name table) where
    pub past_print : Passes book None command undefined_rank → AreDefined table.rules print → Passes book None command untranslatable_rank
    past_print passes defined = Passes-past book None command (Undefined 0) untranslatable_rank refl passes none
      where
        none : (place : ℕ) → ¬ IsUndefined book command place
        none place u =
            let pair = same_Some (u.print, u.name) (print, name) (sym u.print_is ∙ given) in
            let same_print : u.print ≡ print = ap (λ (p : List ℕ × List ℕ). p.0) pair in
            let same_name : u.name ≡ name = ap (λ (p : List ℕ × List ℕ). p.1) pair in
            let text : u.text ≡ table.text = same_Some u.text table.text (sym u.found ∙ (ap (text_of book) same_name ∙ found.found)) in
            let meaning = one_meaning table.text u.meaning table.rules (subst (λ (t : List ℕ). Means t u.meaning) text u.means) found.means in
            defined_not_first table.rules print place defined (rw (meaning, same_print) at u.first)

  -- ---- a paragraph that is named first

  module _ (id : ℕ) (held : HeldParagraph) (k : IsHeldFor book id held) where
    pub past_named : skips command (rank BadName) (rank NoParagraph) ≡ true → (named_by command).paragraphs_named ≡ id ∷ [] → Passes book None command (rank NoTable)
    past_named skip named = past_paragraphs (passes_to book command (rank NoParagraph) skip) (subst (AreThere book) (sym named) (AreThere-cons book id held [] k (AreThere-none book)))

    pub past_struck : Passes book None command (rank Struck) → (named_by command).live_paragraph ≡ Some id → held.struck ≡ false → Passes book None command (rank NotStruck)
    past_struck passes named live =
        Passes-past book None command Struck (rank NotStruck) refl passes
        (λ s. both_ways held.struck live
        (IsSomeAnd-value (λ (p : Paragraph). p.struck ≡ true) k.found
        (IsSomeAnd-value (λ (n : ℕ). IsSomeAnd (paragraph_of book n) (λ p. p.struck ≡ true)) named s)))

    pub past_live : Passes book None command (rank NotStruck) → (named_by command).struck_paragraph ≡ Some id → held.struck ≡ true → Passes book None command (rank Resolved)
    past_live passes named struck =
        Passes-past book None command NotStruck (rank Resolved) refl passes
        (λ s. both_ways held.struck
        (IsSomeAnd-value (λ (p : Paragraph). p.struck ≡ false) k.found
        (IsSomeAnd-value (λ (n : ℕ). IsSomeAnd (paragraph_of book n) (λ p. p.struck ≡ false)) named s)) struck)
