-- How a command that gives a table is checked while no version is expected.
use Rattle.std.proofs.Common.{◌≡◌, ◌⊎◌, ℕ, ◌<◌, List, length, None, refl, sym, ap, subst, arith, inl, inr}
use Rattle.std.specs.List.{All}
use Rattle.std.specs.Prelude.{IsSome, is_some}
use Rattle.louis_table.specs.Meaning.{Meaning}
use Rattle.louis_table.specs.Table.{Bad, Means}
use Rattle.louis_table.specs.declared.fault.TableFault.{TableFault}
use Rattle.louis_table.proofs.OneMeaning.{means_or_bad, one_meaning}
use Rattle.desk_model.specs.declared.command.Command.TheVariants.{Table}
use Rattle.desk_model.specs.declared.refusal.Limit.TheVariants.{Paragraphs, Tables}
use Rattle.desk_model.specs.declared.refusal.Refusal.{Refusal}
use Rattle.desk_model.specs.declared.refusal.Refusal.TheVariants.{BadName, Full, BadTable, Untranslatable, NoMemory}
use Rattle.desk_model.specs.Book.{Book, text_of}
use Rattle.desk_model.specs.Judging.{Passes}
use Rattle.desk_model.specs.Limits.{most_tables}
use Rattle.desk_model.specs.ValidNames.{IsTableName}
use Rattle.desk_model.specs.Refusals.{DefinesUser, IsAccepted, IsFirstUser, IsUntranslatable}
use Rattle.desk_book.specs.Plans.{IsTurnedDown}
use Rattle.desk_model.specs.Sound.{IsSound}
use Rattle.desk_model.specs.Ranks.{bad_table_rank, rank, untranslatable_rank}
use Rattle.desk_model.proofs.Commands.Judging.{IsAccepted-passes, Passes-past}
use Rattle.desk_book.proofs.Plans.Planning.{no_memory, turned_down}
use Rattle.desk_model.proofs.Commands.FirstUndefined.{IsFirstUser-none}
use Rattle.desk_model.proofs.Commands.Ranks.{passes_to}
use Rattle.std.proofs.lemmas.Option.{same_Some}

-- a table that isn't there has no users
pub unused : (book : Book) (name : List ℕ) (meaning : Meaning) → IsSound book → text_of book name ≡ None → All (DefinesUser meaning name) book.paragraphs
unused book name meaning sound none k d lt uses =
    let found = (sound.paragraphs k d lt).found in
    absurd (cc (ap (text_of book) uses))

module _ (book : Book) (name text : List ℕ) where
  pub bad_name : (reported : Refusal) → (reported ≡ BadName) × (¬ IsTableName name) → IsTurnedDown book (Table name text) reported
  bad_name reported (is, bad) = turned_down book (Table name text) (rank BadName) BadName reported (passes_to book (Table name text) (rank BadName) refl) refl bad is

  module _ (named : IsTableName name) where
    pub past_name : Passes book None (Table name text) (rank (Full Tables))
    past_name =
        Passes-past book None (Table name text) BadName (rank (Full Tables)) refl (passes_to book (Table name text) (rank BadName) refl)
        (λ bad. bad named)

    pub past_tables : IsSome (text_of book name) ⊎ (length book.tables < most_tables) → Passes book None (Table name text) (rank (Full Paragraphs))
    past_tables (inr left) = Passes-past book None (Table name text) (Full Tables) (rank (Full Paragraphs)) refl past_name (λ f. let full = f.1 in omega arith)
    past_tables (inl old) =
        Passes-past book None (Table name text) (Full Tables) (rank (Full Paragraphs)) refl past_name
        (λ f. let none = ap is_some f.0 in cc)

  bad_table : (reported : Refusal) (fault : TableFault) → Passes book None (Table name text) bad_table_rank → reported ≡ BadTable fault → Bad text fault.line fault.cause → IsTurnedDown book (Table name text) reported
  bad_table reported fault passes is bad = turned_down book (Table name text) bad_table_rank (BadTable fault) reported passes refl bad is

  -- what reading the text may answer
  pub unread : (reported : Refusal) → Passes book None (Table name text) bad_table_rank → ((fault : TableFault) × (reported ≡ BadTable fault) × Bad text fault.line fault.cause) ⊎ (reported ≡ NoMemory) → IsTurnedDown book (Table name text) reported
  unread reported passes (inl (fault, is, bad)) = bad_table reported fault passes is bad
  unread reported passes (inr is) = no_memory book (Table name text) reported bad_table_rank refl passes is

  module _ (meaning : Meaning) (means : Means text meaning) where
    pub past_reading : Passes book None (Table name text) bad_table_rank → Passes book None (Table name text) untranslatable_rank
    past_reading passes =
        Passes-past book None (Table name text) (BadTable (record { line = 0; cause = 0 })) untranslatable_rank refl passes
        (λ fault bad. means_or_bad text meaning fault.line fault.cause means bad)

    pub untranslatable : (reported : Refusal) (id place : ℕ) → Passes book None (Table name text) untranslatable_rank → reported ≡ Untranslatable id place → IsFirstUser meaning name book.paragraphs id place → IsTurnedDown book (Table name text) reported
    untranslatable reported id place passes is user =
        turned_down book (Table name text) untranslatable_rank (Untranslatable id place) reported passes refl
        (record { name = name; text = text; given = refl; meaning = meaning; means = means; user = user }) is

    pub past_users : Passes book None (Table name text) untranslatable_rank → All (DefinesUser meaning name) book.paragraphs → IsAccepted book None (Table name text)
    past_users passes defined = IsAccepted-passes book None (Table name text) (Passes-past book None (Table name text) (Untranslatable 0 0) (rank NoMemory) refl passes none)
      where
        none : (id place : ℕ) → ¬ IsUntranslatable book (Table name text) id place
        none id place u =
            let given = same_Some (name, text) (u.name, u.text) u.given in
            let same_name = ap (λ (pair : List ℕ × List ℕ). pair.0) given in
            let same_text = ap (λ (pair : List ℕ × List ℕ). pair.1) given in
            let same = one_meaning text u.meaning meaning (subst (λ (t : List ℕ). Means t u.meaning) (sym same_text) u.means) means in
            IsFirstUser-none meaning name book.paragraphs id place defined
            (subst (λ (m : Meaning). IsFirstUser m name book.paragraphs id place) same
            (subst (λ (n : List ℕ). IsFirstUser u.meaning n book.paragraphs id place) (sym same_name) u.user))
