-- One turn of a session: what is answered, what the file is then, and what is replied.
use Rattle.std.proofs.Common.{◌≡◌, ◌⊎◌, ℕ, ◌++◌, Bool, true, false, List, [], ◌∷◌, Option, Result, refl, sym, ap, subst, ◌∙◌, inl, inr, arith}
use Rattle.std.specs.Prelude.{OnErr, OnOk, is_ok}
use Rattle.std.specs.Io.KnownBytes.{Appends, Keeps}
use Rattle.std.proofs.KnownBytes.{Appends-kept}
use Rattle.std.proofs.lemmas.List.{append-nil}
use Rattle.sqlite_trees.specs.Tree.{Trees}
use Rattle.sqlite.specs.State.{HasCleanDisk, State, Survives}
use Rattle.sql_tables.specs.States.{ShowsAsBefore}
use Rattle.desk_model.specs.declared.command.Command.{Command}
use Rattle.desk_model.specs.declared.refusal.Refusal.{Refusal}
use Rattle.desk_model.specs.declared.refusal.Refusal.TheVariants as refusals
use Rattle.desk_model.specs.Book.{Book}
use Rattle.desk_book.specs.Changes.{Carries, Change}
use Rattle.desk_model.specs.Judging.{MayLackMemory}
use Rattle.desk_model.specs.Refusals.{IsAccepted, IsRefused}
use Rattle.desk_ends.specs.Ends.{IsFlushed}
use Rattle.desk_ends.proofs.Sending.{at_err, at_ok}
use Rattle.desk_line.specs.declared.answer.Answer.{Answer}
use Rattle.desk_line.specs.declared.answer.Answer.TheVariants as answers
use Rattle.desk_line.specs.declared.request.Query.{Query}
use Rattle.desk_line.specs.declared.request.Request.TheVariants.{Ask, Do}
use Rattle.desk_line.specs.Answered.{IsAnswered, accepted, asked, lost, no_request, refused, unplanned, unread}
use Rattle.desk_line.specs.ReplyLines.{IsReplied}
use Rattle.desk_line.specs.Request.{AsksForMemory, IsNoRequest, Reads}
use Rattle.desk_store.specs.Keeping.{LeavesBook, LeavesEither, MayKeep, MayServe, ShowsBook}
use Rattle.desk_rows.specs.Layout.{Layout}
use Rattle.desk_rows.proofs.Transactions.Committing.{shows_on}
use Rattle.desk_session.specs.Service.{IsPart}
use Rattle.desk_session.specs.TurnSteps.{SendsReply, TakesTurn}

-- ---- what leaves the file as it was

pub asked-turn : (bytes : List ℕ) (book : Book) (query : Query) (s : State) → Reads bytes (Ask query) → TakesTurn bytes book book (answers.Asked query) s s
asked-turn bytes book query s reads =
    record { answered = asked query reads refl refl; clean = λ clean. clean; left = λ clean l may. may }

pub syntax-turn : (bytes : List ℕ) (book : Book) (s : State) → IsNoRequest bytes → TakesTurn bytes book book answers.Syntax s s
syntax-turn bytes book s none =
    record { answered = no_request none refl refl; clean = λ clean. clean; left = λ clean l may. may }

pub memory-turn : (bytes : List ℕ) (book : Book) (s : State) → AsksForMemory bytes → TakesTurn bytes book book answers.NoMemory s s
memory-turn bytes book s asks =
    record { answered = unread asks refl refl; clean = λ clean. clean; left = λ clean l may. may }

refused-answer : (bytes : List ℕ) (book : Book) (command : Command) (expect : Option ℕ) (refusal : Refusal) → Reads bytes (Do command expect)
    → IsRefused book expect command refusal ⊎ ((refusal ≡ refusals.NoMemory) × MayLackMemory book expect command)
    → IsAnswered bytes book book (answers.Refused refusal)
refused-answer bytes book command expect refusal reads (inl is) = refused command expect refusal reads is refl refl
refused-answer bytes book command expect refusal reads (inr (same, lacks)) = unplanned command expect reads lacks refl (ap answers.Refused same)

pub refused-turn : (bytes : List ℕ) (book : Book) (command : Command) (expect : Option ℕ) (refusal : Refusal) (s : State) → Reads bytes (Do command expect)
    → IsRefused book expect command refusal ⊎ ((refusal ≡ refusals.NoMemory) × MayLackMemory book expect command)
    → TakesTurn bytes book book (answers.Refused refusal) s s
refused-turn bytes book command expect refusal s reads is =
    record { answered = refused-answer bytes book command expect refusal reads is; clean = λ clean. clean; left = λ clean l may. may }

-- ---- a command that is accepted

-- a connection that shows what another showed shows its book
pub shows-still : (l : Layout) (book : Book) (old new : State) → new.now ≡ old.now → ShowsBook l book old → ShowsBook l book new
shows-still l book old new same (c, shows, rows) = (c, shows_on old new l c same shows, rows)

module _ (bytes : List ℕ) (book : Book) (command : Command) (expect : Option ℕ) (next : Book) (change : Change) (old new : State)
    (reads : Reads bytes (Do command expect)) (is : IsAccepted book expect command) (carries : Carries book command next change)
    (P : Trees → Type 0) (survives : Survives old new P) where
  may-keep : (l : Layout) → MayServe l book old → MayKeep l book change next old
  may-keep l may = record { tables = may.tables; leads = (command, carries); shows = may.shows }

  was-clean : HasCleanDisk new → HasCleanDisk old
  was-clean clean = omega (arith, clean, survives.clean)

  -- it isn't kept
  pub lost-turn : (HasCleanDisk new → (l : Layout) (next : Book) → MayKeep l book change next old → LeavesBook l book old → LeavesEither l book next new)
      → (HasCleanDisk new → ShowsAsBefore old new) → TakesTurn bytes book book answers.Lost old new
  lost-turn either as_before = record {
    answered = lost command expect next reads is carries.makes refl refl;
    clean = was-clean;
    left = λ clean l may. record {
      command = command;
      made = next;
      asked = (expect, reads);
      accepted = carries.accepted;
      makes = carries.makes;
      leaves = either clean l next (may-keep l may) may.leaves;
      shows = λ opened. shows-still l book old new (as_before clean opened) may.shows;
    };
  }

  done-next : (number : Option ℕ) → number ≡ change.number → (HasCleanDisk new → (l : Layout) (next : Book) → MayKeep l book change next old → MayServe l next new)
      → TakesTurn bytes book next (answers.Done number) old new
  done-next number same keeps = record {
    answered = accepted command expect reads is carries.makes (ap answers.Done (same ∙ carries.number));
    clean = was-clean;
    left = λ clean l may. keeps clean l next (may-keep l may);
  }

  -- it is kept, and put into the book
  pub done-turn : (number : Option ℕ) (settled : Book) → number ≡ change.number → settled ≡ next
      → (HasCleanDisk new → (l : Layout) (next : Book) → MayKeep l book change next old → MayServe l next new)
      → TakesTurn bytes book settled (answers.Done number) old new
  done-turn number settled same settles keeps =
      subst (λ (b : Book). TakesTurn bytes book b (answers.Done number) old new) (sym settles) (done-next number same keeps)

-- ---- the reply

-- a reply went out whole, and was flushed or not
pub SendsReply-flushed : {E : Type 0} (F : Type 0) (old mid new flushed : Option (List ℕ)) (book : Book) (answer : Answer) (r : Result (Unit {0}) E) (ok : Bool)
    → IsReplied F old mid book answer ok → ok ≡ true → Keeps mid new → OnOk r (IsFlushed new flushed) → OnErr r F
    → SendsReply F old new flushed book answer (is_ok r)
SendsReply-flushed F old mid new flushed book answer r ok replied whole keeps all fails =
    let out : replied.sent.out ≡ replied.text =
    sym (append-nil replied.sent.out) ∙ (ap (λ (t : List ℕ). replied.sent.out ++ t) (sym (replied.sent.holds whole)) ∙ replied.sent.begins) in
    record {
      taken = true;
      reply = replied.text;
      piece = replied.text;
      is = replied.is;
      part = refl;
      appends = subst (Appends old new) out (Appends-kept old mid new replied.sent.out replied.sent.appends keeps);
      all = λ good. (refl, at_ok r _ all good);
      fails = at_err r F fails;
    }

-- a beginning of it went out, or all of it before the sink failed
pub SendsReply-broken : (F : Type 0) (old new flushed : Option (List ℕ)) (book : Book) (answer : Answer) (ok : Bool)
    → IsReplied F old new book answer ok → ok ≡ false → SendsReply F old new flushed book answer false
SendsReply-broken F old new flushed book answer ok replied broken = by replied.sent.rest replied.sent.begins
  where
    sent : (taken : Bool) → IsPart taken replied.sent.out replied.text → SendsReply F old new flushed book answer false
    sent taken part = record {
      taken = taken;
      reply = replied.text;
      piece = replied.sent.out;
      is = replied.is;
      part = part;
      appends = replied.sent.appends;
      all = λ good. absurd (cc good);
      fails = λ bad. replied.sent.fails broken;
    }

    by : (rest : List ℕ) → replied.sent.out ++ rest ≡ replied.text → SendsReply F old new flushed book answer false
    by [] begins = sent true (sym (append-nil replied.sent.out) ∙ begins)
    by (byte ∷ rest) begins = sent false (byte ∷ rest, (λ none. cc none), begins)
