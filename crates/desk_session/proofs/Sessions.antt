-- What a session gives, and the book that it holds at its end.
use Rattle.std.proofs.Common.{◌≡◌, ◌≢◌, ◌⊎◌, ◌∙◌, ℕ, Bool, true, false, List, [], ◌∷◌, ◌++◌, length, Option, None, refl, sym, ap, subst, inl, inr, arith}
use Rattle.std.specs.List.{Contains}
use Rattle.std.proofs.lemmas.List.Elements.{All-cons, All-nil, Contains-append_cases, Contains-append_right, Contains-push_cases}
use Rattle.desk_model.specs.declared.command.Command.{Command}
use Rattle.desk_model.specs.declared.refusal.Refusal.TheVariants.{Moved}
use Rattle.desk_model.specs.After.{After}
use Rattle.desk_model.specs.Book.{Book}
use Rattle.desk_model.specs.Refusals.{IsAccepted}
use Rattle.desk_model.specs.NextBook.{Makes}
use Rattle.desk_model.proofs.Callers.{holds-expected}
use Rattle.desk_line.specs.declared.answer.Answer.{Answer}
use Rattle.desk_line.specs.declared.answer.Answer.TheVariants as answers
use Rattle.desk_line.specs.declared.request.Request.TheVariants.{Do}
use Rattle.desk_line.specs.Answered.{IsAnswered, accepted, refused, asked, no_request, unread, unplanned, lost}
use Rattle.desk_line.specs.Request.{Reads}
use Rattle.desk_line.proofs.RequestLaws.{one-request}
use Rattle.desk_session.specs.Session.{AllButOne, EndsLost, GivenCommand, GivesCommands, IsCommand, IsGivenBy, IsHeld, IsSession, MayGoOn, Turn, commands_of, done as given_done, lost as given_lost}

-- ---- lists

Contains-none : {X : Type 0} {A : Type 0} (x : X) → Contains [] x → A
Contains-none x (k, within, is) = absurd (omega arith)

pub Contains-first : {X : Type 0} (x : X) (xs : List X) → Contains (x ∷ xs) x
Contains-first x xs = (0, omega arith, refl)

pub Contains-later : {X : Type 0} (x : X) (xs : List X) (y : X) → Contains xs y → Contains (x ∷ xs) y
Contains-later x xs y there = Contains-append_right (x ∷ []) xs y there

pub Contains-either : {X : Type 0} (x : X) (xs : List X) (y : X) → Contains (x ∷ xs) y → (x ≡ y) ⊎ Contains xs y
Contains-either {X} x xs y there = first (Contains-append_cases (x ∷ []) xs y there)
  where
    alone : Contains [] y ⊎ (x ≡ y) → (x ≡ y) ⊎ Contains xs y
    alone (inl none) = Contains-none y none
    alone (inr same) = inl same

    first : Contains (x ∷ []) y ⊎ Contains xs y → (x ≡ y) ⊎ Contains xs y
    first (inl here) = alone (Contains-push_cases [] x y here)
    first (inr later) = inr later

-- ---- a turn

-- a command that is accepted where a version is expected is accepted where none is
accepted-unexpected : (book : Book) (expect : Option ℕ) (command : Command) → IsAccepted book expect command → IsAccepted book None command
accepted-unexpected book expect command is refusal h =
    is refusal (holds-expected book expect command (λ version. is (Moved version)) refusal h)

-- bytes are one command at most
one-command : (request : List ℕ) (this that : Command) (expect : Option ℕ) → Reads request (Do this expect) → IsCommand request that → that ≡ this
one-command request this that expect reads (other, is) = cc (one-request request (Do this expect) (Do that other) reads is)

-- a session begins with this turn: its command is done, or lost at the end of the session, or the turn gives nothing
pub data Turned (turn : Turn) (turns : List Turn) (book : Book) (given : List GivenCommand) (last : Book) : Type 0 where
  done : (number : Option ℕ) (command : Command) (next : Book) (others : List GivenCommand) → turn.answer ≡ answers.Done number
      → IsCommand turn.request command → IsAccepted book None command → Makes book command next → (turns ≡ []) ⊎ MayGoOn turn
      → given ≡ record { command = command; acknowledged = turn.taken } ∷ others → IsSession next turns others last
      → Turned turn turns book given last
  gone : (command : Command) (made : Book) → turn.answer ≡ answers.Lost → IsCommand turn.request command → IsAccepted book None command
      → Makes book command made → turns ≡ [] → given ≡ record { command = command; acknowledged = false } ∷ [] → last ≡ book
      → Turned turn turns book given last
  quiet : turn.answer ≢ answers.Lost → ((number : Option ℕ) → turn.answer ≢ answers.Done number) → IsSession book turns given last
      → Turned turn turns book given last

-- a command that was given is the first of all
given-first : (first others given : List GivenCommand) (this that : Command) (acknowledged : Bool) → given ≡ first ++ others
    → first ≡ record { command = this; acknowledged = acknowledged } ∷ [] → this ≡ that
    → given ≡ record { command = that; acknowledged = acknowledged } ∷ others
given-first first others given this that acknowledged whole is same =
    whole ∙ ap (λ (front : List GivenCommand). front ++ others) is
    ∙ ap (λ (command : Command). record { command = command; acknowledged = acknowledged } ∷ others) same

module _ (turn : Turn) (turns : List Turn) (book next last : Book) (first others given : List GivenCommand) (on : (turns ≡ []) ⊎ MayGoOn turn)
    (gives : GivesCommands turn turn.answer first) (whole : given ≡ first ++ others) (session : IsSession next turns others last) where
  -- what is answered so gives what such an answer gives
  gives_by : (answer : Answer) → turn.answer ≡ answer → GivesCommands turn answer first
  gives_by answer is = subst (λ (a : Answer). GivesCommands turn a first) is gives

  Turned-quiet : next ≡ book → first ≡ [] → turn.answer ≢ answers.Lost → ((number : Option ℕ) → turn.answer ≢ answers.Done number)
      → Turned turn turns book given last
  Turned-quiet same none not_lost not_done =
      let is : given ≡ others = whole ∙ ap (λ (front : List GivenCommand). front ++ others) none in
      quiet not_lost not_done (subst (λ (b : Book). IsSession b turns given last) same (subst (λ (all : List GivenCommand). IsSession next turns all last) (sym is) session))

  Turned-lost : (command : Command) (expect : Option ℕ) (made : Book) → Reads turn.request (Do command expect) → IsAccepted book expect command
      → Makes book command made → next ≡ book → turn.answer ≡ answers.Lost → (turns ≡ []) ⊎ MayGoOn turn → Turned turn turns book given last
  Turned-lost command expect made reads is makes same answer (inr goes_on) = absurd (goes_on.held answer)
  Turned-lost command expect made reads is makes same answer (inl ended) =
      let given_one = gives_by answers.Lost answer in
      let end = subst (λ (all : List Turn). IsSession next all others last) ended session in
      let one = given-first first others given given_one.0 command false whole given_one.2 (one-command turn.request command given_one.0 expect reads given_one.1) in
      gone command made answer (expect, reads) (accepted-unexpected book expect command is) makes ended
      (one ∙ ap (λ (all : List GivenCommand). record { command = command; acknowledged = false } ∷ all) end.0) (end.1 ∙ same)

  pub turned_by : IsAnswered turn.request book next turn.answer → Turned turn turns book given last
  turned_by (accepted command expect reads is makes answer) =
      let given_one = gives_by (answers.Done _) answer in
      done _ command next others answer (expect, reads) (accepted-unexpected book expect command is) makes on
      (given-first first others given given_one.0 command turn.taken whole given_one.2 (one-command turn.request command given_one.0 expect reads given_one.1))
      session
  turned_by (lost command expect made reads is makes same answer) = Turned-lost command expect made reads is makes same answer on
  turned_by (refused command expect refusal reads is same answer) =
      Turned-quiet same (gives_by _ answer) (λ is_lost. cc (sym answer ∙ is_lost)) (λ number is_done. cc (sym answer ∙ is_done))
  turned_by (asked query reads same answer) =
      Turned-quiet same (gives_by _ answer) (λ is_lost. cc (sym answer ∙ is_lost)) (λ number is_done. cc (sym answer ∙ is_done))
  turned_by (no_request tells same answer) =
      Turned-quiet same (gives_by _ answer) (λ is_lost. cc (sym answer ∙ is_lost)) (λ number is_done. cc (sym answer ∙ is_done))
  turned_by (unread asks same answer) =
      Turned-quiet same (gives_by _ answer) (λ is_lost. cc (sym answer ∙ is_lost)) (λ number is_done. cc (sym answer ∙ is_done))
  turned_by (unplanned command expect reads lacks same answer) =
      Turned-quiet same (gives_by _ answer) (λ is_lost. cc (sym answer ∙ is_lost)) (λ number is_done. cc (sym answer ∙ is_done))

turned : (turn : Turn) (turns : List Turn) (book : Book) (given : List GivenCommand) (last : Book) → IsSession book (turn ∷ turns) given last
    → Turned turn turns book given last
turned turn turns book given last (next, answered, on, (first, others, gives, whole, session)) =
    turned_by turn turns book next last first others given on gives whole session answered

-- ---- the book that is held

abbrev IsWhich : List Turn → List GivenCommand → Type 0
IsWhich turns missing = ((¬ EndsLost turns) × (missing ≡ [])) ⊎ (EndsLost turns × (length missing ≡ 1))

-- a turn that isn't lost changes nothing in whether the last one is
IsWhich-more : (turn : Turn) (turns : List Turn) (missing : List GivenCommand) → turn.answer ≢ answers.Lost → IsWhich turns missing
    → IsWhich (turn ∷ turns) missing
IsWhich-more turn [] missing not_lost (inl none) = inl (not_lost, none.1)
IsWhich-more turn [] missing not_lost (inr none) = absurd none.0
IsWhich-more turn (next ∷ turns) missing not_lost which = which

IsHeld-done : (turn : Turn) (turns : List Turn) (book next last : Book) (one : GivenCommand) (others given : List GivenCommand) → IsAccepted book None one.command
    → Makes book one.command next → turn.answer ≢ answers.Lost → given ≡ one ∷ others → IsHeld next turns others last → IsHeld book (turn ∷ turns) given last
IsHeld-done turn turns book next last one others given permitted makes not_lost is held = record {
  held = one ∷ held.held;
  lost = held.lost;
  front = is ∙ ap (λ (all : List GivenCommand). one ∷ all) held.front;
  which = IsWhich-more turn turns held.lost not_lost held.which;
  after = (permitted, (next, makes, held.after));
}

IsHeld-quiet : (turn : Turn) (turns : List Turn) (book last : Book) (given : List GivenCommand) → turn.answer ≢ answers.Lost → IsHeld book turns given last
    → IsHeld book (turn ∷ turns) given last
IsHeld-quiet turn turns book last given not_lost held = record {
  held = held.held;
  lost = held.lost;
  front = held.front;
  which = IsWhich-more turn turns held.lost not_lost held.which;
  after = held.after;
}

IsHeld-lost : (turn : Turn) (turns : List Turn) (book last : Book) (one : GivenCommand) (given : List GivenCommand) → turn.answer ≡ answers.Lost → turns ≡ []
    → given ≡ one ∷ [] → last ≡ book → IsHeld book (turn ∷ turns) given last
IsHeld-lost turn turns book last one given is_lost ended is same =
    subst (λ (all : List Turn). IsHeld book (turn ∷ all) given last) (sym ended)
    (record { held = []; lost = one ∷ []; front = is; which = inr (is_lost, refl); after = same })

module _ (turn : Turn) (turns : List Turn) (last : Book)
    (later : (book : Book) (given : List GivenCommand) → IsSession book turns given last → IsHeld book turns given last) where
  held_by : (book : Book) (given : List GivenCommand) → Turned turn turns book given last → IsHeld book (turn ∷ turns) given last
  held_by book given (done number command next others answer requested permitted makes on is rest) =
      IsHeld-done turn turns book next last (record { command = command; acknowledged = turn.taken }) others given permitted makes
      (λ is_lost. cc (sym answer ∙ is_lost)) is (later next others rest)
  held_by book given (gone command made answer requested permitted makes ended is same) =
      IsHeld-lost turn turns book last (record { command = command; acknowledged = false }) given answer ended is same
  held_by book given (quiet not_lost not_done rest) = IsHeld-quiet turn turns book last given not_lost (later book given rest)

pub IsSession-held : (turns : List Turn) (book : Book) (given : List GivenCommand) (last : Book) → IsSession book turns given last → IsHeld book turns given last
IsSession-held [] book given last (none, same) = record { held = []; lost = []; front = none; which = inl ((λ impossible. impossible), refl); after = same }
IsSession-held (turn ∷ turns) book given last session =
    held_by turn turns last (λ b g s. IsSession-held turns b g last s) book given (turned turn turns book given last session)

-- ---- what is given

abbrev IsAcknowledged : GivenCommand → Type 0
IsAcknowledged one = one.acknowledged ≡ true

AllButOne-none : (given : List GivenCommand) → given ≡ [] → AllButOne given
AllButOne-none given none = record { sure = []; more = []; front = none; all = All-nil IsAcknowledged; one = omega arith }

AllButOne-alone : (one : GivenCommand) (given : List GivenCommand) → given ≡ one ∷ [] → AllButOne given
AllButOne-alone one given is = record { sure = []; more = one ∷ []; front = is; all = All-nil IsAcknowledged; one = omega arith }

AllButOne-more : (one : GivenCommand) (others given : List GivenCommand) → one.acknowledged ≡ true → given ≡ one ∷ others → AllButOne others → AllButOne given
AllButOne-more one others given acknowledged is rest = record {
  sure = one ∷ rest.sure;
  more = rest.more;
  front = is ∙ ap (λ (all : List GivenCommand). one ∷ all) rest.front;
  all = All-cons IsAcknowledged one rest.sure acknowledged rest.all;
  one = rest.one;
}

module _ (turn : Turn) (turns : List Turn) (last : Book)
    (later : (book : Book) (given : List GivenCommand) → IsSession book turns given last → AllButOne given) where
  all_by_done : (command : Command) (next : Book) (others given : List GivenCommand) → (turns ≡ []) ⊎ MayGoOn turn
      → given ≡ record { command = command; acknowledged = turn.taken } ∷ others → IsSession next turns others last → AllButOne given
  all_by_done command next others given (inl ended) is rest =
      let end = subst (λ (all : List Turn). IsSession next all others last) ended rest in
      AllButOne-alone (record { command = command; acknowledged = turn.taken }) given
      (is ∙ ap (λ (all : List GivenCommand). record { command = command; acknowledged = turn.taken } ∷ all) end.0)
  all_by_done command next others given (inr goes_on) is rest =
      AllButOne-more (record { command = command; acknowledged = turn.taken }) others given goes_on.taken is (later next others rest)

  all_by : (book : Book) (given : List GivenCommand) → Turned turn turns book given last → AllButOne given
  all_by book given (done number command next others answer requested permitted makes on is rest) = all_by_done command next others given on is rest
  all_by book given (gone command made answer requested permitted makes ended is same) =
      AllButOne-alone (record { command = command; acknowledged = false }) given is
  all_by book given (quiet not_lost not_done rest) = later book given rest

pub IsSession-all_but_one : (turns : List Turn) (book : Book) (given : List GivenCommand) (last : Book) → IsSession book turns given last → AllButOne given
IsSession-all_but_one [] book given last (none, same) = AllButOne-none given none
IsSession-all_but_one (turn ∷ turns) book given last session =
    all_by turn turns last (λ b g s. IsSession-all_but_one turns b g last s) book given (turned turn turns book given last session)

abbrev IsGivenIn : List Turn → GivenCommand → Type 0
IsGivenIn turns one = (turn : Turn) × Contains turns turn × IsGivenBy turn one

IsGivenIn-later : (turn : Turn) (turns : List Turn) (one : GivenCommand) → IsGivenIn turns one → IsGivenIn (turn ∷ turns) one
IsGivenIn-later turn turns one (other, there, gave) = (other, Contains-later turn turns other there, gave)

module _ (turn : Turn) (turns : List Turn) (last : Book) (one : GivenCommand)
    (later : (book : Book) (given : List GivenCommand) → IsSession book turns given last → Contains given one → IsGivenIn turns one) where
  given_here : (first : GivenCommand) → IsGivenBy turn first → first ≡ one → IsGivenIn (turn ∷ turns) one
  given_here first gave same = (turn, Contains-first turn turns, subst (λ (other : GivenCommand). IsGivenBy turn other) same gave)

  given_either : (first : GivenCommand) (others : List GivenCommand) (next : Book) → IsGivenBy turn first → IsSession next turns others last
      → (first ≡ one) ⊎ Contains others one → IsGivenIn (turn ∷ turns) one
  given_either first others next gave rest (inl same) = given_here first gave same
  given_either first others next gave rest (inr found) = IsGivenIn-later turn turns one (later next others rest found)

  given_alone : (first : GivenCommand) → IsGivenBy turn first → (first ≡ one) ⊎ Contains [] one → IsGivenIn (turn ∷ turns) one
  given_alone first gave (inl same) = given_here first gave same
  given_alone first gave (inr none) = Contains-none one none

  given_in : (book : Book) (given : List GivenCommand) → Contains given one → Turned turn turns book given last → IsGivenIn (turn ∷ turns) one
  given_in book given there (done number command next others answer requested permitted makes on is rest) =
      let first : GivenCommand = record { command = command; acknowledged = turn.taken } in
      given_either first others next (given_done number answer requested refl) rest
      (Contains-either first others one (subst (λ (all : List GivenCommand). Contains all one) is there))
  given_in book given there (gone command made answer requested permitted makes ended is same) =
      let first : GivenCommand = record { command = command; acknowledged = false } in
      given_alone first (given_lost answer requested refl) (Contains-either first [] one (subst (λ (all : List GivenCommand). Contains all one) is there))
  given_in book given there (quiet not_lost not_done rest) = IsGivenIn-later turn turns one (later book given rest there)

pub IsSession-given : (turns : List Turn) (book : Book) (given : List GivenCommand) (last : Book) (one : GivenCommand) → IsSession book turns given last
    → Contains given one → IsGivenIn turns one
IsSession-given [] book given last one (none, same) there = Contains-none one (subst (λ (all : List GivenCommand). Contains all one) none there)
IsSession-given (turn ∷ turns) book given last one session there =
    given_in turn turns last one (λ b g s found. IsSession-given turns b g last one s found) book given there (turned turn turns book given last session)

abbrev GivesOne : List GivenCommand → Turn → Type 0
GivesOne given turn = (one : GivenCommand) × Contains given one × IsGivenBy turn one

module _ (first : Turn) (turns : List Turn) (last : Book) (turn : Turn) (number : Option ℕ) (is_done : turn.answer ≡ answers.Done number)
    (later : (book : Book) (given : List GivenCommand) → IsSession book turns given last → Contains turns turn → GivesOne given turn) where
  done_by : (book : Book) (given : List GivenCommand) → Turned first turns book given last → (first ≡ turn) ⊎ Contains turns turn → GivesOne given turn
  done_by book given (done count command next others answer requested permitted makes on is rest) (inl same) =
      let one : GivenCommand = record { command = command; acknowledged = first.taken } in (
        one,
        subst (λ (all : List GivenCommand). Contains all one) (sym is) (Contains-first one others),
        subst (λ (other : Turn). IsGivenBy other one) same (given_done count answer requested refl),
      )
  done_by book given (done count command next others answer requested permitted makes on is rest) (inr found) =
      let one : GivenCommand = record { command = command; acknowledged = first.taken } in
      let more = later next others rest found in
      (more.0, subst (λ (all : List GivenCommand). Contains all more.0) (sym is) (Contains-later one others more.0 more.1), more.2)
  done_by book given (gone command made answer requested permitted makes ended is same) (inl here) =
      let conflict : answers.Lost ≡ answers.Done number = sym answer ∙ ap (λ (other : Turn). other.answer) here ∙ is_done in cc conflict
  done_by book given (gone command made answer requested permitted makes ended is same) (inr found) =
      Contains-none turn (subst (λ (all : List Turn). Contains all turn) ended found)
  done_by book given (quiet not_lost not_done rest) (inl same) = absurd (not_done number (ap (λ (other : Turn). other.answer) same ∙ is_done))
  done_by book given (quiet not_lost not_done rest) (inr found) = later book given rest found

pub IsSession-done : (turns : List Turn) (book : Book) (given : List GivenCommand) (last : Book) (turn : Turn) (number : Option ℕ)
    → IsSession book turns given last → Contains turns turn → turn.answer ≡ answers.Done number → GivesOne given turn
IsSession-done [] book given last turn number session there is_done = Contains-none turn there
IsSession-done (first ∷ turns) book given last turn number session there is_done =
    done_by first turns last turn number is_done (λ b g s found. IsSession-done turns b g last turn number s found is_done) book given
    (turned first turns book given last session) (Contains-either first turns turn there)

-- ---- what is kept

-- a book after these commands
abbrev LeadsOn : Book → List GivenCommand → Type 0
LeadsOn book kept = (next : Book) × After book (commands_of kept) next

module _ (turn : Turn) (turns : List Turn) (last : Book) (one : GivenCommand) (kept missing : List GivenCommand) where
  leads_alone : (book : Book) (command : Command) (made : Book) (all after : List GivenCommand) → IsAccepted book None command → Makes book command made
      → command ≡ one.command → [] ≡ all ++ after → LeadsOn book (one ∷ all)
  leads_alone book command made [] after permitted makes same none =
      (made, subst (λ (c : Command). After book (c ∷ []) made) same (permitted, (made, makes, refl)))
  leads_alone book command made (other ∷ all) after permitted makes same none = cc none

  leads_by : (book : Book) (given : List GivenCommand) → given ≡ one ∷ (kept ++ missing) → Turned turn turns book given last
      → ((next : Book) (others : List GivenCommand) → IsSession next turns others last → others ≡ kept ++ missing → LeadsOn next kept)
      → (IsSession book turns given last → LeadsOn book (one ∷ kept)) → LeadsOn book (one ∷ kept)
  leads_by book given whole (done number command next others answer requested permitted makes on is rest) later same_later =
      let same : record { command = command; acknowledged = turn.taken } ∷ others ≡ one ∷ (kept ++ missing) = sym is ∙ whole in
      let more : others ≡ kept ++ missing = cc same in
      let first : record { command = command; acknowledged = turn.taken } ≡ one = cc same in
      let found = later next others rest more in
      (found.0, subst (λ (other : GivenCommand). After book (other.command ∷ commands_of kept) found.0) first (permitted, (next, makes, found.1)))
  leads_by book given whole (gone command made answer requested permitted makes ended is end) later same_later =
      let same : record { command = command; acknowledged = false } ∷ [] ≡ one ∷ (kept ++ missing) = sym is ∙ whole in
      let more : [] ≡ kept ++ missing = cc same in
      let first : record { command = command; acknowledged = false } ≡ one = cc same in
      leads_alone book command made kept missing permitted makes (ap (λ (other : GivenCommand). other.command) first) more
  leads_by book given whole (quiet not_lost not_done rest) later same_later = same_later rest

pub IsSession-kept : (turns : List Turn) (book : Book) (given : List GivenCommand) (last : Book) (kept missing : List GivenCommand) → IsSession book turns given last
    → given ≡ kept ++ missing → LeadsOn book kept
IsSession-kept turns book given last [] missing session whole = (book, refl)
IsSession-kept [] book given last (one ∷ kept) missing (none, same) whole = cc (sym none ∙ whole)
IsSession-kept (turn ∷ turns) book given last (one ∷ kept) missing session whole =
    leads_by turn turns last one kept missing book given whole (turned turn turns book given last session)
    (λ next others rest is. IsSession-kept turns next others last kept missing rest is)
    (λ rest. IsSession-kept turns book given last (one ∷ kept) missing rest whole)
