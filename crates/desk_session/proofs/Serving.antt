-- A session over its ends and its file, turn by turn.
use Rattle.std.proofs.Common.{◌≡◌, ◌≢◌, ◌⊎◌, ℕ, ◌<◌, ◌≤◌, Bool, true, false, List, [], ◌∷◌, ◌++◌, length, Option, None, Some, Result, Ok, Err, refl, sym, ap, subst, ◌∙◌, inl, inr, arith}
use Rattle.std.specs.Io.KnownBytes.{Appends, IsAtEnd}
use Rattle.std.specs.List.{AllByRecursion}
use Rattle.std.proofs.KnownBytes.{Appends-nil, Appends-trans}
use Rattle.std.proofs.lemmas.List.{append-nil, map-append}
use Rattle.sqlite_trees.specs.Tree.{Trees}
use Rattle.sqlite.specs.State.{HasCleanDisk, State}
use Rattle.desk_model.specs.declared.command.Command.{Command}
use Rattle.desk_model.specs.After.{After}
use Rattle.desk_model.specs.Book.{Book}
use Rattle.desk_model.proofs.Callers.{After-append}
use Rattle.desk_ends.specs.declared.ends.Failure.{Failure}
use Rattle.desk_ends.specs.declared.ends.Sink.{Ghosts as Sink}
use Rattle.desk_ends.specs.declared.ends.Source.{Ghosts as Source}
use Rattle.desk_ends.specs.Ends.{IsFlushed}
use Rattle.desk_ends.specs.Input.{Input, UsesInput, unread}
use Rattle.desk_ends.specs.Limits.{most_input}
use Rattle.desk_ends.proofs.UsedInput.{UsesInput-none, UsesInput-then, left_to_use, left_to_use-fewer, no-parts, unread-knows}
use Rattle.desk_line.specs.declared.answer.Answer.{Answer}
use Rattle.desk_line.specs.declared.answer.Answer.TheVariants as answers
use Rattle.desk_session.specs.declared.no_request.NoRequest.{NoRequest}
use Rattle.desk_line.specs.declared.request.Request.{Request}
use Rattle.desk_line.specs.declared.request.Request.TheVariants.{Do}
use Rattle.desk_line.specs.Request.{WholeRequests}
use Rattle.desk_line.proofs.RequestLaws.{one-request}
use Rattle.desk_store.specs.Keeping.{HoldsBook, MayServe, ShowsBook}
use Rattle.desk_rows.specs.Layout.{Layout}
use Rattle.desk_session.specs.declared.session.Ended.{Ended}
use Rattle.desk_session.specs.declared.session.Ended.TheVariants as ended
use Rattle.desk_session.specs.ReadingSteps.{ReadsRequest}
use Rattle.desk_session.specs.Requests.{FirstRequests}
use Rattle.desk_session.specs.Service.{AreRequests, EndsAs, EndsFlushed, GoesOut, HoldsGiven, IsHonest, IsLeft, IsWritten, MayLack, Serves, SessionEnds, ends_of}
use Rattle.desk_session.specs.Session.{EndsLost, GivenCommand, GivesCommands, IsCommand, IsSession, MayGoOn, Turn, commands_of}
use Rattle.desk_session.specs.TurnSteps.{LeavesLost, LeftBy, SendsReply, TakesTurn}
use Rattle.desk_session.proofs.MoreTurns.{AllTaken, TurnsFrom-more, after-given, ends-held, ends-lost, gives-some, goes-held, goes-more, lost-stays, requests-more, requests_of, taken-more}
use Rattle.desk_session.proofs.RequestCuts.{CutInto, CutInto-all, CutInto-first, CutInto-more, CutInto-whole, next-some}

-- ---- the file

-- after a session in which no command was lost
held-left : (l : Layout) (start last : Book) (e : Ended) (turns : List Turn) (given : List GivenCommand) (s : State) → IsSession start turns given last → ¬ EndsLost turns
    → MayLack e [] → MayServe l last s → IsLeft l start last e given s
held-left l start last e turns given s session held lacks kept = record {
  shows = λ ends. kept.shows;
  leaves = λ db left. record {
    kept = given;
    missing = [];
    front = sym (append-nil given);
    lacks = lacks;
    next = last;
    after = after-given turns start last given session held;
    holds = kept.leaves db left;
  };
}

same-command : (bytes : List ℕ) (this that : Command) → IsCommand bytes this → IsCommand bytes that → this ≡ that
same-command bytes this that (expect, is) (other, too) = let h = one-request bytes (Do this expect) (Do that other) is too in cc

commands-more : (given gives : List GivenCommand) → commands_of (given ++ gives) ≡ commands_of given ++ commands_of gives
commands-more given gives = map-append (λ (one : GivenCommand). one.command) given gives

module _ (l : Layout) (start book : Book) (given gives : List GivenCommand) (bytes : List ℕ) (s : State)
    (after : After start (commands_of given) book) (lost : LeavesLost l bytes book s) (command : Command) (asked : IsCommand bytes command)
    (is : gives ≡ record { command = command; acknowledged = false } ∷ []) where
  after-made : After start (commands_of (given ++ gives)) lost.made
  after-made =
      let all : commands_of (given ++ gives) ≡ commands_of given ++ lost.command ∷ [] =
      commands-more given gives
      ∙ (ap (λ (more : List GivenCommand). commands_of given ++ commands_of more) is
      ∙ ap (λ (c : Command). commands_of given ++ c ∷ []) (same-command bytes command lost.command asked lost.asked)) in
      subst (λ (commands : List Command). After start commands lost.made) (sym all)
      ((After-append start lost.made (commands_of given) (lost.command ∷ [])).1 (book, after, (lost.accepted, (lost.made, lost.makes, refl))))

  few : length gives ≤ 1
  few = let n = ap length is in omega arith

  lost-holds : (db : Trees) → HoldsBook l book db ⊎ HoldsBook l lost.made db → HoldsGiven l start ended.Lost (given ++ gives) db
  lost-holds db (inl holds) =
      record { kept = given; missing = gives; front = refl; lacks = few; next = book; after = after; holds = holds }
  lost-holds db (inr holds) = record {
    kept = given ++ gives;
    missing = [];
    front = sym (append-nil (given ++ gives));
    lacks = omega arith;
    next = lost.made;
    after = after-made;
    holds = holds;
  }

  -- after a session in which a command was lost
  pub lost-left : (last : Book) → last ≡ book → IsLeft l start last ended.Lost (given ++ gives) s
  lost-left last same = record {
    shows = λ how. subst (λ (b : Book). ShowsBook l b s) (sym same) (lost.shows (elim how [ inl held ↦ absurd (held refl) | inr opened ↦ opened ]));
    leaves = λ db left. lost-holds db (lost.leaves db left);
  }

kept-by : (l : Layout) (bytes : List ℕ) (book next : Book) (answer : Answer) (s : State) → answer ≢ answers.Lost → LeftBy l bytes book next answer s → MayServe l next s
kept-by l bytes book next (answers.Done number) s held left = left
kept-by l bytes book next (answers.Refused refusal) s held left = left
kept-by l bytes book next (answers.Asked query) s held left = left
kept-by l bytes book next answers.Syntax s held left = left
kept-by l bytes book next answers.NoMemory s held left = left
kept-by l bytes book next answers.Lost s held left = absurd (held refl)

empty-list : (bytes : List ℕ) → length bytes ≡ 0 → bytes ≡ []
empty-list [] none = refl
empty-list (b ∷ bytes) none = absurd (omega arith)

-- ---- a session so far

pub record IsServing (start book : Book) (over : SessionEnds) (input : Input) : Type 0 where
  pub bytes : List ℕ
  pub output : List ℕ
  pub turns : List Turn
  pub given : List GivenCommand
  pub used : UsesInput over.unread over.left unread input bytes
  pub cut : CutInto (input.is_over ≡ true) bytes (requests_of turns)
  pub session : IsSession start turns given book
  pub written : IsWritten start turns output book
  pub appends : Appends over.before over.written output
  pub goes : AllByRecursion MayGoOn turns
  pub passed : (turns ≡ []) ⊎ IsFlushed over.written over.flushed
  pub clean : HasCleanDisk over.new → HasCleanDisk over.old
  pub kept : HasCleanDisk over.new → (l : Layout) → MayServe l start over.old → MayServe l book over.new

pub IsServing-none : {R W : Type 0} (book : Book) (source : Source R) (r : R) (sink : Sink W) (w : W) (s : State) → IsServing book book (ends_of source r r sink w w s s) unread
IsServing-none book source r sink w s = record {
  bytes = [];
  output = [];
  turns = [];
  given = [];
  used = UsesInput-none (source.remaining r) unread;
  cut = refl;
  session = (refl, refl);
  written = (refl, refl);
  appends = Appends-nil (sink.contents w);
  goes = tt;
  passed = inl refl;
  clean = λ clean. clean;
  kept = λ clean l may. may;
}

module _ (start book : Book) (over : SessionEnds) (c : Option (List ℕ)) (input new : Input)
    (so_far : IsServing start book over input) where
  -- the ends once more was read
  abbrev having_read : SessionEnds
  having_read = record over { left = c }

  all-left : (e : Ended) → MayLack e [] → HasCleanDisk over.new → (l : Layout) → MayServe l start over.old → IsLeft l start book e so_far.given over.new
  all-left e lacks clean l may =
      held-left l start book e so_far.turns so_far.given over.new so_far.session (goes-held so_far.turns so_far.goes) lacks (so_far.kept clean l may)

  -- the session ends without another turn
  ended-here : (e : Ended) (bytes : List ℕ) (used : UsesInput over.unread c unread new bytes) → AreRequests e (IsAtEnd c) used.read (requests_of so_far.turns)
      → EndsAs e so_far.turns → IsHonest e (length used.read) having_read → EndsFlushed e so_far.turns having_read → MayLack e [] → Serves start book e having_read
  ended-here e bytes used requests ends honest flushed lacks = record {
    read = used.read;
    output = so_far.output;
    turns = so_far.turns;
    given = so_far.given;
    consumes = used.consumes;
    requests = requests;
    session = so_far.session;
    written = so_far.written;
    appends = so_far.appends;
    ends = ends;
    honest = honest;
    flushed = flushed;
    left = all-left e lacks;
  }

  -- the input is at its end
  pub Serves-done : ReadsRequest over.ReadsFail over.left c input new (Ok None) → Serves start book ended.Done having_read
  Serves-done read =
      let used = UsesInput-then over.unread over.left c unread input new so_far.bytes read.bytes so_far.used read.used in
      let knows = used.ends (unread-knows over.unread) read.found.1 in
      let all : used.read ≡ so_far.bytes =
      used.parts
      ∙ (ap (λ (t : List ℕ). (so_far.bytes ++ read.bytes) ++ t) read.found.2
      ∙ (append-nil (so_far.bytes ++ read.bytes) ∙ (ap (λ (t : List ℕ). so_far.bytes ++ t) read.found.0 ∙ append-nil so_far.bytes))) in
      ended-here ended.Done (so_far.bytes ++ read.bytes) used
      (knows.0, CutInto-all (input.is_over ≡ true) used.read (requests_of so_far.turns) (subst (λ (t : List ℕ). CutInto (input.is_over ≡ true) t (requests_of so_far.turns)) (sym all) so_far.cut))
      so_far.goes tt so_far.passed refl

  -- a read failed
  pub Serves-input : (failed : Failure) → ReadsRequest over.ReadsFail over.left c input new (Err failed) → Serves start book ended.Input having_read
  Serves-input failed read =
      let used = UsesInput-then over.unread over.left c unread input new so_far.bytes read.bytes so_far.used read.used in
      let going : ¬ (input.is_over ≡ true) = λ at_end. let h = sym (read.used.over at_end).1 ∙ read.found.2 in cc h in
      let all : used.read ≡ so_far.bytes ++ read.bytes =
      used.parts
      ∙ (ap (λ (t : List ℕ). (so_far.bytes ++ read.bytes) ++ t) read.found.1 ∙ append-nil (so_far.bytes ++ read.bytes)) in
      let size : new.total ≡ length used.read = let n = used.total in omega arith in
      ended-here ended.Input (so_far.bytes ++ read.bytes) used
      (subst (λ (t : List ℕ). WholeRequests t (requests_of so_far.turns)) (sym all)
      (CutInto-whole (input.is_over ≡ true) read.bytes going read.found.0 so_far.bytes (requests_of so_far.turns) so_far.cut))
      so_far.goes (elim read.found.3 [ inl fails ↦ inl fails | inr many ↦ inr (subst (λ (n : ℕ). most_input ≤ n) size many) ]) so_far.passed refl

  -- ---- one turn more

  module _ (found : Result Request NoRequest) (next : Book) (answer : Answer) (s' : State) (x passed : Option (List ℕ)) (ok : Bool)
      (read : ReadsRequest over.ReadsFail over.left c input new (Ok (Some found)))
      (took : TakesTurn read.bytes book next answer over.new s') (sends : SendsReply over.WritesFail over.written x passed next answer ok) where
    -- the ends after that
    abbrev after : SessionEnds
    after = record over { left = c; written = x; flushed = passed; new = s' }

    abbrev turn : Turn
    turn = record { request = read.bytes; answer = answer; taken = sends.taken }

    abbrev turns : List Turn
    turns = so_far.turns ++ turn ∷ []

    gave : (given : List GivenCommand) × GivesCommands turn answer given
    gave = gives-some turn book next took.answered

    used : UsesInput over.unread c unread new (so_far.bytes ++ read.bytes)
    used = UsesInput-then over.unread over.left c unread input new so_far.bytes read.bytes so_far.used read.used

    going : ¬ (input.is_over ≡ true)
    going at_end =
        let none = (read.used.over at_end).0 in
        let empty = (so_far.used.ends (unread-knows over.unread) at_end).1 in
        let parts : read.bytes ++ new.waiting ≡ [] = sym read.used.parts ∙ (ap (λ (t : List ℕ). input.waiting ++ t) none ∙ (append-nil input.waiting ∙ empty)) in
        next-some (new.is_over ≡ true) new.waiting read.bytes read.found.0 (no-parts read.bytes new.waiting parts).0

    -- bytes were used
    pub fewer-left : left_to_use new < left_to_use input
    fewer-left =
        left_to_use-fewer over.left c input new read.bytes read.used (so_far.used.bound (omega arith))
        (λ none. next-some (new.is_over ≡ true) new.waiting read.bytes read.found.0 (empty-list read.bytes none))

    cut : CutInto (new.is_over ≡ true) (so_far.bytes ++ read.bytes) (requests_of turns)
    cut =
        subst (CutInto (new.is_over ≡ true) (so_far.bytes ++ read.bytes)) (sym (requests-more turn so_far.turns))
        (CutInto-more (input.is_over ≡ true) (new.is_over ≡ true) going new.waiting read.bytes read.found.0 so_far.bytes (requests_of so_far.turns) so_far.cut)

    session : IsSession start turns (so_far.given ++ gave.0) next
    session =
        TurnsFrom-more turn book next took.answered (λ (one : Turn) (later : Book) (given : List GivenCommand). GivesCommands one one.answer given) gave.0 gave.1
        so_far.turns start so_far.given so_far.goes so_far.session

    written : IsWritten start turns (so_far.output ++ sends.piece) next
    written =
        TurnsFrom-more turn book next took.answered GoesOut sends.piece (sends.reply, sends.is, sends.part)
        so_far.turns start so_far.output so_far.goes so_far.written

    appends : Appends over.before x (so_far.output ++ sends.piece)
    appends = Appends-trans over.before over.written x so_far.output sends.piece so_far.appends sends.appends

    first : FirstRequests (IsAtEnd c) used.read (requests_of turns)
    first =
        subst (λ (t : List ℕ). FirstRequests (IsAtEnd c) t (requests_of turns)) (sym used.parts)
        (CutInto-first (new.is_over ≡ true) (IsAtEnd c) new.waiting (used.ends (unread-knows over.unread)) (so_far.bytes ++ read.bytes) (requests_of turns) cut)

    kept-next : answer ≢ answers.Lost → HasCleanDisk s' → (l : Layout) → MayServe l start over.old → MayServe l next s'
    kept-next held clean l may =
        kept-by l read.bytes book next answer s' held (took.left clean l (so_far.kept (took.clean clean) l may))

    pub IsServing-more : answer ≢ answers.Lost → ok ≡ true → IsServing start next after new
    IsServing-more held whole = record {
      bytes = so_far.bytes ++ read.bytes;
      output = so_far.output ++ sends.piece;
      turns = turns;
      given = so_far.given ++ gave.0;
      used = used;
      cut = cut;
      session = session;
      written = written;
      appends = appends;
      goes = goes-more turn so_far.turns so_far.goes (record { taken = (sends.all whole).0; held = held });
      passed = inr (sends.all whole).1;
      clean = λ clean. so_far.clean (took.clean clean);
      kept = kept-next held;
    }

    -- the session ends after it
    ended-after : (e : Ended) → AreRequests e (IsAtEnd c) used.read (requests_of turns) → EndsAs e turns → IsHonest e (length used.read) after → EndsFlushed e turns after
        → (HasCleanDisk s' → (l : Layout) → MayServe l start over.old → IsLeft l start next e (so_far.given ++ gave.0) s') → Serves start next e after
    ended-after e requests ends honest flushed left = record {
      read = used.read;
      output = so_far.output ++ sends.piece;
      turns = turns;
      given = so_far.given ++ gave.0;
      consumes = used.consumes;
      requests = requests;
      session = session;
      written = written;
      appends = appends;
      ends = ends;
      honest = honest;
      flushed = flushed;
      left = left;
    }

    -- a write failed
    pub Serves-output : answer ≢ answers.Lost → ok ≡ false → Serves start next ended.Output after
    Serves-output held broken =
        ended-after ended.Output first (ends-held turn so_far.turns held) (sends.fails broken) tt
        (λ clean l may. held-left l start next ended.Output turns (so_far.given ++ gave.0) s' session (ends-held turn so_far.turns held) refl (kept-next held clean l may))

    lost-by : answer ≡ answers.Lost → (l : Layout) → LeftBy l read.bytes book next answer s' → LeavesLost l read.bytes book s'
    lost-by is l left = subst (λ (one : Answer). LeftBy l read.bytes book next one s') is left

    gave-lost : answer ≡ answers.Lost → GivesCommands turn answers.Lost gave.0
    gave-lost is = subst (λ (one : Answer). GivesCommands turn one gave.0) is gave.1

    all-reported : (whole : Bool) → ok ≡ whole → (AllTaken turns × IsFlushed x passed) ⊎ over.WritesFail
    all-reported true is = inl (taken-more turn so_far.turns so_far.goes (sends.all is).0, (sends.all is).1)
    all-reported false is = inr (sends.fails is)

    -- a command was lost
    pub Serves-lost : answer ≡ answers.Lost → Serves start next ended.Lost after
    Serves-lost is =
        ended-after ended.Lost first (ends-lost turn so_far.turns is) tt (all-reported ok refl)
        (λ clean l may.
        let lost = lost-by is l (took.left clean l (so_far.kept (took.clean clean) l may)) in
        let one = gave-lost is in
        lost-left l start book so_far.given gave.0 read.bytes s'
        (after-given so_far.turns start book so_far.given so_far.session (goes-held so_far.turns so_far.goes))
        lost one.0 one.1 one.2 next (lost-stays read.bytes book next answer took.answered is))
