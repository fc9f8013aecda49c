-- What was kept over many sessions.
use Rattle.std.proofs.Common.{◌≡◌, ◌∙◌, ◌≤◌, true, false, List, [], ◌∷◌, ◌++◌, length, refl, sym, ap, subst, arith, true≢false}
use Rattle.std.specs.List.{All, Contains}
use Rattle.std.proofs.lemmas.List.Elements.{All-contains, All-cons, All-head, All-nil, All-tail}
use Rattle.desk_model.specs.After.{After}
use Rattle.desk_model.specs.Book.{Book}
use Rattle.desk_model.proofs.Callers.{After-append}
use Rattle.desk_session.specs.Session.{AllButOne, GivenCommand, HoldsAcknowledged, IsLife, IsSession, SessionRecord, commands_of, kept_commands}
use Rattle.desk_session.proofs.Sessions.{IsSession-all_but_one}

pub IsLife-found : (sessions : List SessionRecord) (book found : Book) → IsLife book sessions found → After book (kept_commands sessions) found
IsLife-found [] book found is = is
IsLife-found (lived ∷ later) book found (session, holds, (next, kept, rest)) =
    (After-append book found (commands_of lived.kept) (kept_commands later)).1 (next, kept, IsLife-found later next found rest)

-- a session of a life: it began with some book, and holds what was acknowledged
record WasLived (lived : SessionRecord) : Type 0 where
  book : Book
  last : Book
  session : IsSession book lived.turns lived.given last
  holds : HoldsAcknowledged lived

IsLife-lived : (sessions : List SessionRecord) (book found : Book) → IsLife book sessions found → All WasLived sessions
IsLife-lived [] book found is = All-nil WasLived
IsLife-lived (lived ∷ later) book found ((last, session), holds, (next, kept, rest)) =
    All-cons WasLived lived later (record { book = book; last = last; session = session; holds = holds }) (IsLife-lived later next found rest)

abbrev IsUnacknowledged : GivenCommand → Type 0
IsUnacknowledged one = one.acknowledged ≡ false

-- what is acknowledged isn't among what was lost
not_lost : {A : Type 0} (front rest : List GivenCommand) (one : GivenCommand) → All IsUnacknowledged (front ++ one ∷ rest) → one.acknowledged ≡ true → A
not_lost [] rest one none acknowledged = absurd (true≢false (sym acknowledged ∙ All-head IsUnacknowledged one rest none))
not_lost (first ∷ front) rest one none acknowledged = not_lost front rest one (All-tail IsUnacknowledged first (front ++ one ∷ rest) none) acknowledged

-- what is acknowledged stands in what was kept where it stands in what was given
kept_at : (front rest kept lost : List GivenCommand) (one : GivenCommand) → front ++ one ∷ rest ≡ kept ++ lost → All IsUnacknowledged lost
    → one.acknowledged ≡ true → (others : List GivenCommand) × (kept ≡ front ++ one ∷ others)
kept_at front rest [] lost one same none acknowledged =
    not_lost front rest one (subst (λ (all : List GivenCommand). All IsUnacknowledged all) (sym same) none) acknowledged
kept_at [] rest (first ∷ kept) lost one same none acknowledged =
    let here : one ≡ first = cc same in (kept, sym (ap (λ (x : GivenCommand). x ∷ kept) here))
kept_at (other ∷ front) rest (first ∷ kept) lost one same none acknowledged =
    let here : other ≡ first = cc same in
    let later : front ++ one ∷ rest ≡ kept ++ lost = cc same in
    let found = kept_at front rest kept lost one later none acknowledged in
    (found.0, sym (ap (λ (x : GivenCommand). x ∷ kept) here) ∙ ap (λ (all : List GivenCommand). other ∷ all) found.1)

-- a first part of what was acknowledged but for one at most is so too
AllButOne-front : (kept lost sure more : List GivenCommand) → kept ++ lost ≡ sure ++ more → All (λ (one : GivenCommand). one.acknowledged ≡ true) sure
    → length more ≤ 1 → AllButOne kept
AllButOne-front [] lost sure more same all one = record { sure = []; more = []; front = refl; all = All-nil (λ (other : GivenCommand). other.acknowledged ≡ true); one = omega arith }
AllButOne-front (first ∷ kept) lost [] more same all one = AllButOne-one first kept lost more same one
  where
    AllButOne-one : (head : GivenCommand) (tail gone rest : List GivenCommand) → head ∷ (tail ++ gone) ≡ rest → length rest ≤ 1 → AllButOne (head ∷ tail)
    AllButOne-one head [] gone rest is few =
        record { sure = []; more = head ∷ []; front = refl; all = All-nil (λ (other : GivenCommand). other.acknowledged ≡ true); one = omega arith }
    AllButOne-one head (second ∷ tail) gone rest is few =
        let count : length rest ≡ length (head ∷ second ∷ (tail ++ gone)) = ap length (sym is) in absurd (omega arith)
AllButOne-front (first ∷ kept) lost (known ∷ sure) more same all one =
    let here : first ≡ known = cc same in
    let later : kept ++ lost ≡ sure ++ more = cc same in
    let rest = AllButOne-front kept lost sure more later (All-tail (λ (other : GivenCommand). other.acknowledged ≡ true) known sure all) one in
    record {
      sure = first ∷ rest.sure;
      more = rest.more;
      front = ap (λ (given : List GivenCommand). first ∷ given) rest.front;
      all = All-cons (λ (other : GivenCommand). other.acknowledged ≡ true) first rest.sure
          (ap (λ (other : GivenCommand). other.acknowledged) here ∙ All-head (λ (other : GivenCommand). other.acknowledged ≡ true) known sure all) rest.all;
      one = rest.one;
    }

module _ (sessions : List SessionRecord) (book found : Book) (lived : SessionRecord) (life : IsLife book sessions found) (there : Contains sessions lived) where
  was : WasLived lived
  was = All-contains WasLived sessions lived (IsLife-lived sessions book found life) there

  pub IsLife-acknowledged : (one : GivenCommand) (front rest : List GivenCommand) → lived.given ≡ front ++ one ∷ rest → one.acknowledged ≡ true
      → (others : List GivenCommand) × (lived.kept ≡ front ++ one ∷ others)
  IsLife-acknowledged one front rest is acknowledged =
      kept_at front rest lived.kept was.holds.lost one (sym is ∙ was.holds.front) was.holds.unacknowledged acknowledged

  pub IsLife-one_more : AllButOne lived.kept
  IsLife-one_more =
      let all = IsSession-all_but_one lived.turns was.book lived.given was.last was.session in
      AllButOne-front lived.kept was.holds.lost all.sure all.more (sym was.holds.front ∙ all.front) all.all all.one
