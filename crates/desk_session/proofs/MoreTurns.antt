-- A session with one turn more.
use Rattle.std.proofs.Common.{◌≡◌, ◌≢◌, ℕ, true, false, List, [], ◌∷◌, ◌++◌, map, refl, sym, ap, subst, ◌∙◌, append_assoc, inl, inr}
use Rattle.std.specs.List.{AllByRecursion}
use Rattle.std.proofs.lemmas.List.{append-nil}
use Rattle.desk_model.specs.After.{After}
use Rattle.desk_model.specs.Book.{Book}
use Rattle.desk_line.specs.declared.answer.Answer.{Answer}
use Rattle.desk_line.specs.declared.answer.Answer.TheVariants as answers
use Rattle.desk_line.specs.Answered.{IsAnswered, accepted, asked, lost, no_request, refused, unplanned, unread}
use Rattle.desk_session.specs.Session.{EndsLost, GivenCommand, GivesCommands, IsHeld, IsSession, MayGoOn, Turn, TurnsFrom, commands_of}
use Rattle.desk_session.proofs.Sessions.{IsSession-held}

-- ---- what a turn gives

gives-by : (turn : Turn) (answer : Answer) (given : List GivenCommand) → turn.answer ≡ answer → GivesCommands turn answer given → GivesCommands turn turn.answer given
gives-by turn answer given is gives = subst (λ (a : Answer). GivesCommands turn a given) (sym is) gives

-- each answer gives something or nothing
pub gives-some : (turn : Turn) (book next : Book) → IsAnswered turn.request book next turn.answer → (given : List GivenCommand) × GivesCommands turn turn.answer given
gives-some turn book next (accepted command expect reads is makes answer) =
    let given : List GivenCommand = record { command = command; acknowledged = turn.taken } ∷ [] in
    (given, gives-by turn _ given answer (command, (expect, reads), refl))
gives-some turn book next (refused command expect refusal reads is same answer) = ([], gives-by turn _ [] answer refl)
gives-some turn book next (asked query reads same answer) = ([], gives-by turn _ [] answer refl)
gives-some turn book next (no_request tells same answer) = ([], gives-by turn _ [] answer refl)
gives-some turn book next (unread asks same answer) = ([], gives-by turn _ [] answer refl)
gives-some turn book next (unplanned command expect reads lacks same answer) = ([], gives-by turn _ [] answer refl)
gives-some turn book next (lost command expect made reads is makes same answer) =
    let given : List GivenCommand = record { command = command; acknowledged = false } ∷ [] in
    (given, gives-by turn _ given answer (command, (expect, reads), refl))

-- a book stays where its command is lost
pub lost-stays : (bytes : List ℕ) (book next : Book) (answer : Answer) → IsAnswered bytes book next answer → answer ≡ answers.Lost → next ≡ book
lost-stays bytes book next answer (accepted command expect reads is makes answer_) e = absurd (cc (sym answer_ ∙ e))
lost-stays bytes book next answer (refused command expect refusal reads is same answer_) e = same
lost-stays bytes book next answer (asked query reads same answer_) e = same
lost-stays bytes book next answer (no_request tells same answer_) e = same
lost-stays bytes book next answer (unread asks same answer_) e = same
lost-stays bytes book next answer (unplanned command expect reads lacks same answer_) e = same
lost-stays bytes book next answer (lost command expect made reads is makes same answer_) e = same

-- ---- how the turns end

-- the writer has taken the whole reply to each request
abbrev pub AllTaken : List Turn → Type 0
AllTaken turns = AllByRecursion (λ turn. turn.taken ≡ true) turns

abbrev pub requests_of : List Turn → List (List ℕ)
requests_of turns = map (λ turn. turn.request) turns

pub goes-held : (turns : List Turn) → AllByRecursion MayGoOn turns → ¬ EndsLost turns
goes-held [] goes ends = ends
goes-held (turn ∷ []) goes ends = goes.0.held ends
goes-held (turn ∷ next ∷ turns) goes ends = goes-held (next ∷ turns) goes.1 ends

module _ (turn : Turn) where
  pub goes-more : (turns : List Turn) → AllByRecursion MayGoOn turns → MayGoOn turn → AllByRecursion MayGoOn (turns ++ turn ∷ [])
  goes-more [] goes one = (one, tt)
  goes-more (first ∷ turns) goes one = (goes.0, goes-more turns goes.1 one)

  pub taken-more : (turns : List Turn) → AllByRecursion MayGoOn turns → turn.taken ≡ true → AllTaken (turns ++ turn ∷ [])
  taken-more [] goes is = (is, tt)
  taken-more (first ∷ turns) goes is = (goes.0.taken, taken-more turns goes.1 is)

  pub ends-lost : (turns : List Turn) → turn.answer ≡ answers.Lost → EndsLost (turns ++ turn ∷ [])
  ends-lost [] is = is
  ends-lost (first ∷ []) is = is
  ends-lost (first ∷ next ∷ turns) is = ends-lost (next ∷ turns) is

  pub ends-held : (turns : List Turn) → turn.answer ≢ answers.Lost → ¬ EndsLost (turns ++ turn ∷ [])
  ends-held [] held ends = held ends
  ends-held (first ∷ []) held ends = held ends
  ends-held (first ∷ next ∷ turns) held ends = ends-held (next ∷ turns) held ends

  pub requests-more : (turns : List Turn) → requests_of (turns ++ turn ∷ []) ≡ requests_of turns ++ turn.request ∷ []
  requests-more [] = refl
  requests-more (first ∷ turns) = ap (λ (rs : List (List ℕ)). first.request ∷ rs) (requests-more turns)

  -- ---- the session

  module _ (mid next : Book) (answered : IsAnswered turn.request mid next turn.answer) where
    pub TurnsFrom-more : {X : Type 0} (Adds : Turn → Book → List X → Type 0) (piece : List X) → Adds turn next piece
        → (turns : List Turn) (book : Book) (made : List X) → AllByRecursion MayGoOn turns
        → TurnsFrom Adds book turns made mid → TurnsFrom Adds book (turns ++ turn ∷ []) (made ++ piece) next
    TurnsFrom-more {X} Adds piece is [] book made goes (none, same) = (
      next,
      subst (λ (b : Book). IsAnswered turn.request b next turn.answer) same answered,
      inl refl,
      (piece, [], is, ap (λ (all : List X). all ++ piece) none ∙ sym (append-nil piece), (refl, refl)),
    )
    TurnsFrom-more {X} Adds piece is (first ∷ turns) book made goes (after, answer, on, (front, others, added, whole, session)) = (
      after,
      answer,
      inr goes.0,
      (
        front,
        others ++ piece,
        added,
        ap (λ (all : List X). all ++ piece) whole ∙ append_assoc front others piece,
        TurnsFrom-more Adds piece is turns after others goes.1 session,
      ),
    )

-- the book is the one after all that was given
pub after-given : (turns : List Turn) (book last : Book) (given : List GivenCommand) → IsSession book turns given last → ¬ EndsLost turns → After book (commands_of given) last
after-given turns book last given session held = by (IsSession-held turns book given last session)
  where
    same : (h : IsHeld book turns given last) → h.lost ≡ [] → After book (commands_of given) last
    same h empty =
        subst (λ (all : List GivenCommand). After book (commands_of all) last) (sym (h.front ∙ (ap (λ (l : List GivenCommand). h.held ++ l) empty ∙ append-nil h.held))) h.after

    by : IsHeld book turns given last → After book (commands_of given) last
    by h = elim h.which [ inl none ↦ same h none.1 | inr ends ↦ absurd (held ends.0) ]
