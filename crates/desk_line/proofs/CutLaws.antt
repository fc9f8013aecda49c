-- An input is cut into requests in exactly one way, and so are the bytes before a read that failed.
use Rattle.std.proofs.Common.{◌≡◌, ◌≢◌, ℕ, zero, suc, ◌+◌, ◌≤◌, List, [], ◌∷◌, ◌++◌, length, Option, Some, None, refl, sym, ap, subst, ◌∙◌, append_assoc, inl, inr, arith}
use Rattle.std.proofs.lemmas.List.{append-nil, length-append}
use Rattle.louis_table.specs.Lines.{lines_of}
use Rattle.louis_table.proofs.LineLaws.{lines_of-split}
use Rattle.desk_line.specs.declared.read.Head.{Head}
use Rattle.desk_line.specs.HeadLine.{Says}
use Rattle.desk_line.specs.ReadingSteps.{head_line, head_of}
use Rattle.desk_line.specs.Lines.{after_first_line}
use Rattle.desk_line.specs.Request.{IsLast, IsRequestBefore, IsWhole, Requests, Takes, WholeRequests, last, block_lines, said, unsaid, whole}
use Rattle.desk_line.proofs.HeadLaws.{head-found}
use Rattle.desk_line.proofs.HeadLines.{some-is}
use Rattle.desk_ends.specs.Lines.{feeds}
use Rattle.desk_ends.proofs.LineFeeds.{begins, feeds-append, lines-fed, lines-few, no-lines, same-front}
use Rattle.desk_ends.proofs.ManyLines.{fed, fed-some, lines-then}
use Rattle.desk_line.proofs.RequestLaws.{heads-same, some-lines, tails-same, takes-none, takes-some}

-- ---- what a head line takes

says-one : (line : List ℕ) (this that : Head) → Says line this → Says line that → this ≡ that
says-one line this that s t = some-is this that (sym (head-found line this s) ∙ head-found line that t)

takes-one : (line : List ℕ) (this that : ℕ) → Takes line this → Takes line that → this ≡ that
takes-one line this that (said h s e) (said k t f) = e ∙ (ap block_lines (says-one line h k s t) ∙ sym f)
takes-one line this that (said h s e) (unsaid n f) = absurd (n h s)
takes-one line this that (unsaid n e) (said k t f) = absurd (n k t)
takes-one line this that (unsaid n e) (unsaid m f) = e ∙ sym f

takes-by : (line : List ℕ) (found : Option Head) → head_of line ≡ found → (count : ℕ) × Takes line count
takes-by line (Some head) e = (block_lines head, takes-some line head e)
takes-by line None e = (0, takes-none line e)

-- ---- whole requests

whole-then : (request later : List ℕ) (w : IsWhole request) → lines_of (request ++ later) ≡ w.line ∷ (w.block ++ lines_of later)
whole-then request later w =
    ap (λ (t : List ℕ). lines_of (t ++ later)) w.ends
    ∙ (lines-then w.front later
    ∙ ap (λ (ls : List (List ℕ)). ls ++ lines_of later) (sym (ap lines_of w.ends) ∙ w.lines))

pub whole-feeds : (request : List ℕ) (w : IsWhole request) → feeds (fed w.front) ≡ suc (length w.block)
whole-feeds request w = sym (lines-fed w.front) ∙ ap length (sym (ap lines_of w.ends) ∙ w.lines)

pub both-whole : (this that later other : List ℕ) (v : IsWhole this) (w : IsWhole that) → this ++ later ≡ that ++ other → (this ≡ that) × (later ≡ other)
both-whole this that later other v w e =
    let lines = sym (whole-then this later v) ∙ (ap lines_of e ∙ whole-then that other w) in
    let line = heads-same v.line w.line (v.block ++ lines_of later) (w.block ++ lines_of other) lines in
    let count = takes-one w.line (length v.block) (length w.block) (subst (λ (l : List ℕ). Takes l (length v.block)) line v.takes) w.takes in
    let front = same-front v.front w.front later other
    (ap (λ (t : List ℕ). t ++ later) (sym v.ends) ∙ (e ∙ ap (λ (t : List ℕ). t ++ other) w.ends))
    (whole-feeds this v ∙ (ap suc count ∙ sym (whole-feeds that w))) in
    (v.ends ∙ (front.0 ∙ sym w.ends), front.1)

whole-last : (this that later : List ℕ) (v : IsWhole this) (w : IsLast that) → this ++ later ≡ that → later ≡ []
whole-last this that later v w e =
    let lines = sym (whole-then this later v) ∙ (ap lines_of e ∙ w.lines) in
    let line = heads-same v.line w.line (v.block ++ lines_of later) w.block lines in
    let count = takes-one w.line (length v.block) w.count (subst (λ (l : List ℕ). Takes l (length v.block)) line v.takes) w.takes in
    let sizes = sym (length-append v.block (lines_of later)) ∙ ap length (tails-same v.line w.line (v.block ++ lines_of later) w.block lines) in
    let most = w.most in
    no-lines later (omega arith)

alone : (request later : List ℕ) → later ≡ [] → request ++ later ≡ request
alone request later e = ap (λ (t : List ℕ). request ++ t) e ∙ append-nil request

pub same-request : (this that later other : List ℕ) → IsRequestBefore later this → IsRequestBefore other that → this ++ later ≡ that ++ other
    → (this ≡ that) × (later ≡ other)
same-request this that later other (whole v) (whole w) e = both-whole this that later other v w e
same-request this that later other (whole v) (last n w) e =
    let none = whole-last this that later v w (e ∙ alone that other n) in
    (sym (alone this later none) ∙ (e ∙ alone that other n), none ∙ sym n)
same-request this that later other (last m v) (whole w) e =
    let none = whole-last that this other w v (sym e ∙ alone this later m) in
    (sym (alone this later m) ∙ (e ∙ alone that other none), m ∙ sym none)
same-request this that later other (last m v) (last n w) e =
    (sym (alone this later m) ∙ (e ∙ alone that other n), m ∙ sym n)

-- ---- the first request of bytes

pub whole-some : (request : List ℕ) → IsWhole request → request ≢ []
whole-some request w = some-lines request w.line w.block w.lines

pub before-some : (later request : List ℕ) → IsRequestBefore later request → request ≢ []
before-some later request (whole w) = whole-some request w
before-some later request (last n w) = some-lines request w.line w.block w.lines

none-before : (bytes request later : List ℕ) → bytes ≡ [] → bytes ≡ request ++ later → request ≡ []
none-before bytes [] later n e = refl
none-before bytes (b ∷ request) later n e = absurd (let h : [] ≡ b ∷ (request ++ later) = sym n ∙ e in cc)

-- a request whole at the front of bytes, or bytes with no more lines than the first of them takes
data Front (bytes : List ℕ) : Type 0 where
  is_whole : (request later : List ℕ) → bytes ≡ request ++ later → IsWhole request → Front bytes
  is_short : (count : ℕ) → Takes (head_line bytes) count → feeds bytes ≤ count → Front bytes

module _ (bytes : List ℕ) (some : bytes ≢ []) (count : ℕ) (takes : Takes (head_line bytes) count) where
  front-whole : (front later : List ℕ) → bytes ≡ fed front ++ later → feeds (fed front) ≡ suc count → Front bytes
  front-whole front later e n =
      let split = lines_of-split (fed front) (fed-some front) in
      let lines = sym (lines_of-split bytes some) ∙ (ap lines_of e ∙ (lines-then front later ∙ ap (λ (ls : List (List ℕ)). ls ++ lines_of later) split)) in
      let line = heads-same (head_line bytes) (head_line (fed front)) (lines_of (after_first_line bytes)) (lines_of (after_first_line (fed front)) ++ lines_of later) lines in
      let size = sym (ap length split) ∙ (lines-fed front ∙ n) in
      let same : count ≡ length (lines_of (after_first_line (fed front))) = omega arith in
      is_whole (fed front) later e (record {
        line = head_line (fed front);
        block = lines_of (after_first_line (fed front));
        lines = split;
        takes = subst (λ (c : ℕ). Takes (head_line (fed front)) c) same (subst (λ (l : List ℕ). Takes l count) line takes);
        front = front;
        ends = refl;
      })

  front-by : Front bytes
  front-by = elim (begins count bytes) [ inl s ↦ front-whole s.0 s.1 s.2 s.3 | inr few ↦ is_short count takes few ]

front-of : (bytes : List ℕ) → bytes ≢ [] → Front bytes
front-of bytes some = let t = takes-by (head_line bytes) (head_of (head_line bytes)) refl in front-by bytes some t.0 t.1

-- bytes with no more lines than that are a last request
short-last : (bytes : List ℕ) → bytes ≢ [] → (count : ℕ) → Takes (head_line bytes) count → feeds bytes ≤ count → IsLast bytes
short-last bytes some count takes few =
    let split = lines_of-split bytes some in
    let sizes = ap length split in
    let most = lines-few bytes in
    record { line = head_line bytes; block = lines_of (after_first_line bytes); lines = split; count = count; takes = takes; most = omega arith }

-- and begin with no whole one
pub none-whole : (bytes line : List ℕ) (block : List (List ℕ)) (count : ℕ) → lines_of bytes ≡ line ∷ block → Takes line count → feeds bytes ≤ count
    → (request later : List ℕ) → bytes ≡ request ++ later → ¬ IsWhole request
none-whole bytes line block count split takes few request later e w =
    let lines = sym split ∙ (ap lines_of e ∙ whole-then request later w) in
    let first = heads-same line w.line block (w.block ++ lines_of later) lines in
    let same = takes-one w.line count (length w.block) (subst (λ (l : List ℕ). Takes l count) first takes) w.takes in
    let all = ap feeds e ∙ (feeds-append request later ∙ ap (λ (t : List ℕ). feeds t + feeds later) w.ends) in
    omega (arith, whole-feeds request w)

short-none : (bytes : List ℕ) → bytes ≢ [] → (count : ℕ) → Takes (head_line bytes) count → feeds bytes ≤ count
    → (request later : List ℕ) → bytes ≡ request ++ later → ¬ IsWhole request
short-none bytes some count takes few =
    none-whole bytes (head_line bytes) (lines_of (after_first_line bytes)) count (lines_of-split bytes some) takes few

-- what follows a request is shorter
shorter : (bound : ℕ) (bytes request later : List ℕ) → length bytes ≤ suc bound → bytes ≡ request ++ later → request ≢ [] → length later ≤ bound
shorter bound bytes [] later most e some = absurd (some refl)
shorter bound bytes (b ∷ request) later most e some = omega (arith, ap length e, length-append request later)

-- ---- the requests of an input

cut-next : (bytes : List ℕ) → bytes ≢ [] → Front bytes
    → ((request later : List ℕ) → bytes ≡ request ++ later → IsWhole request → (requests : List (List ℕ)) × Requests later requests)
    → (requests : List (List ℕ)) × Requests bytes requests
cut-next bytes some (is_whole request later e w) others = let h = others request later e w in (request ∷ h.0, (later, e, whole w, h.1))
cut-next bytes some (is_short count takes few) others =
    (bytes ∷ [], ([], sym (append-nil bytes), last refl (short-last bytes some count takes few), refl))

cut-by : (bound : ℕ) (input : List ℕ) → length input ≤ bound → (requests : List (List ℕ)) × Requests input requests
cut-by bound [] most = ([], refl)
cut-by zero (b ∷ bytes) most = absurd (omega arith)
cut-by (suc bound) (b ∷ bytes) most =
    cut-next (b ∷ bytes) (λ n. cc) (front-of (b ∷ bytes) (λ n. cc))
    (λ request later e w. cut-by bound later (shorter bound (b ∷ bytes) request later most e (whole-some request w)))

pub cut-some : (input : List ℕ) → (requests : List (List ℕ)) × Requests input requests
cut-some input = cut-by (length input) input (omega arith)

pub cut-one : (input : List ℕ) (this that : List (List ℕ)) → Requests input this → Requests input that → this ≡ that
cut-one input [] [] r s = refl
cut-one input [] (request ∷ that) r s = absurd (before-some s.0 request s.2 (none-before input request s.0 r s.1))
cut-one input (request ∷ this) [] r s = absurd (before-some r.0 request r.2 (none-before input request r.0 s r.1))
cut-one input (request ∷ this) (other ∷ that) r s =
    let same = same-request request other r.0 s.0 r.2 s.2 (sym r.1 ∙ s.1) in
    let others = cut-one s.0 this that (subst (λ (t : List ℕ). Requests t this) same.1 r.3) s.3 in
    let first = same.0 in
    cc

-- ---- the whole requests of bytes

whole-cut-next : (bytes : List ℕ) → bytes ≢ [] → Front bytes
    → ((request later : List ℕ) → bytes ≡ request ++ later → IsWhole request → (requests : List (List ℕ)) × WholeRequests later requests)
    → (requests : List (List ℕ)) × WholeRequests bytes requests
whole-cut-next bytes some (is_whole request later e w) others = let h = others request later e w in (request ∷ h.0, (later, e, w, h.1))
whole-cut-next bytes some (is_short count takes few) others = ([], short-none bytes some count takes few)

whole-cut-by : (bound : ℕ) (bytes : List ℕ) → length bytes ≤ bound → (requests : List (List ℕ)) × WholeRequests bytes requests
whole-cut-by bound [] most = ([], λ request later e w. whole-some request w (none-before [] request later refl e))
whole-cut-by zero (b ∷ bytes) most = absurd (omega arith)
whole-cut-by (suc bound) (b ∷ bytes) most =
    whole-cut-next (b ∷ bytes) (λ n. cc) (front-of (b ∷ bytes) (λ n. cc))
    (λ request later e w. whole-cut-by bound later (shorter bound (b ∷ bytes) request later most e (whole-some request w)))

pub whole-cut-some : (bytes : List ℕ) → (requests : List (List ℕ)) × WholeRequests bytes requests
whole-cut-some bytes = whole-cut-by (length bytes) bytes (omega arith)

pub whole-cut-one : (bytes : List ℕ) (this that : List (List ℕ)) → WholeRequests bytes this → WholeRequests bytes that → this ≡ that
whole-cut-one bytes [] [] r s = refl
whole-cut-one bytes [] (request ∷ that) r s = absurd (r request s.0 s.1 s.2)
whole-cut-one bytes (request ∷ this) [] r s = absurd (s request r.0 r.1 r.2)
whole-cut-one bytes (request ∷ this) (other ∷ that) r s =
    let same = both-whole request other r.0 s.0 r.2 s.2 (sym r.1 ∙ s.1) in
    let others = whole-cut-one s.0 this that (subst (λ (t : List ℕ). WholeRequests t this) same.1 r.3) s.3 in
    let first = same.0 in
    cc

front-then : (bytes request rest later : List ℕ) → bytes ≡ request ++ rest → bytes ++ later ≡ request ++ (rest ++ later)
front-then bytes request rest later e = ap (λ (t : List ℕ). t ++ later) e ∙ append_assoc request rest later

-- they are the first requests of each input that begins with the bytes
pub whole-cut-first : (bytes later : List ℕ) (requests all : List (List ℕ)) → WholeRequests bytes requests → Requests (bytes ++ later) all
    → (others : List (List ℕ)) × (all ≡ requests ++ others)
whole-cut-first bytes later [] all r s = (all, refl)
whole-cut-first bytes later (request ∷ requests) [] r s =
    absurd (whole-some request r.2 (none-before (bytes ++ later) request (r.0 ++ later) s (front-then bytes request r.0 later r.1)))
whole-cut-first bytes later (request ∷ requests) (other ∷ all) r s =
    let same = same-request request other (r.0 ++ later) s.0 (whole r.2) s.2 (sym (front-then bytes request r.0 later r.1) ∙ s.1) in
    let h = whole-cut-first r.0 later requests all r.3 (subst (λ (t : List ℕ). Requests t all) (sym same.1) s.3) in
    let first = same.0 in
    let rest = h.1 in
    (h.0, cc)
