-- What is read of bytes is the request that they are, and what they are is read.
use Rattle.std.proofs.Common.{◌≡◌, ◌≢◌, ℕ, ◌-◌, ◌<◌, true, ◌&&◌, ltb, leb, List, [], ◌∷◌, length, Option, Some, None, refl, sym, ap, subst, ◌∙◌, arith, lit≤}
use Rattle.std.specs.Prelude.{MatchOption}
use Rattle.std.specs.List.{AllByRecursion}
use Rattle.std.specs.Option.{option_and_then}
use Rattle.std.proofs.lemmas.Bool.{lt-ltb, ltb-true, le-leb, leb-true, and_parts, and_from, cond-true, eqb-true, eq-eqb}
use Rattle.std.proofs.lemmas.Str.{IsUtf8-nil}
use Rattle.louis_table.specs.Lines.{lines_of}
use Rattle.louis_table.proofs.LineLaws.{lines_of-split}
use Rattle.louis_table.proofs.CharacterLaws.{and_then_some}
use Rattle.desk_line.specs.declared.read.Head.{Head}
use Rattle.desk_line.specs.declared.read.Head.TheVariants as heads
use Rattle.desk_line.specs.declared.request.Request.{Request}
use Rattle.desk_line.specs.HeadLine.{Says}
use Rattle.desk_ends.specs.Limits.{most_line_bytes}
use Rattle.desk_line.specs.Lines.{IsShort, after_first_line}
use Rattle.desk_line.specs.ReadingSteps.{are_lines, head_line, head_in, head_of, query_in, directive_in, request_in, with_text}
use Rattle.desk_line.specs.Request.{AsksForMemory, HasHead, IsNoRequest, Reads, Takes, said, unsaid, block_lines, request_of}
use Rattle.desk_line.proofs.HeadLines.{some-is, some-none, head-of-text}
use Rattle.desk_line.proofs.HeadLaws.{head-read, head-found}
use Rattle.desk_line.proofs.OperandLaws.{taken}

-- ---- lines

lines-counted : (lines : List (List ℕ)) (count : ℕ) → are_lines lines count ≡ true → (length lines ≡ count) × AllByRecursion IsShort lines
lines-counted [] count e = (sym (eqb-true count 0 e), tt)
lines-counted (line ∷ lines) count e =
    let all = and_parts (ltb 0 count && leb (length line) most_line_bytes) (are_lines lines (count - 1)) e in
    let first = and_parts (ltb 0 count) (leb (length line) most_line_bytes) all.0 in
    let others = lines-counted lines (count - 1) all.1 in
    let more = ltb-true 0 count first.0 in
    let fewer = others.0 in
    (omega arith, (leb-true (length line) most_line_bytes first.1, others.1))

lines-tested : (lines : List (List ℕ)) (count : ℕ) → length lines ≡ count → AllByRecursion IsShort lines → are_lines lines count ≡ true
lines-tested [] count e h = eq-eqb count 0 (sym e)
lines-tested (line ∷ lines) count e h =
    and_from (ltb 0 count && leb (length line) most_line_bytes) (are_lines lines (count - 1))
    (and_from (ltb 0 count) (leb (length line) most_line_bytes) (lt-ltb 0 count (omega arith)) (le-leb (length line) most_line_bytes h.0))
    (lines-tested lines (count - 1) (omega arith) h.1)

-- no line says nothing
nothing-said : head_of (head_line []) ≡ None
unfolding head_in query_in directive_in
nothing-said = head-of-text [] (lit≤ tt) IsUtf8-nil

-- ---- requests

pub request-read : (bytes : List ℕ) (request : Request) → request_in bytes ≡ Some request → Reads bytes request
unfolding request_in
request-read [] request e = let n = nothing-said in absurd (let h = and_then_some (with_text (after_first_line [])) (head_of (head_line [])) request e in cc)
request-read (b ∷ bytes) request e =
    let all = b ∷ bytes in
    let h = and_then_some (with_text (after_first_line (b ∷ bytes))) (head_of (head_line (b ∷ bytes))) request e in
    let t = taken (are_lines (lines_of (after_first_line (b ∷ bytes))) (block_lines h.0)) (Some (request_of h.0 (after_first_line (b ∷ bytes)))) request h.2 in
    let counted = lines-counted (lines_of (after_first_line (b ∷ bytes))) (block_lines h.0) t.0 in
    record {
      line = head_line (b ∷ bytes);
      block = lines_of (after_first_line (b ∷ bytes));
      head = h.0;
      lines = lines_of-split (b ∷ bytes) (λ n. cc);
      says = head-read (head_line (b ∷ bytes)) h.0 h.1;
      whole = counted.0;
      short = counted.1;
      is = sym (some-is (request_of h.0 (after_first_line (b ∷ bytes))) request t.1);
    }

pub heads-same : {A : Type 0} (x y : A) (xs ys : List A) → x ∷ xs ≡ y ∷ ys → x ≡ y
heads-same x y xs ys e = cc

pub tails-same : {A : Type 0} (x y : A) (xs ys : List A) → x ∷ xs ≡ y ∷ ys → xs ≡ ys
tails-same x y xs ys e = cc

pub some-lines : (bytes line : List ℕ) (block : List (List ℕ)) → lines_of bytes ≡ line ∷ block → bytes ≢ []
some-lines bytes line block e n = let h : lines_of [] ≡ line ∷ block = ap lines_of (sym n) ∙ e in cc

-- what is read of a head line and of the bytes after it
head-request : (bytes : List ℕ) (head : Head) (text : List ℕ) → HasHead bytes head text → request_in bytes ≡ with_text text head
unfolding request_in
head-request bytes head text has =
    let split = sym has.lines ∙ lines_of-split bytes (some-lines bytes has.line has.block has.lines) in
    let line = heads-same has.line (head_line bytes) has.block (lines_of (after_first_line bytes)) split in
    ap (option_and_then (with_text (after_first_line bytes))) (head-found (head_line bytes) head (subst (λ (l : List ℕ). Says l head) line has.says))
    ∙ ap (λ (t : List ℕ). with_text t head) (sym has.rest)

reads-head : (bytes : List ℕ) (request : Request) (r : Reads bytes request) → HasHead bytes r.head (after_first_line bytes)
reads-head bytes request r = record { line = r.line; block = r.block; lines = r.lines; says = r.says; rest = refl }

pub request-found : (bytes : List ℕ) (request : Request) → Reads bytes request → request_in bytes ≡ Some request
request-found bytes request r =
    let split = sym r.lines ∙ lines_of-split bytes (some-lines bytes r.line r.block r.lines) in
    let block = tails-same r.line (head_line bytes) r.block (lines_of (after_first_line bytes)) split in
    head-request bytes r.head (after_first_line bytes) (reads-head bytes request r)
    ∙ (cond-true (are_lines (lines_of (after_first_line bytes)) (block_lines r.head)) (Some (request_of r.head (after_first_line bytes))) None
    (ap (λ (lines : List (List ℕ)). are_lines lines (block_lines r.head)) (sym block) ∙ lines-tested r.block (block_lines r.head) r.whole r.short)
    ∙ ap Some (sym r.is))

-- bytes are at most one request
pub one-request : (bytes : List ℕ) (this that : Request) → Reads bytes this → Reads bytes that → this ≡ that
one-request bytes this that a b = some-is this that (sym (request-found bytes this a) ∙ request-found bytes that b)

-- ---- what is read

pub is-read : (bytes : List ℕ) (found : Option Request) → found ≡ request_in bytes → MatchOption found (IsNoRequest bytes) (Reads bytes)
is-read bytes (Some request) e = request-read bytes request (sym e)
is-read bytes None e = λ request r. some-none request (request_in bytes) (request-found bytes request r) (sym e)

-- so of a head line and the bytes after it
pub head-makes : (bytes : List ℕ) (head : Head) (text : List ℕ) (found : Option Request) → found ≡ with_text text head → HasHead bytes head text
    → MatchOption found (IsNoRequest bytes) (Reads bytes)
head-makes bytes head text found e has = is-read bytes found (e ∙ sym (head-request bytes head text has))

-- bytes are the head line that their first line is, and what follows it
pub first-head : (bytes line text : List ℕ) (head : Head) → line ≡ head_line bytes → text ≡ after_first_line bytes → Says line head → HasHead bytes head text
first-head [] line text head is rest says =
    absurd (some-none head (head_of (head_line [])) (head-found (head_line []) head (subst (λ (l : List ℕ). Says l head) is says)) nothing-said)
first-head (b ∷ bytes) line text head is rest says = record {
  line = line;
  block = lines_of (after_first_line (b ∷ bytes));
  lines = lines_of-split (b ∷ bytes) (λ n. cc) ∙ ap (λ (l : List ℕ). l ∷ lines_of (after_first_line (b ∷ bytes))) (sym is);
  says = says;
  rest = rest;
}

-- bytes whose first line says nothing are no request
pub unsaid-none : (bytes line : List ℕ) (block : List (List ℕ)) → lines_of bytes ≡ line ∷ block → ((head : Head) → ¬ Says line head) → IsNoRequest bytes
unsaid-none bytes line block lines none request reads =
    none reads.head (subst (λ (l : List ℕ). Says l reads.head) (heads-same reads.line line reads.block block (sym reads.lines ∙ lines)) reads.says)

pub first-none : (bytes line : List ℕ) → line ≡ head_line bytes → ((head : Head) → ¬ Says line head) → IsNoRequest bytes
first-none bytes line is none request reads =
    let split = lines_of-split bytes (some-lines bytes reads.line reads.block reads.lines) in
    let lines = split ∙ ap (λ (l : List ℕ). l ∷ lines_of (after_first_line bytes)) (sym is) in
    unsaid-none bytes line (lines_of (after_first_line bytes)) lines none request reads

pub head-unsaid : (line : List ℕ) → head_of line ≡ None → (head : Head) → ¬ Says line head
head-unsaid line e head says = some-none head (head_of line) (head-found line head says) e

pub takes-some : (line : List ℕ) (head : Head) → head_of line ≡ Some head → Takes line (block_lines head)
takes-some line head e = said head (head-read line head e) refl

pub takes-none : (line : List ℕ) → head_of line ≡ None → Takes line 0
takes-none line e = unsaid (head-unsaid line e) refl

-- what takes lines allocates
head-asks : (bytes line : List ℕ) (block : List (List ℕ)) (head : Head) → lines_of bytes ≡ line ∷ block → Says line head → 0 < block_lines head → AsksForMemory bytes
head-asks bytes line block (heads.Do directive expect) lines says some =
    record { line = line; block = block; directive = directive; expect = expect; lines = lines; says = says; some = some }
head-asks bytes line block (heads.Ask query) lines says some = absurd (omega arith)

pub asks-for-memory : (bytes line : List ℕ) (block : List (List ℕ)) (count : ℕ) → lines_of bytes ≡ line ∷ block → Takes line count → 0 < count → AsksForMemory bytes
asks-for-memory bytes line block count lines (said head says same) some = head-asks bytes line block head lines says (subst (λ (n : ℕ). 0 < n) same some)
asks-for-memory bytes line block count lines (unsaid none same) some = absurd (omega arith)
