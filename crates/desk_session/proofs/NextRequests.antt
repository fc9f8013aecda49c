-- The next request of an input, made of a head line and its block.
use Rattle.std.proofs.Common.{◌≡◌, ◌≢◌, ◌⊎◌, ℕ, ◌<◌, Bool, true, false, eqb, List, [], ◌∷◌, ◌++◌, length, Option, Some, None, Result, Ok, Err, refl, sym, ap, subst, ◌∙◌, append_assoc, inl, inr, arith}
use Rattle.std.specs.Prelude.{MatchOption, MatchResult, Vec}
use Rattle.std.specs.declared.alloc.Global.{Global}
use Rattle.std.specs.List.{AllByRecursion}
use Rattle.std.specs.Option.{ok_or}
use Rattle.std.proofs.lemmas.Bool.{cases_lt}
use Rattle.std.proofs.lemmas.List.{append-nil}
use Rattle.louis_table.specs.Lines.{lines_of}
use Rattle.desk_ends.specs.declared.ends.Failure.{Failure}
use Rattle.desk_ends.specs.Input.{Input, LineEnds, ReadsLine, UsesInput}
use Rattle.desk_ends.specs.Limits.{most_line_bytes}
use Rattle.desk_ends.specs.Lines.{EndsLine, HasNoFeed, IsFed, IsLine, feeds, kept_line, without_ending}
use Rattle.desk_ends.proofs.FirstLine.{after-fed, after-none}
use Rattle.desk_ends.proofs.LineFeeds.{fed-feeds, feeds-append, lines-fed, lines-few}
use Rattle.desk_ends.proofs.OneLine.{ends-append, ends-some, fed-ends, fed-first, kept_line-none, kept_line-some, lone-line, one-line}
use Rattle.desk_ends.proofs.UsedInput.{UsesInput-then, no-parts}
use Rattle.desk_session.specs.declared.no_request.NoRequest.{NoRequest}
use Rattle.desk_session.specs.declared.no_request.NoRequest.TheVariants.{Syntax, NoMemory}
use Rattle.desk_line.specs.declared.read.Head.{Head}
use Rattle.desk_line.specs.declared.request.Request.{Request}
use Rattle.desk_line.specs.HeadLine.{Says}
use Rattle.desk_line.specs.Lines.{IsShort, after_first_line}
use Rattle.desk_line.specs.Request.{HasHead, IsLast, IsNoRequest, IsWhole, Reads, Takes, block_lines, said, unsaid}
use Rattle.desk_line.proofs.CutLaws.{none-whole}
use Rattle.desk_line.proofs.HeadLaws.{head-found}
use Rattle.desk_line.proofs.HeadLines.{head-of-long}
use Rattle.desk_line.proofs.RequestLaws.{asks-for-memory, takes-none, unsaid-none}
use Rattle.desk_session.specs.ReadingSteps.{AreFed, AreLines, BeginsWithNone, HoldsText, ReadsBlock, ReadsRequest}
use Rattle.desk_session.specs.Requests.{GiveNoRequest, IsNext}
use Rattle.desk_session.proofs.Blocks.{block-some}
use Rattle.desk_session.proofs.BlockLines.{not-short}

-- ---- lines that are too long

says-short : (bytes : List ℕ) (request : Request) (reads : Reads bytes request) → IsShort reads.line
says-short bytes request reads =
    elim (cases_lt most_line_bytes (length reads.line)) [
      | inl lt ↦ absurd (let h = sym (head-found reads.line reads.head reads.says) ∙ head-of-long reads.line lt in cc)
      | inr le ↦ le
    ]

none-long : (bytes : List ℕ) → ¬ AllByRecursion IsShort (lines_of bytes) → IsNoRequest bytes
none-long bytes long request reads =
    long (subst (AllByRecursion IsShort) (sym reads.lines) (says-short bytes request reads, reads.short))

takes-long : (line : List ℕ) → ¬ IsShort line → Takes line 0
takes-long line long =
    elim (cases_lt most_line_bytes (length line)) [
      | inl lt ↦ takes-none line (head-of-long line lt)
      | inr le ↦ absurd (long le)
    ]

-- ---- what is read of bytes

-- a request, or the fault of bytes that are none
found-of : (bytes : List ℕ) (found : Option Request) → MatchOption found (IsNoRequest bytes) (Reads bytes) → MatchResult (ok_or found Syntax) (Reads bytes) (GiveNoRequest bytes)
found-of bytes (Some request) reads = reads
found-of bytes None none = none

-- ---- a head line

whole-head : (bytes : List ℕ) → IsFed bytes → Takes (without_ending bytes) 0 → IsWhole bytes
whole-head bytes is takes = record {
  line = without_ending bytes;
  block = [];
  lines = one-line bytes (inl is) (ends-some bytes (fed-ends bytes is));
  takes = takes;
  front = is.0;
  ends = is.1;
}

last-head : (bytes : List ℕ) → HasNoFeed bytes → bytes ≢ [] → (count : ℕ) → Takes (without_ending bytes) count → IsLast bytes
last-head bytes none some count takes = record {
  line = without_ending bytes;
  block = [];
  lines = one-line bytes (inr none) some;
  count = count;
  takes = takes;
  most = omega arith;
}

-- ---- a head line and its block

-- the head line has its line feed, or nothing follows it
abbrev MayBeFollowed : (head block : List ℕ) → Type 0
MayBeFollowed head block = IsFed head ⊎ (HasNoFeed head × (block ≡ []))

module _ (head block : List ℕ) (some : head ≢ []) where
  head-alone : block ≡ [] → head ++ block ≡ head
  head-alone empty = ap (λ (t : List ℕ). head ++ t) empty ∙ append-nil head

  block-lines : MayBeFollowed head block → lines_of (head ++ block) ≡ without_ending head ∷ lines_of block
  block-lines (inl fed_) = fed-first head block fed_
  block-lines (inr (none, empty)) =
      ap lines_of (head-alone empty)
      ∙ (lone-line head none some ∙ ap (λ (t : List ℕ). without_ending head ∷ lines_of t) (sym empty))

  block-after : MayBeFollowed head block → block ≡ after_first_line (head ++ block)
  block-after (inl (front, is, none)) =
      sym (ap (λ (t : List ℕ). after_first_line (t ++ block)) is
      ∙ (ap after_first_line (append_assoc front (10 ∷ []) block) ∙ after-fed front block none))
  block-after (inr (none, empty)) = empty ∙ sym (ap after_first_line (head-alone empty) ∙ after-none head none)

  head-ends : IsFed head → AreFed block → EndsLine (head ++ block)
  head-ends fed_ (inl empty) = subst EndsLine (sym (head-alone empty)) (fed-ends head fed_)
  head-ends fed_ (inr ends) = ends-append head block ends

  counted : AreFed block → length (lines_of block) ≡ feeds block
  counted (inl empty) = ap (λ (t : List ℕ). length (lines_of t)) empty ∙ sym (ap feeds empty)
  counted (inr ends) = ap (λ (t : List ℕ). length (lines_of t)) ends.1 ∙ (lines-fed ends.0 ∙ sym (ap feeds ends.1))

  module _ (count : ℕ) (takes : Takes (without_ending head) count) where
    whole-block : IsFed head → AreLines count block → IsWhole (head ++ block)
    whole-block fed_ lines =
        let ends = head-ends fed_ lines.1 in
        record {
          line = without_ending head;
          block = lines_of block;
          lines = block-lines (inl fed_);
          takes = subst (Takes (without_ending head)) (sym (counted lines.1 ∙ lines.0)) takes;
          front = ends.0;
          ends = ends.1;
        }

    last-block : MayBeFollowed head block → feeds block < count → IsLast (head ++ block)
    last-block may fewer =
        let few = lines-few block in
        record { line = without_ending head; block = lines_of block; lines = block-lines may; count = count; takes = takes; most = omega arith }

    none-block : IsFed head → feeds block < count → BeginsWithNone (head ++ block)
    none-block fed_ fewer =
        let one = fed-feeds head fed_ in
        let all = feeds-append head block in
        none-whole (head ++ block) (without_ending head) (lines_of block) count (block-lines (inl fed_)) takes (omega arith)

    block-gives-none : (fault : NoRequest) → MayBeFollowed head block → HoldsText (Err fault) block → (block ≢ [] → 0 < count) → GiveNoRequest (head ++ block) fault
    block-gives-none Syntax may long more =
        none-long (head ++ block) (λ all. long (subst (AllByRecursion IsShort) (block-lines may) all).1)
    block-gives-none NoMemory may empty more =
        asks-for-memory (head ++ block) (without_ending head) (lines_of block) count (block-lines may) takes (more empty)

-- ---- what was read

module _ (F : Type 0) (a b : Option (List ℕ)) (old mid : Input) where
  -- a line that takes no other
  next-alone : (whole : Bool) (bytes : List ℕ) → bytes ≢ [] → Takes (without_ending bytes) 0 → LineEnds F mid bytes (Ok whole) → IsNext (mid.is_over ≡ true) mid.waiting bytes
  next-alone true bytes some takes fed_ = inl (whole-head bytes fed_ takes)
  next-alone false bytes some takes (none, over, empty) = inr (over, empty, last-head bytes none some 0 takes)

  line-of : (whole : Bool) (bytes : List ℕ) → LineEnds F mid bytes (Ok whole) → IsLine bytes
  line-of true bytes fed_ = inl fed_
  line-of false bytes (none, over, empty) = inr none

  -- a line with no room
  pub ReadsRequest-long : (line : Option (List ℕ)) (whole : Bool) → ReadsLine F a b old mid line (Ok whole) → None ≡ line → ReadsRequest F a b old mid (Ok (Some (Err Syntax)))
  ReadsRequest-long line whole read none =
      let keeps : None ≡ kept_line read.bytes = none ∙ read.held in
      let long = not-short read.bytes keeps in
      let some : read.bytes ≢ [] = λ empty. let many = kept_line-none read.bytes keeps in let n = ap length empty in omega arith in
      let lines = one-line read.bytes (line-of whole read.bytes read.ends) some in
      record {
        bytes = read.bytes;
        used = read.used;
        found = (
          next-alone whole read.bytes some (takes-long (without_ending read.bytes) long) read.ends,
          none-long read.bytes (λ all. long (subst (AllByRecursion IsShort) lines all).0),
        );
      }

  module _ (line : Option (List ℕ)) (head : List ℕ) (is : Some head ≡ line) (whole : Bool) (read : ReadsLine F a b old mid line (Ok whole)) where
    bytes-are : head ≡ read.bytes
    bytes-are = kept_line-some read.bytes head (is ∙ read.held)

    head-line : LineEnds F mid head (Ok whole)
    head-line = subst (λ (t : List ℕ). LineEnds F mid t (Ok whole)) (sym bytes-are) read.ends

    head-used : UsesInput a b old mid head
    head-used = subst (UsesInput a b old mid) (sym bytes-are) read.used

    module _ (some : head ≢ []) where
      -- it says nothing
      pub ReadsRequest-unsaid : ((h : Head) → ¬ Says (without_ending head) h) → ReadsRequest F a b old mid (Ok (Some (Err Syntax)))
      ReadsRequest-unsaid none = record {
        bytes = head;
        used = head-used;
        found = (
          next-alone whole head some (unsaid none refl) head-line,
          unsaid-none head (without_ending head) [] (one-line head (line-of whole head head-line) some) none,
        );
      }

      module _ (c : Option (List ℕ)) (new : Input) (h : Head) (says : Says (without_ending head) h) (count : ℕ) (same : count ≡ block_lines h) where
        takes : Takes (without_ending head) count
        takes = said h says same

        -- at the end of the input nothing follows
        abbrev Ends : (block : List ℕ) → Type 0
        Ends block = IsFed head ⊎ (HasNoFeed head × (block ≡ []) × (new.is_over ≡ true) × (new.waiting ≡ []))

        ends-by : (whole : Bool) → LineEnds F mid head (Ok whole) → (block : List ℕ) → UsesInput b c mid new block → Ends block
        ends-by true fed_ block used = inl fed_
        ends-by false (none, over, empty) block used =
            let still = used.over over in
            let parts : block ++ new.waiting ≡ [] =
            sym used.parts ∙ (ap (λ (t : List ℕ). mid.waiting ++ t) still.0 ∙ (append-nil mid.waiting ∙ empty)) in
            let both = no-parts block new.waiting parts in
            inr (none, both.0, still.1, both.1)

        may-be : (block : List ℕ) → Ends block → MayBeFollowed head block
        may-be block (inl fed_) = inl fed_
        may-be block (inr (none, empty, over, left)) = inr (none, empty)

        next-block : (block : List ℕ) → Ends block → AreLines count block ⊎ ((feeds block < count) × (new.is_over ≡ true) × (new.waiting ≡ []))
            → IsNext (new.is_over ≡ true) new.waiting (head ++ block)
        next-block block (inl fed_) (inl lines) = inl (whole-block head block some count takes fed_ lines)
        next-block block (inl fed_) (inr (fewer, over, empty)) = inr (over, empty, last-block head block some count takes (inl fed_) fewer)
        next-block block (inr (none, empty, over, left)) lines =
            inr (over, left, subst IsLast (sym (head-alone head block some empty)) (last-head head none some count takes))

        has-head : (block : List ℕ) → Ends block → HasHead (head ++ block) h block
        has-head block ends = record {
          line = without_ending head;
          block = lines_of block;
          lines = block-lines head block some (may-be block ends);
          says = says;
          rest = block-after head block some (may-be block ends);
        }

        pub ReadsRequest-block : (text : Vec ℕ Global) (found : Option Request) → ReadsBlock F b c mid new count (Ok (Ok text))
            → ((bytes : List ℕ) → HasHead bytes h text.items → MatchOption found (IsNoRequest bytes) (Reads bytes))
            → ReadsRequest F a c old new (Ok (Some (ok_or found Syntax)))
        ReadsRequest-block text found block finish =
            let ends = ends-by whole head-line block.block block.used in
            let has = subst (HasHead (head ++ block.block) h) (sym block.ends.0) (has-head block.block ends) in
            record {
              bytes = head ++ block.block;
              used = UsesInput-then a b c old mid new head block.block head-used block.used;
              found = (next-block block.block ends block.ends.1, found-of (head ++ block.block) found (finish (head ++ block.block) has));
            }

        pub ReadsRequest-fault : (fault : NoRequest) → ReadsBlock F b c mid new count (Ok (Err fault)) → ReadsRequest F a c old new (Ok (Some (Err fault)))
        ReadsRequest-fault fault block =
            let ends = ends-by whole head-line block.block block.used in
            record {
              bytes = head ++ block.block;
              used = UsesInput-then a b c old mid new head block.block head-used block.used;
              found = (
                next-block block.block ends block.ends.1,
                block-gives-none head block.block some count takes fault (may-be block.block ends) block.ends.0 (block-some F new count block.block (Err fault) block.ends),
              );
            }

        pub ReadsRequest-cut : (failed : Failure) → ReadsBlock F b c mid new count (Err failed) → ReadsRequest F a c old new (Err failed)
        ReadsRequest-cut failed block = record {
          bytes = head ++ block.block;
          used = UsesInput-then a b c old mid new head block.block head-used block.used;
          found = (cut-by (ends-by whole head-line block.block block.used), block.ends.1, block.ends.2, block.ends.3);
        }
          where
            cut-by : Ends block.block → BeginsWithNone (head ++ block.block)
            cut-by (inl fed_) = none-block head block.block some count takes fed_ block.ends.0
            cut-by (inr (none, empty, over, left)) = absurd (let h = sym over ∙ block.ends.2 in cc)

pub some-bytes : (bytes : List ℕ) → eqb (length bytes) 0 ≡ false → bytes ≢ []
some-bytes [] some = absurd (cc some)
some-bytes (b ∷ bytes) some = λ none. cc none
