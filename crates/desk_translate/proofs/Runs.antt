-- What a run did, line after line.
use Rattle.std.proofs.Common.{◌≡◌, ℕ, ◌<◌, ◌≤◌, ◌⊎◌, Bool, true, false, List, [], ◌∷◌, ◌++◌, length, Option, None, Some, Result, Ok, Err, refl, sym, ap, subst, ◌∙◌, append_assoc, inl, inr, arith}
use Rattle.std.specs.Io.KnownBytes.{Appends, Consumes, IsAtEnd}
use Rattle.std.proofs.KnownBytes.{Appends-nil, Appends-trans, Consumes-whole}
use Rattle.std.proofs.lemmas.List.{append-nil, nil_from_length}
use Rattle.louis_table.specs.Meaning.{Meaning}
use Rattle.desk_ends.specs.Input.{Input, UsesInput, unread}
use Rattle.desk_ends.specs.Limits.{most_input}
use Rattle.desk_ends.specs.Lines.{HasNoFeed, without_ending}
use Rattle.desk_ends.specs.Sending.{Transmits}
use Rattle.desk_ends.proofs.OneLine.{ends-some, fed-ends}
use Rattle.desk_ends.proofs.UsedInput.{UsesInput-none, UsesInput-then, left_to_use, left_to_use-fewer, unread-knows}
use Rattle.desk_translate.specs.declared.translate.Ended.{Ended}
use Rattle.desk_translate.specs.declared.translate.Ended.TheVariants as ended
use Rattle.desk_translate.specs.NextLine.{TakesLine}
use Rattle.desk_translate.specs.Reply.{IsOutput}
use Rattle.desk_translate.specs.Run.{Answers, AnswersBeginning, EndsFlushed, HonestRun, IsBeginning, IsHonest, ReadsAll, whole_lines}
use Rattle.desk_translate.proofs.Answering.{answer_to, output_of, IsOutput-output_of}
use Rattle.desk_translate.proofs.Cuts.{AreWhole, AreWhole-more, output_of-begins, output_of-line, output_of-then, whole_lines-then}

-- ---- how it ended

IsBeginning-trans : (out text whole : List ℕ) → IsBeginning out text → IsBeginning text whole → IsBeginning out whole
IsBeginning-trans out text whole p q =
    (p.0 ++ q.0, sym (append_assoc out p.0 q.0) ∙ (ap (λ (t : List ℕ). t ++ q.0) p.1 ∙ q.1))

-- a beginning of what is answered to the first lines of what was taken
abbrev pub BeginsAnswers : Meaning → List ℕ → List ℕ → Type 0
BeginsAnswers meaning taken out =
    (lines rest : List ℕ) × (taken ≡ lines ++ rest) × AreWhole lines × IsBeginning out (output_of meaning lines)

-- what went out, by how a run ended; a write fails before the end of the input, or at it
abbrev pub Steps : Meaning → Ended → List ℕ → List ℕ → Option (List ℕ) → Type 0
Steps meaning ended.Done taken out left = IsAtEnd left × (out ≡ output_of meaning taken)
Steps meaning ended.Input taken out left =
    (lines rest : List ℕ) × (taken ≡ lines ++ rest) × AreWhole lines × HasNoFeed rest × (out ≡ output_of meaning lines)
Steps meaning ended.Output taken out left = BeginsAnswers meaning taken out ⊎ (IsAtEnd left × IsBeginning out (output_of meaning taken))

pub record Stepped (meaning : Meaning) (how : Ended) (a b v w : Option (List ℕ)) (ReadsFail WritesFail : Type 0) : Type 0 where
  pub taken : List ℕ
  pub out : List ℕ
  pub consumes : Consumes a b taken
  pub appends : Appends v w out
  pub steps : Steps meaning how taken out b
  pub honest : IsHonest how (length taken) ReadsFail WritesFail

is_output : (meaning : Meaning) (input output : List ℕ) → output ≡ output_of meaning input → IsOutput meaning input output
is_output meaning input output e = subst (λ (t : List ℕ). IsOutput meaning input t) (sym e) (IsOutput-output_of meaning input)

-- a beginning of the answers to the first lines is one of the answers to all
begins-all : (meaning : Meaning) (taken later out : List ℕ) → BeginsAnswers meaning taken out → IsBeginning out (output_of meaning (taken ++ later))
begins-all meaning taken later out (lines, rest, parts, whole, begins) =
    subst (λ (t : List ℕ). IsBeginning out (output_of meaning t))
    (sym (ap (λ (t : List ℕ). t ++ later) parts ∙ append_assoc lines rest later))
    (IsBeginning-trans out _ _ begins (output_of-begins meaning lines (rest ++ later) whole))

begins-taken : (meaning : Meaning) (taken out : List ℕ) → BeginsAnswers meaning taken out → IsBeginning out (output_of meaning taken)
begins-taken meaning taken out begins =
    subst (λ (t : List ℕ). IsBeginning out (output_of meaning t)) (append-nil taken) (begins-all meaning taken [] out begins)

answers : (meaning : Meaning) (how : Ended) (taken out : List ℕ) (left : Option (List ℕ)) → Steps meaning how taken out left → Answers meaning how taken out
answers meaning ended.Done taken out left h = is_output meaning taken out h.1
answers meaning ended.Input taken out left (lines, rest, parts, whole, none, is) =
    is_output meaning (whole_lines taken) out
    (is ∙ ap (output_of meaning) (sym (ap whole_lines parts ∙ whole_lines-then lines rest whole none)))
answers meaning ended.Output taken out left (inl h) = (output_of meaning taken, IsOutput-output_of meaning taken, begins-taken meaning taken out h)
answers meaning ended.Output taken out left (inr h) = (output_of meaning taken, IsOutput-output_of meaning taken, h.1)

reads_all : (meaning : Meaning) (how : Ended) (taken out : List ℕ) (left : Option (List ℕ)) → Steps meaning how taken out left → ReadsAll how left
reads_all meaning ended.Done taken out left h = h.0
reads_all meaning ended.Input taken out left h = tt
reads_all meaning ended.Output taken out left h = tt

-- what went out is a beginning of the answers, or all was taken
begins : (meaning : Meaning) (how : Ended) (taken out : List ℕ) (left : Option (List ℕ)) → Steps meaning how taken out left
    → BeginsAnswers meaning taken out ⊎ (IsAtEnd left × IsBeginning out (output_of meaning taken))
begins meaning ended.Done taken out left h = inr (h.0, ([], append-nil out ∙ h.1))
begins meaning ended.Input taken out left (lines, rest, parts, whole, none, is) = inl (lines, rest, parts, whole, ([], append-nil out ∙ is))
begins meaning ended.Output taken out left h = h

begins_all : (meaning : Meaning) (a b v w : Option (List ℕ)) (taken out : List ℕ) → Consumes a b taken → Appends v w out
    → BeginsAnswers meaning taken out → AnswersBeginning meaning a v w
begins_all meaning None b v w taken out c h p = tt
begins_all meaning (Some input) None v w taken out c h p = absurd c
begins_all meaning (Some input) (Some left) v w taken out c h p =
    (output_of meaning input, out, IsOutput-output_of meaning input, subst (λ (t : List ℕ). IsBeginning out (output_of meaning t)) (sym c) (begins-all meaning taken left out p), h)

module _ {meaning : Meaning} {how : Ended} {a b v w : Option (List ℕ)} {ReadsFail WritesFail : Type 0} (s : Stepped meaning how a b v w ReadsFail WritesFail) where
  pub HonestRun-Stepped : (f : Option (List ℕ)) → EndsFlushed how w f → HonestRun meaning how a b v w f ReadsFail WritesFail
  HonestRun-Stepped f flushed =
      record {
        run = record {
          taken = s.taken;
          out = s.out;
          consumes = s.consumes;
          appends = s.appends;
          answers = answers meaning how s.taken s.out b s.steps;
          ends = reads_all meaning how s.taken s.out b s.steps;
        };
        honest = s.honest;
        flushed = flushed;
      }

  pub AnswersBeginning-Stepped : AnswersBeginning meaning a v w
  AnswersBeginning-Stepped =
      elim (begins meaning how s.taken s.out b s.steps) [
        | inl p ↦ begins_all meaning a b v w s.taken s.out s.consumes s.appends p
        | inr p ↦
            Consumes-whole a b s.taken (λ input. (output : List ℕ) × (out : List ℕ) × IsOutput meaning input output × IsBeginning out output × Appends v w out) s.consumes p.0
            (output_of meaning s.taken, s.out, IsOutput-output_of meaning s.taken, p.1, s.appends)
      ]

-- ---- the loop

-- so many lines were answered
pub record Answered (meaning : Meaning) (a b v w : Option (List ℕ)) (input : Input) : Type 0 where
  pub lines : List ℕ
  pub used : UsesInput a b unread input lines
  pub whole : AreWhole lines
  pub out : Appends v w (output_of meaning lines)

pub Answered-none : (meaning : Meaning) (a v : Option (List ℕ)) → Answered meaning a a v v unread
Answered-none meaning a v = record { lines = []; used = UsesInput-none a unread; whole = inl refl; out = Appends-nil v }

-- what is whole went out
Transmits-Appends : (F : Type 0) (a b : Option (List ℕ)) (text : List ℕ) (ok : Bool) → Transmits F a b text [] ok → ok ≡ true → Appends a b text
Transmits-Appends F a b text ok s t =
    subst (λ (o : List ℕ). Appends a b o) (sym (append-nil s.out) ∙ (ap (λ (r : List ℕ). s.out ++ r) (sym (s.holds t)) ∙ s.begins)) s.appends

module _ (meaning : Meaning) (RF WF : Type 0) (a b c v w x f : Option (List ℕ)) (input new : Input) (line : Option (List ℕ))
    (so_far : Answered meaning a b v w input) where
  -- the next line was taken
  abbrev Takes : Result Bool Ended → Type 0
  Takes result = TakesLine RF WF b c w x f input new line result

  used : {result : Result Bool Ended} (read : Takes result) → UsesInput a c unread new (so_far.lines ++ read.bytes)
  used read = UsesInput-then a b c unread input new so_far.lines read.bytes so_far.used read.used

  -- nothing more went out
  same_out : {result : Result Bool Ended} → Takes result → Appends v x (output_of meaning so_far.lines)
  same_out read =
      subst (Appends v x) (append-nil (output_of meaning so_far.lines))
      (Appends-trans v w x (output_of meaning so_far.lines) [] so_far.out read.still)

  -- all that was read is the line, and those before it
  all : {result : Result Bool Ended} (read : Takes result) → new.waiting ≡ [] → (used read).read ≡ so_far.lines ++ read.bytes
  all read empty =
      (used read).parts ∙ (ap (λ (t : List ℕ). (so_far.lines ++ read.bytes) ++ t) empty ∙ append-nil (so_far.lines ++ read.bytes))

  -- a read or a flush failed
  pub Stepped-stopped : (why : Ended) → Takes (Err why) → Stepped meaning why a c v x RF WF
  Stepped-stopped ended.Done read = absurd read.ends
  Stepped-stopped ended.Input read =
      let total = (used read).total in
      let size : new.total ≡ length (used read).read = omega arith in
      record {
        taken = (used read).read;
        out = output_of meaning so_far.lines;
        consumes = (used read).consumes;
        appends = same_out read;
        steps = (so_far.lines, read.bytes, all read read.ends.1, so_far.whole, read.ends.0, refl);
        honest = elim read.ends.2 [ inl fails ↦ inr fails | inr many ↦ inl (subst (λ (n : ℕ). most_input ≤ n) size many) ];
      }
  Stepped-stopped ended.Output read = record {
    taken = (used read).read;
    out = output_of meaning so_far.lines;
    consumes = (used read).consumes;
    appends = same_out read;
    steps = inl (so_far.lines, read.bytes, all read read.ends.1, so_far.whole, ([], append-nil (output_of meaning so_far.lines)));
    honest = read.ends.2;
  }

  pub flushed-stopped : (why : Ended) → Takes (Err why) → EndsFlushed why x f
  flushed-stopped ended.Done read = absurd read.ends
  flushed-stopped ended.Input read = read.ends.3
  flushed-stopped ended.Output read = tt

  -- a line with its line feed
  module _ (read : Takes (Ok true)) (y : Option (List ℕ)) (ok : Bool)
      (sent : Transmits WF x y (answer_to meaning (without_ending read.bytes) ++ 10 ∷ []) [] ok) where
    one_more : output_of meaning (so_far.lines ++ read.bytes) ≡ output_of meaning so_far.lines ++ (answer_to meaning (without_ending read.bytes) ++ 10 ∷ [])
    one_more =
        output_of-then meaning so_far.lines read.bytes so_far.whole
        ∙ ap (λ (t : List ℕ). output_of meaning so_far.lines ++ t)
        (output_of-line meaning read.bytes (inl read.ends) (ends-some read.bytes (fed-ends read.bytes read.ends)))

    pub Answered-more : ok ≡ true → Answered meaning a c v y new
    Answered-more t = record {
      lines = so_far.lines ++ read.bytes;
      used = used read;
      whole = AreWhole-more so_far.lines read.bytes read.ends;
      out = subst (Appends v y) (sym one_more)
          (Appends-trans v x y (output_of meaning so_far.lines) _ (same_out read) (Transmits-Appends WF x y _ ok sent t));
    }

    -- bytes were used
    pub fewer-left : left_to_use new < left_to_use input
    fewer-left =
        left_to_use-fewer b c input new read.bytes read.used (so_far.used.bound (omega arith))
        (λ none. ends-some read.bytes (fed-ends read.bytes read.ends) (nil_from_length read.bytes none))

    -- it isn't answered
    pub Stepped-unanswered : ok ≡ false → Stepped meaning ended.Output a c v y RF WF
    Stepped-unanswered f_ = record {
      taken = (used read).read;
      out = output_of meaning so_far.lines ++ sent.out;
      consumes = (used read).consumes;
      appends = Appends-trans v x y (output_of meaning so_far.lines) sent.out (same_out read) sent.appends;
      steps = inl (
        so_far.lines ++ read.bytes,
        new.waiting,
        (used read).parts,
        AreWhole-more so_far.lines read.bytes read.ends,
        (
          sent.rest,
          append_assoc (output_of meaning so_far.lines) sent.out sent.rest
              ∙ (ap (λ (t : List ℕ). output_of meaning so_far.lines ++ t) sent.begins ∙ sym one_more),
        ),
      );
      honest = sent.fails f_;
    }

  -- what is left at the end of the input
  module _ (read : Takes (Ok false)) (y : Option (List ℕ)) (ok : Bool) (sent : Transmits WF x y (output_of meaning read.bytes) [] ok) where
    at_end : IsAtEnd c
    at_end = ((used read).ends (unread-knows a) read.ends.1).0

    whole_output : output_of meaning so_far.lines ++ output_of meaning read.bytes ≡ output_of meaning (used read).read
    whole_output =
        sym (output_of-then meaning so_far.lines read.bytes so_far.whole) ∙ ap (output_of meaning) (sym (all read read.ends.2))

    pub Stepped-done : ok ≡ true → Stepped meaning ended.Done a c v y RF WF
    Stepped-done t = record {
      taken = (used read).read;
      out = output_of meaning so_far.lines ++ output_of meaning read.bytes;
      consumes = (used read).consumes;
      appends = Appends-trans v x y (output_of meaning so_far.lines) (output_of meaning read.bytes) (same_out read) (Transmits-Appends WF x y _ ok sent t);
      steps = (at_end, whole_output);
      honest = tt;
    }

    -- it isn't answered
    pub Stepped-broken : ok ≡ false → Stepped meaning ended.Output a c v y RF WF
    Stepped-broken f_ = record {
      taken = (used read).read;
      out = output_of meaning so_far.lines ++ sent.out;
      consumes = (used read).consumes;
      appends = Appends-trans v x y (output_of meaning so_far.lines) sent.out (same_out read) sent.appends;
      steps = inr (
        at_end,
        (
          sent.rest,
          append_assoc (output_of meaning so_far.lines) sent.out sent.rest
              ∙ (ap (λ (t : List ℕ). output_of meaning so_far.lines ++ t) sent.begins ∙ whole_output),
        ),
      );
      honest = sent.fails f_;
    }
