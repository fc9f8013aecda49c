-- The text of a request reads as it.
use Rattle.std.proofs.Common.{◌≡◌, ℕ, ◌+◌, ◌-◌, false, eqb, ltb, List, [], ◌∷◌, ◌++◌, length, get_or, take, drop, Option, Some, None, refl, sym, ap, subst, ◌∙◌, append_assoc, length-append, arith}
use Rattle.std.specs.Prelude.{decimal, map}
use Rattle.std.specs.Io.BufRead.{ends_with_byte, strip_last}
use Rattle.std.specs.List.{AllByRecursion, after_first}
use Rattle.std.specs.Str.{IsUtf8}
use Rattle.std.proofs.lemmas.Bool.{and_from, cond-true, eq-eqb, lt-ltb}
use Rattle.std.proofs.Math.ListN.{get_or-append}
use Rattle.std.proofs.Math.Seq.{drop-append-add, get_or-append_seam, take-append_seam}
use Rattle.std.proofs.lemmas.List.Elements.{All-append, All-cons, All-nil}
use Rattle.std.proofs.lemmas.List.Splits.{slice_split_at}
use Rattle.std.proofs.lemmas.List.Sums.{position_or_len_is}
use Rattle.std.proofs.lemmas.Str.{IsUtf8-append}
use Rattle.louis_table.specs.Lines.{lines_of}
use Rattle.louis_table.proofs.LineLaws.{pieces_of-line}
use Rattle.desk_model.specs.declared.command.Command.{Command}
use Rattle.desk_line.specs.declared.read.Head.{Head}
use Rattle.desk_line.specs.declared.read.Head.TheVariants as heads
use Rattle.desk_line.specs.declared.request.Request.{Request}
use Rattle.desk_line.specs.declared.request.Request.TheVariants as requests
use Rattle.desk_line.specs.Commands.{form, form_fields}
use Rattle.desk_line.specs.Fields.{fields_of, line_of_fields}
use Rattle.desk_line.specs.HeadLine.{Expects, Says, asks, does, expected, nothing}
use Rattle.desk_line.specs.Lines.{IsShort, after_first_line}
use Rattle.desk_line.specs.Request.{Reads, block_lines, request_of}
use Rattle.desk_line.specs.RequestText.{CanBeWritten, IsSmallIfAny, expecting_line, head_text, query_fields, query_form, request_text}
use Rattle.desk_line.proofs.CommandLaws.{command-said, query-asked}
use Rattle.desk_line.proofs.LackedBytes.{Lacks, one-line}
use Rattle.desk_line.proofs.WrittenFields.{IsPlain, line-plain, number-closed, number-written, word-closed}

-- ---- expected versions

expecting-plain : (expect : Option ℕ) (line : List ℕ) → IsSmallIfAny expect → IsPlain line → IsPlain (expecting_line expect line)
expecting-plain None line h p = p
expecting-plain (Some number) line h p =
    line-plain ((64 ∷ decimal number) ∷ line ∷ []) (sign-plain, (p, tt))
  where
    at : IsPlain (64 ∷ [])
    at = (word-closed (64 ∷ []) refl).plain

    n : IsPlain (decimal number)
    n = (number-closed number h).plain

    sign-plain : IsPlain (64 ∷ decimal number)
    sign-plain = record {
      utf8 = IsUtf8-append (64 ∷ []) (decimal number) at.utf8 n.utf8;
      lone = All-append (λ b. eqb b 10 ≡ false) (64 ∷ []) (decimal number) at.lone n.lone;
    }

line-expects : (expect : Option ℕ) (line : List ℕ) → IsSmallIfAny expect → Expects (fields_of (expecting_line expect line)) expect (fields_of line)
line-expects None line h = nothing refl refl
line-expects (Some number) line h =
    expected (decimal number) number (number-written number h)
    (slice_split_at (λ b. eqb b 32) (64 ∷ decimal number) 32 line
    (All-cons (λ b. eqb b 32 ≡ false) 64 (decimal number) refl (number-closed number h).whole) refl) refl

-- ---- requests

-- a line without its carriage return
return-stripped : (line : List ℕ) → strip_last 13 (line ++ 13 ∷ []) ≡ line
return-stripped line =
    let size = length-append line (13 ∷ []) in
    let most : length (line ++ 13 ∷ []) - 1 ≡ length line = omega arith in
    cond-true (ends_with_byte 13 (line ++ 13 ∷ [])) (take (length (line ++ 13 ∷ []) - 1) (line ++ 13 ∷ [])) (line ++ 13 ∷ [])
    (and_from (ltb 0 (length (line ++ 13 ∷ []))) _ (lt-ltb 0 (length (line ++ 13 ∷ [])) (omega arith))
    (eq-eqb (get_or (line ++ 13 ∷ []) (length (line ++ 13 ∷ []) - 1) 0) 13
    (ap (λ (k : ℕ). get_or (line ++ 13 ∷ []) k 0) most ∙ get_or-append_seam line 13 [] 0)))
    ∙ (ap (λ (k : ℕ). take k (line ++ 13 ∷ [])) most ∙ take-append_seam line (13 ∷ []))

module _ (line text : List ℕ) (lone : Lacks 10 line) where
  front-lone : Lacks 10 (line ++ 13 ∷ [])
  front-lone = All-append (λ b. eqb b 10 ≡ false) line (13 ∷ []) lone (All-cons (λ b. eqb b 10 ≡ false) 13 [] refl (All-nil (λ b. eqb b 10 ≡ false)))

  lines-ended : lines_of (line ++ 13 ∷ 10 ∷ text) ≡ line ∷ lines_of text
  lines-ended =
      ap lines_of (sym (append_assoc line (13 ∷ []) (10 ∷ text)))
      ∙ (ap (map (strip_last 13)) (pieces_of-line (line ++ 13 ∷ []) text (one-line (line ++ 13 ∷ []) front-lone))
      ∙ ap (λ (l : List ℕ). l ∷ lines_of text) (return-stripped line))

  after-feed : (these : List ℕ) → Lacks 10 these → after_first (λ b. eqb b 10) (these ++ 10 ∷ text) ≡ text
  after-feed these h =
      let size = length-append these (10 ∷ text) in
      let place = position_or_len_is (λ b. eqb b 10) (these ++ 10 ∷ text) (length these) 0 (omega arith)
      (λ k lt. ap (λ (b : ℕ). eqb b 10) (get_or-append these (10 ∷ text) 0 k lt) ∙ h k 0 lt)
      (λ lt. ap (λ (b : ℕ). eqb b 10) (get_or-append_seam these 10 text 0)) in
      ap (λ (n : ℕ). drop (n + 1) (these ++ 10 ∷ text)) place ∙ drop-append-add these (10 ∷ text) 1

  after-ended : after_first_line (line ++ 13 ∷ 10 ∷ text) ≡ text
  after-ended = ap after_first_line (sym (append_assoc line (13 ∷ []) (10 ∷ text))) ∙ after-feed (line ++ 13 ∷ []) front-lone

  reads-line : (head : Head) → IsUtf8 line → IsShort line → Says line head → length (lines_of text) ≡ block_lines head
      → AllByRecursion IsShort (lines_of text) → Reads (line ++ 13 ∷ 10 ∷ text) (request_of head text)
  reads-line head utf8 short says counts all = record {
    line = line;
    block = lines_of text;
    head = head;
    lines = lines-ended;
    says = says;
    whole = counts;
    short = all;
    is = ap (request_of head) (sym after-ended);
  }

pub request_text-reads : (request : Request) → CanBeWritten request → Reads (request_text request) request
request_text-reads (requests.Do command expect) can =
    let f = form command in
    let s = command-said command can.fits.0 in
    let line = head_text (requests.Do command expect) in
    let plain = expecting-plain expect (line_of_fields (form_fields f)) can.fits.1 s.plain in
    subst (Reads (request_text (requests.Do command expect))) (ap (λ (c : Command). requests.Do c expect) f.is)
    (reads-line line f.block plain.lone (heads.Do f.directive expect) plain.utf8 can.short
    (does expect (fields_of (line_of_fields (form_fields f))) f.directive (record { short = can.short; utf8 = plain.utf8 })
    (line-expects expect (line_of_fields (form_fields f)) can.fits.1) s.says refl)
    f.counts can.fits.0.block)
request_text-reads (requests.Ask query) can =
    let a = query-asked query can.fits in
    reads-line (line_of_fields (query_fields (query_form query))) [] a.plain.lone (heads.Ask query) a.plain.utf8 can.short
    (asks query (record { short = can.short; utf8 = a.plain.utf8 }) a.says refl) refl tt
