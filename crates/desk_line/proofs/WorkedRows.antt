-- Requests and replies, worked by the definitions alone: they say what these rows say, and not only what the code does.
use Rattle.std.proofs.Common.{◌≡◌, ℕ, ◌<◌, ◌≤◌, true, false, List, [], ◌∷◌, ◌++◌, length, refl, sym, ap, subst, ◌∙◌, lit≤, arith}
use Rattle.std.specs.Prelude.{Some, None, codes}
use Rattle.std.specs.Char.{encode_utf8}
use Rattle.std.specs.Str.{chars, all_scalars, encode_utf8_all, is_utf8}
use Rattle.std.specs.Fmt.{digits}
use Rattle.louis_table.specs.declared.en.TheConstants.{EN}
use Rattle.louis_table.specs.Lines.{lines_of}
use Rattle.desk_model.specs.declared.command.Anchor.TheVariants.{End}
use Rattle.desk_model.specs.declared.command.Command.TheVariants as commands
use Rattle.desk_model.specs.declared.refusal.Limit.TheVariants as limits
use Rattle.desk_model.specs.declared.refusal.Refusal.TheVariants as refusals
use Rattle.desk_model.specs.declared.style.Style.TheVariants.{Body}
use Rattle.desk_model.specs.Book.{empty_book, Corrects, Undoes, new_mark}
use Rattle.desk_line.specs.declared.answer.Answer.TheVariants as answers
use Rattle.desk_line.specs.declared.directive.Directive.TheVariants.{Whole, Table}
use Rattle.desk_line.specs.declared.read.Head.{Head}
use Rattle.desk_line.specs.declared.read.Head.TheVariants as heads
use Rattle.desk_line.specs.declared.request.Query.TheVariants as queries
use Rattle.desk_line.specs.declared.request.Request.{Request}
use Rattle.desk_line.specs.declared.request.Request.TheVariants as requests
use Rattle.desk_line.specs.Fields.{IsNumber, end, fields_of}
use Rattle.desk_line.specs.Commands.{SaysDirective, form, form_fields}
use Rattle.desk_line.specs.HeadLine.{Says, asks, does, expected, nothing}
use Rattle.desk_line.specs.Lines.{CanBeHead}
use Rattle.desk_line.specs.ReadingSteps.{head_in, head_of, query_in, directive_in, first_of, number_in, count_in, anchor_in}
use Rattle.desk_line.specs.Answered.{Replies, asked, no_request}
use Rattle.desk_line.specs.ReplyLines.{IsReply, entry_line, list_line, mark_line, no_paragraph, refusal_line, refused as refused_query, shown, shown_line, shown_text, version as shows_version}
use Rattle.desk_line.specs.Request.{IsWhole, Reads, Requests, Takes, WholeRequests, last, said, unsaid, whole}
use Rattle.desk_line.proofs.HeadLines.{head-of-long, head-of-text}
use Rattle.desk_line.proofs.HeadLaws.{head-found}
use Rattle.desk_ends.specs.Lines.{feeds}
use Rattle.desk_ends.proofs.LineFeeds.{feeds-append}
use Rattle.desk_line.proofs.RequestLaws.{heads-same}

-- ---- lines

-- `a`, a line feed, an empty line with a carriage return, and `b` without a line feed
lines-of-an-input : lines_of (97 ∷ 10 ∷ 13 ∷ 10 ∷ 98 ∷ []) ≡ (97 ∷ []) ∷ [] ∷ (98 ∷ []) ∷ []
lines-of-an-input = refl

-- a carriage return alone is a line, and of two one is dropped
lone-return : lines_of (13 ∷ []) ≡ [] ∷ []
lone-return = refl

two-returns : lines_of (97 ∷ 13 ∷ 13 ∷ 10 ∷ []) ≡ (97 ∷ 13 ∷ []) ∷ []
two-returns = refl

-- ---- head lines

number-with-zeros : IsNumber (codes "007") 7
number-with-zeros = record { numeral = (lit≤ tt, (lit≤ tt, (lit≤ tt, (lit≤ tt, tt)))); short = lit≤ tt; value = refl; small = lit≤ tt }

one-is-a-number : IsNumber (codes "1") 1
one-is-a-number = record { numeral = (lit≤ tt, (lit≤ tt, tt)); short = lit≤ tt; value = refl; small = lit≤ tt }

nine-is-a-number : IsNumber (codes "9") 9
nine-is-a-number = record { numeral = (lit≤ tt, (lit≤ tt, tt)); short = lit≤ tt; value = refl; small = lit≤ tt }

zero-is-a-number : IsNumber (codes "0") 0
zero-is-a-number = record { numeral = (lit≤ tt, (lit≤ tt, tt)); short = lit≤ tt; value = refl; small = lit≤ tt }

-- a short line of ASCII
text-of-line : (line : List ℕ) → length line ≤ 65536 → all_scalars line ≡ true → encode_utf8_all line ≡ line → CanBeHead line
text-of-line line short scalars same = record { short = short; utf8 = (line, (scalars, same)) }

strike-a-paragraph : Says (codes "strike 1") (heads.Do (Whole (commands.Strike 1)) None)
unfolding encode_utf8
strike-a-paragraph =
    does None (fields_of (codes "strike 1")) (Whole (commands.Strike 1)) (text-of-line (codes "strike 1") (lit≤ tt) refl refl) (nothing refl refl)
    (codes "1", [], 1, refl, one-is-a-number, (refl, refl)) refl

strike-at-a-version : Says (codes "@9 strike 1") (heads.Do (Whole (commands.Strike 1)) (Some 9))
unfolding encode_utf8
strike-at-a-version =
    does (Some 9) (codes "strike" ∷ codes "1" ∷ []) (Whole (commands.Strike 1)) (text-of-line (codes "@9 strike 1") (lit≤ tt) refl refl)
    (expected (codes "9") 9 nine-is-a-number refl refl) (codes "1", [], 1, refl, one-is-a-number, (refl, refl)) refl

supplied-table : SaysDirective (fields_of (codes "supply en")) (Whole (commands.Table (chars (codes "en")) EN.now))
supplied-table = (codes "en", [], chars (codes "en"), refl, (λ n. cc, refl), (refl, refl))

-- an empty text, with the blank before it or without
typed-nothing : SaysDirective (fields_of (codes "type end en")) (Whole (commands.TypeIn End (chars (codes "en")) (chars [])))
typed-nothing = (codes "end", codes "en" ∷ [], End, refl, end refl refl, (codes "en", [], chars (codes "en"), refl, (λ n. cc, refl), refl))

typed-nothing-after-a-blank : SaysDirective (fields_of (codes "type end en ")) (Whole (commands.TypeIn End (chars (codes "en")) (chars [])))
typed-nothing-after-a-blank = (codes "end", codes "en" ∷ [] ∷ [], End, refl, end refl refl, (codes "en", [] ∷ [], chars (codes "en"), refl, (λ n. cc, refl), refl))

-- a correction by nothing, without the blank before it, and one by a proofreader, whose text keeps its blanks
erased : SaysDirective (fields_of (codes "correct 1 0 9")) (Whole (commands.Correct 1 0 9 (chars []) []))
erased = (
  codes "1",
  codes "0" ∷ codes "9" ∷ [],
  1,
  refl,
  one-is-a-number,
  (codes "0", codes "9" ∷ [], 0, refl, zero-is-a-number, (codes "9", [], 9, refl, nine-is-a-number, refl)),
)

corrected-by-ann : SaysDirective (fields_of (codes "correct-by Ann 1 0 9  a")) (Whole (commands.Correct 1 0 9 (chars (codes " a")) (chars (codes "Ann"))))
corrected-by-ann = (
  codes "Ann",
  codes "1" ∷ codes "0" ∷ codes "9" ∷ [] ∷ codes "a" ∷ [],
  chars (codes "Ann"),
  refl,
  (λ n. cc, refl),
  (
    codes "1",
    codes "0" ∷ codes "9" ∷ [] ∷ codes "a" ∷ [],
    1,
    refl,
    one-is-a-number,
    (
      codes "0",
      codes "9" ∷ [] ∷ codes "a" ∷ [],
      0,
      refl,
      zero-is-a-number,
      (codes "9", [] ∷ codes "a" ∷ [], 9, refl, nine-is-a-number, refl),
    ),
  ),
)

-- a text keeps its blanks
typed-blanks : SaysDirective (fields_of (codes "type end en  a b")) (Whole (commands.TypeIn End (chars (codes "en")) (chars (codes " a b"))))
typed-blanks = (codes "end", codes "en" ∷ [] ∷ codes "a" ∷ codes "b" ∷ [], End, refl, end refl refl, (codes "en", [] ∷ codes "a" ∷ codes "b" ∷ [], chars (codes "en"), refl, (λ n. cc, refl), refl))

-- how commands are written: corrections by nobody and by Ann, and a table of two lines
written-correction : form_fields (form (commands.Correct 1 0 9 (codes "dog") [])) ≡ codes "correct" ∷ codes "1" ∷ codes "0" ∷ codes "9" ∷ codes "dog" ∷ []
unfolding digits encode_utf8
written-correction = refl

written-by-ann : form_fields (form (commands.Correct 1 0 9 (codes "dog") (codes "Ann")))
    ≡ codes "correct-by" ∷ codes "Ann" ∷ codes "1" ∷ codes "0" ∷ codes "9" ∷ codes "dog" ∷ []
unfolding digits encode_utf8
written-by-ann = refl

written-table : form_fields (form (commands.Table (codes "x") (codes "a\nb"))) ≡ codes "table" ∷ codes "x" ∷ codes "2" ∷ []
unfolding digits encode_utf8
written-table = refl

-- what says nothing
silent : (line : List ℕ) → CanBeHead line → head_in (fields_of line) ≡ None → (head : Head) → ¬ Says line head
silent line text none head says = let e = sym none ∙ (sym (head-of-text line text.short text.utf8) ∙ head-found line head says) in cc

two-blanks : (head : Head) → ¬ Says (codes "print  1") head
unfolding encode_utf8 head_in query_in directive_in first_of number_in
two-blanks = silent (codes "print  1") (text-of-line (codes "print  1") (lit≤ tt) refl refl) refl

blank-at-the-end : (head : Head) → ¬ Says (codes "version ") head
unfolding encode_utf8 head_in query_in directive_in first_of number_in
blank-at-the-end = silent (codes "version ") (text-of-line (codes "version ") (lit≤ tt) refl refl) refl

query-at-a-version : (head : Head) → ¬ Says (codes "@1 version") head
unfolding encode_utf8 head_in query_in directive_in first_of number_in
query-at-a-version = silent (codes "@1 version") (text-of-line (codes "@1 version") (lit≤ tt) refl refl) refl

empty-name : (head : Head) → ¬ Says (codes "type end  x") head
unfolding encode_utf8 head_in query_in directive_in first_of anchor_in
empty-name = silent (codes "type end  x") (text-of-line (codes "type end  x") (lit≤ tt) refl refl) refl

empty-line : (head : Head) → ¬ Says [] head
unfolding encode_utf8 head_in query_in directive_in first_of
empty-line = silent [] (text-of-line [] (lit≤ tt) refl refl) refl

too-many-lines : (head : Head) → ¬ Says (codes "table x 20001") head
unfolding encode_utf8 head_in query_in directive_in first_of count_in number_in
too-many-lines = silent (codes "table x 20001") (text-of-line (codes "table x 20001") (lit≤ tt) refl refl) refl

-- ---- requests

-- a table of no line, at the end of an input
table-of-nothing : Reads (codes "table t 0") (requests.Do (commands.Table (chars (codes "t")) []) None)
unfolding encode_utf8
table-of-nothing = record {
  line = codes "table t 0";
  block = [];
  head = heads.Do (Table (chars (codes "t")) 0) None;
  lines = refl;
  says = does None (fields_of (codes "table t 0")) (Table (chars (codes "t")) 0) (text-of-line (codes "table t 0") (lit≤ tt) refl refl)
      (nothing refl refl) (codes "t", codes "0" ∷ [], chars (codes "t"), refl, (λ n. cc, refl), (codes "0", [], 0, refl, (zero-is-a-number, lit≤ tt), (refl, refl))) refl;
  whole = refl;
  short = tt;
  is = refl;
}

-- a query, and a line that says nothing, are a whole request each
asked-version : IsWhole (codes "version\n")
unfolding encode_utf8
asked-version = record {
  line = codes "version";
  block = [];
  lines = refl;
  takes = said (heads.Ask queries.Version) (asks queries.Version (text-of-line (codes "version") (lit≤ tt) refl refl) (refl, refl) refl) refl;
  front = codes "version";
  ends = refl;
}

line-of-nothing : IsWhole (codes "\n")
line-of-nothing = record { line = []; block = []; lines = refl; takes = unsaid empty-line refl; front = []; ends = refl }

cut-of-an-input : Requests (codes "version\n\n") (codes "version\n" ∷ codes "\n" ∷ [])
cut-of-an-input = (codes "\n", refl, whole asked-version, ([], refl, whole line-of-nothing, refl))

-- a last line of a carriage return alone
cut-at-a-return : Requests (codes "version\n\r") (codes "version\n" ∷ codes "\r" ∷ [])
cut-at-a-return = (
  codes "\r",
  refl,
  whole asked-version,
  ([], refl, last refl (record { line = []; block = []; lines = refl; count = 0; takes = unsaid empty-line refl; most = lit≤ tt }), refl),
)

-- a table of two lines
two-is-a-number : IsNumber (codes "2") 2
two-is-a-number = record { numeral = (lit≤ tt, (lit≤ tt, tt)); short = lit≤ tt; value = refl; small = lit≤ tt }

table-of-two : Takes (codes "table x 2") 2
unfolding encode_utf8
table-of-two =
    said (heads.Do (Table (chars (codes "x")) 2) None)
    (does None (fields_of (codes "table x 2")) (Table (chars (codes "x")) 2) (text-of-line (codes "table x 2") (lit≤ tt) refl refl)
    (nothing refl refl) (codes "x", codes "2" ∷ [], chars (codes "x"), refl, (λ n. cc, refl), (codes "2", [], 2, refl, (two-is-a-number, lit≤ tt), (refl, refl))) refl) refl

-- it takes its lines whatever they say
whole-table : IsWhole (codes "table x 2\nversion\na\r\n")
whole-table = record {
  line = codes "table x 2";
  block = codes "version" ∷ codes "a" ∷ [];
  lines = refl;
  takes = table-of-two;
  front = codes "table x 2\nversion\na\r";
  ends = refl;
}

cut-after-a-table : Requests (codes "table x 2\nversion\na\r\nversion\n") (codes "table x 2\nversion\na\r\n" ∷ codes "version\n" ∷ [])
cut-after-a-table = (codes "version\n", refl, whole whole-table, ([], refl, whole asked-version, refl))

-- the input ends before its second line, or within it
short-block : Requests (codes "table x 2\na\n") (codes "table x 2\na\n" ∷ [])
short-block = (
  [],
  refl,
  last refl (record { line = codes "table x 2"; block = codes "a" ∷ []; lines = refl; count = 2; takes = table-of-two; most = lit≤ tt }),
  refl,
)

cut-block : Requests (codes "table x 2\na\nb") (codes "table x 2\na\nb" ∷ [])
cut-block = (
  [],
  refl,
  last refl (record { line = codes "table x 2"; block = codes "a" ∷ codes "b" ∷ []; lines = refl; count = 2; takes = table-of-two; most = lit≤ tt }),
  refl,
)

-- a table of too many lines takes none
cut-after-too-many : Requests (codes "table x 20001\nversion\n") (codes "table x 20001\n" ∷ codes "version\n" ∷ [])
cut-after-too-many = (
  codes "version\n",
  refl,
  whole (record { line = codes "table x 20001"; block = []; lines = refl; takes = unsaid too-many-lines refl; front = codes "table x 20001"; ends = refl }),
  ([], refl, whole asked-version, refl),
)

-- a `table` line that isn't UTF-8 takes none
cut-after-bytes : Requests (codes "table " ++ 255 ∷ codes " 1\nversion\n") ((codes "table " ++ 255 ∷ codes " 1\n") ∷ codes "version\n" ∷ [])
unfolding is_utf8 chars encode_utf8
cut-after-bytes = (
  codes "version\n",
  refl,
  whole (record {
    line = codes "table " ++ 255 ∷ codes " 1";
    block = [];
    lines = refl;
    takes = unsaid (λ head says. let none : head_of (codes "table " ++ 255 ∷ codes " 1") ≡ None = refl in let e = sym none ∙ head-found _ head says in cc) refl;
    front = codes "table " ++ 255 ∷ codes " 1";
    ends = refl;
  }),
  ([], refl, whole asked-version, refl),
)

-- a line that is too long takes none, whatever it says
long-line : (line : List ℕ) → 65536 < length line → Takes line 0
long-line line long = unsaid (λ head says. let e = sym (head-of-long line long) ∙ head-found line head says in cc) refl

-- an expected version doesn't change what a `table` line takes, nor does a name that no table may have
table-at-a-version : Takes (codes "@9 table x 1") 1
unfolding encode_utf8
table-at-a-version =
    said (heads.Do (Table (chars (codes "x")) 1) (Some 9))
    (does (Some 9) (codes "table" ∷ codes "x" ∷ codes "1" ∷ []) (Table (chars (codes "x")) 1) (text-of-line (codes "@9 table x 1") (lit≤ tt) refl refl)
    (expected (codes "9") 9 nine-is-a-number refl refl) (codes "x", codes "1" ∷ [], chars (codes "x"), refl, (λ n. cc, refl), (codes "1", [], 1, refl, (one-is-a-number, lit≤ tt), (refl, refl))) refl) refl

table-of-a-bad-name : Takes (codes "table T 1") 1
unfolding encode_utf8
table-of-a-bad-name =
    said (heads.Do (Table (chars (codes "T")) 1) None)
    (does None (fields_of (codes "table T 1")) (Table (chars (codes "T")) 1) (text-of-line (codes "table T 1") (lit≤ tt) refl refl)
    (nothing refl refl) (codes "T", codes "1" ∷ [], chars (codes "T"), refl, (λ n. cc, refl), (codes "1", [], 1, refl, (one-is-a-number, lit≤ tt), (refl, refl))) refl) refl

-- of bytes after which a read failed, a line that is cut isn't a request
none-within-a-line : (request later : List ℕ) → codes "strike" ≡ request ++ later → ¬ IsWhole request
none-within-a-line request later e w =
    let feeds-of = feeds-append request later in
    let h : 0 ≡ feeds (request ++ later) = ap feeds e in
    let some : feeds request ≡ feeds (w.front ++ 10 ∷ []) = ap feeds w.ends in
    omega (arith, feeds-append w.front (10 ∷ []))

whole-of-a-cut-input : WholeRequests (codes "version\nstrike") (codes "version\n" ∷ [])
whole-of-a-cut-input = (codes "strike", refl, asked-version, none-within-a-line)

-- ---- replies

reply-to-a-typed-paragraph : IsReply (record empty_book { version = 2 }) (answers.Done (Some 1)) (codes "ok 2 1\n")
unfolding digits
reply-to-a-typed-paragraph = refl

untranslatable : refusal_line (refusals.Untranslatable 1 0) ≡ codes "no 9 1 0\n"
unfolding digits
untranslatable = refl

bad-table : refusal_line (refusals.BadTable (record { line = 2; cause = 9 })) ≡ codes "no 8 2 9\n"
unfolding digits
bad-table = refl

full-of-versions : refusal_line (refusals.Full limits.Version) ≡ codes "no 15 5\n"
unfolding digits
full-of-versions = refl

nothing-to-undo : refusal_line refusals.NothingToUndo ≡ codes "no 10\n"
unfolding digits
nothing-to-undo = refl

-- the list of a book with the paragraph 1, `The cat`, that uses the table `en`
list_line-paragraph : shown_line (list_line (record { id = 1; table = codes "en"; original = codes "The cat"; history = []; style = Body; begins_volume = false; struck = false }))
    ≡ codes "| 1 en body - live 7\n"
unfolding digits encode_utf8
list_line-paragraph = refl

-- entries of a history: a correction that puts nothing in the place of nine characters, the same by Ann, and an undo
erased-line : shown_line (entry_line (3, Corrects (record { start = 0; count = 9; text = [] }) [])) ≡ codes "| 3 correct 0 9 \n"
unfolding digits
erased-line = refl

named-line : shown_line (entry_line (3, Corrects (record { start = 4; count = 3; text = codes "dog" }) (codes "Ann"))) ≡ codes "| 3 correct-by Ann 4 3 dog\n"
unfolding digits encode_utf8
named-line = refl

undo-line : shown_line (entry_line (4, Undoes 3)) ≡ codes "| 4 undo 3\n"
unfolding digits
undo-line = refl

-- a mark that a correction has touched
touched-mark : shown_line (mark_line (record (new_mark 1 2 0 0 (codes "cat?")) { touched = true }))
    ≡ codes "| 1 0 0 open touched cat?\n"
unfolding digits encode_utf8
touched-mark = refl

-- print outside of ASCII: `a’s`, with U+2019
shown-quote : shown_line (shown_text (97 ∷ 8217 ∷ 115 ∷ [])) ≡ codes "| a" ++ 226 ∷ 128 ∷ 153 ∷ codes "s\n"
unfolding encode_utf8
shown-quote = refl

-- an empty print
shown-nothing : shown_line [] ≡ codes "| \n"
shown-nothing = refl

-- the replies to a query of the version, to one of a paragraph that isn't there, to what isn't a request, and to a
-- command that couldn't be kept
reply-of-the-version : IsReply empty_book (answers.Asked queries.Version) (codes "end 0\n")
unfolding digits
reply-of-the-version = shown [] (shows_version refl refl) refl

reply-of-no-paragraph : IsReply empty_book (answers.Asked (queries.Print 1)) (codes "no 2\n")
unfolding digits
reply-of-no-paragraph = refused_query refusals.NoParagraph (no_paragraph 1 refl refl refl) refl

reply-to-no-request : IsReply empty_book answers.Syntax (codes "no 1\n")
unfolding digits
reply-to-no-request = refl

reply-where-nothing-was-kept : IsReply empty_book answers.Lost (codes "no 91\n")
unfolding digits
reply-where-nothing-was-kept = refl

-- ---- what is replied to requests

-- a query is answered on the book as it is, and what isn't a request by code 1
asked-and-replied : Replies (codes "version\n") empty_book empty_book (codes "end 0\n")
unfolding encode_utf8
asked-and-replied = record {
  answer = answers.Asked queries.Version;
  answered = asked queries.Version (record {
    line = codes "version";
    block = [];
    head = heads.Ask queries.Version;
    lines = refl;
    says = asks queries.Version (text-of-line (codes "version") (lit≤ tt) refl refl) (refl, refl) refl;
    whole = refl;
    short = tt;
    is = refl;
  }) refl refl;
  reply = reply-of-the-version;
}

-- no request reads from an empty line
empty-line-unread : (request : Request) → ¬ Reads (codes "\n") request
empty-line-unread request r = empty-line r.head (subst (λ (l : List ℕ). Says l r.head) (sym (heads-same [] r.line [] r.block r.lines)) r.says)

nothing-and-replied : Replies (codes "\n") empty_book empty_book (codes "no 1\n")
nothing-and-replied = record {
  answer = answers.Syntax;
  answered = no_request empty-line-unread refl refl;
  reply = reply-to-no-request;
}
