-- Words that an action's own command accepts ask for it.
use Rattle.std.proofs.Common.{◌≡◌, ◌∙◌, inl, inr, ℕ, Bool, Bor, cond, true, false, not, refl, sym, ap, subst, List, [], ◌∷◌, ◌||◌, Option, Some, None, codes, true≢false, rules, ◌≢◌, MatchOption, ◌≤◌, IfSome, IsSomeAnd, find, is_some, option_map, unwrap_or, bytes_eq}
use Rattle.std.specs.Option.{option_map_or}
use Rattle.std.specs.List.{fold, AllByRecursion as Each}
use Rattle.std.specs.Str.Parse.{digits_value, without_leading_plus}
use Rattle.clap.specs.Kinds.{check_kinds, or_else}
use Rattle.clap.specs.Facts.{parser_of_value}
use Rattle.clap.specs.Faults.{built_fault, check_fault, entered_fault, fault_of, level_fault}
use Rattle.clap.specs.Simple.{App, Shape, argument_words, built, built_leaf, entered, label_of, names_of, rows_at, inherited, filled, help_rule, marked_built, with_index, with_leaf_noted}
use Rattle.clap.specs.Takes.{is_given}
use Rattle.clap.specs.Values.{IsUnsignedIn, read_as, reading_of}
use Rattle.clap.specs.ValueTests.{accepts}
use Rattle.clap.specs.Walk.{Row, Rule, Text, answers_to, arg_by_id, has_row, nothing_held, one_of, rows_after, settled, stop_after, walk, with_default}
use Rattle.clap.specs.declared.builder.value_parser.ValueParser.{ValueParser}
use Rattle.clap.specs.declared.builder.value_parser.ValueParser.TheVariants.{Unsigned}
use Rattle.clap.specs.declared.error.kind.ErrorKind.{ErrorKind}
use Rattle.clap.proofs.ValueTestLemmas.{accepts-Accepts}
use Rattle.desk_words.specs.Action.{Asks, Counts, HasDefault, IsAsked, IsWithinLimits, Names}
use Rattle.desk_words.specs.Subcommands.{acts, export, on_file, operand, size, translate, whole, within}
use Rattle.desk_words.specs.Words.{IsNamedByWords, NameAnAction}
use Rattle.desk_words.specs.declared.action.Action.{Action}
use Rattle.desk_words.specs.declared.action.Action.TheVariants.{Check, Export, New, Session, Translate}
use Rattle.clap.specs.declared.parser.matches.ArgMatches.{ArgMatches}
use Rattle.desk_words.proofs.OneWord.{Finds, IsPlainOf, default_row, found_word, given_row, ones_found, rows_stay}
use Rattle.desk_words.proofs.Walked.{no_fault}

-- the shape by which an action of the program reads its words
abbrev pub entered_as : Shape → Shape
entered_as s = built_leaf (inherited (with_leaf_noted (marked_built whole.top)) s)

abbrev Text_named : Shape → Text → List Text → Type 0
Text_named s id words = (text : Text) × Names (rows_after (entered_as s).rules [] words) id text

-- nothing that is wanted is missing
all_there : (missing : Bool) → check_kinds false false missing ≡ [] → missing ≡ false
all_there true e = cc
all_there false e = refl

one_there : (given rest : Bool) → (not given || rest) ≡ false → (given ≡ true) × (rest ≡ false)
one_there true rest e = (refl, e)
one_there false rest e = cc

single_is_plain : (name id : Text) → bytes_eq id id ≡ true → bytes_eq id (codes "help") ≡ false
    → Each (IsPlainOf (entered_as (acts name (operand id ∷ []))).rules) (entered_as (acts name (operand id ∷ []))).rules
single_is_plain name id same other = search rules

-- an action with one operand
single_named : (name id : Text) → bytes_eq id id ≡ true → bytes_eq id (codes "help") ≡ false → (words : List Text)
    → level_fault (entered_as (acts name (operand id ∷ []))) [] nothing_held words false [] ≡ [] → Text_named (acts name (operand id ∷ [])) id words
single_named name id same other words e =
    let s = entered_as (acts name (operand id ∷ [])) in
    let rows = rows_after s.rules [] words in
    let found = ones_found s refl (single_is_plain name id same other) words e in
    let given = (one_there (is_given id rows) false (all_there _ found.1)).0 in
    let word = found_word s.rules id rows found.0 (given_row id rows given) in
    (word.text, word.first)

-- ---- an export

abbrev file_rule : Rule
file_rule = with_index 1 (filled (operand (codes "file")))

abbrev volume_rule : Rule
volume_rule = with_index 2 (filled (within 1 20000 (operand (codes "volume"))))

abbrev width_rule : Rule
width_rule = filled (within 10 60 (size (codes "width") (codes "40")))

abbrev lines_rule : Rule
lines_rule = filled (within 5 40 (size (codes "lines") (codes "25")))

export_is_plain : Each (IsPlainOf (entered_as export).rules) (entered_as export).rules
export_is_plain = search rules

accepted : (passes : Bool) (k : ErrorKind) → or_else (cond passes [] (k ∷ [])) [] ≡ [] → passes ≡ true
accepted true k e = refl
accepted false k e = cc

-- a number within limits is read as it was written
number_found : (c : List Rule) (rows : List Row) (id : Text) (low high : ℕ) (a : Rule) → arg_by_id c id ≡ Some a → a.parser ≡ Some (Unsigned low high) → Finds c rows id
    → (n : ℕ) × Counts rows id n × (low ≤ n) × (n ≤ high) × ((default : Text) → a.defaults ≡ default ∷ [] → HasDefault rows id n (digits_value 10 (without_leading_plus default)))
number_found c rows id low high a is parser found =
    let same : found.rule ≡ a = ap (λ o. unwrap_or o a) (sym found.is ∙ is) in
    let within : parser_of_value found.rule.parser ≡ Unsigned low high = ap (λ (r : Rule). parser_of_value r.parser) same ∙ ap parser_of_value parser in
    let passes : accepts found.rule.ignore_case (parser_of_value found.rule.parser) found.text ≡ true = accepted _ _ found.passes in
    let number : IsUnsignedIn low high found.text =
    accepts-Accepts found.rule.ignore_case (Unsigned low high) found.text (subst (λ (p : ValueParser). accepts found.rule.ignore_case p found.text ≡ true) within passes) in
    let read : one_of id rows ≡ Some found.text = found.one ∙ ap (λ (p : ValueParser). Some (read_as (reading_of p) found.text)) within in (
      digits_value 10 (without_leading_plus found.text),
      record { text = found.text; given = read; numeral = number.0; value = refl; fits = number.1 },
      number.2,
      number.3,
      λ default is_default free. elim found.source [
        | inl given ↦ absurd (true≢false (sym given ∙ free))
        | inr own ↦ let one : found.text ∷ [] ≡ default ∷ [] = sym own ∙ (ap (λ (r : Rule). r.defaults) same ∙ is_default) in
            let text : found.text ≡ default = cc in
            ap (λ (t : Text). digits_value 10 (without_leading_plus t)) text
      ],
    )

-- the width and the lines have a row, whatever was read
export_sizes : (read : List Row) → let rows = fold with_default read (entered_as export).rules in (has_row (codes "width") rows ≡ true) × (has_row (codes "lines") rows ≡ true)
export_sizes read =
    let before = fold with_default read (file_rule ∷ volume_rule ∷ []) in
    let width = default_row width_rule (codes "40") before refl in
    let lines = default_row lines_rule (codes "25") (with_default before width_rule) refl in (
      rows_stay (codes "width") (lines_rule ∷ filled help_rule ∷ []) (with_default before width_rule) width,
      rows_stay (codes "lines") (filled help_rule ∷ []) (with_default (with_default before width_rule) lines_rule) lines,
    )

abbrev Exports : List Row → Type 0
Exports rows = (file : Bor Text) × (volume : ℕ) × (width : ℕ) × (lines : ℕ) × Asks (codes "export") rows (Export file volume width lines) × IsWithinLimits rows (Export file volume width lines)

export_named : (words : List Text) → level_fault (entered_as export) [] nothing_held words false [] ≡ [] → Exports (rows_after (entered_as export).rules [] words)
export_named words e =
    let s = entered_as export in
    let read = (settled s.rules (walk s.rules [] nothing_held words).held).rows in
    let rows = rows_after s.rules [] words in
    let found = ones_found s refl export_is_plain words e in
    let file_given = one_there (is_given (codes "file") rows) _ (all_there _ found.1) in
    let volume_given = one_there (is_given (codes "volume") rows) false file_given.1 in
    let file = found_word s.rules (codes "file") rows found.0 (given_row _ rows file_given.0) in
    let volume = number_found s.rules rows (codes "volume") 1 20000 volume_rule refl refl (found_word s.rules (codes "volume") rows found.0 (given_row _ rows volume_given.0)) in
    let width = number_found s.rules rows (codes "width") 10 60 width_rule refl refl (found_word s.rules (codes "width") rows found.0 (export_sizes read).0) in
    let lines = number_found s.rules rows (codes "lines") 5 40 lines_rule refl refl (found_word s.rules (codes "lines") rows found.0 (export_sizes read).1) in
    let text : Bor Text = record { ref_ptr = (0, 0); now = file.text } in (
      text,
      volume.0,
      width.0,
      lines.0,
      (refl, file.first, volume.1, width.1, lines.1),
      (
        record { volume_from = volume.2; volume_to = volume.3; width_from = width.2; width_to = width.3; lines_from = lines.2; lines_to = lines.3 },
        width.4 (codes "40") refl,
        lines.4 (codes "25") refl,
      ),
    )

-- ---- a subcommand

-- words that the command accepts ask for an action
abbrev pub NamesOne : Shape → Type 0
NamesOne s = (words : List Text) → level_fault s [] nothing_held words false [] ≡ [] → (action : Action) × Asks s.name (rows_after s.rules [] words) action × IsWithinLimits (rows_after s.rules [] words) action

file_named : (name : Text) (words : List Text) → level_fault (entered_as (on_file name)) [] nothing_held words false [] ≡ []
    → (file : Bor Text) × Names (rows_after (entered_as (on_file name)).rules [] words) (codes "file") file.now
file_named name words e =
    let file = single_named name (codes "file") refl refl words e in
    (record { ref_ptr = (0, 0); now = file.0 }, file.1)

new_named : NamesOne (entered_as (on_file (codes "new")))
new_named words e =
    let file = file_named (codes "new") words e in
    (New file.0, (refl, file.1), tt)

session_named : NamesOne (entered_as (on_file (codes "session")))
session_named words e =
    let file = file_named (codes "session") words e in
    (Session file.0, (refl, file.1), tt)

export_one : NamesOne (entered_as export)
export_one words e =
    let x = export_named words e in
    (Export x.0 x.1 x.2 x.3, x.4, x.5)

translate_named : NamesOne (entered_as translate)
translate_named words e =
    let table = single_named (codes "translate") (codes "table") refl refl words e in
    (Translate (record { ref_ptr = (0, 0); now = table.0 }), (refl, table.1), tt)

check_named : NamesOne (entered_as (on_file (codes "check")))
check_named words e =
    let file = file_named (codes "check") words e in
    (Check file.0, (refl, file.1), tt)

-- ---- the program

-- a command that wants a subcommand has one
wanted : (help wants missing : Bool) → wants ≡ true → check_kinds help wants missing ≡ [] → false ≡ true
wanted true wants missing is e = cc
wanted false true missing is e = cc
wanted false false missing is e = is

one_entered : (s : Shape) (rows : List Row) (has : Bool) → s.subcommand_required ≡ true → check_fault s rows has ≡ [] → has ≡ true
one_entered s rows true wants e = refl
one_entered s rows false wants e = search rules

one_met : (p : Shape → Bool) (subs : List Shape) → Each NamesOne subs → IfSome (find p subs) NamesOne
one_met p [] each = tt
one_met p (s ∷ subs) each = go (p s) (one_met p subs each.1)
  where
    go : (b : Bool) → IfSome (find p subs) NamesOne → IfSome (cond b (Some s) (find p subs)) NamesOne
    go true h = each.0
    go false h = h

abbrev AsksOne : Option (Text × List Row) → Type 0
AsksOne entered = (action : Action) × IsSomeAnd entered (λ found. Asks found.0 found.1 action) × IsSomeAnd entered (λ found. IsWithinLimits found.1 action)

found_asks : (words : List Text) (found : Option Shape) → IfSome found NamesOne → option_map_or (λ s. level_fault s [] nothing_held words false []) found [] ≡ []
    → is_some (option_map (λ s. rows_at s words) found) ≡ true → AsksOne (option_map (λ s. rows_at s words) found)
found_asks words None names e has = absurd (true≢false (sym has))
found_asks words (Some s) names e has = names words e

stop_asks : (a : App) → Each NamesOne a.subs → (stop : Option (Text × List Text)) → entered_fault a stop ≡ [] → is_some (entered a stop) ≡ true → AsksOne (entered a stop)
stop_asks a each None e has = absurd (true≢false (sym has))
stop_asks a each (Some p) e has = found_asks p.1 (find (λ s. answers_to p.0 (label_of s)) a.subs) (one_met _ a.subs each) e has

-- words in which a command of such subcommands finds no fault ask for an action
pub taken_asks : (a : App) → a.top.subcommand_required ≡ true → Each NamesOne a.subs → (words : List Text) → built_fault a nothing_held words ≡ []
    → AsksOne (entered a (stop_after a.top.rules (names_of a) words))
taken_asks a wants each words e = search (rules, no_fault, stop_asks, one_entered, is_some)

pub whole_named : (words : List Text) → fault_of whole words ≡ [] → NameAnAction whole words
whole_named words e =
    let asked = taken_asks (built whole) refl (new_named, (session_named, (export_one, (translate_named, (check_named, tt))))) (argument_words whole words) e in
    (asked.0, (record { taken = e; asked = asked.1 }, asked.2))

-- ---- by the matches

-- the action that the matches ask for is the one that the words name
pub named_by_words : (app : App) (m : ArgMatches) (result : Option Action) → MatchOption result ((action : Action) → ¬ IsAsked m action) (IsAsked m)
    → ((words : List Text) → fault_of app words ≡ [] → NameAnAction app words) → IsNamedByWords app m result
named_by_words app m None none named words are = search rules
named_by_words app m (Some action) is named words are = search rules
