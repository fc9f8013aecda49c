-- Arguments that take one word: what a parse that finds no fault found for each.
use Rattle.std.proofs.Common.{◌≡◌, ◌∙◌, ◌⊎◌, inl, inr, ℕ, Bool, cond, true, false, refl, sym, ap, ap₂, subst, arith, List, [], ◌∷◌, ◌++◌, ◌&&◌, ◌||◌, ◌==◌, length, Option, Some, None, true≢false, append-nil, IfSome, find, slice_get, unwrap_or, option_and_then, option_map, bytes_eq, ne_eqb}
use Rattle.std.specs.List.{All, fold, AllByRecursion as Each}
use Rattle.std.specs.Option.{option_map_or}
use Rattle.std.proofs.lemmas.List.Elements.{All-head, All-nil, All-push, All-tail}
use Rattle.std.proofs.lemmas.Slice.Eq.{bytes_eq-Decides}
use Rattle.clap.specs.Facts.{explicit_source, unwrap_or_range}
use Rattle.clap.specs.Kinds.{range_kinds}
use Rattle.clap.specs.Faults.{action_fault, check_fault, default_fault, defaults_fault, given_default_fault, level_fault, repeat_fault, settle_fault, set_fault, use_fault, values_fault}
use Rattle.clap.specs.Lexer.{long_of}
use Rattle.clap.specs.Simple.{Shape}
use Rattle.clap.specs.Takes.{is_given}
use Rattle.clap.specs.Values.{read_as}
use Rattle.clap.specs.Walk.{Held, Row, Rule, Text, action_of, arg_by_id, arg_by_long, at_row, default_rows, first_of, has_row, is_empty, more_values, most_values, nothing_held, one_of, reading_by, row_text, settled, settled_rows, used, used_as, rows_after, used_by_id, values_or_missing, walk, with_default, with_values, without}
use Rattle.clap.specs.declared.builder.action.ArgAction.{ArgAction}
use Rattle.clap.specs.declared.builder.action.ArgAction.TheVariants.{Help, Set}
use Rattle.clap.specs.declared.builder.value_parser.Reading.{Reading}
use Rattle.clap.specs.declared.error.kind.ErrorKind.TheVariants as kind
use Rattle.clap.specs.declared.parser.matches.ValueSource.{ValueSource}
use Rattle.clap.specs.declared.parser.matches.ValueSource.TheVariants.{CommandLine, DefaultValue}
use Rattle.desk_words.proofs.Walked.{Keeps, Pending, level_kept, no_fault}

-- ---- rows

same_id : (id : Text) → bytes_eq id id ≡ true
same_id id = (bytes_eq-Decides id id).1 refl

pub row_joins : (id : Text) (change : Row → List Row) (missing rows : List Row) → has_row id rows ≡ false → at_row id change missing rows ≡ rows ++ missing
row_joins id change missing [] none = refl
row_joins id change missing (r ∷ rs) none = go (bytes_eq r.id id) none (row_joins id change missing rs)
  where
    go : (b : Bool) → (b || has_row id rs) ≡ false → (has_row id rs ≡ false → at_row id change missing rs ≡ rs ++ missing)
        → cond b (change r ++ rs) (r ∷ at_row id change missing rs) ≡ r ∷ (rs ++ missing)
    go true e then = absurd (true≢false e)
    go false e then = ap (λ xs. r ∷ xs) (then e)

has_row_joined : (id : Text) (rows : List Row) (r : Row) → bytes_eq r.id id ≡ true → has_row id (rows ++ r ∷ []) ≡ true
has_row_joined id [] r is = rw is refl
has_row_joined id (x ∷ xs) r is = go (bytes_eq x.id id) (has_row_joined id xs r is)
  where
    go : (b : Bool) → has_row id (xs ++ r ∷ []) ≡ true → (b || has_row id (xs ++ r ∷ [])) ≡ true
    go true e = refl
    go false e = e

stays_joined : (id : Text) (rows : List Row) (r : Row) → has_row id rows ≡ true → has_row id (rows ++ r ∷ []) ≡ true
stays_joined id [] r has = absurd (true≢false (sym has))
stays_joined id (x ∷ xs) r has = go (bytes_eq x.id id) has (stays_joined id xs r)
  where
    go : (b : Bool) → (b || has_row id xs) ≡ true → (has_row id xs ≡ true → has_row id (xs ++ r ∷ []) ≡ true) → (b || has_row id (xs ++ r ∷ [])) ≡ true
    go true e then = refl
    go false e then = then e

-- ---- what is found for an argument

-- one word, which the argument takes
pub record IsOne (c : List Rule) (r : Row) : Type 0 where
  pub rule : Rule
  pub is : arg_by_id c r.id ≡ Some rule
  pub text : Text
  pub values : r.values ≡ text ∷ []
  pub reading : r.reading ≡ reading_by rule
  pub passes : values_fault rule (text ∷ []) ≡ []
  pub source : (explicit_source r.source ≡ true) ⊎ (rule.defaults ≡ text ∷ [])

-- the argument takes one word, or none
pub record TakesOne (a : Rule) : Type 0 where
  pub action : a.action ≡ Some Set
  pub range : ◌≡◌ {A = ℕ × ℕ} ((unwrap_or_range a.range).start_inclusive, most_values a) (1, 1)
  pub default : (a.defaults ≡ []) ⊎ ((text : Text) × (a.defaults ≡ text ∷ []))

-- the argument asks for help
pub record AsksForHelp (a : Rule) : Type 0 where
  pub action : a.action ≡ Some Help
  pub default : a.defaults ≡ []

-- it is c's argument with its id, and one of these
abbrev pub IsPlainOf : List Rule → Rule → Type 0
IsPlainOf c a = (arg_by_id c a.id ≡ Some a) × (TakesOne a ⊎ AsksForHelp a)

one_value : (values : List Text) → range_kinds 1 1 (length values) ≡ [] → (text : Text) × (values ≡ text ∷ [])
one_value [] e = cc
one_value (v ∷ []) e = (v, refl)
one_value (v ∷ w ∷ vs) e =
    let some : (length (v ∷ w ∷ vs) == 0) ≡ false = ne_eqb _ _ (λ same. omega (arith, same)) in
    let several : (1 == length (v ∷ w ∷ vs)) ≡ false = ne_eqb _ _ (λ same. omega (arith, same)) in
    let bad : kind.WrongNumberOfValues ∷ [] ≡ [] = rw (some, several) at e in
    cc

free_row : (id : Text) (rows : List Row) → repeat_fault false id rows ≡ [] → has_row id rows ≡ false
free_row id rows e = go (has_row id rows) e
  where
    go : (b : Bool) → cond (b && true) (kind.ArgumentConflict ∷ []) [] ≡ [] → b ≡ false
    go true f = cc
    go false f = refl

-- a word joins the rows, where there is none for its argument
joined : (c : List Rule) (a : Rule) (source : ValueSource) (text : Text) (rows : List Row) → arg_by_id c a.id ≡ Some a → has_row a.id rows ≡ false → values_fault a (text ∷ []) ≡ []
    → (explicit_source (Some source) ≡ true) ⊎ (a.defaults ≡ text ∷ [])
    → All (IsOne c) rows → All (IsOne c) (with_values a.id (reading_by a) source (text ∷ []) rows)
joined c a source text rows is none passes from ones =
    let row : Row = record { id = a.id; values = text ∷ []; count = None; source = Some source; reading = reading_by a } in
    rw (row_joins a.id (more_values source (text ∷ [])) (row ∷ []) rows none)
    (All-push (IsOne c) rows row ones (record { rule = a; is = is; text = text; values = refl; reading = refl; passes = passes; source = from }))

set_used : (c : List Rule) (a : Rule) (text : Text) (rows : List Row) → arg_by_id c a.id ≡ Some a → set_fault false a (text ∷ []) rows ≡ []
    → All (IsOne c) rows → All (IsOne c) (used_as Set a.id (reading_by a) (text ∷ []) rows)
set_used c a text rows is e ones =
    let parts = no_fault _ _ e in
    let none = free_row a.id rows parts.0 in
    let same : without a.id rows ≡ rows = row_joins a.id (λ _. []) [] rows none ∙ append-nil rows in
    rw same (joined c a CommandLine text rows is none parts.1 (inl refl) ones)

pub one_used : (c : List Rule) (a : Rule) → IsPlainOf c a → (values : List Text) (rows : List Row) → All (IsOne c) rows → use_fault false a values rows ≡ [] → All (IsOne c) (used a values rows)
one_used c a (is, inl one) values rows ones e =
    let parts = no_fault _ _ e in
    let n = one_value values (subst (λ (r : ℕ × ℕ). range_kinds r.0 r.1 (length values) ≡ []) one.range parts.0) in
    let set : action_of a ≡ Set = ap (λ o. unwrap_or o Set) one.action in
    let here : set_fault false a (n.0 ∷ []) rows ≡ [] = rw (set, n.1) at parts.1 in
    rw (set, n.1) (set_used c a n.0 rows is here ones)
one_used c a (is, inr help) values rows ones e =
    let asked = (no_fault (range_kinds (unwrap_or_range a.range).start_inclusive (most_values a) (length values)) (action_fault (action_of a) false a (values_or_missing a values) rows) e).1 in
    let asks : action_of a ≡ Help = ap (λ o. unwrap_or o Set) help.action in
    let bad : kind.DisplayHelp ∷ [] ≡ [] = subst (λ (x : ArgAction). action_fault x false a (values_or_missing a values) rows ≡ []) asks asked in
    cc

-- ---- defaults

one_defaulted : (c : List Rule) (a : Rule) → IsPlainOf c a → (rows : List Row) → All (IsOne c) rows → default_fault rows a ≡ [] → All (IsOne c) (with_default rows a)
one_defaulted c a plain rows ones e = go (has_row a.id rows) refl e
  where
    given : (values : List Text) → a.defaults ≡ values → (values ≡ []) ⊎ ((text : Text) × (values ≡ text ∷ [])) → has_row a.id rows ≡ false
        → cond (is_empty values) [] (given_default_fault a values) ≡ [] → All (IsOne c) (default_rows a.id (reading_by a) values rows)
    given values same (inl none) free f = subst (λ (vs : List Text). All (IsOne c) (default_rows a.id (reading_by a) vs rows)) (sym none) ones
    given values same (inr one) free f =
        let fault : given_default_fault a (one.0 ∷ []) ≡ [] = rw one.1 at f in
        subst (λ (vs : List Text). All (IsOne c) (default_rows a.id (reading_by a) vs rows)) (sym one.1)
        (joined c a DefaultValue one.0 rows plain.0 free (no_fault _ _ fault).1 (inr (same ∙ one.1)) ones)

    default_of : TakesOne a ⊎ AsksForHelp a → (a.defaults ≡ []) ⊎ ((text : Text) × (a.defaults ≡ text ∷ []))
    default_of (inl one) = one.default
    default_of (inr help) = inl help.default

    go : (b : Bool) → has_row a.id rows ≡ b → cond (b || is_empty a.defaults) [] (given_default_fault a a.defaults) ≡ [] → All (IsOne c) (cond b rows (default_rows a.id (reading_by a) a.defaults rows))
    go true is f = ones
    go false is f = given a.defaults refl (default_of plain.1) is f

pub ones_defaulted : (c xs : List Rule) → Each (IsPlainOf c) xs → (rows : List Row) → All (IsOne c) rows → defaults_fault rows xs ≡ [] → All (IsOne c) (fold with_default rows xs)
unfolding defaults_fault
ones_defaulted c [] each rows ones e = ones
ones_defaulted c (a ∷ xs) each rows ones e =
    let parts = no_fault _ _ e in
    ones_defaulted c xs each.1 (with_default rows a) (one_defaulted c a each.0 rows ones parts.0) parts.1

row_stays : (id : Text) (a : Rule) (rows : List Row) → has_row id rows ≡ true → has_row id (with_default rows a) ≡ true
row_stays id a rows has = go (has_row a.id rows) refl
  where
    given : (values : List Text) → has_row a.id rows ≡ false → has_row id (default_rows a.id (reading_by a) values rows) ≡ true
    given [] free = has
    given (v ∷ vs) free = rw (row_joins a.id _ _ rows free) (stays_joined id rows _ has)

    go : (b : Bool) → has_row a.id rows ≡ b → has_row id (cond b rows (default_rows a.id (reading_by a) a.defaults rows)) ≡ true
    go true is = has
    go false is = given a.defaults is

pub rows_stay : (id : Text) (xs : List Rule) (rows : List Row) → has_row id rows ≡ true → has_row id (fold with_default rows xs) ≡ true
rows_stay id [] rows has = has
rows_stay id (a ∷ xs) rows has = rows_stay id xs (with_default rows a) (row_stays id a rows has)

-- an argument with a default has a row
pub default_row : (a : Rule) (text : Text) (rows : List Row) → a.defaults ≡ text ∷ [] → has_row a.id (with_default rows a) ≡ true
default_row a text rows default = go (has_row a.id rows) refl
  where
    go : (b : Bool) → has_row a.id rows ≡ b → has_row a.id (cond b rows (default_rows a.id (reading_by a) a.defaults rows)) ≡ true
    go true is = is
    go false is =
        let row : Row = record { id = a.id; values = text ∷ []; count = None; source = Some DefaultValue; reading = reading_by a } in
        let rows_are : with_values a.id (reading_by a) DefaultValue (text ∷ []) rows ≡ rows ++ row ∷ [] = row_joins a.id (more_values DefaultValue (text ∷ [])) (row ∷ []) rows is in
        ap (λ (vs : List Text). has_row a.id (default_rows a.id (reading_by a) vs rows)) default ∙ (ap (has_row a.id) rows_are ∙ has_row_joined a.id rows row (same_id a.id))

-- ---- a word that was found

-- what is found for the argument with this id
pub record Finds (c : List Rule) (rows : List Row) (id : Text) : Type 0 where
  pub rule : Rule
  pub is : arg_by_id c id ≡ Some rule
  pub text : Text
  pub first : first_of id rows ≡ Some text
  pub one : one_of id rows ≡ Some (read_as (reading_by rule) text)
  pub passes : values_fault rule (text ∷ []) ≡ []
  pub source : (is_given id rows ≡ true) ⊎ (rule.defaults ≡ text ∷ [])

row_with : (id : Text) (rows : List Row) → has_row id rows ≡ true → (r : Row) × (find (λ x. bytes_eq x.id id) rows ≡ Some r)
row_with id [] has = absurd (true≢false (sym has))
row_with id (x ∷ xs) has = go (bytes_eq x.id id) has (row_with id xs)
  where
    go : (b : Bool) → (b || has_row id xs) ≡ true → (has_row id xs ≡ true → (r : Row) × (find (λ y. bytes_eq y.id id) xs ≡ Some r))
        → (r : Row) × (cond b (Some x) (find (λ y. bytes_eq y.id id) xs) ≡ Some r)
    go true e then = (x, refl)
    go false e then = then e

found_at : (P : Row → Type 0) (id : Text) (rows : List Row) (r : Row) → All P rows → find (λ x. bytes_eq x.id id) rows ≡ Some r → (r.id ≡ id) × P r
found_at P id [] r all e = cc
found_at P id (x ∷ xs) r all e = go (bytes_eq x.id id) refl e (found_at P id xs r (All-tail P x xs all))
  where
    go : (b : Bool) → bytes_eq x.id id ≡ b → cond b (Some x) (find (λ y. bytes_eq y.id id) xs) ≡ Some r
        → (find (λ y. bytes_eq y.id id) xs ≡ Some r → (r.id ≡ id) × P r) → (r.id ≡ id) × P r
    go true is f then =
        let same : x ≡ r = ap (λ o. unwrap_or o x) f in
        (ap (λ (y : Row). y.id) (sym same) ∙ (bytes_eq-Decides x.id id).0 is, subst P same (All-head P x xs all))
    go false is f then = then f

word_of : (c : List Rule) (id : Text) (rows : List Row) (r : Row) → find (λ x. bytes_eq x.id id) rows ≡ Some r → r.id ≡ id → IsOne c r → Finds c rows id
word_of c id rows r found same one =
    let at_first : slice_get r.values 0 ≡ Some one.text = ap (λ (vs : List Text). slice_get vs 0) one.values in
    let read : row_text r ≡ Some (read_as (reading_by one.rule) one.text) =
    ap₂ (λ (how : Reading) (vs : List Text). option_map (read_as how) (slice_get vs 0)) one.reading one.values in
    record {
      rule = one.rule;
      is = ap (arg_by_id c) (sym same) ∙ one.is;
      text = one.text;
      first = ap (option_and_then (λ (x : Row). slice_get x.values 0)) found ∙ at_first;
      one = ap (option_and_then row_text) found ∙ read;
      passes = one.passes;
      source = elim one.source [
        | inl given ↦ inl (ap (λ o. option_map_or (λ (x : Row). explicit_source x.source) o false) found ∙ given)
        | inr default ↦ inr default
      ];
    }

pub found_word : (c : List Rule) (id : Text) (rows : List Row) → All (IsOne c) rows → has_row id rows ≡ true → Finds c rows id
found_word c id rows ones has =
    let row = row_with id rows has in
    let here = found_at (IsOne c) id rows row.0 ones row.1 in
    word_of c id rows row.0 row.1 here.0 here.1

-- a word that was given has a row
pub given_row : (id : Text) (rows : List Row) → is_given id rows ≡ true → has_row id rows ≡ true
given_row id [] e = absurd (true≢false (sym e))
given_row id (x ∷ xs) e = go (bytes_eq x.id id) e (given_row id xs)
  where
    go : (b : Bool) → option_map_or (λ (r : Row). explicit_source r.source) (cond b (Some x) (find (λ r. bytes_eq r.id id) xs)) false ≡ true → (is_given id xs ≡ true → has_row id xs ≡ true)
        → (b || has_row id xs) ≡ true
    go true f then = refl
    go false f then = then f

-- ---- one level of a parse

each_found : (c : List Rule) (p : Rule → Bool) (xs : List Rule) → Each (IsPlainOf c) xs → IfSome (find p xs) (IsPlainOf c)
each_found c p [] each = tt
each_found c p (x ∷ xs) each = go (p x) (each_found c p xs each.1)
  where
    go : (b : Bool) → IfSome (find p xs) (IsPlainOf c) → IfSome (cond b (Some x) (find p xs)) (IsPlainOf c)
    go true h = each.0
    go false h = h

long_found : (c : List Rule) → Each (IsPlainOf c) c → (found : Option (Text × Option Text)) → IfSome found (λ p. IfSome (arg_by_long c p.0) (IsPlainOf c))
long_found c each None = tt
long_found c each (Some p) = each_found c _ c each

settled_by : (c : List Rule) (found : Option Rule) → IfSome found (IsPlainOf c) → (values : List Text) (rows : List Row) → All (IsOne c) rows
    → option_map_or (λ a. use_fault false a values rows) found [] ≡ [] → All (IsOne c) (used_by_id found values rows)
settled_by c None q values rows ones e = ones
settled_by c (Some a) q values rows ones e = one_used c a q values rows ones e

ones_settled : (c : List Rule) → Each (IsPlainOf c) c → (h : Held) → All (IsOne c) h.rows → settle_fault c false h ≡ [] → All (IsOne c) (settled_rows c h.pending h.rows)
ones_settled c each h ones e = go h.pending e
  where
    go : (p : Pending) → settle_fault c false (record h { pending = p }) ≡ [] → All (IsOne c) (settled_rows c p h.rows)
    go None f = ones
    go (Some p) f = settled_by c (arg_by_id c p.0) (each_found c _ c each) p.1 h.rows ones f

keeps_ones : (s : Shape) → s.args_override_self ≡ false → Each (IsPlainOf s.rules) s.rules
    → Keeps s (λ rows p. All (IsOne s.rules) rows) (λ id. Unit {0}) (IsPlainOf s.rules) (λ word. Unit {0})
keeps_ones s once each = record {
  long = λ word is. long_found s.rules each (long_of word);
  short = λ x. each_found s.rules _ s.rules each;
  index = λ i. each_found s.rules _ s.rules each;
  valid = λ a q. tt;
  settles = λ h ones e. ones_settled s.rules each h ones (subst (λ (b : Bool). settle_fault s.rules b h ≡ []) once e);
  uses = λ a q values rows ones e. one_used s.rules a q values rows ones (subst (λ (b : Bool). use_fault b a values rows ≡ []) once e);
  opens = λ id v rows ones. ones;
  pushes = λ id v word rows p ones. ones;
}

-- where a command finds no fault in its words, it found one word for each argument that has a row
pub ones_found : (s : Shape) → s.args_override_self ≡ false → Each (IsPlainOf s.rules) s.rules → (words : List Text) → level_fault s [] nothing_held words false [] ≡ []
    → All (IsOne s.rules) (rows_after s.rules [] words) × (check_fault s (rows_after s.rules [] words) false ≡ [])
ones_found s once each words e =
    let ends = level_kept s _ _ _ _ (keeps_ones s once each) [] words false [] (λ k d lt. tt) (All-nil (IsOne s.rules)) e in
    (ones_defaulted s.rules s.rules each (settled s.rules (walk s.rules [] nothing_held words).held).rows ends.0 ends.1, ends.2)
