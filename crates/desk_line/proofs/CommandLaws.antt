-- What is read of the fields of a command or a query is what they say, what they say is read, and its own fields say it.
use Rattle.std.proofs.Common.{◌≡◌, ℕ, Bool, true, false, cond, List, [], ◌∷◌, Some, None, codes, refl, sym, ap, subst, ◌∙◌}
use Rattle.std.specs.Str.{bytes_eq}
use Rattle.desk_model.specs.declared.command.Command.{Command}
use Rattle.desk_line.specs.declared.directive.Directive.{Directive}
use Rattle.desk_line.specs.declared.request.Query.{Query}
use Rattle.desk_line.specs.Commands.{FitsForm, SaysDirective, form, form_fields, grammar_of}
use Rattle.desk_line.specs.Fields.{fields_of, line_of_fields}
use Rattle.desk_line.specs.Operands.{Fit, Grammar, Nothing}
use Rattle.desk_line.specs.HeadLine.{SaysQuery, query_grammar}
use Rattle.desk_line.specs.ReadingSteps.{directive_by, directive_in, query_in, read}
use Rattle.desk_line.specs.RequestText.{query_fields, query_form}
use Rattle.desk_line.proofs.GrammarLaws.{line-written, read-says, says-read, spread, spread-says}
use Rattle.desk_line.proofs.OperandLaws.{word-is}
use Rattle.desk_line.proofs.WrittenFields.{IsPlain, word-closed}

-- ---- what is read is said

pub directive-read-by : (word : List ℕ) (fields : List (List ℕ)) (directive : Directive) → directive_by word fields ≡ Some directive → SaysDirective (word ∷ fields) directive
directive-read-by word fields directive e = read-says (grammar_of word) fields directive e

pub directive-read : (fields : List (List ℕ)) (directive : Directive) → directive_in fields ≡ Some directive → SaysDirective fields directive
unfolding directive_in
directive-read [] directive e = absurd cc
directive-read (word ∷ fields) directive e = directive-read-by word fields directive e

pub query-read : (fields : List (List ℕ)) (query : Query) → query_in fields ≡ Some query → SaysQuery fields query
unfolding query_in
query-read [] query e = absurd cc
query-read (word ∷ fields) query e = read-says (query_grammar word) fields query e

-- ---- what is said is read

pub directive-found : (fields : List (List ℕ)) (directive : Directive) → SaysDirective fields directive → directive_in fields ≡ Some directive
unfolding directive_in
directive-found [] directive h = absurd h
directive-found (word ∷ fields) directive h = says-read (grammar_of word) fields directive h

pub query-found : (fields : List (List ℕ)) (query : Query) → SaysQuery fields query → query_in fields ≡ Some query
unfolding query_in
query-found [] query h = absurd h
query-found (word ∷ fields) query h = says-read (query_grammar word) fields query h

-- ---- no word is a command's and a query's

module _ (word : List ℕ) (fields : List (List ℕ)) (query : Query) where
  -- the word is this text, which no command has, or another
  other-word : (text : List ℕ) (this others : Grammar Query) → grammar_of text ≡ Nothing → (read others fields ≡ Some query → grammar_of word ≡ Nothing)
      → (same : Bool) → bytes_eq word text ≡ same → read (cond same this others) fields ≡ Some query → grammar_of word ≡ Nothing
  other-word text this others none more true t e = ap grammar_of (word-is word text t) ∙ none
  other-word text this others none more false t e = more e

  query-apart : read (query_grammar word) fields ≡ Some query → grammar_of word ≡ Nothing
  query-apart =
      other-word (codes "print") _ _ refl
      (other-word (codes "braille") _ _ refl
      (other-word (codes "history") _ _ refl
      (other-word (codes "marks") _ _ refl
      (other-word (codes "where") _ _ refl
      (other-word (codes "whence") _ _ refl
      (other-word (codes "list") _ _ refl
      (other-word (codes "version") _ _ refl (λ e. absurd cc) _ refl) _ refl) _ refl) _ refl) _ refl) _ refl) _ refl) _ refl

pub asked-unsaid : (fields : List (List ℕ)) (query : Query) → query_in fields ≡ Some query → directive_in fields ≡ None
unfolding query_in directive_in
asked-unsaid [] query e = refl
asked-unsaid (word ∷ fields) query e = ap (λ (g : Grammar Directive). read g fields) (query-apart word fields query e)

-- ---- how they are written

-- a command's head line and block say it
pub record IsSaid (command : Command) : Type 0 where
  pub plain : IsPlain (line_of_fields (form_fields (form command)))
  pub says : SaysDirective (fields_of (line_of_fields (form_fields (form command)))) (form command).directive

pub command-said : (command : Command) → FitsForm (form command) → IsSaid command
command-said command fits =
    let f = form command in
    let line = line-written (grammar_of f.word) f.values fits.values [] f.word tt (word-closed f.word f.visible) in
    let says = subst (SaysDirective (f.word ∷ spread (grammar_of f.word) f.values)) f.says (spread-says (grammar_of f.word) f.values fits.values) in
    record { plain = line.plain; says = subst (λ (fields : List (List ℕ)). SaysDirective fields f.directive) (sym line.splits) says }

-- a query's head line asks it
pub record IsAsked (query : Query) : Type 0 where
  pub plain : IsPlain (line_of_fields (query_fields (query_form query)))
  pub says : SaysQuery (fields_of (line_of_fields (query_fields (query_form query)))) query

pub query-asked : (query : Query) → Fit (query_grammar (query_form query).word) (query_form query).values → IsAsked query
query-asked query fits =
    let f = query_form query in
    let line = line-written (query_grammar f.word) f.values fits [] f.word tt (word-closed f.word f.visible) in
    let says = subst (SaysQuery (f.word ∷ spread (query_grammar f.word) f.values)) f.says (spread-says (query_grammar f.word) f.values fits) in
    record { plain = line.plain; says = subst (λ (fields : List (List ℕ)). SaysQuery fields query) (sym line.splits) says }
