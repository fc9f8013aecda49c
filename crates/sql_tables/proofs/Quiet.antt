-- A text that is a SELECT writes nothing, whatever the schema is, and one that has an answer fails only if the store does.
use Rattle.std.proofs.Common.{Option, ◌≡◌, ◌⊎◌, inl, inr, ℕ, ◌+◌, Bool, true, false, List, None, Ok, Err, Result, OnOk, IfErr, sym, ap, true≢false, [], ◌∙◌, arith}
use Rattle.sqlite_ast.specs.declared.Statement.{Statement}
use Rattle.sqlite_ast.specs.declared.Statement.TheVariants.{Select}
use Rattle.sqlite_syntax.specs.declared.statement.Parsed.{Parsed}
use Rattle.sqlite_schema.specs.declared.command.Command.{Command}
use Rattle.sqlite_schema.specs.declared.schema.Schema.{Schema}
use Rattle.sqlite_resolve.specs.declared.compiled.Compiled.{Compiled}
use Rattle.sqlite_resolve.specs.declared.error.CompileError.{CompileError}
use Rattle.sqlite_resolve.specs.Compile.{compiled, first, planned, meaning, returning, command, small, timed, with_command}
use Rattle.sqlite_resolve.specs.Lowering.{and_then}
use Rattle.sqlite_trees.specs.declared.error.StoreError.{StoreError}
use Rattle.sqlite_value.specs.Order.{Row}
use Rattle.sqlite.specs.declared.error.Error.{Error}
use Rattle.sqlite.specs.Effect.{Database, RefusesToRead}
use Rattle.sqlite.specs.Clock.{timed as filled}
use Rattle.sqlite.specs.Listing.{understood, listing_schema, if_select}
use Rattle.sqlite.specs.State.{State, store_error, IsUnchanged, IsNotRun, FailsToShow, FailsToQuery, Shown, Survives, CommitsShowing, IsNoStatement}
use Rattle.sqlite.proofs.StateLemmas.{survives_weaker}
use Rattle.sql_tables.specs.States.{HasAnswer}

abbrev pub selects : Statement → Bool
selects (Select s) = true
selects _ = false

-- the parse is a SELECT
abbrev pub reads : Result Parsed CompileError → Bool
reads (Ok p) = selects p.statement
reads (Err e) = false

none_by : (schema : Schema) (base : ℕ) (s : Statement) → selects s ≡ true → returning schema base s ≡ Ok None
unfolding returning
none_by schema base s h = grind (arith, h)

pub same_compiled : (a b : Compiled) → ◌≡◌ {A = Result Compiled CompileError} (Ok a) (Ok b) → a ≡ b
same_compiled a b e = cc

carried : (p : Parsed) (formats : List (List ℕ)) (k : Result Command CompileError) (c : Compiled)
    → and_then (and_then (and_then k (λ c. Ok (c, None))) (λ found. Ok (formats, found))) (λ plan. Ok (with_command p plan)) ≡ Ok c → c.returning ≡ None
carried p formats k c e = grind (arith, e)

plain_from : (schema : Schema) (r : Result Parsed CompileError) (c : Compiled) → reads r ≡ true → and_then r (λ p. and_then (planned schema p) (λ plan. Ok (with_command p plan))) ≡ Ok c → c.returning ≡ None
unfolding planned meaning
plain_from schema (Ok p) c h e =
    let formats = timed schema p.formats p.statement in
    let base = small p.names + small formats in
    carried p formats (command schema p.formats base p.statement) c (rw (none_by schema base p.statement h) at e)
plain_from schema (Err x) c h e = absurd (true≢false (sym h))

pub on_ok : {A E : Type 0} (r : Result A E) (P : Type 0) → P → OnOk r P
on_ok (Ok a) P p = p
on_ok (Err e) P p = tt

pub on_err : {A E : Type 0} (r : Result A E) (P : E → Type 0) → ((e : E) → P e) → IfErr r P
on_err (Ok a) P p = tt
on_err (Err e) P p = p e

module _ (text : List ℕ) (is : reads (first text) ≡ true) where
  in_schema : (schema : Schema) (c : Compiled) → compiled schema text ≡ Ok c → c.returning ≡ None
  unfolding compiled
  in_schema schema c e = plain_from schema (first text) c is e

  listed : (r : Result Compiled CompileError) → ((c : Compiled) → r ≡ Ok c → c.returning ≡ None) → (c : Compiled) → if_select r ≡ Ok c → c.returning ≡ None
  listed r plain c e = grind (arith, plain c)

  pub never_returns : (schema : Schema) (c : Compiled) → understood schema text ≡ Ok c → c.returning ≡ None
  unfolding understood
  never_returns schema c e = grind (arith, listed (compiled listing_schema text) (in_schema listing_schema) c, in_schema schema c)

  -- a query on any file commits nothing
  pub commits_nothing : (params : Row) (old new : State) → Survives old new (CommitsShowing text params old) → Survives old new (λ _. ⊥)
  unfolding CommitsShowing
  commits_nothing params old new = survives_weaker old new _ _ (λ _ db made. absurd (let none = never_returns old.now.schema made.0 made.1.is in let some = rw none at made.2 in true≢false (sym some)))

  -- a query that is refused on any file leaves it as it was, unless the store fails
  pub refused_quietly : (params : Row) (old new : State) (e : Error) → FailsToQuery text params old new e → ((cause : StoreError) × (e ≡ store_error cause)) ⊎ IsUnchanged old new
  unfolding FailsToQuery IsNotRun
  refused_quietly params old new e (inl (inl h)) = inr h.1
  refused_quietly params old new e (inl (inr h)) = inl (h.0, h.1)
  refused_quietly params old new e (inr h) = inr (rw (never_returns old.now.schema h.0 h.1.is) at h.2).3

  -- one that is answered leaves it as it was
  pub shown_quietly : (params : Row) (old new : State) (rows : List Row) → Shown text params old new rows → IsUnchanged old new
  unfolding Shown
  shown_quietly params old new rows h = (rw (never_returns old.now.schema h.0 h.1.is) at h.2).3

-- ---- a query that has an answer fails only if the store does

-- a failure of the store
abbrev pub IsStoreFailure : Error → Type 0
IsStoreFailure e = (cause : StoreError) × (e ≡ store_error cause)

same_refusal : (limit : Option ℕ) (c d : Compiled) (db : Database) (params : Row) (e : Error) → limit ≡ None → c ≡ d → params ≡ []
    → RefusesToRead limit c.command db params e → RefusesToRead None d.command db [] e
same_refusal limit c d db params e unlimited same bare refused = rw (unlimited, same, bare) at refused

module _ (text : List ℕ) (is_read : reads (first text) ≡ true) (old new : State) (can : HasAnswer text old) (unlimited : old.step_limit ≡ None) (e : Error) where
  is_statement : ¬ IsNoStatement old text [] e
  is_statement h = grind (arith, h, can.is.is, can.is.whole, can.is.given, can.timeless)

  pub answered_fails : FailsToQuery text [] old new e → IsStoreFailure e
  unfolding FailsToQuery IsNotRun
  answered_fails (inl (inl h)) = absurd (is_statement h.0)
  answered_fails (inl (inr h)) = (h.0, h.1)
  answered_fails (inr h) =
      let same : h.0 ≡ can.compiled = same_compiled h.0 can.compiled (sym h.1.is ∙ can.is.is) in
      let shown : FailsToShow old new text h.0 (filled [] h.0.formats h.1.now) e None = rw (never_returns text is_read old.now.schema h.0 h.1.is) at h.2 in
      let bare : filled [] h.0.formats h.1.now ≡ [] = ap (λ formats. filled [] formats h.1.now) (ap (λ (c : Compiled). c.formats) same ∙ can.timeless) in
      absurd (can.unrefused shown.0 shown.1 e (same_refusal old.step_limit h.0 can.compiled shown.0 (filled [] h.0.formats h.1.now) e unlimited same bare shown.2))
