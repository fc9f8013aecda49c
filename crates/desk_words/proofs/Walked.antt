-- What a parse that finds no fault keeps, where each of its steps keeps it.
use Rattle.std.proofs.Common.{◌≡◌, ℕ, Bool, cond, true, false, zero, suc, refl, arith, List, [], ◌∷◌, ◌++◌, ◌&&◌, length, Option, Some, None, is_some, nat_lt, drop, IfSome, encode_utf8, slice_get, All, fold, bytes_eq, chars}
use Rattle.clap.specs.Kinds.{Kinds, or_else}
use Rattle.clap.specs.Lexer.{long_of, short_of}
use Rattle.clap.specs.Simple.{Shape}
use Rattle.clap.specs.Walk.{Held, Names, Outcome, Row, Rule, Step, Text, Waiting, Walk, done, waits, plain, refused, idle, option, positional, next, trailing, subcommand, value, after_flag, after_step, arg_by_index, arg_by_long, arg_by_short, attached_value, bundle, bundle_met, bundle_step, finished, flag_met, is_multiple, is_pending, long_met, long_or_other, most_values, nothing_held, option_met, option_word, pending_count, plain_word, pushed, reacted, settled, settled_rows, short_met, short_or_plain, started, subcommand_met, subcommand_or_other, takes_several, takes_values, to_positional, used, walk, walk_from, walked, walked_from, word_met}
use Rattle.clap.specs.Faults.{bundle_fault, bundle_step_fault, check_fault, defaults_fault, flag_word_fault, flags_fault, level_fault, long_fault, option_fault, other_fault, positional_fault, react_fault, settle_fault, short_fault, step_fault, stray_fault, turn_fault, use_fault, walk_fault, word_fault}
use Rattle.clap.specs.declared.error.kind.ErrorKind.TheVariants as kind

-- two steps in turn find no fault only where neither does
pub no_fault : (a b : Kinds) → or_else a b ≡ [] → (a ≡ []) × (b ≡ [])
no_fault [] b e = (refl, e)
no_fault (k ∷ ks) b e = cc

-- the argument that still takes values, with those that it has
abbrev pub Pending : Type 0
Pending = Option (Text × List Text)

-- J is kept of what is held, at words that are W, by arguments that are Q, whose ids are V
pub record Keeps (s : Shape) (J : List Row → Pending → Type 0) (V : Text → Type 0) (Q : Rule → Type 0) (W : Text → Type 0) : Type 0 where
  pub long : (word : Text) → W word → IfSome (long_of word) (λ p. IfSome (arg_by_long s.rules p.0) Q)
  pub short : (x : ℕ) → IfSome (arg_by_short s.rules x) Q
  pub index : (i : ℕ) → IfSome (arg_by_index s.rules i) Q
  pub valid : (a : Rule) → Q a → V a.id
  pub settles : (h : Held) → J h.rows h.pending → settle_fault s.rules s.args_override_self h ≡ [] → J (settled_rows s.rules h.pending h.rows) None
  pub uses : (a : Rule) → Q a → (values : List Text) (rows : List Row) → J rows None → use_fault s.args_override_self a values rows ≡ [] → J (used a values rows) None
  pub opens : (id : Text) → V id → (rows : List Row) → J rows None → J rows (Some (id, []))
  pub pushes : (id : Text) → V id → (word : Text) (rows : List Row) (p : Pending) → J rows p → J rows (Some ((started id p).0, (started id p).1 ++ word ∷ []))

module _ (s : Shape) (J : List Row → Pending → Type 0) (V : Text → Type 0) (Q : Rule → Type 0) (W : Text → Type 0) (keeps : Keeps s J V Q W) where
  abbrev c : List Rule
  c = s.rules

  abbrev again : Bool
  again = s.args_override_self

  abbrev Holds : Held → Type 0
  Holds h = J h.rows h.pending

  abbrev Waits : Outcome → Type 0
  Waits done = Unit {0}
  Waits (waits id) = V id
  Waits plain = Unit {0}
  Waits refused = Unit {0}

  abbrev Kept : Held × Outcome → Type 0
  Kept p = Holds p.0 × Waits p.1

  abbrev WaitsFor : Waiting → Type 0
  WaitsFor idle = Unit {0}
  WaitsFor (option id) = V id
  WaitsFor positional = Unit {0}

  abbrev Steps : Step → Type 0
  Steps (next waiting) = WaitsFor waiting
  Steps (trailing position) = Unit {0}
  Steps (subcommand name) = Unit {0}
  Steps value = Unit {0}

  abbrev Stepped : Held × Step → Type 0
  Stepped p = Holds p.0 × Steps p.1

  reacts : (a : Rule) → Q a → (values : List Text) (h : Held) → Holds h → react_fault c again a values h ≡ [] → Holds (reacted c a values h)
  reacts a q values h j e =
      let parts = no_fault _ _ e in
      keeps.uses a q values (settled c h).rows (keeps.settles h j parts.0) parts.1

  option_kept : (a : Rule) → Q a → (v : Option Text) (h : Held) → Holds h → option_fault c again a v h ≡ [] → Kept (option_met c a v h)
  option_kept a q (Some v) h j e = (reacts a q (v ∷ []) h j e, tt)
  option_kept a q None h j e = (keeps.opens a.id (keeps.valid a q) (settled c h).rows (keeps.settles h j e), keeps.valid a q)

  flag_kept : (a : Rule) → Q a → (v : Option Text) (h : Held) → Holds h → cond (is_some v) (kind.TooManyValues ∷ []) (react_fault c again a [] h) ≡ [] → Kept (flag_met c a v h)
  flag_kept a q (Some v) h j e = cc
  flag_kept a q None h j e = (reacts a q [] h j e, tt)

  long_kept : (found : Option Rule) → IfSome found Q → (v : Option Text) (h : Held) → Holds h → long_fault c again found v h ≡ [] → Kept (long_met c found v h)
  long_kept None q v h j e = cc
  long_kept (Some a) q v h j e = go (takes_values a) e
    where
      go : (b : Bool) → cond b (option_fault c again a v h) (cond (is_some v) (kind.TooManyValues ∷ []) (react_fault c again a [] h)) ≡ [] → Kept (cond b (option_met c a v h) (flag_met c a v h))
      go true f = option_kept a q v h j f
      go false f = flag_kept a q v h j f

  short_kept : (found : Option Rule) → IfSome found Q → (rest : Text) (h : Held) (next_met : Held → Held × Outcome) (next_fault : Held → Kinds)
      → ((k : Held) → Holds k → next_fault k ≡ [] → Kept (next_met k)) → Holds h → short_fault c again found rest h next_fault ≡ [] → Kept (short_met c found rest h next_met)
  short_kept None q rest h next_met next_fault then j e = cc
  short_kept (Some a) q rest h next_met next_fault then j e = go (takes_values a) e
    where
      go : (b : Bool) → cond b (option_fault c again a (attached_value rest) h) (or_else (react_fault c again a [] h) (next_fault (reacted c a [] h))) ≡ []
          → Kept (cond b (option_met c a (attached_value rest) h) (next_met (reacted c a [] h)))
      go true f = option_kept a q (attached_value rest) h j f
      go false f =
          let parts = no_fault _ _ f in
          then (reacted c a [] h) (reacts a q [] h j parts.0) parts.1

  bundle_step_kept : (x : Option ℕ) (flags : Text) (skip : ℕ) (so_far : Outcome) (h : Held) (next_met : Text → ℕ → Outcome → Held → Held × Outcome) (next_fault : Text → ℕ → Held → Kinds)
      → ((rest : Text) (n : ℕ) (o : Outcome) (k : Held) → Holds k → Waits o → next_fault rest n k ≡ [] → Kept (next_met rest n o k)) → Holds h → Waits so_far
      → bundle_step_fault c again x flags skip h next_fault ≡ [] → Kept (bundle_step c x flags skip so_far h next_met)
  bundle_step_kept None flags skip so_far h next_met next_fault then j w e = (j, w)
  bundle_step_kept (Some x) flags zero so_far h next_met next_fault then j w e =
      let rest = drop (length (encode_utf8 x)) flags in
      short_kept (arg_by_short c x) (keeps.short x) rest h (next_met rest 0 done) (next_fault rest 0) (λ k i. then rest 0 done k i tt) j e
  bundle_step_kept (Some x) flags (suc n) so_far h next_met next_fault then j w e = then (drop (length (encode_utf8 x)) flags) n so_far h j w e

  flags_kept : (k : ℕ) (flags : Text) (skip : ℕ) (so_far : Outcome) (h : Held) → Holds h → Waits so_far → flags_fault c again k flags skip h ≡ [] → Kept (bundle_met c k flags skip so_far h)
  unfolding bundle_met flags_fault
  flags_kept zero flags skip so_far h j w e = (j, w)
  flags_kept (suc k) flags skip so_far h j w e =
      bundle_step_kept (slice_get (chars flags) 0) flags skip so_far h (bundle_met c k) (flags_fault c again k) (λ rest n o g. flags_kept k rest n o g) j w e

  -- ---- a word

  option_word_kept : (found : Option Rule) (id : Text) → V id → (word : Text) (h : Held) → Holds h → Holds (option_word found id word h).0 × WaitsFor (option_word found id word h).1
  option_word_kept None id v word h j = (j, v)
  option_word_kept (Some a) id v word h j = (keeps.pushes id v word h.rows h.pending j, go (nat_lt (pending_count a (pushed id word h).pending) (most_values a)))
    where
      go : (b : Bool) → WaitsFor (cond b (option id) idle)
      go true = v
      go false = tt

  plain_kept : (waiting : Waiting) → WaitsFor waiting → (word : Text) (h : Held) → Holds h → Stepped (plain_word c waiting word h)
  plain_kept idle w word h j = (j, tt)
  plain_kept (option id) w word h j = option_word_kept (Rattle.clap.specs.Walk.arg_by_id c id) id w word h j
  plain_kept positional w word h j = (j, tt)

  after_flag_kept : (waiting : Waiting) → WaitsFor waiting → (word : Text) (h : Held) (o : Outcome) → Holds h → Waits o → Stepped (after_flag c waiting word h o)
  after_flag_kept waiting w word h done j k = (j, tt)
  after_flag_kept waiting w word h (waits id) j k = (j, k)
  after_flag_kept waiting w word h plain j k = plain_kept waiting w word h j
  after_flag_kept waiting w word h refused j k = plain_kept waiting w word h j

  flag_word_kept : (waiting : Waiting) → WaitsFor waiting → (word : Text) (found : Option (Text × Option Text)) → IfSome found (λ p. IfSome (arg_by_long c p.0) Q) → (h : Held) → Holds h
      → flag_word_fault c again found word h ≡ [] → Stepped (long_or_other c waiting word found h)
  flag_word_kept waiting w word (Some p) q h j e =
      let met = long_kept (arg_by_long c p.0) q p.1 h j e in
      after_flag_kept waiting w word (long_met c (arg_by_long c p.0) p.1 h).0 (long_met c (arg_by_long c p.0) p.1 h).1 met.0 met.1
  flag_word_kept waiting w word None q h j e = go (short_of word) e
    where
      go : (o : Option Text) → Rattle.std.specs.Option.option_map_or (λ flags. bundle_fault c again flags h) o [] ≡ [] → Stepped (short_or_plain c waiting word o h)
      go None f = plain_kept waiting w word h j
      go (Some flags) f =
          let met = flags_kept (length flags) flags h.skip plain (record h { skip = 0 }) j tt f in
          after_flag_kept waiting w word (bundle c flags h).0 (bundle c flags h).1 met.0 met.1

  other_kept : (name : Option Text) (waiting : Waiting) → WaitsFor waiting → (position : ℕ) (word : Text) → W word → (h : Held) → Holds h → other_fault s name word h ≡ []
      → Stepped (subcommand_or_other c name waiting position word h)
  other_kept (Some name) waiting w position word is h j e = (j, tt)
  other_kept None waiting w position word is h j e = go (bytes_eq word (45 ∷ 45 ∷ [])) e
    where
      go : (b : Bool) → cond b [] (flag_word_fault c again (long_of word) word h) ≡ [] → Stepped (cond b (h, trailing position) (long_or_other c waiting word (long_of word) h))
      go true f = (j, tt)
      go false f = flag_word_kept waiting w word (long_of word) (keeps.long word is) h j f

  word_kept : (names : Names) (is_trailing : Bool) (waiting : Waiting) → WaitsFor waiting → (position : ℕ) (word : Text) → W word → (h : Held) → Holds h
      → word_fault s names is_trailing waiting word h ≡ [] → Stepped (word_met c names is_trailing waiting position word h)
  word_kept names true waiting w position word is h j e = (j, tt)
  word_kept names false waiting w position word is h j e = other_kept (subcommand_met names waiting word) waiting w position word is h j e

  -- ---- the walk

  abbrev Walks : Walk → Type 0
  Walks w = Holds w.held × WaitsFor w.waiting

  positional_kept : (found : Option Rule) → IfSome found Q → (word : Text) (w : Walk) (h : Held) → Holds h → WaitsFor w.waiting
      → Rattle.std.specs.Option.option_map_or (λ a. positional_fault c again a h) found (stray_fault s) ≡ [] → Walks (to_positional c found word w h)
  positional_kept None q word w h j k e = (j, k)
  positional_kept (Some a) q word w h j k e = (held (is_pending a h.pending && takes_several a) e, waits_for (is_multiple a))
    where
      waits_for : (b : Bool) → WaitsFor (cond b positional idle)
      waits_for true = tt
      waits_for false = tt

      held : (b : Bool) → cond b [] (settle_fault c again h) ≡ [] → Holds (pushed a.id word (cond b h (settled c h)))
      held true f = keeps.pushes a.id (keeps.valid a q) word h.rows h.pending j
      held false f = keeps.pushes a.id (keeps.valid a q) word (settled c h).rows None (keeps.settles h j f)

  step_kept : (word : Text) (w : Walk) (h : Held) (step : Step) → Holds h → Steps step → WaitsFor w.waiting → step_fault s w.position h step ≡ [] → Walks (after_step c word w h step)
  step_kept word w h (next waiting) j k waiting_for e = (j, k)
  step_kept word w h (trailing position) j k waiting_for e = (j, waiting_for)
  step_kept word w h (subcommand name) j k waiting_for e = (j, waiting_for)
  step_kept word w h value j k waiting_for e = positional_kept (arg_by_index c w.position) (keeps.index w.position) word w h j waiting_for e

  turn_kept : (names : Names) (w : Walk) (word : Text) → W word → Walks w → turn_fault s names w word ≡ [] → Walks (walked c names w word)
  unfolding walked
  turn_kept names w word is j e = go w.stopped e
    where
      go : (stop : Option (Text × List Text))
          → cond (is_some stop) []
          (or_else (word_fault s names w.is_trailing w.waiting word w.held)
          (step_fault s w.position (word_met c names w.is_trailing w.waiting w.position word w.held).0 (word_met c names w.is_trailing w.waiting w.position word w.held).1)) ≡ []
          → Walks (walked_from c names stop w word)
      go (Some p) f = j
      go None f =
          let met = word_met c names w.is_trailing w.waiting w.position word w.held in
          let parts = no_fault _ _ f in
          let kept = word_kept names w.is_trailing w.waiting j.1 w.position word is w.held j.0 parts.0 in
          step_kept word w met.0 met.1 kept.0 kept.1 j.1 parts.1

  walk_kept : (names : Names) (w : Walk) (words : List Text) → All W words → Walks w → walk_fault s names w words ≡ [] → Walks (fold (walked c names) w words)
  unfolding walk_fault
  walk_kept names w [] all j e = j
  walk_kept names w (word ∷ rest) all j e =
      let parts = no_fault _ _ e in
      walk_kept names (walked c names w word) rest (λ k d lt. all (suc k) d (omega arith)) (turn_kept names w word (all 0 word (omega arith)) j parts.0) parts.1

  -- what is held when all is read, and what is checked then
  pub level_kept : (names : Names) (words : List Text) (has : Bool) (below : Kinds) → All W words → J [] None → level_fault s names nothing_held words has below ≡ []
      → let rows = (settled c (walk c names nothing_held words).held).rows in
      J rows None × (defaults_fault rows c ≡ []) × (check_fault s (finished c (walk c names nothing_held words).held) has ≡ [])
  level_kept names words has below all j e =
      let end = (walk c names nothing_held words).held in
      let parts = no_fault _ _ e in
      let then = no_fault _ _ parts.1 in
      let settling = no_fault _ _ then.1 in
      let last = no_fault _ _ settling.1 in
      let walks = walk_kept names (walk_from nothing_held) words all (j, tt) parts.0 in
      (keeps.settles end walks.0 settling.0, last.0, last.1)
