-- Line by line, the text is read as it means.
use Rattle.std.proofs.Common.{◌≡◌, ◌≢◌, ℕ, ◌+◌, ◌<◌, ◌≤◌, Bool, true, false, cond, ◌||◌, List, [], ◌∷◌, ◌++◌, length, Option, Some, None, Ok, Err, is_some, refl, sym, ap, subst, ◌∙◌, ◌⊎◌, append_assoc, inl, inr, arith, lit≤, rules, flat_map, map, nat_eq, chars}
use Rattle.std.specs.Map.{lookup}
use Rattle.std.proofs.lemmas.List.{append-nil, length_push, length-append}
use Rattle.std.proofs.lemmas.Bool.{cases_lt, or_parts}
use Rattle.std.proofs.lemmas.Grind.{flat_map-append}
use Rattle.std.proofs.Math.Path.{fun_ext}
use Rattle.louis_table.specs.declared.definition.Class.TheVariants.{Letter}
use Rattle.louis_table.specs.declared.definition.Definition.{Definition}
use Rattle.louis_table.specs.declared.sign.Sign.{Sign}
use Rattle.louis_table.specs.declared.character_set.CharacterSet.{CharacterSet}
use Rattle.louis_table.specs.declared.pending.PendingEntry.{PendingEntry}
use Rattle.louis_table.specs.Lines.{lines_of}
use Rattle.louis_table.specs.Meaning.{Meaning, every_sign, every_set}
use Rattle.louis_table.specs.Steps.Table.{no_meaning, HasDefinedPartners, signs_with, sets_with, with_given}
use Rattle.louis_table.specs.Steps.Draft.{written_in, written_by}
use Rattle.louis_table.specs.Steps.Read.{Gathers, LinesGive, IsReported, judge}
use Rattle.louis_table.specs.Profile.{WithNumericMode}
use Rattle.louis_table.specs.Table.{most_lines, Entry, Pairs, SaysNothing, GivesEntry, GiveFrom, definitions_in, partners_in, cells_for, characters_for, IsFault, HasCause, on_line, IsReportedNoLater}
use Rattle.louis_table.proofs.EntryLaws.{Says}
use Rattle.louis_table.proofs.MeaningLaws.{signs_with-each, sets_with-each}
use Rattle.louis_table.proofs.VerdictLaws.{any_gives, lookup-flat_map, judge-Fault, IsFault-judge, judge-few, judge-given, none_from}

-- ---- one more line

GiveFrom-nothing : (n : ℕ) (lines : List (List ℕ)) (line : List ℕ) (entries : List (ℕ × Entry)) → GiveFrom WithNumericMode n lines entries → SaysNothing line → GiveFrom WithNumericMode n (lines ++ line ∷ []) entries
GiveFrom-nothing n [] line entries g s = inl (s, g)
GiveFrom-nothing n (l ∷ lines) line entries (inl (t, g)) s = inl (t, GiveFrom-nothing (n + 1) lines line entries g s)
GiveFrom-nothing n (l ∷ lines) line entries (inr (entry, rest, gives, e, g)) s = inr (entry, rest, gives, e, GiveFrom-nothing (n + 1) lines line rest g s)

GiveFrom-entry : (n k : ℕ) (lines : List (List ℕ)) (line : List ℕ) (entries : List (ℕ × Entry)) (entry : Entry) → k ≡ n + length lines → GiveFrom WithNumericMode n lines entries → GivesEntry WithNumericMode line entry
    → GiveFrom WithNumericMode n (lines ++ line ∷ []) (entries ++ (k, entry) ∷ [])
GiveFrom-entry n k [] line entries entry at g s =
    let same : k ≡ n = omega arith in
    inr (entry, [], s, ap (λ (es : List (ℕ × Entry)). es ++ (k, entry) ∷ []) g ∙ ap (λ (m : ℕ). (m, entry) ∷ []) same, refl)
GiveFrom-entry n k (l ∷ lines) line entries entry at (inl (t, g)) s = inl (t, GiveFrom-entry (n + 1) k lines line entries entry (omega arith) g s)
GiveFrom-entry n k (l ∷ lines) line entries entry at (inr (other, rest, gives, e, g)) s =
    inr (other, rest ++ (k, entry) ∷ [], gives, ap (λ (es : List (ℕ × Entry)). es ++ (k, entry) ∷ []) e, GiveFrom-entry (n + 1) k lines line rest entry (omega arith) g s)

flat_map-push : {X A : Type 0} (f : X → List A) (xs : List X) (x : X) (old : List A) → old ≡ flat_map f xs → old ++ f x ≡ flat_map f (xs ++ x ∷ [])
flat_map-push {A = A} f xs x old e = search (rules, flat_map-append)

-- what the line gives is gathered with the rest
Gathers-more : (before : List (List ℕ)) (line : List ℕ) (old new : Meaning) (rules all : List PendingEntry) (given : Option Entry) → Gathers before old rules → Says line (Ok given)
    → new ≡ with_given old given → all ≡ rules ++ written_in (length before + 1) given → Gathers (before ++ line ∷ []) new all
Gathers-more before line old new rules all None g s e w =
    record {
      entries = g.entries;
      given = GiveFrom-nothing 1 before line g.entries g.given s;
      definitions = ap (λ (m : Meaning). m.definitions) e ∙ g.definitions;
      partners = ap (λ (m : Meaning). m.partners) e ∙ g.partners;
      signs = ap (λ (m : Meaning). m.signs) e ∙ g.signs;
      sets = ap (λ (m : Meaning). m.sets) e ∙ g.sets;
      written = w ∙ (append-nil rules ∙ g.written);
    }
Gathers-more before line old new rules all (Some entry) g s e w =
    record {
      entries = g.entries ++ (length before + 1, entry) ∷ [];
      given = GiveFrom-entry 1 (length before + 1) before line g.entries entry (omega arith) g.given s;
      definitions = ap (λ (m : Meaning). m.definitions) e ∙ flat_map-push (λ (x : ℕ × Entry). definitions_in x.1) g.entries (length before + 1, entry) old.definitions g.definitions;
      partners = ap (λ (m : Meaning). m.partners) e ∙ flat_map-push (λ (x : ℕ × Entry). partners_in x.1) g.entries (length before + 1, entry) old.partners g.partners;
      signs = ap (λ (m : Meaning). m.signs) e
          ∙ (ap (λ (all : List (List ℕ)). signs_with all entry) g.signs
          ∙ (signs_with-each (λ sign. flat_map (λ x. cells_for sign x.1) g.entries) entry
          ∙ ap (λ (f : Sign → List ℕ). map f every_sign) (fun_ext (λ sign.
          flat_map-push (λ (x : ℕ × Entry). cells_for sign x.1) g.entries (length before + 1, entry) _ refl))));
      sets = ap (λ (m : Meaning). m.sets) e
          ∙ (ap (λ (all : List (List ℕ)). sets_with all entry) g.sets
          ∙ (sets_with-each (λ set. flat_map (λ x. characters_for set x.1) g.entries) entry
          ∙ ap (λ (f : CharacterSet → List ℕ). map f every_set) (fun_ext (λ set.
          flat_map-push (λ (x : ℕ × Entry). characters_for set x.1) g.entries (length before + 1, entry) _ refl))));
      written = w ∙ flat_map-push (λ (x : ℕ × Entry). written_by x.0 x.1) g.entries (length before + 1, entry) rules g.written;
    }

-- an entry that makes a capital defines it
partners_defined : (c : ℕ) (entry : Entry) → is_some (lookup (nat_eq c) (definitions_in entry)) ≡ false → is_some (lookup (nat_eq c) (partners_in entry)) ≡ false
partners_defined c (Pairs u uc l lc) h = by (nat_eq c u) h
  where
    by : (b : Bool) → is_some {T = Definition} (cond b (Some (record { class = Letter; cells = uc })) (cond (nat_eq c l) (Some (record { class = Letter; cells = lc })) None)) ≡ false
        → is_some (let found : Option ℕ = cond b (Some l) None in found) ≡ false
    by true h = absurd cc
    by false h = refl
partners_defined c entry h = refl

undefined_partner : (c : ℕ) (entries : List (ℕ × Entry)) → any_gives (λ entry. is_some (lookup (nat_eq c) (definitions_in entry))) entries ≡ false
    → any_gives (λ entry. is_some (lookup (nat_eq c) (partners_in entry))) entries ≡ false
undefined_partner c [] h = refl
undefined_partner c (e ∷ entries) h =
    let both = or_parts (is_some (lookup (nat_eq c) (definitions_in e.1))) (any_gives (λ entry. is_some (lookup (nat_eq c) (definitions_in entry))) entries) h in
    ap (λ (b : Bool). b || any_gives (λ entry. is_some (lookup (nat_eq c) (partners_in entry))) entries) (partners_defined c e.1 both.0)
    ∙ undefined_partner c entries both.1

-- each capital that is gathered is defined
pub Gathers-HasDefinedPartners : (lines : List (List ℕ)) (meaning : Meaning) (rules : List PendingEntry) → Gathers lines meaning rules → HasDefinedPartners meaning
Gathers-HasDefinedPartners lines meaning rules g c n =
    none_from _
    (ap (λ (ps : List (ℕ × ℕ)). is_some (lookup (nat_eq c) ps)) g.partners
    ∙ (lookup-flat_map (nat_eq c) partners_in g.entries
    ∙ undefined_partner c g.entries
    (sym (lookup-flat_map (nat_eq c) definitions_in g.entries)
    ∙ (sym (ap (λ (ds : List (ℕ × Definition)). is_some (lookup (nat_eq c) ds)) g.definitions) ∙ ap is_some n))))

same_place : (xs ys : List (List ℕ)) (x y : List ℕ) (after rest : List (List ℕ)) → xs ++ x ∷ after ≡ ys ++ y ∷ rest → length xs ≡ length ys → (xs ≡ ys) × (x ≡ y)
same_place [] [] x y after rest e l = (refl, cc)
same_place [] (z ∷ ys) x y after rest e l = absurd (omega arith)
same_place (w ∷ xs) [] x y after rest e l = absurd (omega arith)
same_place (w ∷ xs) (z ∷ ys) x y after rest e l =
    let tails : xs ++ x ∷ after ≡ ys ++ y ∷ rest = cc in
    let heads : w ≡ z = cc in
    let lengths : length xs ≡ length ys = omega arith in
    let same = same_place xs ys x y after rest tails lengths in
    (ap (λ (t : List (List ℕ)). w ∷ t) same.0 ∙ ap (λ (h : List ℕ). h ∷ ys) heads, same.1)

-- ---- how far the lines were read

-- these lines stand before the rest, have no fault, and give this
pub record Reached (lines before rest : List (List ℕ)) (meaning : Meaning) (rules : List PendingEntry) : Type 0 where
  pub parts : lines ≡ before ++ rest
  pub sound : (n cause : ℕ) → HasCause WithNumericMode lines n cause → length before < n
  pub gathered : Gathers before meaning rules

pub Reached-none : (lines : List (List ℕ)) (meaning : Meaning) (rules : List PendingEntry) → meaning ≡ no_meaning → rules ≡ [] → Reached lines [] lines meaning rules
Reached-none lines meaning rules e w =
    record {
      parts = refl;
      sound = λ n cause h. from_one n cause h;
      gathered = record {
        entries = [];
        given = refl;
        definitions = ap (λ (m : Meaning). m.definitions) e;
        partners = ap (λ (m : Meaning). m.partners) e;
        signs = ap (λ (m : Meaning). m.signs) e;
        sets = ap (λ (m : Meaning). m.sets) e;
        written = w;
      };
    }
  where
    from_one : (n cause : ℕ) → HasCause WithNumericMode lines n cause → 0 < n
    from_one n cause (on_line before line after e at f) = omega arith

module _ (lines before rest : List (List ℕ)) (line : List ℕ) (meaning : Meaning) (rules : List PendingEntry) (r : Reached lines before (line ∷ rest) meaning rules) where
  -- a fault of the line that comes next
  here : (n cause : ℕ) → HasCause WithNumericMode lines n cause → n ≡ length before + 1 → IsFault WithNumericMode before line cause
  here n cause (on_line front other after e at f) h =
      let same = same_place front before other line after rest (sym e ∙ r.parts) (omega arith) in
      subst (λ (b : List (List ℕ)). IsFault WithNumericMode b line cause) same.0 (subst (λ (l : List ℕ). IsFault WithNumericMode front l cause) same.1 f)

  pub Reached-more : (given : Option Entry) (new : Meaning) (all : List PendingEntry) → judge meaning (length before) line ≡ Ok given
      → new ≡ with_given meaning given → all ≡ rules ++ written_in (length before + 1) given → Reached lines (before ++ line ∷ []) rest new all
  Reached-more given new all j e w =
      record {
        parts = r.parts ∙ sym (append_assoc before (line ∷ []) rest);
        sound = λ n cause h. beyond n cause h;
        gathered = Gathers-more before line meaning new rules all given r.gathered (judge-given meaning (length before) line given j) e w;
      }
    where
      no_fault : (cause : ℕ) → ¬ IsFault WithNumericMode before line cause
      no_fault cause f = let k = IsFault-judge before line meaning rules r.gathered cause f in let bad : judge meaning (length before) line ≡ Err k.0 = k.1 in cc

      beyond : (n cause : ℕ) → HasCause WithNumericMode lines n cause → length (before ++ line ∷ []) < n
      beyond n cause h =
          let past : length before < n = r.sound n cause h in
          let more : n ≢ length before + 1 = λ e. no_fault cause (here n cause h e) in
          omega (arith, length_push before line)

  pub Reached-fault : (cause : ℕ) → judge meaning (length before) line ≡ Err cause → IsReported lines (length before + 1) cause
  Reached-fault cause j =
      record {
        has = on_line before line rest r.parts refl (judge-Fault before line meaning rules r.gathered cause j);
        first = λ m other h. reported m other h;
      }
    where
      least : (other : ℕ) → IsFault WithNumericMode before line other → cause ≤ other
      least other f =
          let k = IsFault-judge before line meaning rules r.gathered other f in
          let same : cause ≡ k.0 = let bad : judge meaning (length before) line ≡ Err k.0 = k.1 in cc in
          let le : k.0 ≤ other = k.2 in
          omega arith

      by : (m other : ℕ) → HasCause WithNumericMode lines m other → (m ≡ length before + 1) ⊎ (length before + 1 < m) → IsReportedNoLater (length before + 1) cause m other
      by m other h (inl e) = inr (sym e, least other (here m other h e))
      by m other h (inr lt) = inl lt

      reported : (m other : ℕ) → HasCause WithNumericMode lines m other → IsReportedNoLater (length before + 1) cause m other
      reported m other h =
          let past : length before < m = r.sound m other h in
          by m other h (elim (cases_lt (length before + 1) m) [ inl lt ↦ inr lt | inr le ↦ inl (omega arith) ])

pub Reached-all : (lines before : List (List ℕ)) (meaning : Meaning) (rules : List PendingEntry) → Reached lines before [] meaning rules → LinesGive lines meaning rules
Reached-all lines before meaning rules r =
    let whole : lines ≡ before = r.parts ∙ append-nil before in
    record { is_sound = λ n cause h. sound n cause whole h; gathered = subst (λ (ls : List (List ℕ)). Gathers ls meaning rules) (sym whole) r.gathered }
  where
    sound : (n cause : ℕ) → lines ≡ before → ¬ HasCause WithNumericMode lines n cause
    sound n cause whole (on_line front line after e at f) =
        let past : length before < n = r.sound n cause (on_line front line after e at f) in
        let long : length before ≡ length (front ++ line ∷ after) = ap length (sym whole ∙ e) in
        absurd (omega (arith, length-append front (line ∷ after)))

-- the lines that were read, so many, and those of the rest
pub record ReadsOn (text : List ℕ) (count : ℕ) (rest : List ℕ) (meaning : Meaning) (rules : List PendingEntry) : Type 0 where
  pub before : List (List ℕ)
  pub counted : count ≡ length before
  pub few : count ≤ most_lines
  pub reached : Reached (map chars (lines_of text)) before (map chars (lines_of rest)) meaning rules

pub ReadsOn-none : (text : List ℕ) (meaning : Meaning) (rules : List PendingEntry) → meaning ≡ no_meaning → rules ≡ [] → ReadsOn text 0 text meaning rules
ReadsOn-none text meaning rules e w = record { before = []; counted = refl; few = lit≤ tt; reached = Reached-none (map chars (lines_of text)) meaning rules e w }

pub ReadsOn-HasDefinedPartners : (text : List ℕ) (count : ℕ) (rest : List ℕ) (meaning : Meaning) (rules : List PendingEntry) → ReadsOn text count rest meaning rules → HasDefinedPartners meaning
ReadsOn-HasDefinedPartners text count rest meaning rules r = Gathers-HasDefinedPartners r.before meaning rules r.reached.gathered

pub ReadsOn-all : (text : List ℕ) (count : ℕ) (rest : List ℕ) (meaning : Meaning) (rules : List PendingEntry) → ReadsOn text count rest meaning rules → rest ≡ []
    → LinesGive (map chars (lines_of text)) meaning rules
ReadsOn-all text count rest meaning rules r e =
    Reached-all (map chars (lines_of text)) r.before meaning rules
    (subst (λ (t : List ℕ). Reached (map chars (lines_of text)) r.before (map chars (lines_of t)) meaning rules) e r.reached)

module _ (text : List ℕ) (count : ℕ) (rest line next characters : List ℕ) (meaning : Meaning) (rules : List PendingEntry) (r : ReadsOn text count rest meaning rules)
    (l : lines_of rest ≡ line ∷ lines_of next) (c : characters ≡ chars line) where
  reached_line : Reached (map chars (lines_of text)) r.before (characters ∷ map chars (lines_of next)) meaning rules
  reached_line = subst (λ (ls : List (List ℕ)). Reached (map chars (lines_of text)) r.before ls meaning rules) (ap (map chars) l ∙ ap (λ (x : List ℕ). x ∷ map chars (lines_of next)) (sym c)) r.reached

  pub ReadsOn-fault : (cause : ℕ) → judge meaning count characters ≡ Err cause → IsReported (map chars (lines_of text)) (count + 1) cause
  ReadsOn-fault cause j =
      subst (λ (n : ℕ). IsReported (map chars (lines_of text)) (n + 1) cause) (sym r.counted)
      (Reached-fault (map chars (lines_of text)) r.before (map chars (lines_of next)) characters meaning rules reached_line cause
      (ap (λ (n : ℕ). judge meaning n characters) (sym r.counted) ∙ j))

  pub ReadsOn-more : (given : Option Entry) (new : Meaning) (all : List PendingEntry) → judge meaning count characters ≡ Ok given
      → new ≡ with_given meaning given → all ≡ rules ++ written_in (count + 1) given → ReadsOn text (count + 1) next new all
  ReadsOn-more given new all j e w =
      let few : count < most_lines = judge-few meaning count characters given j in
      record {
        before = r.before ++ characters ∷ [];
        counted = ap (λ (n : ℕ). n + 1) r.counted ∙ sym (length_push r.before characters);
        few = omega arith;
        reached = Reached-more (map chars (lines_of text)) r.before (map chars (lines_of next)) characters meaning rules reached_line given new all
            (ap (λ (n : ℕ). judge meaning n characters) (sym r.counted) ∙ j) e
            (w ∙ ap (λ (n : ℕ). rules ++ written_in (n + 1) given) r.counted);
      }
