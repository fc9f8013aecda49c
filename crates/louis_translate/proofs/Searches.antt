-- A walk along the print, down a tree of the rules' characters.
use Rattle.std.proofs.Common.{◌≡◌, ℕ, zero, suc, ◌+◌, ◌<◌, ◌≤◌, ◌-◌, List, [], ◌∷◌, length, take, drop, map, Option, Some, None, refl, sym, ap, subst, ◌∙◌, arith, inl, inr, rules, slice_get, IsSomeAnd, option_map}
use Rattle.std.specs.Option.{option_map_or, option_and_then, option_or}
use Rattle.std.proofs.lemmas.Bool.{cases_order}
use Rattle.std.proofs.lemmas.Option.{slice_get_within, slice_get-map}
use Rattle.std.proofs.lemmas.List.{length-take, length-map, length-drop, take-map}
use Rattle.louis_table.specs.Meaning.{Meaning, fold_of}
use Rattle.louis_table.specs.declared.rule.Rule.{Rule}
use Rattle.louis_translate.specs.declared.rule_tree.RuleTree.{RuleTree}
use Rattle.louis_translate.specs.declared.indexed_table.IndexedTable.{IndexedTable}
use Rattle.louis_translate.specs.Choice.{IsCandidate, IsChosen, Matches, MayCover, YieldsTo, span}
use Rattle.louis_translate.specs.Tree.{AreAscending, HasCharacters, IsAt, IsTree, LeadTo, StandsIn, leads, rules_at}
use Rattle.louis_translate.specs.Search.{AreThose, IsBestBelow, IsFirstOf, IsOnWay, IsWhole, folded_from}
use Rattle.louis_translate.proofs.Trees.{text_is, way_next, way_within, ways_same}

-- ---- candidates

some_parts : {X : Type 0} {P : X → Type 0} (o : Option X) → IsSomeAnd o P → (x : X) × (o ≡ Some x) × P x
some_parts None h = absurd h
some_parts (Some x) h = (x, refl, h)

candidate_rule : (meaning : Meaning) (print : List ℕ) (i j : ℕ) → IsCandidate meaning print i (Some j) → (rule : Rule) × (slice_get meaning.rules j ≡ Some rule) × Matches meaning print i rule
candidate_rule meaning print i j h = some_parts (slice_get meaning.rules j) h

rule_candidate : (meaning : Meaning) (print : List ℕ) (i j : ℕ) (rule : Rule) → slice_get meaning.rules j ≡ Some rule → Matches meaning print i rule → IsCandidate meaning print i (Some j)
rule_candidate meaning print i j rule there t = subst (λ (o : Option Rule). IsSomeAnd o (Matches meaning print i)) (sym there) t

rule_span : (meaning : Meaning) (j : ℕ) (rule : Rule) → slice_get meaning.rules j ≡ Some rule → span meaning (Some j) ≡ length rule.chars
rule_span meaning j rule there = ap (λ (o : Option Rule). option_map_or (λ r. length r.chars) o 0) there

-- ---- the text

pub text_length : (meaning : Meaning) (print : List ℕ) (i : ℕ) → length (folded_from meaning print i) ≡ length print - i
text_length meaning print i = length-map (drop i print) (fold_of meaning) ∙ length-drop i print

get_drop : (print : List ℕ) (i n : ℕ) → slice_get (drop i print) n ≡ slice_get print (i + n)
get_drop [] zero n = refl
get_drop [] (suc i) n = refl
get_drop (x ∷ print) zero n = let e : n ≡ 0 + n = omega arith in ap (slice_get (x ∷ print)) e
get_drop (x ∷ print) (suc i) n = let e : suc (i + n) ≡ suc i + n = omega arith in get_drop print i n ∙ ap (slice_get (x ∷ print)) e

pub text_at : (meaning : Meaning) (print : List ℕ) (i n : ℕ) → slice_get (folded_from meaning print i) n ≡ option_map (fold_of meaning) (slice_get print (i + n))
text_at meaning print i n = slice_get-map (fold_of meaning) (drop i print) n ∙ ap (option_map (fold_of meaning)) (get_drop print i n)

-- ---- the rules that stand where the text leads

has_rule : (rules : List Rule) (j : ℕ) (cs : List ℕ) → HasCharacters rules j cs → (rule : Rule) × (slice_get rules j ≡ Some rule) × (rule.chars ≡ cs)
has_rule rules j cs h = some_parts (slice_get rules j) h

pub has_within : (rules : List Rule) (j : ℕ) (cs : List ℕ) → HasCharacters rules j cs → j < length rules
has_within rules j cs h = let p = has_rule rules j cs h in slice_get_within rules j p.0 p.1

-- nothing longer is there
dead_end : (tree : RuleTree) (text : List ℕ) (n m : ℕ) (from place p : Option ℕ) → LeadTo tree from (take n text) place → LeadTo tree from (take m text) p → n < m → m ≤ length text → option_and_then (leads tree place) (slice_get text n) ≡ None → ⊥
dead_end tree [] n m from place p a b more le none = absurd (omega arith)
dead_end tree (c ∷ text) n zero from place p a b more le none = absurd (omega arith)
dead_end tree (c ∷ text) zero (suc m) from place p a b more le none = search rules
dead_end tree (c ∷ text) (suc n) (suc m) from place p a b more le none =
    let e = a.1 in
    let f = b.1 in
    let same : b.0 ≡ a.0 = cc in
    dead_end tree text n m (Some a.0) place p a.2 (subst (λ (x : ℕ). LeadTo tree (Some x) (take m text) p) same b.2) (omega arith) (omega arith) none

module _ (meaning : Meaning) (tree : RuleTree) (print : List ℕ) (i : ℕ) (t : IsTree meaning.rules (length meaning.rules) tree) where
  rule_text : (rule : Rule) → Matches meaning print i rule → take (length rule.chars) (folded_from meaning print i) ≡ rule.chars
  rule_text rule m = take-map (fold_of meaning) (length rule.chars) (drop i print) ∙ m.characters

  candidate_fits : (j : ℕ) → IsCandidate meaning print i (Some j) → span meaning (Some j) ≤ length (folded_from meaning print i)
  candidate_fits j h =
      let parts = candidate_rule meaning print i j h in
      omega (arith, rule_span meaning j parts.0 parts.1, ap (length {A = ℕ}) (rule_text parts.0 parts.2), length-take (length parts.0.chars) (folded_from meaning print i))

  -- a candidate with characters stands where the print's lead
  stands : (j : ℕ) → IsCandidate meaning print i (Some j) → 0 < span meaning (Some j) → StandsIn tree (take (span meaning (Some j)) (folded_from meaning print i)) j
  stands j h some =
      let parts = candidate_rule meaning print i j h in
      let s = rule_span meaning j parts.0 parts.1 in
      let lt = slice_get_within meaning.rules j parts.0 parts.1 in
      subst (λ (cs : List ℕ). StandsIn tree cs j) (sym (rule_text parts.0 parts.2) ∙ ap (λ (k : ℕ). take k (folded_from meaning print i)) (sym s))
      (t.all j parts.0 lt parts.1 (omega arith))

  pub AreThose-way : (d node : ℕ) → 0 < d → LeadTo tree None (take d (folded_from meaning print i)) (Some node) → AreThose meaning print i d (rules_at tree.nodes.items node)
  AreThose-way d node some way =
      record {
        right = λ j at.
            subst (λ (cs : List ℕ). HasCharacters meaning.rules j cs) (text_is meaning.rules (length meaning.rules) tree t (take d (folded_from meaning print i)) (Some node) way) (t.right node j at);
        ascending = t.ascending node;
        all = λ j h e.
            let s = subst (λ (n : ℕ). StandsIn tree (take n (folded_from meaning print i)) j) e (stands j h (omega arith)) in
            let both = ways_same tree (take d (folded_from meaning print i)) None (Some s.0) (Some node) s.1 way in
            let same : s.0 ≡ node = cc in
            subst (λ (n : ℕ). IsAt (rules_at tree.nodes.items n) j) same s.2;
      }

  pub longest_at_end : (d : ℕ) (place : Option ℕ) → LeadTo tree None (take d (folded_from meaning print i)) place → option_and_then (leads tree place) (slice_get (folded_from meaning print i) d) ≡ None → (j : ℕ) → IsCandidate meaning print i (Some j) → span meaning (Some j) ≤ d
  longest_at_end d place way none j h =
      elim (cases_order (span meaning (Some j)) d) [
        | inl same ↦ omega arith
        | inr ne ↦ elim ne [
          | inl less ↦ omega arith
          | inr gt ↦
              let s = stands j h (omega arith) in
              absurd (dead_end tree (folded_from meaning print i) d (span meaning (Some j)) None place (Some s.0) way s.1 gt (candidate_fits j h) none)
        ]
      ]

-- ---- the best among some

module _ (meaning : Meaning) (print : List ℕ) (i d : ℕ) (here : List ℕ) (some : 0 < d) (within : d ≤ length print - i) (those : AreThose meaning print i d here) where
  chars_here : (k : ℕ) (rule : Rule) → IsAt here k → slice_get meaning.rules k ≡ Some rule → rule.chars ≡ take d (folded_from meaning print i)
  chars_here k rule at is =
      let p = has_rule meaning.rules k (take d (folded_from meaning print i)) (those.right k at) in
      let same : p.0 ≡ rule = let e = p.1 in cc in
      ap (λ (r : Rule). r.chars) (sym same) ∙ p.2

  length_here : (k : ℕ) (rule : Rule) → IsAt here k → slice_get meaning.rules k ≡ Some rule → length rule.chars ≡ d
  length_here k rule at is =
      let e = ap (length {A = ℕ}) (chars_here k rule at is) in
      omega (arith, length-take d (folded_from meaning print i), text_length meaning print i)

  module _ (k : ℕ) (rule : Rule) (at : IsAt here k) (is : slice_get meaning.rules k ≡ Some rule) where
    -- a rule of the list that may cover its places may be used
    pub candidate_here : MayCover meaning print rule.kind i (i + d) → IsCandidate meaning print i (Some k)
    candidate_here m =
        let len = length_here k rule at is in
        let chars : map (fold_of meaning) (take (length rule.chars) (drop i print)) ≡ rule.chars =
        ap (λ (n : ℕ). map (fold_of meaning) (take n (drop i print))) len
        ∙ (sym (take-map (fold_of meaning) d (drop i print)) ∙ sym (chars_here k rule at is)) in
        let n = subst (λ (e : ℕ). MayCover meaning print rule.kind i (i + e)) (sym len) m in
        rule_candidate meaning print i k rule is (record { characters = chars; position = n.0; no_sign_inside = n.1 })

    -- and no other
    pub covers_here : IsCandidate meaning print i (Some k) → MayCover meaning print rule.kind i (i + d)
    covers_here h =
        let p = candidate_rule meaning print i k h in
        let same : p.0 ≡ rule = let e = p.1 in cc in
        let m = subst (Matches meaning print i) same p.2 in
        subst (λ (e : ℕ). MayCover meaning print rule.kind i (i + e)) (length_here k rule at is) (m.position, m.no_sign_inside)

  -- where none of the list may be used, the best is as before
  pub IsBestBelow-keep : (found : Option ℕ) → IsFirstOf meaning print i here None → IsBestBelow meaning print i d found → IsBestBelow meaning print i (d + 1) found
  IsBestBelow-keep found none b =
      record {
        candidate = b.candidate;
        definition = b.definition;
        best = λ j h s. elim (cases_order (span meaning (Some j)) d) [
          | inl e ↦ absurd (none j (those.all j h e) h)
          | inr ne ↦ elim ne [ inl less ↦ b.best j h less | inr gt ↦ absurd (omega arith) ]
        ];
      }

  -- where some may be used, it is the first of these
  IsBestBelow-longer : (k : ℕ) → IsFirstOf meaning print i here (Some k) → IsBestBelow meaning print i (d + 1) (Some k)
  IsBestBelow-longer k first =
      let p = candidate_rule meaning print i k first.1 in
      let is : span meaning (Some k) ≡ d = ap (λ (o : Option Rule). option_map_or (λ r. length r.chars) o 0) p.1 ∙ length_here k p.0 first.0 p.1 in
      let lt = slice_get_within meaning.rules k p.0 p.1 in
      record {
        candidate = first.1;
        definition = elim (cases_order 1 d) [
          | inl e ↦ inr (omega arith, omega arith)
          | inr ne ↦ elim ne [ inl less ↦ inl (omega arith) | inr gt ↦ absurd (omega arith) ]
        ];
        best = λ j h s. elim (cases_order (span meaning (Some j)) d) [
          | inl e ↦ inr (e ∙ sym is, first.2 j (those.all j h e) h)
          | inr ne ↦ elim ne [ inl less ↦ inl (omega arith) | inr gt ↦ absurd (omega arith) ]
        ];
      }

  pub IsBestBelow-or : (first found : Option ℕ) → IsFirstOf meaning print i here first → IsBestBelow meaning print i d found → IsBestBelow meaning print i (d + 1) (option_or first found)
  IsBestBelow-or None found none b = IsBestBelow-keep found none b
  IsBestBelow-or (Some k) found first b = IsBestBelow-longer k first

-- none of the first x of a list may be used
abbrev pub NoneBefore : Meaning → List ℕ → ℕ → List ℕ → ℕ → Type 0
NoneBefore meaning print i here x = (j y : ℕ) → y < x → slice_get here y ≡ Some j → IsCandidate meaning print i (Some j) → ⊥

pub NoneBefore-next : (meaning : Meaning) (print : List ℕ) (i : ℕ) (here : List ℕ) (x k : ℕ) → slice_get here x ≡ Some k → NoneBefore meaning print i here x → (IsCandidate meaning print i (Some k) → ⊥) → NoneBefore meaning print i here (x + 1)
NoneBefore-next meaning print i here x k there before not j y lt e h = search rules

pub NoneBefore-all : (meaning : Meaning) (print : List ℕ) (i : ℕ) (here : List ℕ) (x : ℕ) → length here ≤ x → NoneBefore meaning print i here x → IsFirstOf meaning print i here None
NoneBefore-all meaning print i here x le before j at h = let lt = slice_get_within here at.0 j at.1 in before j at.0 (omega arith) at.1 h

pub NoneBefore-first : (meaning : Meaning) (print : List ℕ) (i : ℕ) (here : List ℕ) (x k : ℕ) → slice_get here x ≡ Some k → AreAscending here → NoneBefore meaning print i here x → IsCandidate meaning print i (Some k) → IsFirstOf meaning print i here (Some k)
NoneBefore-first meaning print i here x k there ascending before h = ((x, there), h, others)
  where
    others : (j : ℕ) → IsAt here j → IsCandidate meaning print i (Some j) → k ≤ j
    others j at g =
        elim (cases_order at.0 x) [
          | inl same ↦
              let e = at.1 in
              let f : slice_get here x ≡ Some j = ap (slice_get here) (sym same) ∙ e in
              let is : j ≡ k = cc in
              omega arith
          | inr ne ↦ elim ne [
            | inl less ↦ absurd (before j at.0 less at.1 g)
            | inr gt ↦ let lt = ascending x at.0 k j gt there at.1 in omega arith
          ]
        ]

pub IsBestBelow-first : (meaning : Meaning) (print : List ℕ) (i : ℕ) → IsBestBelow meaning print i 1 None
IsBestBelow-first meaning print i = record { candidate = tt; definition = inr (refl, omega arith); best = λ j h lt. inl (omega arith) }

pub IsBestBelow-all : (meaning : Meaning) (print : List ℕ) (i d : ℕ) (found : Option ℕ) → IsBestBelow meaning print i (d + 1) found → ((j : ℕ) → IsCandidate meaning print i (Some j) → span meaning (Some j) ≤ d) → IsChosen meaning print i found
IsBestBelow-all meaning print i d found b short = record { candidate = b.candidate; first = all }
  where
    all : (c : Option ℕ) → IsCandidate meaning print i c → YieldsTo meaning c found
    all None h = b.definition
    all (Some j) h = let le = short j h in b.best j h (omega arith)

-- ---- the walk

then_map : {A B C : Type 0} (f : B → Option C) (g : A → B) (o : Option A) → option_and_then f (option_map g o) ≡ option_and_then (λ c. f (g c)) o
then_map f g None = refl
then_map f g (Some a) = refl

some_within : (print : List ℕ) (f : ℕ → Option ℕ) (j x : ℕ) → option_and_then f (slice_get print j) ≡ Some x → j < length print
some_within [] f j x h = absurd cc
some_within (c ∷ print) f zero x h = omega arith
some_within (c ∷ print) f (suc j) x h = let l = some_within print f j x h in omega arith

then_some : (f : ℕ → Option ℕ) (o : Option ℕ) (x : ℕ) → option_and_then f o ≡ Some x → (c : ℕ) × (o ≡ Some c) × (f c ≡ Some x)
then_some f None x h = absurd cc
then_some f (Some c) x h = (c, refl, h)

module _ (index : IndexedTable) (print : List ℕ) (i : ℕ) (t : IsWhole index) where
  next_is : (j : ℕ) (place : Option ℕ) → i ≤ j → option_and_then (leads index.tree place) (slice_get (folded_from index.table print i) (j - i)) ≡ option_and_then (λ c. leads index.tree place (fold_of index.table c)) (slice_get print j)
  next_is j place le =
      ap (option_and_then (leads index.tree place)) (text_at index.table print i (j - i) ∙ ap (λ (k : ℕ). option_map (fold_of index.table) (slice_get print k)) (omega arith))
      ∙ then_map (leads index.tree place) (fold_of index.table) (slice_get print j)

  pub AreThose-on_way : (j node : ℕ) → IsOnWay index print i j node → AreThose index.table print i (j - i) (rules_at index.tree.nodes.items node)
  AreThose-on_way j node w = let lt = w.order in AreThose-way index.table index.tree print i t (j - i) node (omega arith) w.way

  pub node_within : (j node : ℕ) → IsOnWay index print i j node → node < length index.tree.nodes.items
  node_within j node w =
      let lt = w.order in
      let le = w.within in
      let l = length-take (j - i) (folded_from index.table print i) in
      let m = text_length index.table print i in
      way_within index.table.rules (length index.table.rules) index.tree t (take (j - i) (folded_from index.table print i)) None node (omega arith) w.way

  pub chosen_at_end : (j node : ℕ) (found : Option ℕ) → IsOnWay index print i j node → IsBestBelow index.table print i (j - i + 1) found → option_and_then (λ c. leads index.tree (Some node) (fold_of index.table c)) (slice_get print j) ≡ None → IsChosen index.table print i found
  chosen_at_end j node found w b none =
      let lt = w.order in
      IsBestBelow-all index.table print i (j - i) found b
      (longest_at_end index.table index.tree print i t (j - i) (Some node) w.way (next_is j (Some node) (omega arith) ∙ none))

  pub IsOnWay-next : (j node child : ℕ) → IsOnWay index print i j node → option_and_then (λ c. leads index.tree (Some node) (fold_of index.table c)) (slice_get print j) ≡ Some child → IsOnWay index print i (j + 1) child
  IsOnWay-next j node child w some =
      let lt = w.order in
      let within = some_within print (λ c. leads index.tree (Some node) (fold_of index.table c)) j child some in
      let p = then_some (leads index.tree (Some node)) (slice_get (folded_from index.table print i) (j - i)) child (next_is j (Some node) (omega arith) ∙ some) in
      let way = way_next index.tree (folded_from index.table print i) (j - i) None (Some node) p.0 child w.way p.1 p.2 in
      let one_more : suc (j - i) ≡ j + 1 - i = omega arith in
      record {
        order = omega arith;
        within = omega arith;
        way = subst (λ (n : ℕ). LeadTo index.tree None (take n (folded_from index.table print i)) (Some child)) one_more way;
      }

  pub IsOnWay-first : (c node : ℕ) → slice_get print i ≡ Some c → leads index.tree None (fold_of index.table c) ≡ Some node → IsOnWay index print i (i + 1) node
  IsOnWay-first c node here leads_to =
      let lt = slice_get_within print i c here in
      let first : slice_get (folded_from index.table print i) 0 ≡ Some (fold_of index.table c) =
      text_at index.table print i 0 ∙ ap (option_map (fold_of index.table)) (ap (slice_get print) (omega arith) ∙ here) in
      let way = way_next index.tree (folded_from index.table print i) 0 None None (fold_of index.table c) node refl first leads_to in
      let one : 1 ≡ i + 1 - i = omega arith in
      record {
        order = omega arith;
        within = omega arith;
        way = subst (λ (n : ℕ). LeadTo index.tree None (take n (folded_from index.table print i)) (Some node)) one way;
      }

  -- no rule begins with the character
  pub chosen_nowhere : (c : ℕ) → slice_get print i ≡ Some c → leads index.tree None (fold_of index.table c) ≡ None → IsChosen index.table print i None
  chosen_nowhere c here none =
      let first : slice_get (folded_from index.table print i) 0 ≡ Some (fold_of index.table c) =
      text_at index.table print i 0 ∙ ap (option_map (fold_of index.table)) (ap (slice_get print) (omega arith) ∙ here) in
      IsBestBelow-all index.table print i 0 None (IsBestBelow-first index.table print i)
      (longest_at_end index.table index.tree print i t 0 None refl (ap (option_and_then (leads index.tree None)) first ∙ none))
