-- A tree of the rules' characters, as rules come.
use Rattle.std.proofs.Common.{◌≡◌, ◌≢◌, ℕ, zero, suc, ◌+◌, ◌<◌, ◌≤◌, ◌⊎◌, List, [], ◌∷◌, ◌++◌, length, take, eqb, Option, Some, None, refl, sym, ap, subst, ◌∙◌, arith, inl, inr, eq-eqb, add-one, get_or, drop, ◌-◌, rules, slice_get, nat_eq, if◌then◌else◌, IsSomeAnd}
use Rattle.std.specs.Map.{lookup}
use Rattle.std.proofs.lemmas.Bool.{cases_Bool, cases_order}
use Rattle.std.proofs.lemmas.Grind.{get_or_after_one}
use Rattle.std.proofs.lemmas.List.{append-nil, append_assoc, take_rest}
use Rattle.std.proofs.lemmas.Option.{slice_get_read, slice_get_within}
use Rattle.std.proofs.lemmas.Grind.{common_steps}
use Rattle.louis_table.specs.declared.rule.Rule.{Rule}
use Rattle.louis_translate.specs.declared.rule_tree.Node.{Node}
use Rattle.louis_translate.specs.declared.rule_tree.RuleTree.{RuleTree}
use Rattle.louis_translate.specs.Tree.{AddsNode, AreAscending, HasCharacters, IsAt, IsPlace, IsTree, LeadTo, LeadsFrom, PutsChildren, PutsRules, StandsIn, children_at, leads, rules_at}

-- ---- one more at the end

lookup_old : (es : List (ℕ × ℕ)) (x : ℕ × ℕ) (c n : ℕ) → lookup (nat_eq c) es ≡ Some n → lookup (nat_eq c) (es ++ x ∷ []) ≡ Some n
lookup_old [] x c n h = absurd cc
lookup_old (e ∷ es) x c n h =
    elim (cases_Bool (eqb c e.0)) [
      | inl t ↦ rw t (rw t at h)
      | inr f ↦ rw f (lookup_old es x c n (rw f at h))
    ]

lookup_new : (es : List (ℕ × ℕ)) (c n : ℕ) → lookup (nat_eq c) es ≡ None → lookup (nat_eq c) (es ++ (c, n) ∷ []) ≡ Some n
lookup_new [] c n h = rw (eq-eqb c c refl) refl
lookup_new (e ∷ es) c n h =
    elim (cases_Bool (eqb c e.0)) [
      | inl t ↦ let g = rw t at h in absurd cc
      | inr f ↦ rw f (lookup_new es c n (rw f at h))
    ]

lookup_either : (es : List (ℕ × ℕ)) (k v c n : ℕ) → lookup (nat_eq c) (es ++ (k, v) ∷ []) ≡ Some n → (lookup (nat_eq c) es ≡ Some n) ⊎ ((c ≡ k) × (n ≡ v))
lookup_either [] k v c n h = search rules
lookup_either (e ∷ es) k v c n h =
    elim (cases_Bool (eqb c e.0)) [
      | inl t ↦ inl (rw t (rw t at h))
      | inr f ↦ rw f (lookup_either es k v c n (rw f at h))
    ]

at_old : (xs : List ℕ) (x j : ℕ) → IsAt xs j → IsAt (xs ++ x ∷ []) j
at_old xs x j h = (h.0, there xs h.0 h.1)
  where
    there : (ys : List ℕ) (y : ℕ) → slice_get ys y ≡ Some j → slice_get (ys ++ x ∷ []) y ≡ Some j
    there [] y e = absurd cc
    there (z ∷ ys) zero e = e
    there (z ∷ ys) (suc y) e = there ys y e

at_new : (xs : List ℕ) (x : ℕ) → IsAt (xs ++ x ∷ []) x
at_new xs x = (length xs, there xs)
  where
    there : (ys : List ℕ) → slice_get (ys ++ x ∷ []) (length ys) ≡ Some x
    there [] = refl
    there (z ∷ ys) = there ys

pub get_either : {A : Type 0} (xs : List A) (x : A) (i : ℕ) (y : A) → slice_get (xs ++ x ∷ []) i ≡ Some y → (slice_get xs i ≡ Some y) ⊎ ((i ≡ length xs) × (y ≡ x))
get_either [] x zero y h = inr (refl, cc)
get_either [] x (suc i) y h = absurd cc
get_either (z ∷ xs) x zero y h = inl h
get_either (z ∷ xs) x (suc i) y h = elim (get_either xs x i y h) [ inl e ↦ inl e | inr p ↦ inr (ap suc p.0, p.1) ]

at_either : (xs : List ℕ) (x j : ℕ) → IsAt (xs ++ x ∷ []) j → IsAt xs j ⊎ (j ≡ x)
at_either xs x j h = elim (get_either xs x h.0 j h.1) [ inl e ↦ inl (h.0, e) | inr p ↦ inr p.1 ]

AreAscending-push : (xs : List ℕ) (k : ℕ) → AreAscending xs → ((j : ℕ) → IsAt xs j → j < k) → AreAscending (xs ++ k ∷ [])
AreAscending-push xs k asc below x y i j lt a b =
    elim (get_either xs k y j b) [
      | inl b_old ↦
          let y_within = slice_get_within xs y j b_old in
          elim (get_either xs k x i a) [
            | inl a_old ↦ asc x y i j lt a_old b_old
            | inr p ↦ let e = p.0 in absurd (omega arith)
          ]
      | inr q ↦
          let e = q.0 in
          let f = q.1 in
          elim (get_either xs k x i a) [
            | inl a_old ↦ let l = below i (x, a_old) in omega arith
            | inr p ↦ let g = p.0 in absurd (omega arith)
          ]
    ]

-- ---- what is there is within

children_within : (nodes : List Node) (p d m : ℕ) → lookup (nat_eq d) (children_at nodes p) ≡ Some m → p < length nodes
children_within [] p d m h = absurd cc
children_within (x ∷ nodes) zero d m h = omega arith
children_within (x ∷ nodes) (suc p) d m h = let l = children_within nodes p d m h in omega arith

rules_within : (nodes : List Node) (n j : ℕ) → IsAt (rules_at nodes n) j → n < length nodes
rules_within [] n j h = let e = h.1 in absurd cc
rules_within (x ∷ nodes) zero j h = omega arith
rules_within (x ∷ nodes) (suc n) j h = let l = rules_within nodes n j h in omega arith

-- ---- ways

pub ways_same : (tree : RuleTree) (cs : List ℕ) (from a b : Option ℕ) → LeadTo tree from cs a → LeadTo tree from cs b → a ≡ b
ways_same tree [] from a b h k = sym h ∙ k
ways_same tree (c ∷ cs) from a b h k =
    let e = h.1 in
    let f = k.1 in
    let same : k.0 ≡ h.0 = cc in
    ways_same tree cs (Some h.0) a b h.2 (subst (λ (n : ℕ). LeadTo tree (Some n) cs b) same k.2)

pub way_next : (tree : RuleTree) (text : List ℕ) (n : ℕ) (from p : Option ℕ) (c x : ℕ) → LeadTo tree from (take n text) p → slice_get text n ≡ Some c → leads tree p c ≡ Some x → LeadTo tree from (take (suc n) text) (Some x)
way_next tree [] n from p c x way here h = absurd cc
way_next tree (t ∷ text) zero from p c x way here h = search rules
way_next tree (t ∷ text) (suc n) from p c x way here h = (way.0, way.1, way_next tree text n (Some way.0) p c x way.2 here h)

ways_stay : (tree more : RuleTree) → ((f : Option ℕ) (d m : ℕ) → leads tree f d ≡ Some m → leads more f d ≡ Some m) → (cs : List ℕ) (from to : Option ℕ) → LeadTo tree from cs to → LeadTo more from cs to
ways_stay tree more stays [] from to h = h
ways_stay tree more stays (c ∷ cs) from to h = (h.0, stays from c h.0 h.1, ways_stay tree more stays cs (Some h.0) to h.2)

-- ---- the characters on the way to a place

text_after : (rules : List Rule) (k : ℕ) (tree : RuleTree) (t : IsTree rules k tree) (cs : List ℕ) (from to : Option ℕ) → LeadTo tree from cs to → t.text to ≡ t.text from ++ cs
text_after rules k tree t [] from to h = ap t.text (sym h) ∙ sym (append-nil (t.text from))
text_after rules k tree t (c ∷ cs) from to h =
    text_after rules k tree t cs (Some h.0) to h.2
    ∙ (ap (λ (xs : List ℕ). xs ++ cs) (t.ways from c h.0 h.1) ∙ append_assoc (t.text from) (c ∷ []) cs)

pub text_is : (rules : List Rule) (k : ℕ) (tree : RuleTree) (t : IsTree rules k tree) (cs : List ℕ) (to : Option ℕ) → LeadTo tree None cs to → t.text to ≡ cs
text_is rules k tree t cs to h = text_after rules k tree t cs None to h ∙ ap (λ (xs : List ℕ). xs ++ cs) t.top

-- what characters lead to is a node
pub way_within : (rules : List Rule) (k : ℕ) (tree : RuleTree) (t : IsTree rules k tree) (cs : List ℕ) (from : Option ℕ) (n : ℕ) → 0 < length cs → LeadTo tree from cs (Some n) → n < length tree.nodes.items
way_within rules k tree t [] from n some h = absurd (omega arith)
way_within rules k tree t (c ∷ []) from n some h = let e = h.2 in let same : h.0 ≡ n = cc in subst (λ (m : ℕ). m < length tree.nodes.items) same (t.nodes from c h.0 h.1)
way_within rules k tree t (c ∷ d ∷ cs) from n some h = way_within rules k tree t (d ∷ cs) (Some h.0) n (omega arith) h.2

-- ---- one step

module _ (tree more : RuleTree) (c n : ℕ) (adds : AddsNode tree.nodes.items more.nodes.items) (place : n ≡ length tree.nodes.items) (absent : leads tree None c ≡ None) (is : more.groups ≡ tree.groups ++ (c, n) ∷ []) where
  group_stays : (f : Option ℕ) (d m : ℕ) → leads tree f d ≡ Some m → leads more f d ≡ Some m
  group_stays None d m h = ap (lookup (nat_eq d)) is ∙ lookup_old tree.groups (c, n) d m h
  group_stays (Some p) d m h = ap (lookup (nat_eq d)) (adds.children p) ∙ h

  group_comes : (f : Option ℕ) (d m : ℕ) → leads more f d ≡ Some m → (leads tree f d ≡ Some m) ⊎ ((f ≡ None) × (d ≡ c) × (m ≡ n))
  group_comes None d m h =
      elim (lookup_either tree.groups c n d m (sym (ap (lookup (nat_eq d)) is) ∙ h)) [ inl old ↦ inl old | inr p ↦ inr (refl, p.0, p.1) ]
  group_comes (Some p) d m h = inl (sym (ap (lookup (nat_eq d)) (adds.children p)) ∙ h)

  pub LeadsFrom-group : LeadsFrom tree more None c n
  LeadsFrom-group =
      let l = adds.len in
      record {
        leads_to = ap (lookup (nat_eq c)) is ∙ lookup_new tree.groups c n absent;
        node = inr (tt, place, omega arith);
        len = omega arith;
        stays = group_stays;
        comes = group_comes;
        rules = adds.rules;
      }

module _ (tree more : RuleTree) (mid : List Node) (p c n : ℕ) (within : p < length tree.nodes.items) (adds : AddsNode tree.nodes.items mid) (puts : PutsChildren mid more.nodes.items p (children_at mid p ++ (c, n) ∷ [])) (place : n ≡ length tree.nodes.items) (absent : leads tree (Some p) c ≡ None) (groups : more.groups ≡ tree.groups) where
  here_are : children_at more.nodes.items p ≡ children_at tree.nodes.items p ++ (c, n) ∷ []
  here_are = puts.here ∙ ap (λ (xs : List (ℕ × ℕ)). xs ++ (c, n) ∷ []) (adds.children p)

  others_are : (q : ℕ) → q ≢ p → children_at more.nodes.items q ≡ children_at tree.nodes.items q
  others_are q ne = puts.others q ne ∙ adds.children q

  child_stays : (f : Option ℕ) (d m : ℕ) → leads tree f d ≡ Some m → leads more f d ≡ Some m
  child_stays None d m h = ap (lookup (nat_eq d)) groups ∙ h
  child_stays (Some q) d m h =
      elim (cases_order q p) [
        | inl e ↦
            ap (λ (x : ℕ). lookup (nat_eq d) (children_at more.nodes.items x)) e
            ∙ (ap (lookup (nat_eq d)) here_are
            ∙ lookup_old (children_at tree.nodes.items p) (c, n) d m (ap (λ (x : ℕ). lookup (nat_eq d) (children_at tree.nodes.items x)) (sym e) ∙ h))
        | inr other ↦
            let ne : q ≢ p = elim other [ inl less ↦ omega arith | inr gt ↦ omega arith ] in
            ap (lookup (nat_eq d)) (others_are q ne) ∙ h
      ]

  child_comes : (f : Option ℕ) (d m : ℕ) → leads more f d ≡ Some m → (leads tree f d ≡ Some m) ⊎ ((f ≡ Some p) × (d ≡ c) × (m ≡ n))
  child_comes None d m h = inl (sym (ap (lookup (nat_eq d)) groups) ∙ h)
  child_comes (Some q) d m h =
      elim (cases_order q p) [
        | inl e ↦ elim (lookup_either (children_at tree.nodes.items p) c n d m (sym (ap (λ (x : ℕ). lookup (nat_eq d) (children_at more.nodes.items x)) e ∙ ap (lookup (nat_eq d)) here_are) ∙ h)) [
          | inl old ↦ inl (ap (λ (x : ℕ). lookup (nat_eq d) (children_at tree.nodes.items x)) e ∙ old)
          | inr k ↦ inr (ap Some e, k.0, k.1)
        ]
        | inr other ↦
            let ne : q ≢ p = elim other [ inl less ↦ omega arith | inr gt ↦ omega arith ] in
            inl (sym (ap (lookup (nat_eq d)) (others_are q ne)) ∙ h)
      ]

  pub LeadsFrom-child : LeadsFrom tree more (Some p) c n
  LeadsFrom-child =
      let l = adds.len in
      let k = puts.len in
      record {
        leads_to = ap (lookup (nat_eq c)) here_are ∙ lookup_new (children_at tree.nodes.items p) c n absent;
        node = inr (within, place, omega arith);
        len = omega arith;
        stays = child_stays;
        comes = child_comes;
        rules = λ m. puts.rules m ∙ adds.rules m;
      }

-- ---- a tree after a step

abbrev with_text : (Option ℕ → List ℕ) → ℕ → List ℕ → Option ℕ → List ℕ
with_text text new cs None = text None
with_text text new cs (Some m) = if nat_eq m new then cs else text (Some m)

with_text-here : (text : Option ℕ → List ℕ) (new : ℕ) (cs : List ℕ) → with_text text new cs (Some new) ≡ cs
with_text-here text new cs = rw (eq-eqb new new refl) refl

with_text-other : (text : Option ℕ → List ℕ) (new : ℕ) (cs : List ℕ) (p : Option ℕ) → p ≢ Some new → with_text text new cs p ≡ text p
with_text-other text new cs None ne = refl
with_text-other text new cs (Some m) ne = search rules

place_not : (tree : RuleTree) (from : Option ℕ) (n : ℕ) → IsPlace tree from → length tree.nodes.items ≤ n → from ≢ Some n
place_not tree None n h le = λ e. absurd cc
place_not tree (Some p) n h le = λ e. let same : p ≡ n = cc in omega arith

leads_place : (tree : RuleTree) (f : Option ℕ) (d m : ℕ) → leads tree f d ≡ Some m → IsPlace tree f
leads_place tree None d m h = tt
leads_place tree (Some p) d m h = children_within tree.nodes.items p d m h

module _ (rules : List Rule) (k : ℕ) (tree more : RuleTree) (from : Option ℕ) (c n : ℕ) (t : IsTree rules k tree) (s : LeadsFrom tree more from c n) where
  stands_stay : (cs : List ℕ) (j : ℕ) → StandsIn tree cs j → StandsIn more cs j
  stands_stay cs j h = (h.0, ways_stay tree more s.stays cs None (Some h.0) h.1, subst (λ (xs : List ℕ). IsAt xs j) (sym (s.rules h.0)) h.2)

  was_at : (m j : ℕ) → IsAt (rules_at more.nodes.items m) j → IsAt (rules_at tree.nodes.items m) j
  was_at m j h = subst (λ (xs : List ℕ). IsAt xs j) (s.rules m) h

  still_ascending : (m : ℕ) → AreAscending (rules_at more.nodes.items m)
  still_ascending m = subst AreAscending (sym (s.rules m)) (t.ascending m)

  IsTree-old : leads tree from c ≡ Some n → IsTree rules k more
  IsTree-old old =
      let l = s.len in
      let back : (f : Option ℕ) (d m : ℕ) → leads more f d ≡ Some m → leads tree f d ≡ Some m =
      λ f d m h. elim (s.comes f d m h) [
        | inl e ↦ e
        | inr e ↦
            subst (λ (q : Option ℕ). leads tree q d ≡ Some m) (sym e.0)
            (subst (λ (x : ℕ). leads tree from x ≡ Some m) (sym e.1) (old ∙ ap Some (sym e.2)))
      ] in
      record {
        text = t.text;
        top = t.top;
        nodes = λ f d m h. let lt = t.nodes f d m (back f d m h) in omega arith;
        ways = λ f d m h. t.ways f d m (back f d m h);
        right = λ m j h. t.right m j (was_at m j h);
        known = λ m j h. t.known m j (was_at m j h);
        ascending = still_ascending;
        all = λ j rule lt there some. stands_stay rule.chars j (t.all j rule lt there some);
      }

  module _ (place : IsPlace tree from) (is : n ≡ length tree.nodes.items) (lt : n < length more.nodes.items) where
    abbrev text_now : Option ℕ → List ℕ
    text_now = with_text t.text n (t.text from ++ c ∷ [])

    text_old : (p : Option ℕ) → IsPlace tree p → text_now p ≡ t.text p
    text_old p h = with_text-other t.text n (t.text from ++ c ∷ []) p (place_not tree p n h (omega arith))

    ways_now : (f : Option ℕ) (d m : ℕ) → leads more f d ≡ Some m → text_now (Some m) ≡ text_now f ++ d ∷ []
    ways_now f d m h =
        elim (s.comes f d m h) [
          | inl old ↦
              text_old (Some m) (t.nodes f d m old)
              ∙ (t.ways f d m old ∙ ap (λ (xs : List ℕ). xs ++ d ∷ []) (sym (text_old f (leads_place tree f d m old))))
          | inr e ↦
              ap (λ (x : ℕ). text_now (Some x)) e.2
              ∙ (with_text-here t.text n (t.text from ++ c ∷ [])
              ∙ (ap (λ (xs : List ℕ). xs ++ c ∷ []) (sym (text_old from place))
              ∙ (ap (λ (q : Option ℕ). text_now q ++ c ∷ []) (sym e.0) ∙ ap (λ (x : ℕ). text_now f ++ x ∷ []) (sym e.1))))
        ]

    IsTree-new : IsTree rules k more
    IsTree-new =
        let l = s.len in
        record {
          text = text_now;
          top = t.top;
          nodes = λ f d m h. elim (s.comes f d m h) [
            | inl old ↦ let in_old = t.nodes f d m old in omega arith
            | inr e ↦ let same = e.2 in omega arith
          ];
          ways = ways_now;
          right = λ m j h.
              let old = was_at m j h in
              subst (λ (cs : List ℕ). HasCharacters rules j cs) (sym (text_old (Some m) (rules_within tree.nodes.items m j old))) (t.right m j old);
          known = λ m j h. t.known m j (was_at m j h);
          ascending = still_ascending;
          all = λ j rule lt there some. stands_stay rule.chars j (t.all j rule lt there some);
        }

  pub IsTree-step : IsTree rules k more
  IsTree-step = elim s.node [ inl old ↦ IsTree-old old | inr e ↦ IsTree-new e.0 e.1 e.2 ]

  pub way_step : (text : List ℕ) (x : ℕ) → LeadTo tree None (take x text) from → slice_get text x ≡ Some c → LeadTo more None (take (x + 1) text) (Some n)
  way_step text x way here = subst (λ (y : ℕ). LeadTo more None (take y text) (Some n)) (sym (add-one x)) (step text x way here)
    where
      step : (text : List ℕ) (x : ℕ) → LeadTo tree None (take x text) from → slice_get text x ≡ Some c → LeadTo more None (take (suc x) text) (Some n)
      step text x way here = way_next more text x None from c n (ways_stay tree more s.stays (take x text) None from way) here s.leads_to

-- ---- a tree after a rule

pub IsTree-none : (rules : List Rule) (tree : RuleTree) → tree.groups ≡ [] → tree.nodes.items ≡ [] → IsTree rules 0 tree
IsTree-none rules tree none empty =
    record {
      text = λ p. [];
      top = refl;
      nodes = λ f c n h. absurd (nowhere f c n h);
      ways = λ f c n h. absurd (nowhere f c n h);
      right = λ n j h. absurd (no_rules n j h);
      known = λ n j h. absurd (no_rules n j h);
      ascending = λ n x y i j lt a b. absurd (no_rules n i (x, a));
      all = λ j rule lt there some. absurd (omega arith);
    }
  where
    no_rules : (n j : ℕ) → IsAt (rules_at tree.nodes.items n) j → ⊥
    no_rules n j h = let lt = rules_within tree.nodes.items n j h in let l : length tree.nodes.items ≡ 0 = ap (length {A = Node}) empty in absurd (omega arith)

    nowhere : (f : Option ℕ) (c n : ℕ) → leads tree f c ≡ Some n → ⊥
    nowhere None c n h = let g = sym (ap (lookup (nat_eq c)) none) ∙ h in absurd cc
    nowhere (Some p) c n h = let lt = children_within tree.nodes.items p c n h in let l : length tree.nodes.items ≡ 0 = ap (length {A = Node}) empty in absurd (omega arith)

pub IsTree-empty : (rules : List Rule) (k : ℕ) (tree : RuleTree) → IsTree rules k tree → ((rule : Rule) → slice_get rules k ≡ Some rule → length rule.chars ≡ 0) → IsTree rules (k + 1) tree
IsTree-empty rules k tree t none =
    record {
      text = t.text;
      top = t.top;
      nodes = t.nodes;
      ways = t.ways;
      right = t.right;
      known = λ n j h. let lt = t.known n j h in omega arith;
      ascending = t.ascending;
      all = λ j rule lt there some. elim (cases_order j k) [
        | inl e ↦ let zero = none rule (ap (slice_get rules) (sym e) ∙ there) in absurd (omega arith)
        | inr ne ↦ elim ne [ inl less ↦ t.all j rule less there some | inr gt ↦ absurd (omega arith) ]
      ];
    }

module _ (rules : List Rule) (k : ℕ) (tree more : RuleTree) (node : ℕ) (rule : Rule) (t : IsTree rules k tree) (puts : PutsRules tree.nodes.items more.nodes.items node (rules_at tree.nodes.items node ++ k ∷ [])) (groups : more.groups ≡ tree.groups) (there : slice_get rules k ≡ Some rule) (way : LeadTo tree None rule.chars (Some node)) where
  leads_same : (f : Option ℕ) (d : ℕ) → leads more f d ≡ leads tree f d
  leads_same None d = ap (lookup (nat_eq d)) groups
  leads_same (Some p) d = ap (lookup (nat_eq d)) (puts.children p)

  leads_stay : (f : Option ℕ) (d m : ℕ) → leads tree f d ≡ Some m → leads more f d ≡ Some m
  leads_stay f d m h = leads_same f d ∙ h

  at_stays : (m j : ℕ) → IsAt (rules_at tree.nodes.items m) j → IsAt (rules_at more.nodes.items m) j
  at_stays m j h =
      elim (cases_order m node) [
        | inl e ↦
            subst (λ (xs : List ℕ). IsAt xs j) (sym (ap (rules_at more.nodes.items) e ∙ puts.here))
            (at_old (rules_at tree.nodes.items node) k j (subst (λ (x : ℕ). IsAt (rules_at tree.nodes.items x) j) e h))
        | inr other ↦
            let ne : m ≢ node = elim other [ inl less ↦ omega arith | inr gt ↦ omega arith ] in
            subst (λ (xs : List ℕ). IsAt xs j) (sym (puts.others m ne)) h
      ]

  has : HasCharacters rules k (t.text (Some node))
  has =
      subst (λ (o : Option Rule). IsSomeAnd o (λ r. r.chars ≡ t.text (Some node))) (sym there) (sym (text_is rules k tree t rule.chars (Some node) way))

  right_now : (m j : ℕ) → IsAt (rules_at more.nodes.items m) j → HasCharacters rules j (t.text (Some m))
  right_now m j h =
      elim (cases_order m node) [
        | inl e ↦ elim (at_either (rules_at tree.nodes.items node) k j (subst (λ (xs : List ℕ). IsAt xs j) (ap (rules_at more.nodes.items) e ∙ puts.here) h)) [
          | inl old ↦ t.right m j (subst (λ (x : ℕ). IsAt (rules_at tree.nodes.items x) j) (sym e) old)
          | inr same ↦
              subst (λ (x : ℕ). HasCharacters rules x (t.text (Some m))) (sym same)
              (subst (λ (x : ℕ). HasCharacters rules k (t.text (Some x))) (sym e) has)
        ]
        | inr other ↦
            let ne : m ≢ node = elim other [ inl less ↦ omega arith | inr gt ↦ omega arith ] in
            t.right m j (subst (λ (xs : List ℕ). IsAt xs j) (puts.others m ne) h)
      ]

  known_now : (m j : ℕ) → IsAt (rules_at more.nodes.items m) j → j < k + 1
  known_now m j h =
      elim (cases_order m node) [
        | inl e ↦ elim (at_either (rules_at tree.nodes.items node) k j (subst (λ (xs : List ℕ). IsAt xs j) (ap (rules_at more.nodes.items) e ∙ puts.here) h)) [
          | inl old ↦ let lt = t.known node j old in omega arith
          | inr same ↦ omega arith
        ]
        | inr other ↦
            let ne : m ≢ node = elim other [ inl less ↦ omega arith | inr gt ↦ omega arith ] in
            let lt = t.known m j (subst (λ (xs : List ℕ). IsAt xs j) (puts.others m ne) h) in
            omega arith
      ]

  ascending_now : (m : ℕ) → AreAscending (rules_at more.nodes.items m)
  ascending_now m =
      elim (cases_order m node) [
        | inl e ↦
            subst AreAscending (sym (ap (rules_at more.nodes.items) e ∙ puts.here))
            (AreAscending-push (rules_at tree.nodes.items node) k (t.ascending node) (t.known node))
        | inr other ↦
            let ne : m ≢ node = elim other [ inl less ↦ omega arith | inr gt ↦ omega arith ] in
            subst AreAscending (sym (puts.others m ne)) (t.ascending m)
      ]

  pub IsTree-rule : IsTree rules (k + 1) more
  IsTree-rule =
      let l = puts.len in
      record {
        text = t.text;
        top = t.top;
        nodes = λ f d m h. let lt = t.nodes f d m (sym (leads_same f d) ∙ h) in omega arith;
        ways = λ f d m h. t.ways f d m (sym (leads_same f d) ∙ h);
        right = right_now;
        known = known_now;
        ascending = ascending_now;
        all = λ j r lt is some. elim (cases_order j k) [
          | inl e ↦
              let same : rule ≡ r = let i = ap (slice_get rules) (sym e) ∙ is in cc in (
                node,
                subst (λ (cs : List ℕ). LeadTo more None cs (Some node)) (ap (λ (x : Rule). x.chars) same) (ways_stay tree more leads_stay rule.chars None (Some node) way),
                subst (λ (x : ℕ). IsAt (rules_at more.nodes.items node) x) (sym e) (subst (λ (xs : List ℕ). IsAt xs k) (sym puts.here) (at_new (rules_at tree.nodes.items node) k)),
              )
          | inr ne ↦ elim ne [
            | inl less ↦
                let old = t.all j r less is some in
                (old.0, ways_stay tree more leads_stay r.chars None (Some old.0) old.1, at_stays old.0 j old.2)
            | inr gt ↦ absurd (omega arith)
          ]
        ];
      }

-- ---- the characters of a rule

pub first_there : (text : List ℕ) (c : ℕ) → 0 < length text → c ≡ get_or text 0 c → slice_get text 0 ≡ Some c
first_there text c some e = slice_get_read text (length text) 0 c refl some e

-- a character after the first one
pub later_there : (text : List ℕ) (x c : ℕ) → x + 1 < length text → c ≡ get_or (take (length text - 1) (drop 1 text)) x c → slice_get text (x + 1) ≡ Some c
later_there text x c lt e = grind (arith, common_steps, slice_get_read, take_rest, get_or_after_one)
