-- Rules in a tree of their characters. A place in it is the top or, by its index, a node.
use Rattle.std.specs.Prelude.{◌≡◌, ◌≢◌, ℕ, ◌+◌, ◌<◌, ◌≤◌, ◌⊎◌, List, [], ◌∷◌, ◌++◌, length}
use Rattle.std.specs.Prelude.{slice_get, nat_eq, Option, Some, None, IsSomeAnd}
use Rattle.std.specs.Map.{lookup}
use Rattle.std.specs.Option.{option_map_or}
use Rattle.louis_table.specs.declared.rule.Rule.{Rule}
use Rattle.louis_translate.specs.declared.rule_tree.Node.{Node}
use Rattle.louis_translate.specs.declared.rule_tree.RuleTree.{RuleTree}

-- where the characters after a node lead
abbrev pub children_at : List Node → ℕ → List (ℕ × ℕ)
children_at nodes n = option_map_or (λ node. node.children.items) (slice_get nodes n) []

-- the rules of a node
abbrev pub rules_at : List Node → ℕ → List ℕ
rules_at nodes n = option_map_or (λ node. node.rules.items) (slice_get nodes n) []

-- the node to which a character leads
abbrev pub leads : RuleTree → Option ℕ → ℕ → Option ℕ
leads tree None c = lookup (nat_eq c) tree.groups
leads tree (Some n) c = lookup (nat_eq c) (children_at tree.nodes.items n)

-- characters lead from one place to another
abbrev pub LeadTo : RuleTree → Option ℕ → List ℕ → Option ℕ → Type 0
LeadTo tree from [] to = from ≡ to
LeadTo tree from (c ∷ cs) to = (n : ℕ) × (leads tree from c ≡ Some n) × LeadTo tree (Some n) cs to

-- the number is in the list
abbrev pub IsAt : List ℕ → ℕ → Type 0
IsAt here j = (y : ℕ) × (slice_get here y ≡ Some j)

-- numbers stand in their order
abbrev pub AreAscending : List ℕ → Type 0
AreAscending here = (x y i j : ℕ) → x < y → slice_get here x ≡ Some i → slice_get here y ≡ Some j → i < j

-- a rule stands where its characters lead
abbrev pub StandsIn : RuleTree → List ℕ → ℕ → Type 0
StandsIn tree chars j = (n : ℕ) × LeadTo tree None chars (Some n) × IsAt (rules_at tree.nodes.items n) j

-- a rule has these characters
abbrev pub HasCharacters : List Rule → ℕ → List ℕ → Type 0
HasCharacters rules j chars = IsSomeAnd (slice_get rules j) (λ rule. rule.chars ≡ chars)

-- each of the first k rules that has characters stands where they lead, and a node has no others,
-- in their order
pub record IsTree (rules : List Rule) (k : ℕ) (tree : RuleTree) : Type 0 where
  -- the characters on the way to a place
  pub text : Option ℕ → List ℕ
  pub top : text None ≡ []
  pub nodes : (from : Option ℕ) (c n : ℕ) → leads tree from c ≡ Some n → n < length tree.nodes.items
  pub ways : (from : Option ℕ) (c n : ℕ) → leads tree from c ≡ Some n → text (Some n) ≡ text from ++ c ∷ []
  pub right : (n j : ℕ) → IsAt (rules_at tree.nodes.items n) j → HasCharacters rules j (text (Some n))
  pub known : (n j : ℕ) → IsAt (rules_at tree.nodes.items n) j → j < k
  pub ascending : (n : ℕ) → AreAscending (rules_at tree.nodes.items n)
  pub all : (j : ℕ) (rule : Rule) → j < k → slice_get rules j ≡ Some rule → 0 < length rule.chars
      → StandsIn tree rule.chars j

-- the place is the top or a node
abbrev pub IsPlace : RuleTree → Option ℕ → Type 0
IsPlace tree None = Unit {0}
IsPlace tree (Some n) = n < length tree.nodes.items

-- a character leads from a place to this node, which is new if it led nowhere; all else is as
-- before
pub record LeadsFrom (tree more : RuleTree) (from : Option ℕ) (c n : ℕ) : Type 0 where
  pub leads_to : leads more from c ≡ Some n
  pub node : (leads tree from c ≡ Some n)
      ⊎ (IsPlace tree from × (n ≡ length tree.nodes.items) × (n < length more.nodes.items))
  pub len : length tree.nodes.items ≤ length more.nodes.items
  pub stays : (f : Option ℕ) (d m : ℕ) → leads tree f d ≡ Some m → leads more f d ≡ Some m
  pub comes : (f : Option ℕ) (d m : ℕ) → leads more f d ≡ Some m
      → (leads tree f d ≡ Some m) ⊎ ((f ≡ from) × (d ≡ c) × (m ≡ n))
  pub rules : (m : ℕ) → rules_at more.nodes.items m ≡ rules_at tree.nodes.items m

-- a further node, which leads nowhere
pub record AddsNode (nodes more : List Node) : Type 0 where
  pub len : length more ≡ length nodes + 1
  pub children : (m : ℕ) → children_at more m ≡ children_at nodes m
  pub rules : (m : ℕ) → rules_at more m ≡ rules_at nodes m

-- one node has other children
pub record PutsChildren (nodes more : List Node) (n : ℕ) (children : List (ℕ × ℕ)) : Type 0 where
  pub len : length more ≡ length nodes
  pub here : children_at more n ≡ children
  pub others : (m : ℕ) → m ≢ n → children_at more m ≡ children_at nodes m
  pub rules : (m : ℕ) → rules_at more m ≡ rules_at nodes m

-- one node has other rules
pub record PutsRules (nodes more : List Node) (n : ℕ) (rules : List ℕ) : Type 0 where
  pub len : length more ≡ length nodes
  pub here : rules_at more n ≡ rules
  pub others : (m : ℕ) → m ≢ n → rules_at more m ≡ rules_at nodes m
  pub children : (m : ℕ) → children_at more m ≡ children_at nodes m
