-- What was used of an input, part after part.
use Rattle.std.proofs.Common.{◌≡◌, ◌≢◌, ℕ, ◌+◌, ◌-◌, ◌<◌, ◌≤◌, length, List, [], ◌∷◌, ◌++◌, Option, refl, sym, ap, subst, ◌∙◌, append_assoc, arith, rules, append-nil, length-append}
use Rattle.std.proofs.KnownBytes.{Consumes-nil, Consumes-trans}
use Rattle.desk_ends.specs.Input.{Input, KnowsEnd, UsesInput, UsesWaiting, most_total, unread}

pub no-parts : (these those : List ℕ) → these ++ those ≡ [] → (these ≡ []) × (those ≡ [])
no-parts [] those e = (refl, e)
no-parts (b ∷ these) those e = absurd (cc)

pub UsesInput-none : (a : Option (List ℕ)) (input : Input) → UsesInput a a input input []
UsesInput-none a input = search rules

-- unused bytes
pub UsesInput-waiting : (a : Option (List ℕ)) (old new : Input) (bytes : List ℕ) → UsesWaiting old new bytes → UsesInput a a old new bytes
UsesInput-waiting a old new bytes uses = search (rules, Consumes-nil, append-nil, no-parts)

module _ (a b c : Option (List ℕ)) (old mid new : Input) (these those : List ℕ) (first : UsesInput a b old mid these) (later : UsesInput b c mid new those) where
  pub UsesInput-then : UsesInput a c old new (these ++ those)
  UsesInput-then = record {
    read = first.read ++ later.read;
    consumes = Consumes-trans a b c first.read later.read first.consumes later.consumes;
    parts = sym (append_assoc old.waiting first.read later.read)
        ∙ (ap (λ (t : List ℕ). t ++ later.read) first.parts
        ∙ (append_assoc these mid.waiting later.read
        ∙ (ap (λ (t : List ℕ). these ++ t) later.parts ∙ sym (append_assoc these those new.waiting))));
    total = let n = length-append first.read later.read in let e = first.total in let f = later.total in omega arith;
    bound = λ few. later.bound (first.bound few);
    over = λ over.
        let one = first.over over in
        let two = later.over one.1 in
        (ap (λ (t : List ℕ). t ++ later.read) one.0 ∙ two.0, two.1);
    ends = λ knows. later.ends (first.ends knows);
  }

-- nothing more was used
pub UsesInput-still : (a b c : Option (List ℕ)) (old mid new : Input) (bytes : List ℕ) → UsesInput a b old mid bytes → UsesInput b c mid new [] → UsesInput a c old new bytes
UsesInput-still a b c old mid new bytes first later = subst (UsesInput a c old new) (append-nil bytes) (UsesInput-then a b c old mid new bytes [] first later)

-- how many bytes may still be used
abbrev pub left_to_use : Input → ℕ
left_to_use input = most_total + length input.waiting - input.total

pub left_to_use-fewer : (a b : Option (List ℕ)) (old new : Input) (bytes : List ℕ) → UsesInput a b old new bytes → old.total ≤ most_total → length bytes ≢ 0
    → left_to_use new < left_to_use old
left_to_use-fewer a b old new bytes used few some =
    omega (arith, used.total, used.bound few, sym (length-append old.waiting used.read) ∙ (ap length used.parts ∙ length-append bytes new.waiting))

-- nothing is known of the end of an input of which nothing was read
pub unread-knows : (a : Option (List ℕ)) → KnowsEnd a unread
unread-knows a over = absurd (cc over)

-- ---- a line that is passed on
