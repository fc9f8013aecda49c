use Rattle.std.proofs.Common.{◌≡◌, ◌<◌, ◌≤◌, ◌++◌, ◌∷◌, [], List, ℕ, length, sym, ap, ◌∙◌, append_assoc, arith, chars}
use Rattle.std.specs.Str.Iter.{chars_rest}
use Rattle.std.proofs.lemmas.Str.{chars_past_char, IsUtf8-past_char, chars-nil}
use Rattle.std.proofs.lemmas.List.{append-nil, take_more_set, length-append, length_push, length-set, nil_from_length}
use Rattle.desk_translate.proofs.print.Print.copy.Goals as goal

pub returns-then-len-eq-MOST_CHARACTERS : goal.returns-then-len-eq-MOST_CHARACTERS
returns-then-len-eq-MOST_CHARACTERS c =
    let inv = c.loop-character.invariant in
    let step = c.in-Some.ensures.steps in
    let rest = chars (chars_rest c.loop-character.character-iterator) in
    omega (arith, c.if-len-eq-MOST_CHARACTERS.true, inv.count, ap length inv.others, length-append c.loop-character.yielded rest, ap length (chars_past_char _ _ c.in-Some.character inv.is_text step.0))

pub loop-character-preserved : goal.loop-character-preserved
loop-character-preserved c =
    let inv = c.loop-character.invariant in
    let step = c.in-Some.ensures.steps in
    let x = c.in-Some.character in
    let n = c.loop-character.len in
    let few : n ≤ 4000 = inv.few in
    let full : n ≡ 4000 → ⊥ = c.if-len-eq-MOST_CHARACTERS.false in
    let lt : n < length c.loop-character.self-inside.characters = omega (arith, inv.long) in
    record {
      count = omega (arith, length_push c.loop-character.yielded x, inv.count);
      kept = inv.kept;
      long = length-set c.loop-character.self-inside.characters n x ∙ inv.long;
      few = omega arith;
      front = take_more_set c.loop-character.self-inside.characters n x lt ∙ ap (λ (t : List ℕ). t ++ x ∷ []) inv.front;
      is_text = IsUtf8-past_char _ _ x inv.is_text step.0;
      others = append_assoc c.loop-character.yielded (x ∷ []) (chars (chars_rest c.next.new.self))
          ∙ (ap (λ (t : List ℕ). c.loop-character.yielded ++ t) (sym (chars_past_char _ _ x inv.is_text step.0)) ∙ inv.others);
    }

pub returns : goal.returns
returns c =
    let inv = c.loop-character.invariant in
    let empty : chars_rest c.loop-character.character-iterator ≡ [] = nil_from_length _ c.in-None.ensures.steps.0.0 in
    let all : c.loop-character.yielded ≡ chars c.args.text.now = sym (append-nil c.loop-character.yielded) ∙ (ap (λ (t : List ℕ). c.loop-character.yielded ++ t) (sym (ap chars empty ∙ chars-nil)) ∙ inv.others) in
    (inv.front ∙ all, omega (arith, ap length all, inv.count, inv.few))
