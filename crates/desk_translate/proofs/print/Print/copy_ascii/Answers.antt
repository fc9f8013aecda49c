use Rattle.std.proofs.Common.{◌≡◌, ◌<◌, ◌++◌, ◌∷◌, [], List, ℕ, length, take, sym, ap, ◌∙◌, arith}
use Rattle.std.proofs.lemmas.List.{length-set, take_all, take_more, take_more_set}
use Rattle.std.proofs.lemmas.Str.{chars-IsAscii}
use Rattle.desk_translate.proofs.print.Print.copy_ascii.Goals as goal

pub loop-place-preserved : goal.loop-place-preserved
loop-place-preserved c =
    let inv = c.loop-place.invariant in
    let n = c.loop-place.place in
    let x = c.from.result in
    let within : n < length c.loop-place.self-inside.characters = omega (arith, inv.long) in
    record {
      kept = inv.kept;
      long = length-set c.loop-place.self-inside.characters n x ∙ inv.long;
      front = take_more_set c.loop-place.self-inside.characters n x within
          ∙ (ap (λ (t : List ℕ). t ++ x ∷ []) inv.front
          ∙ (ap (λ (y : ℕ). take n c.args.bytes.now ++ y ∷ []) c.from.ensures
          ∙ sym (take_more c.args.bytes.now n 0 c.loop-place-test.true)));
    }

pub returns : goal.returns
returns c =
    let n = c.loop-place.place in
    let all : n ≡ length c.args.bytes.now = omega (arith, c.loop-place-test.false, c.loop-place.auto.place-end) in (
      ap (λ (k : ℕ). take k c.loop-place.self-inside.characters) (sym all)
          ∙ (c.loop-place.invariant.front ∙ (take_all n c.args.bytes.now c.loop-place-test.false ∙ sym (chars-IsAscii c.args.bytes.now c.requires))),
      omega (arith, ap length (chars-IsAscii c.args.bytes.now c.requires), c.if-bytes-gt-MOST_CHARACTERS.false),
    )

pub returns-then-bytes-gt-MOST_CHARACTERS : goal.returns-then-bytes-gt-MOST_CHARACTERS
returns-then-bytes-gt-MOST_CHARACTERS c =
    omega (arith, ap length (chars-IsAscii c.args.bytes.now c.requires), c.if-bytes-gt-MOST_CHARACTERS.true)
