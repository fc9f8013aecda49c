use Rattle.std.proofs.Common.{◌≡◌, ◌+◌, List, ℕ, ◌++◌, [], ◌∷◌, take, sym, ap, subst, ◌∙◌, append_assoc, arith}
use Rattle.std.proofs.lemmas.Grind.{take-set_at}
use Rattle.std.proofs.lemmas.List.{get_or_read, length-set, take_more}
use Rattle.desk_brf.specs.Placing.{IsAscii}
use Rattle.desk_brf.proofs.AsciiLemmas.{ascii-append, ascii-one}
use Rattle.desk_brf.proofs.page_line.put_ascii.Goals as goal

pub loop-i-preserved : goal.loop-i-preserved
loop-i-preserved c =
    let cells = c.args.cells.now in
    let i = c.loop-i.i in
    let before = c.loop-i.invariant in
    let cell = c.index-cells-i.result in
    let byte = c.in-Some.byte in
    let room = before.room in
    let fits = c.requires.room in
    let inside = c.loop-i-test.true in
    let next : take (i + 1) cells ≡ take i cells ++ cell ∷ [] =
    take_more cells i 0 inside ∙ ap (λ n. take i cells ++ n ∷ []) (sym (get_or_read cells i cell inside c.index-cells-i.is 0)) in
    record {
      room = length-set _ _ _ ∙ room;
      put = before.put ++ byte ∷ [];
      bytes =
          take-set_at c.loop-i.bytes (c.args.place + i) (c.args.place + (i + 1)) byte (omega arith) (omega (arith, room, fits, inside))
          ∙ (ap (λ (xs : List ℕ). xs ++ byte ∷ []) before.bytes ∙ append_assoc _ before.put (byte ∷ []));
      ascii =
          subst (λ (taken : List ℕ). IsAscii taken (before.put ++ byte ∷ [])) (sym next)
          (ascii-append (take i cells) (cell ∷ []) before.put (byte ∷ []) before.ascii (ascii-one cell byte c.in-Some.ensures.byte));
    }
