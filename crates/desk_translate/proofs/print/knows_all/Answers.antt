use Rattle.std.proofs.Common.{ℕ, below_more, subst, arith, IsSome}
use Rattle.std.proofs.lemmas.Bool.{OnTrue_at, OnTrue_from, and_parts}
use Rattle.louis_table.specs.Meaning.{definition_of}
use Rattle.louis_translate.specs.Position.{AreDefined}
use Rattle.desk_translate.proofs.print.knows_all.Goals as goal

pub loop-byte-preserved : goal.loop-byte-preserved
loop-byte-preserved g c = λ e.
    let meaning = g.B.RuleBook.meaning c.args.book.now in
    let parts = and_parts _ _ e in
    below_more _ _ (c.loop-byte.invariant parts.0)
    (subst (λ (x : ℕ). IsSome (definition_of meaning x)) c.from.ensures (OnTrue_at parts.1 c.knows-known.ensures))

pub returns : goal.returns
returns g c =
    OnTrue_from c.loop-byte.known (AreDefined (g.B.RuleBook.meaning c.args.book.now) c.args.bytes.now)
    (λ e i within. c.loop-byte.invariant e i (let past = c.loop-byte-test.false in omega (arith, past, within)))
