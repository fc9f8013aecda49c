use Rattle.std.proofs.Common.{refl}
use Rattle.desk_book.proofs.Held.Settled.{IsEffect-carried, some_effect}
use Rattle.desk_book.proofs.Held.ShownEffects.{as_held}
use Rattle.desk_book.proofs.book.Book.settle.Goals as goal

pub apply-requires : goal.apply-requires
apply-requires c =
    let some = some_effect c.args.self c.change.inside.version c.change.inside.number c.change.inside.effect c.change.inside.effect c.args.change c.change.view_is refl c.requires in
    (c.self.inside.version, c.change.inside.version, some.0, (c.self.invariant, as_held _ _ _ _ _ c.self.view_is c.self.invariant _ _ _ some.1))

pub invariant_of-self : goal.invariant_of-self
invariant_of-self c =
    let some = some_effect c.args.self c.change.inside.version c.change.inside.number c.change.inside.effect c.change.inside.effect c.args.change c.change.view_is refl c.requires in
    (c.apply.ensures c.self.inside.version c.change.inside.version some.0 (c.self.invariant, as_held _ _ _ _ _ c.self.view_is c.self.invariant _ _ _ some.1)).0

pub returns : goal.returns
returns c = λ command next carries.
    let here = IsEffect-carried c.args.self command next c.change.inside.version c.change.inside.number c.change.inside.effect c.change.inside.effect c.args.change c.change.view_is refl carries in
    (c.apply.ensures c.self.inside.version c.change.inside.version next (c.self.invariant, as_held _ _ _ _ _ c.self.view_is c.self.invariant _ _ _ here)).1
