use Rattle.std.proofs.Common.{◌≡◌, refl, sym, ap, ◌∙◌}
use Rattle.std.specs.Cmp.Lexicographic.{pointwise}
use Rattle.std.specs.Map.{lookup}
use Rattle.std.specs.Option.{option_copied}
use Rattle.std.specs.Prelude.{nat_eq, option_map}
use Rattle.desk_book.proofs.Held.HeldLookups.{IfErr-ok_or, IfOk-ok_or, IsTableFor-lookup, text_of-held}
use Rattle.desk_book.proofs.book.Book.table_named.Goals as goal

pub returns-clause-found : goal.returns-clause-found
returns-clause-found c =
    let got : option_copied c.get.result ≡ lookup (pointwise nat_eq c.args.name.now) c.self.inside.tables = rw (c.as_str.ensures) at c.get.ensures in
    IfOk-ok_or _ _ _ c.ok_or.ensures.value _
    (λ x e. IsTableFor-lookup _ _ _ _ c.args.self.now c.self.view_is c.self.invariant c.args.name.now x.now (sym got ∙ ap option_copied e))

pub returns-clause-missing : goal.returns-clause-missing
returns-clause-missing c =
    let got : option_copied c.get.result ≡ lookup (pointwise nat_eq c.args.name.now) c.self.inside.tables = rw (c.as_str.ensures) at c.get.ensures in
    IfErr-ok_or _ _ _ c.ok_or.ensures.value _
    (λ e. (refl, text_of-held _ _ _ _ c.args.self.now c.self.view_is c.args.name.now ∙ ap (option_map (λ t. t.text)) (sym got ∙ ap option_copied e)))
