use Rattle.std.proofs.Common.{◌+◌, sym, ap, subst, ◌∙◌, arith}
use Rattle.std.specs.Prelude.{option_map}
use Rattle.louis_translate.specs.Position.{AreDefined}
use Rattle.desk_memory.specs.Held.{paragraph_held}
use Rattle.desk_book.proofs.Held.HeldLookups.{IsHeldFor-lookup, count-paragraphs, paragraph_of-held, sound}
use Rattle.desk_book.proofs.Plans.Users.{AreRenewed-each, DefinesUser-found, Renews, Renews-found, Renews-missing, RenewsEach, RenewsEach-push}
use Rattle.desk_book.proofs.book.Book.cells_by.Goals as goal
use Rattle.desk_book.proofs.book.Book.cells_by.Goals.{in-Some+in_ok-new-in-Some, in-None}

pub user_cells-requires : goal.user_cells-requires
user_cells-requires c =
    let book = c.args.self.now in
    let held = IsHeldFor-lookup _ _ _ _ book c.self.view_is c.self.invariant (c.loop-index.index + 1) c.in-Some.paragraph.now (sym c.in-Some.ensures) in
    let defined = DefinesUser-found book c.args.rules.now c.args.name.now (c.loop-index.index + 1) _ c.requires held.found in
    λ uses. subst (AreDefined c.args.rules.now) (sym held.print) (defined uses)

pub loop-index-preserved : goal.loop-index-preserved
loop-index-preserved c =
    let book = c.args.self.now in
    let rules = c.args.rules.now in
    let name = c.args.name.now in
    let id = c.loop-index.index + 1 in
    let inv = c.loop-index.invariant in
    let here : Renews book rules name id c.match-get.new =
    elim c.match-get.branch [
      | in-Some+in_ok-new-in-Some w ↦
          let held = IsHeldFor-lookup _ _ _ _ book c.self.view_is c.self.invariant id w.in-Some.paragraph.now (sym w.in-Some.ensures) in
          subst (Renews book rules name id) (sym w.new-is) (Renews-found book rules name id w.in-Some.paragraph.now _ held w.in_ok-new-in-Some.ensures)
      | in-None w ↦
          let none = paragraph_of-held _ _ _ _ book c.self.view_is id ∙ ap (option_map (λ p. paragraph_held (id, p))) (sym w.in-None.ensures) in
          Renews-missing book rules name id c.match-get.new none
    ] in
    let pushed = c.in_ok-push.ensures.items in
    record {
      count = rw pushed (grind arith);
      renewed = subst (RenewsEach book rules name) (sym pushed) (RenewsEach-push book rules name c.loop-index.all.items c.match-get.new c.loop-index.index inv.count inv.renewed here);
    }

pub returns-clause-renewed : goal.returns-clause-renewed
returns-clause-renewed c =
    let book = c.args.self.now in
    let count = count-paragraphs _ _ _ _ book c.self.view_is in
    let many = c.len-index-end.ensures in
    let inv = c.loop-index.invariant in
    AreRenewed-each book c.args.rules.now c.args.name.now (sound _ _ _ _ book c.self.view_is c.self.invariant) c.loop-index.all.items (omega (arith, inv.count)) inv.renewed

pub returns-clause-few : goal.returns-clause-few
returns-clause-few c =
    let count = count-paragraphs _ _ _ _ c.args.self.now c.self.view_is in
    let many = c.len-index-end.ensures in
    let inv = c.loop-index.invariant in
    omega (arith, inv.count)
