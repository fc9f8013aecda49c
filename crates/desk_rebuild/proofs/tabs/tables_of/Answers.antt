use Rattle.std.proofs.Common.{◌≡◌, [], ◌∷◌, ◌++◌, List, Err, append_assoc, subst, sym, ap, ◌∙◌, IfErr}
use Rattle.std.specs.Vec.Iter.{into_iter_items}
use Rattle.std.proofs.lemmas.List.{map-append}
use Rattle.std.proofs.lemmas.Result.{err_from_is_err_and}
use Rattle.desk_rebuild.specs.Tabs.{AreRead, TellsFirstUnsound, rows_of}
use Rattle.desk_parts.specs.Rows.{StoredTab, Tab}
use Rattle.desk_rebuild.proofs.ReadTabs.{first-unsound, none-read}
use Rattle.desk_rebuild.proofs.tabs.tables_of.Goals as goal
use Rattle.desk_rebuild.proofs.tabs.tables_of.Goals.{After-add}

abbrev row_of : StoredTab → Tab
row_of stored = stored.row

-- the rows that were taken, the next one and those after it
stored_is : (c : After-add) → c.loop-stored.yielded ++ c.in-Some.stored ∷ into_iter_items c.next.new.self ≡ c.args.rows.items
stored_is c = sym (ap (λ (rest : List StoredTab). c.loop-stored.yielded ++ rest) c.in-Some.ensures.steps.0) ∙ c.loop-stored.invariant.3

rows_are : (c : After-add) → rows_of c.loop-stored.yielded ++ c.stored.inside.row ∷ rows_of (into_iter_items c.next.new.self) ≡ rows_of c.args.rows.items
rows_are c =
    let taken = c.loop-stored.yielded in
    let left = into_iter_items c.next.new.self in
    ap (λ t. rows_of taken ++ t ∷ rows_of left) (ap row_of c.stored.view_is) ∙ (sym (map-append row_of taken (c.in-Some.stored ∷ left)) ∙ ap rows_of (stored_is c))

-- what was read of those that were taken
before : (c : After-add) → AreRead (rows_of c.loop-stored.yielded ++ c.stored.inside.row ∷ rows_of (into_iter_items c.next.new.self))
    (rows_of c.loop-stored.yielded) c.loop-stored.tables
before c = subst (λ rows. AreRead rows (rows_of c.loop-stored.yielded) c.loop-stored.tables) (sym (rows_are c)) c.loop-stored.invariant.2

pub loop-stored-init : goal.loop-stored-init
loop-stored-init c = (
  tt,
  tt,
  subst (AreRead (rows_of c.args.rows.items) []) (sym c.new-tables.ensures) (none-read (rows_of c.args.rows.items)),
  c.into_iter-stored-iterator.ensures.into_iter_gives.0,
)

pub loop-stored-preserved : goal.loop-stored-preserved
loop-stored-preserved c =
    let at = (goal.at.loop-stored-preserved c).After-add in
    let taken = c.loop-stored.yielded in
    let left = into_iter_items c.next.new.self in
    let next = c.in-Some.stored in
    let read = c.in_ok-add.ensures.read (rows_of taken) (rows_of left) (before at) in (
      tt,
      tt,
      subst (λ done. AreRead (rows_of c.args.rows.items) done c.add.new.tables) (sym (map-append row_of taken (next ∷ [])))
          (subst (λ (t : Tab). AreRead (rows_of c.args.rows.items) (rows_of taken ++ t ∷ []) c.add.new.tables) (ap row_of c.stored.view_is)
          (subst (λ rows. AreRead rows (rows_of taken ++ c.stored.inside.row ∷ []) c.add.new.tables) (rows_are at) read)),
      append_assoc taken (next ∷ []) left ∙ stored_is at,
    )

pub add-requires : goal.add-requires
add-requires c = record { few = c.loop-stored.invariant.2.few }

pub returns-in_err-add-clause-reported : goal.returns-in_err-add-clause-reported
returns-in_err-add-clause-reported c =
    let at = (goal.at.returns-in_err-add-clause-reported c).After-add in
    let taken = rows_of c.loop-stored.yielded in
    let left = rows_of (into_iter_items c.next.new.self) in
    let exit = err_from_is_err_and c.from_residual.result c.from_residual.ensures.1 in
    subst (λ r. IfErr r (TellsFirstUnsound (rows_of c.args.rows.items))) (sym (exit.1 ∙ ap (λ e. Err e) exit.2))
    (subst (λ rows. TellsFirstUnsound rows c.in_err-add.field-0.0) (rows_are at)
    (first-unsound taken left c.stored.inside.row c.loop-stored.tables c.in_err-add.field-0.0 (before at) (c.in_err-add.ensures.reported taken left (before at))))
