-- What was put within a transaction, once it is committed.
use Rattle.std.proofs.Common.{List, map, ◌≡◌, Option, true, refl, sym, ap, subst, ◌∙◌}
use Rattle.sqlite_trees.specs.declared.store.Store.{Ghosts}
use Rattle.sqlite.specs.Effect.{Database}
use Rattle.sqlite.specs.Held.{Held, state}
use Rattle.sqlite.specs.State.{State}
use Rattle.desk_parts.specs.declared.put.Put.{Put}
use Rattle.desk_parts.specs.Puts.{RowPut, put_of}
use Rattle.desk_rows.specs.Commits.{putting_items}
use Rattle.desk_rows.specs.Contents.{Contents}
use Rattle.desk_rows.specs.Layout.{Layout}
use Rattle.desk_rows.specs.Puts.{PutsAll, Writes, puts_into}
use Rattle.desk_rows.specs.States.{IsFile, IsUnder, ShowsContents}
use Rattle.desk_rows.specs.Statements.{with_transaction}
use Rattle.desk_rows.proofs.Transactions.Turns.{is_left}

-- a transaction begins at what is there
pub begins : {S : Type 0} (g : Ghosts S) (old : Held S) (l : Layout) (c : Contents) → ShowsContents l c (state g old) → IsUnder (state g old).committed l c (state g (record old { in_transaction = true }))
begins g old l c was = record { shows = record { schema = was.schema; is = was.is }; inside = refl; over = refl }

pub shows_on : (old new : State) (l : Layout) (c : Contents) → new.now ≡ old.now → ShowsContents l c old → ShowsContents l c new
shows_on old new l c same was = record { schema = ap (λ (d : Database). d.schema) same ∙ was.schema; is = subst (λ (d : Database). IsFile l c d.trees) (sym same) was.is }

-- what was put within a transaction is there once it is committed
pub writes_on : {S : Type 0} (g : Ghosts S) (old last : Held S) (new : State) (puts : List RowPut) → PutsAll puts (state g (record old { in_transaction = true })) (state g last) → new.now ≡ (state g last).now → Writes puts (state g old) new
writes_on g old last new puts all same l c there was = shows_on (state g last) new l (puts_into puts c) same (all (state g old).committed l c there (begins g old l c was)).shows

-- what an iterator gave is shown once it is committed, and left by a crash
module _ {S I : Type 0} (g : Ghosts S) (gives : I → Option Put → I → Type 0) (it : I) (old last : Held S) where
  pub shows_items : (new : State) → new.now ≡ (state g last).now → (putting_items g gives it).putting.puts (with_transaction old) last → (putting_items g gives it).Shown old new
  shows_items new same put = (put.0, put.1, (writes_on g old last new (map put_of put.0) put.2.0 same, (last, put.2.1, same)))

  pub left_items : (new : State) → (putting_items g gives it).Shown old new → (putting_items g gives it).Left old new.now.trees
  left_items new shown = (shown.0, shown.1, ((λ l c there was. (shown.2.0 l c there was).is), is_left g _ old new shown.2.1))
