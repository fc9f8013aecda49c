-- Trees are a database of at most one schema, so a connection that is opened over them shows it.
use Rattle.std.proofs.Common.{◌≡◌, IsTrue, sym, subst}
use Rattle.sqlite_trees.specs.Tree.{Trees}
use Rattle.sqlite.specs.Effect.{Database}
use Rattle.sqlite.specs.State.{State, Opens, IsLive}
use Rattle.desk_rows.specs.Contents.{Contents}
use Rattle.desk_rows.specs.Layout.{Layout}
use Rattle.desk_rows.specs.States.{IsFile, ShowsContents}
use Rattle.sql_tables.proofs.OneSchema.{one_schema}

-- an open connection shows the file that its trees are
pub shows_own : (s : State) (l : Layout) (c : Contents) → IsLive s → IsTrue s.is_open → IsFile l c s.now.trees → ShowsContents l c s
shows_own s l c live is_open is = record { schema = one_schema (live is_open).0 is.sound; is = is }

pub shows_file : (s : State) (trees : Trees) (l : Layout) (c : Contents) → Opens s × IsLive s → s.now.trees ≡ trees → IsFile l c trees → ShowsContents l c s
shows_file s trees l c opened same was = shows_own s l c opened.1 opened.0.is_open (subst (IsFile l c) (sym same) was)

-- one that opened at what a crash may leave of another shows that
pub still_left : (old new : State) → old.may_leave new.committed.trees → Opens new → old.may_leave new.now.trees
still_left old new may opens = subst (λ (d : Database). old.may_leave d.trees) (sym opens.clean) may

pub shows_committed : (new : State) → Opens new → IsLive new → (l : Layout) (c : Contents) → IsFile l c new.committed.trees → ShowsContents l c new
shows_committed new opens live l c is = shows_own new l c live opens.is_open (subst (λ (d : Database). IsFile l c d.trees) (sym opens.clean) is)
